use Rattle.std.proofs.Common.{◌≡◌, ◌+◌, ◌-◌, refl, sym, ◌∙◌, arith}
use native.Mathlib.Nat.{zero-add}
use Rattle.carts.specs.Cart.{cart_at}
use Rattle.carts.specs.Title.{titled_in, letters_in}
use Rattle.carts.proofs.LetterLaws.{letters_more, letters_done, copy_letters_most}
use Rattle.carts.proofs.TitleLaws.{search_hit, search_miss, search_end}
use Rattle.carts.proofs.titles.search.Goals as goal
use Rattle.carts.proofs.titles.search.Goals.{then-compared, else-compared}

pub loop-c-init : goal.loop-c-init
unfolding titled_in letters_in
loop-c-init c = record { few = omega arith; answer = refl; counted = sym (zero-add _) }

pub overflow_add-letters : goal.overflow_add-letters
unfolding cart_at
overflow_add-letters c =
    let title = c.args.title.now in
    let copy = c.args.copy.now in
    let k = rw c.cart_at.ensures.0 at c.compare_title-compared.ensures in
    let sum = letters_more title 128 (c.loop-c.c - 1) copy c.loop-c.letters c.loop-c.invariant.counted _ (omega arith) k.1 in
    omega (arith, sum, copy_letters_most title copy c.requires.1)

pub loop-c-preserved : goal.loop-c-preserved
unfolding cart_at
loop-c-preserved c =
    let title = c.args.title.now in
    let copy = c.args.copy.now in
    let n = c.loop-c.c in
    let last = c.loop-c.last in
    let k = rw c.cart_at.ensures.0 at c.compare_title-compared.ensures in
    let next : n + 1 - 1 ≡ n - 1 + 1 = omega arith in
    let sum = letters_more title 128 (n - 1) copy c.loop-c.letters c.loop-c.invariant.counted _ (omega arith) k.1 in
    elim c.if-compared.branch [
      | then-compared w ↦ rw (next, w.count-is, w.last-is) (record {
        few = omega arith;
        answer = search_hit title 128 (n - 1) n copy (omega arith) c.loop-c.count last c.loop-c.invariant.answer (sym k.0 ∙ w.if-compared.true);
        counted = sum;
      })
      | else-compared w ↦ rw (next, w.count-is, w.last-is) (record {
        few = omega arith;
        answer = search_miss title 128 (n - 1) n copy (omega arith) c.loop-c.count last c.loop-c.invariant.answer (sym k.0 ∙ w.if-compared.false);
        counted = sum;
      })
    ]

pub returns : goal.returns
returns c =
    let title = c.args.title.now in
    let copy = c.args.copy.now in
    let i = c.loop-c.c - 1 in
    let answer = c.loop-c.invariant.answer ∙ search_end title 128 i c.loop-c.c _ c.loop-c.count c.loop-c.last (omega arith) in
    (c.found_of-found.ensures ∙ sym answer, letters_done title 128 i copy c.loop-c.letters c.loop-c.invariant.counted (omega arith))
