use Rattle.std.proofs.Common.{◌≡◌, ◌++◌, length, arith, sym, ap, ◌∙◌}
use lib.ListN.{drop, replicate, length-drop}
use lib.Seq.{length-take-le, drop_at}
use Rattle.std.proofs.lemmas.Slice.{between_to_end}
use Rattle.carts.specs.Bytes.{zeros}
use Rattle.old_edition.specs.Convert.{widened}
use Rattle.old_edition.proofs.EachCartLaws.{put_ends}
use Rattle.old_edition.proofs.old_cart.put_wide.Goals as goal

pub slice_bounds-copy_from_slice-end-2 : goal.slice_bounds-copy_from_slice-end-2
slice_bounds-copy_from_slice-end-2 c = sym (length-take-le 48 c.args.place.now (omega arith))

pub copy_from_slice-requires : goal.copy_from_slice-requires
copy_from_slice-requires c = length-take-le 48 c.args.place.now (omega arith) ∙ sym c.requires.1

pub returns : goal.returns
unfolding widened zeros
returns c =
    let place = c.args.place.now in
    let put = c.copy_from_slice.new.self in
    let first = c.copy_from_slice.ensures.after in
    let size : length put ≡ 48 = ap length first ∙ c.requires.1 in
    let rest : length (drop 48 place) ≡ 32 = rw length-drop (omega arith) in
    let left = between_to_end (put ++ drop 48 place) 48 _ (omega arith) ∙ drop_at put (drop 48 place) 48 size in
    let filled : c.fill.new.self ≡ replicate 32 0 = c.fill.ensures.after (λ y e. e) ∙ ap (λ n. replicate n 0) (ap length left ∙ rest) in
    put_ends put _ c.fill.new.self 48 size ∙ ap (λ s. s ++ c.fill.new.self) first ∙ ap (λ s. c.args.old.now ++ s) filled
