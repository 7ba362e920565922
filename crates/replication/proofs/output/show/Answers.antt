use mathlib.Core.Path.{◌≡◌, sym, ◌∙◌}
use native.Mathlib.Omega.{arith}
use Prim.Native.Nat.{ℕ, ◌≤◌}
use mathlib.Core.Bool.{true}
use mathlib.Core.List.{List}
use lib.ListN.{length-take}
use Rattle.replication.specs.Request.{request_fields}
use Rattle.replication.specs.Values.{waiting_value}
use Rattle.replication.specs.declared.session.Waiting.{Waiting}
use Rattle.replication.specs.declared.session.Waiting.TheVariants.{Title}
use Rattle.replication.proofs.OutputLaws.{by_case, title_short, room_for_numbers, room_for_title, shows_nothing, shows_numbers, shows_title}
use Rattle.replication.proofs.output.show.Goals as goal

pub show_numbers-requires-clause-request : goal.show_numbers-requires-clause-request
show_numbers-requires-clause-request c = let x = c.args.request.now in
    let k = by_case x _ (sym c.in-Numbers.is ∙ c.requires.copy.1.1) in
    (sym k.1.0 ∙ c.requires.request.0, room_for_numbers c.args.copy.now x c.args.output.now k.0 c.requires.request.1)

pub show_numbers-requires-clause-count : goal.show_numbers-requires-clause-count
show_numbers-requires-clause-count c = (by_case c.args.request.now _ (sym c.in-Numbers.is ∙ c.requires.copy.1.1)).1.1

-- the title's length
short : (x : List ℕ) (w : Waiting) (n : ℕ) → w ≡ Title n → w ≡ waiting_value x → request_fields x ≡ true → n ≤ 64
short x w n e v f = title_short _ _ (sym (by_case x (Title n) (sym e ∙ v)).1 ∙ f)

pub slice_bounds-show_title-end : goal.slice_bounds-show_title-end
slice_bounds-show_title-end c = let k = short _ _ _ c.in-Title.is c.requires.copy.1.1 c.requires.request.0 in omega arith

pub show_title-requires : goal.show_title-requires
show_title-requires c = let x = c.args.request.now in
    let k = by_case x _ (sym c.in-Title.is ∙ c.requires.copy.1.1) in
    let l = short _ _ _ c.in-Title.is c.requires.copy.1.1 c.requires.request.0 in
    (c.requires.copy.0, (simp length-take (omega arith), room_for_title c.args.copy.now x c.args.output.now _ k.0 c.requires.request.1))

pub returns-in-Nothing : goal.returns-in-Nothing
returns-in-Nothing c = shows_nothing c.args.copy.now c.args.request.now c.args.output.now (by_case c.args.request.now _ (sym c.in-Nothing.is ∙ c.requires.copy.1.1))

pub returns-in-Numbers : goal.returns-in-Numbers
returns-in-Numbers c = let k = by_case c.args.request.now _ (sym c.in-Numbers.is ∙ c.requires.copy.1.1) in
    shows_numbers c.args.copy.now c.args.request.now c.args.output.now _ _ k.0 c.show_numbers.ensures.0 c.show_numbers.ensures.1

pub returns-in-Title : goal.returns-in-Title
returns-in-Title c = let k = by_case c.args.request.now _ (sym c.in-Title.is ∙ c.requires.copy.1.1) in
    shows_title c.args.copy.now c.args.request.now c.args.output.now _ _ c.in-Title.n k.0 c.show_title.ensures.0 c.show_title.ensures.1
