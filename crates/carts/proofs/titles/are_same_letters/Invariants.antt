use Rattle.std.proofs.Common.{◌≡◌, ◌&&◌, drop, length}
use Rattle.carts.specs.Bytes.{pairwise}
use Rattle.carts.specs.Title.{same_letter}
use Rattle.carts.proofs.titles.are_same_letters.Given as goal

abbrev pub invariant-loop-x : goal.invariant-loop-x
invariant-loop-x l = pairwise same_letter l.a l.b ≡ (l.ok && pairwise same_letter (drop (length l.yielded) l.a) (drop (length l.yielded) l.b))
