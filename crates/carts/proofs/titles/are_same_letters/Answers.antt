use Rattle.std.proofs.Common.{length, arith}
use Rattle.std.proofs.lemmas.List.{length_push}
use Rattle.std.proofs.lemmas.Slice.Zip.{zip_turn, zip_end}
use Rattle.carts.specs.Title.{same_letter}
use Rattle.carts.proofs.ScanLaws.{pairwise_more, pairwise_done}
use Rattle.carts.proofs.titles.are_same_letters.Goals as goal

pub loop-x-preserved : goal.loop-x-preserved
loop-x-preserved c =
    let a = c.args.a.now in
    let b = c.args.b.now in
    let xs = c.loop-x.yielded in
    let t = zip_turn a b xs c.into_iter-x-iterator.result c.loop-x.x-iterator c.next.new.self c.next.result (cc) (cc) c.loop-x.yielded_by (c.in-Some.x, c.in-Some.y) c.in-Some.is c.next.ensures.steps in
    rw length_push (pairwise_more same_letter a b (length xs) c.loop-x.ok c.requires t.0 c.loop-x.invariant (rw (c.same_letter-ok.ensures, t.2 0, t.3 0)))

pub returns : goal.returns
returns c =
    let a = c.args.a.now in
    let b = c.args.b.now in
    let xs = c.loop-x.yielded in
    let t = zip_end a b xs c.into_iter-x-iterator.result c.loop-x.x-iterator c.next.new.self c.next.result (cc) (cc) c.loop-x.yielded_by c.in-None.is c.next.ensures.steps in
    pairwise_done same_letter a b (length xs) c.loop-x.ok c.requires (omega (arith, t)) c.loop-x.invariant
