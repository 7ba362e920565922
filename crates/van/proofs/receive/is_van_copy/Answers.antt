use mathlib.Core.Path.{◌≡◌}
use native.Mathlib.Omega.{arith}
use lib.ListN.{length}
use Rattle.van.proofs.ReceiveLaws.{copy_length, copy_rest}
use Rattle.van.proofs.receive.is_van_copy.Goals as goal

pub returns-then-copy-ne-COPY_SIZE : goal.returns-then-copy-ne-COPY_SIZE
returns-then-copy-ne-COPY_SIZE c = copy_length _ (λ e. omega (arith, c.if-copy-ne-COPY_SIZE.true))

pub returns : goal.returns
returns c = let size : length c.args.copy.now ≡ 10240 = omega (arith, c.if-copy-ne-COPY_SIZE.false) in copy_rest _ _ size c.is_copy.ensures
