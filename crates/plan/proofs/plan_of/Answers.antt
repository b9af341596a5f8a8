-- The digits in their order, the fourth with one more above it where it grows.
-- Each is less than 128, so that no sum goes too far.
use Rattle.plan.specs.Steps.Plan.{digits, plan_of}
use Prim.Native.Nat.{◌+◌}
use mathlib.Core.Path.{ap}
use Rattle.plan.proofs.plan_of.Goals as goal

pub returns : goal.returns
unfolding plan_of digits
returns c =
    let o = c.args.o in
    ap (λ n. digits o.w o.h o.origin.ping.0 (n + o.origin.bin.0))
    c.above-more.ensures.0
