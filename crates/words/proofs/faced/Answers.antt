-- Both arms are the definition's, by the test.
-- That v is a word is kept for the callers.
use mathlib.Core.Bool.{cond}
use mathlib.Core.Path.{sym, ap}
use Prim.Native.Nat.{◌-◌, ◌^◌}
use Rattle.words.proofs.faced.Goals as goal

pub returns-then-over : goal.returns-then-over
returns-then-over c =
    let v = c.args.v in
    (ap (λ b. cond b (2 ^ 64 - 1 - v) v) (sym c.if-over.true), c.ranges.v.fits)

pub returns-else-over : goal.returns-else-over
returns-else-over c =
    let v = c.args.v in
    (ap (λ b. cond b (2 ^ 64 - 1 - v) v) (sym c.if-over.false), c.ranges.v.fits)
