-- By cases: a row that ends with its byte has no padding, else the digits past w % 8.
-- The shift is by less than 8.
use mathlib.Core.Bool.{cond}
use borrow.Author.Tests.{eq-eqb, ne_eqb}
use Rattle.packedline.specs.Steps.Padded.{spare_of}
use Prim.Native.Nat.{◌/◌, ◌%◌, ◌^◌}
use mathlib.Core.Path.{sym, ap}
use Rattle.packedline.proofs.spare.Goals as goal

pub returns-then-d-eq0 : goal.returns-then-d-eq0
unfolding spare_of
returns-then-d-eq0 c =
    ap (λ t. cond t 0 (255 / 2 ^ (c.args.w % 8)))
    (sym (eq-eqb (c.args.w % 8) 0 c.if-d-eq0.true))

pub returns-else-d-eq0 : goal.returns-else-d-eq0
unfolding spare_of
returns-else-d-eq0 c =
    ap (λ t. cond t 0 (255 / 2 ^ (c.args.w % 8)))
    (sym (ne_eqb (c.args.w % 8) 0 c.if-d-eq0.false))
