-- By the two tests: `near_low`, `near_high`, and `near_is` where both fail.
-- A place is no less than its rest by w.
use Prim.Native.Nat.{◌+◌, ◌-◌}
use lib.ListN.{set}
use mathlib.Core.Bool.{cond}
use mathlib.Core.Path.{sym, ap}
use Rattle.cellwise.proofs.Spots.{near_is, near_low, near_high, rem_le}
use native.Mathlib.Omega.{arith}
use Rattle.cellwise.proofs.keep.Goals as goal

pub overflow_add-d : goal.overflow_add-d
overflow_add-d c = omega (arith, rem_le c.args.p c.args.w)

pub returns-then-d-back : goal.returns-then-d-back
returns-then-d-back c =
    let a = c.args in
    let e = near_low a.w a.back a.x a.p c.if-d-back.true in record {
      number = sym (ap (λ t. cond t (a.n + 1) a.n) e);
      list = sym (ap (λ t. cond t (set a.into.now a.n (a.p + a.x - a.back)) a.into.now) e);
    }

pub returns-then-w-d : goal.returns-then-w-d
returns-then-w-d c =
    let a = c.args in
    let e = near_high a.w a.back a.x a.p c.if-w-d.true in record {
      number = sym (ap (λ t. cond t (a.n + 1) a.n) e);
      list = sym (ap (λ t. cond t (set a.into.now a.n (a.p + a.x - a.back)) a.into.now) e);
    }

pub overflow_sub-into : goal.overflow_sub-into
overflow_sub-into c = omega (arith, rem_le c.args.p c.args.w)

pub returns : goal.returns
returns c =
    let a = c.args in
    let e = near_is a.w a.back a.x a.p (omega arith) (omega arith) in record {
      number = sym (ap (λ t. cond t (a.n + 1) a.n) e);
      list = sym (ap (λ t. cond t (set a.into.now a.n (a.p + a.x - a.back)) a.into.now) e);
    }
