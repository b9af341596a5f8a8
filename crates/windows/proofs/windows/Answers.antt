-- By cases of m: nothing, one widening, or two one after the other.
-- Windows of 16 are windows of 4 of windows of 4.
use Rattle.windows.proofs.InPlace.{windows_1, windows_4, windows_16}
use native.Mathlib.Omega.{arith}
use Rattle.windows.proofs.windows.Goals as goal

pub returns-then-m-le1 : goal.returns-then-m-le1
returns-then-m-le1 c = let a = c.args in windows_1 a.grows a.n a.m a.b.now c.if-m-le1.true

pub returns-then-m-le4 : goal.returns-then-m-le4
returns-then-m-le4 c =
    let a = c.args in
    windows_4 a.grows a.n a.m a.b.now _ c.if-m-le1.false
    c.if-m-le4.true c.widen.ensures

pub returns : goal.returns
returns c =
    let a = c.args in windows_16 a.grows a.n a.m a.b.now _ _ (omega arith) (omega arith)
    c.widen.ensures
    c.widen-2.ensures
