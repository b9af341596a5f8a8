-- The first goes up by d bits, none of which leaves the word, and the second fills them.
-- So the two together are below 2 to the 2 d.
use Rattle.settle.proofs.Loops.{paired, pair_lt}
use Prim.Native.Nat.{◌+◌, ◌^◌, ◌<◌}
use mathlib.Core.Path.{sym, subst}
use native.Mathlib.Omega.{arith}
use Rattle.settle.proofs.pair.Goals as goal

pub returns : goal.returns
returns c =
    let a = c.args in
    let l = c.requires in
    let e = paired a.d a.a a.b (omega arith) l.1.0 l.1.1 in
    (e, subst (λ n. n < 2 ^ (a.d + a.d)) (sym e) (pair_lt a.d a.a a.b l.1.0 l.1.1))
