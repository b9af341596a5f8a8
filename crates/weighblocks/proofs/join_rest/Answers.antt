-- The bytes that are left, as the first of a block: `rest_joined`.
-- Where none is left, the row stays.
use Rattle.weighblocks.proofs.Blocks.{row_at, rest_joined}
use Rattle.blocks.specs.Steps.Laid.{laid}
use Rattle.blocks.proofs.Laid.{laid_none}
use lib.ListN.{length}
use Prim.Native.Nat.{ℕ, ◌+◌, ◌-◌}
use mathlib.Core.Path.{◌≡◌, sym, ap, ◌∙◌}
use native.Mathlib.Omega.{arith}
use Rattle.weighblocks.proofs.join_rest.Goals as goal

pub returns-then-t-i : goal.returns-then-t-i
returns-then-t-i c =
    let a = c.args in
    let f : ℕ → ℕ = λ m. row_at a.grows a.b.now a.rising.now a.others.now
    a.t.now
    (a.i + m) in
    let e : length a.t.now - a.i ≡ 0 = omega arith in
    laid_none a.i f a.t.now ∙ ap (λ n. laid a.i n f a.t.now) (sym e)

pub join_both-d-requires : goal.join_both-d-requires
join_both-d-requires c =
    let l = c.requires.i_bound (omega arith) in
    (omega (arith, l, c.requires.b_len.0), c.requires.b_len.1)

pub returns : goal.returns
returns c =
    let a = c.args in
    rest_joined a.grows a.b.now a.rising.now a.others.now a.t.now _ _ _
    a.i _
    (omega arith) (omega arith) c.some_at-c.ensures
    c.join_both-d.ensures c.put_some.ensures
