-- Stands on the whole blocks, and on one block more where the row does not end with them.
-- Together they are the row: `lay_rest`, `lay_done`.
use Rattle.bytewindows.proofs.Blocks.{lay_rest, lay_done, moved_block}
use Rattle.bytewindows.specs.Steps.Four.{joined_four}
use lib.ListN.{length}
use Prim.Native.Nat.{◌+◌, ◌-◌, ◌*◌, ◌/◌}
use mathlib.Core.Path.{◌≡◌, refl}
use native.Mathlib.Omega.{arith}
use borrow.Author.Rules.{rules}
use Rattle.bytewindows.proofs.lay.Goals as goal

pub returns-then-i-t : goal.returns-then-i-t
returns-then-i-t c =
    let a = c.args in
    let l = c.lay_blocks in
    let n = length a.t.now in
    let len : length l.new.t ≡ n = search rules in
    let i = 64 * (n / 64) in
    lay_rest (λ i. joined_four a.grows a.b.now (a.p + i) (a.q + i) (a.r + i) (a.s + i)) i n
    (length l.new.t - i) a.t.now l.new.t _ _ refl (omega (arith, len)) (omega (
      arith,
      len,
    ))
    l.ensures
    (moved_block a.grows a.b.now _ a.p a.q a.r a.s i
    c.four-c.ensures)
    c.put_some.ensures

pub returns : goal.returns
returns c =
    let a = c.args in
    let l = c.lay_blocks in
    let len : length l.new.t ≡ length a.t.now = search rules in
    lay_done _ (64 * (length a.t.now / 64)) (length a.t.now) a.t.now _ refl
    (omega (arith, len)) l.ensures
