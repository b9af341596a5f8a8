use Rattle.settle.specs.Steps.Words.{word_of}
use Rattle.basics.proofs.Bits.{digits_none, digits_more, digits_done}
use lib.ListN.{get_or}
use Prim.Native.Nat.{ℕ, ◌<◌, ◌+◌}
use borrow.Author.Rules.{rules}
use native.Mathlib.Omega.{arith}
use Rattle.settle.proofs.few.Goals as goal
use Rattle.settle.proofs.few.Goals.{After-shared_slice_known-1, Start}

abbrev byte : Start → ℕ → ℕ
byte c i = get_or c.args.s.now (c.args.at + i) 0

bytes : (c : After-shared_slice_known-1) → (j : ℕ) → byte c.before.before j < 256
bytes c j = omega (arith, c.type_inv.s (c.args.at + j))

pub loop-i-init : goal.loop-i-init
loop-i-init c = (search rules, digits_none 8 _ (bytes c))

pub loop-i-preserved : goal.loop-i-preserved
loop-i-preserved c =
    let l = c.loop-i in (
      search rules,
      digits_more 8 (byte c.before.before.before.before.before.before)
          (bytes (goal.at.loop-i-preserved c).After-shared_slice_known-1) 64 l.i
          l.v _ (omega arith) l.invariant.1 c.from.ensures,
    )

pub returns : goal.returns
unfolding word_of
returns c =
    digits_done 8 _ (bytes (goal.at.returns c).After-shared_slice_known-1) c.loop-i.i _ _
    c.loop-i.invariant.1 (omega arith)
