use Rattle.element.proofs.Words.{word_byte_lt}
use Rattle.element.specs.Steps.Words.{word_byte, word_of}
use Rattle.basics.proofs.Bits.{digits_none, digits_more, digits_done}
use Prim.Native.Nat.{ℕ, ◌<◌}
use borrow.Author.Rules.{rules}
use native.Mathlib.Omega.{arith}
use Rattle.reader.proofs.word_at.Goals as goal
use Rattle.reader.proofs.word_at.Goals.{After-shared_slice_known-1, Start}

abbrev byte : Start → ℕ → ℕ
byte c = word_byte c.args.d.now c.args.at c.args.n

bytes : (c : After-shared_slice_known-1) → (j : ℕ) → byte c.before.before j < 256
bytes c = word_byte_lt _ (λ i. omega (arith, c.type_inv.d i)) _ _

pub loop-j-init : goal.loop-j-init
loop-j-init c = (search rules, digits_none 8 _ (bytes c))

pub loop-j-preserved : goal.loop-j-preserved
loop-j-preserved c =
    let l = c.loop-j in (
      search rules,
      digits_more 8 (byte c.before.before.before.before.before)
          (bytes (goal.at.loop-j-preserved c).After-shared_slice_known-1) 64 l.j
          l.v _ (omega arith) l.invariant.1 c.byte_or_none.ensures,
    )

pub returns : goal.returns
unfolding word_of
returns c =
    digits_done 8 _ (bytes (goal.at.returns c).After-shared_slice_known-1) c.loop-j.j _ _
    c.loop-j.invariant.1 (omega arith)
