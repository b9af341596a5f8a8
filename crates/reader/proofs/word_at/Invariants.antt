-- Invariant: v is the number of the first j bytes, each a digit of 8 bits.
-- A digit is a byte (`bytes`), so that no digit runs over into the next.
use Rattle.element.specs.Steps.Words.{word_byte}
use Rattle.element.specs.Descriptor.{most_cells}
use Rattle.basics.specs.Bits.{digits}
use Prim.Native.Nat.{◌≤◌, ◌/◌}
use mathlib.Core.Path.{◌≡◌}
use Rattle.reader.proofs.word_at.Given as goal

abbrev pub invariant-loop-j : goal.invariant-loop-j
invariant-loop-j l = (l.j ≤ most_cells / 8) × (l.v ≡ digits 8 (word_byte l.d l.at l.n) l.j)
