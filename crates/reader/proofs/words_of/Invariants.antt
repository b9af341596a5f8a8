-- Invariant: the words before r are those of their rows, and those from r on are 0 yet.
-- Row r lies within the bytes, because r is below h.
use Rattle.element.specs.Steps.Words.{row_word}
use Rattle.element.specs.Descriptor.{most_cells}
use Rattle.basics.specs.Lists.{firsts}
use lib.ListN.{replicate}
use Prim.Native.Nat.{◌≤◌, ◌-◌}
use mathlib.Core.List.{◌++◌}
use mathlib.Core.Path.{◌≡◌}
use Rattle.reader.proofs.words_of.Given as goal

abbrev pub invariant-loop-r : goal.invariant-loop-r
invariant-loop-r l =
    (l.r ≤ l.h) × (l.rows ≡ firsts (row_word l.d l.n) l.r ++ replicate (most_cells - l.r) 0)
