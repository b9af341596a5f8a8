-- A shared offset, cell by cell and row by row.
use Rattle.std.specs.Prelude.{ℕ, Bool, ◌&&◌, cond, false, List, get_or}
use Rattle.basics.specs.Tests.{any}
use Rattle.element.specs.declared.Outline.{Outline}
use Rattle.element.specs.Record.{cell_on}
use Rattle.morphology.specs.Operations.{moved, within}

-- cell c of a row is set, and so is the cell of the row beside it that stands for its offset
unfoldable pub cell_shared : ℕ → ℕ → Outline → Outline → ℕ → Bool
cell_shared word beside first second c =
    cell_on word c
    && (cell_on beside (moved c second.origin.ping.0 first.origin.ping.0)
    && within second.w c second.origin.ping.0 first.origin.ping.0)

unfoldable pub row_shared : ℕ → ℕ → Outline → Outline → Bool
row_shared word beside first second = any (cell_shared word beside first second) first.w

-- row r of the first element beside the row of the second that stands for its offset, if there is one
unfoldable pub line_shared : Outline → List ℕ → Outline → List ℕ → ℕ → Bool
line_shared first words second others r =
    cond (within second.h r second.origin.bin.0 first.origin.bin.0)
    (row_shared (get_or words r 0)
    (get_or others (moved r second.origin.bin.0 first.origin.bin.0) 0) first second) false
