-- A packed row with one row of an element folded in.
use Rattle.std.specs.Prelude.{ℕ, ◌*◌, cond, List, ltb, length, get_or, take, drop}
use Rattle.std.specs.Int.Bits.{bit_and}
use Rattle.element.specs.declared.Outline.{Outline}
use Rattle.packedline.specs.Steps.Cells.{run_word}
use Rattle.packedline.specs.Steps.Line.{line_of}
use Rattle.rows.specs.Steps.Row.{source_row}
use Rattle.bitrow.specs.declared.Task.{Task}

-- the first `wide` cells of a row word
unfoldable pub masked_of : ℕ → ℕ → ℕ
masked_of word wide = bit_and word (run_word wide)

-- row v of rows of n bytes
abbrev pub row_in : ℕ → List ℕ → ℕ → List ℕ
row_in n s v = take n (drop (v * n) s)

-- the row t with a row word folded in from the source row v, where the frame has that row
unfoldable pub added_from : Task → List ℕ → ℕ → ℕ → Outline → ℕ → List ℕ → ℕ → List ℕ
added_from k s w h o word t v =
    cond (ltb v h)
    (line_of k.over k.grows t (row_in (length t) s v) w (masked_of word o.w) o.origin.ping.0) t

-- row r of the element folded in from the row that it leads to from row y
unfoldable pub added_bits : Task → List ℕ → ℕ → ℕ → Outline → List ℕ → ℕ → List ℕ → ℕ → List ℕ
added_bits k s w h o words y t r =
    added_from k s w h o (get_or words r 0) t (source_row k.grows h y o.origin.bin.0 r)
