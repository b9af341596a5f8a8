-- The check in steps: the test of one offset from what is at hand, and the offsets by number.
use Rattle.std.specs.Prelude.{ℕ, ◌+◌, ◌-◌, ◌*◌, ◌/◌, ◌%◌, Bool, true, not, cond}
use Rattle.answer.specs.Answer.{centre}
use Rattle.reach.specs.declared.Offset.{Offset}

-- the element has the offset, it is a sum, a path leads to it: where it is no sum, no path is looked for
unfoldable pub fault_by : Bool → Bool → Bool → Bool
fault_by has sum path = cond has (cond sum (not path) true) sum

-- no offset of an element and no sum of a chain lies further from 0
abbrev pub far : ℕ
far = 63

-- where such an offset stands at the least, how many there are in a row, and in all
abbrev pub least : ℕ
least = centre - far

abbrev pub row_offsets : ℕ
row_offsets = far + 1 + far

abbrev pub all_offsets : ℕ
all_offsets = row_offsets * row_offsets

-- these offsets in row order, by number: lesser dy first, then lesser dx
abbrev pub offset_no : ℕ → Offset
offset_no n = record { x = least + n % row_offsets; y = least + n / row_offsets }
