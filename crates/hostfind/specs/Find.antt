-- The number that C gets of a search for a chain.
use Rattle.std.specs.Prelude.{ℕ, ◌+◌, ◌*◌, ◌^◌, Bool, cond, List, length}
use Rattle.answer.specs.Answer.{is_done}
use Rattle.answer.specs.Packed.{packed}
use Rattle.chainfor.specs.Find.{links_for, chain_for, find_answer, gave_up}

abbrev pub flag_of : Bool → ℕ
flag_of b = cond b 1 0

-- the links of the chain that was written; where none was, whether the search gave up
abbrev pub links_told : List ℕ → ℕ → ℕ
links_told d room = cond (is_done (find_answer d room)) (links_for d) 0 + flag_of (gave_up d)

abbrev pub bytes_told : List ℕ → ℕ → ℕ
bytes_told d room = cond (is_done (find_answer d room)) (length (chain_for d)) 0

-- number + 65536·links + 4294967296·bytes; of NOCHAIN 1 for the links where the search gave up
unfoldable pub find_number : List ℕ → ℕ → ℕ
find_number d room =
    packed (find_answer d room) + links_told d room * 2 ^ 16 + bytes_told d room * 4294967296
