-- A search taken apart again from the one number that C gets, as include/qiksavlut.h does it.
use Rattle.std.specs.Prelude.{ℕ, ◌-◌, ◌/◌, ◌^◌, List}
use Rattle.std.specs.Int.Bits.{bit_and}
use Rattle.chainfor.specs.Find.{find_answer}
use Rattle.hostfind.specs.Find.{links_told, bytes_told}

pub record FindTold : Type 0 where
  pub number : ℕ
  pub links : ℕ
  pub bytes : ℕ

-- qik_find_number, qik_find_links (of NOCHAIN qik_find_gave_up) and qik_find_bytes
unfoldable pub find_apart : ℕ → FindTold
find_apart n =
    record {
      number = bit_and n (2 ^ 8 - 1);
      links = bit_and (n / 2 ^ 16) (2 ^ 16 - 1);
      bytes = bit_and (n / 4294967296) (2 ^ 16 - 1);
    }

-- what the search for a chain of the element d, with this room, is told as
unfoldable pub find_told : List ℕ → ℕ → FindTold
find_told d room =
    record { number = (find_answer d room).number; links = links_told d room; bytes = bytes_told d room }
