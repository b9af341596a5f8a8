-- A get taken apart again from the one number that C gets, as include/qiksavlut.h does it.
use Rattle.std.specs.Prelude.{ℕ, ◌-◌, ◌/◌, ◌^◌, List, length}
use Rattle.std.specs.Int.Bits.{bit_and}
use Rattle.share.specs.Maps.{Get}
use Rattle.book.specs.declared.Party.{Party}
use Rattle.book.specs.Book.{book_answer, book_handed, book_place}

pub record GetTold : Type 0 where
  pub number : ℕ
  pub place : ℕ
  pub long : ℕ

-- qik_get_number, qik_get_place and qik_get_length
unfoldable pub get_apart : ℕ → GetTold
get_apart n =
    record {
      number = bit_and n (2 ^ 8 - 1);
      place = bit_and (n / 2 ^ 16) (2 ^ 16 - 1);
      long = bit_and (n / 4294967296) (2 ^ 16 - 1);
    }

-- what the get of a party's number n out of the bytes b is told as
unfoldable pub get_told : List ℕ → Party → ℕ → GetTold
get_told b p n =
    record {
      number = (book_answer b p (Get n)).number;
      place = book_place b p n;
      long = length (book_handed b p (Get n));
    }
