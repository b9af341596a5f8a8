-- An answer taken apart again from the one number that C gets, as include/qiksavlut.h does it.
use Rattle.std.specs.Prelude.{Err, ℕ, ◌-◌, ◌/◌, ◌^◌, ◌<◌, ◌≡◌, ℤ}
use Rattle.std.specs.Int.Bits.{bit_and, bit_xor}
use Rattle.std.proofs.Math.IntN.{sub_ℕ}
use Rattle.answer.specs.declared.Refusal.TheVariants.{Split}
use Rattle.answer.specs.declared.Told.{Told}
use Rattle.answer.specs.Answer.{Answer, centre}

-- n >> k & 255
abbrev pub byte_from : ℕ → ℕ → ℕ
byte_from k n = bit_and (n / 2 ^ k) (2 ^ 8 - 1)

-- the coordinate of a byte: (b ^ 128) - 128
abbrev pub coordinate : ℕ → ℤ
coordinate b = sub_ℕ (bit_xor b centre) centre

-- qik_number, qik_dx and qik_dy
unfoldable pub apart : ℕ → Told
apart n =
    record {
      number = bit_and n (2 ^ 8 - 1);
      dx = coordinate (byte_from 8 n);
      dy =
          coordinate (byte_from 16 n);
    }

-- a split holds two bytes
abbrev pub OfBytes : Answer → Type 0
OfBytes a = (x y : ℕ) → a ≡ Err (Split x y) → (x < 2 ^ 8) × (y < 2 ^ 8)
