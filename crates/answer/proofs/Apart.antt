-- What C gets of an answer is taken apart again into its number, dx and dy.
use Prim.Native.Nat.{ℕ, suc, ◌+◌, ◌-◌, ◌*◌, ◌/◌, ◌^◌, ◌<◌}
use mathlib.Core.Path.{◌≡◌, refl, ap, ◌∙◌}
use mathlib.Core.Bool.{Bool, true, false, cond}
use native.Mathlib.Omega.{arith}
use borrow.Author.Tests.{ltb-true, ltb-false}
use lib.Bits.{bit_and, bit_xor, and_mask, xor_comm, xor_shifted, xor_block, xor_zero_r}
use Rattle.std.specs.Prelude.{Ok, Err}
use lib.Dec.{ltb, lit<}
use lib.IntN.{ℤ, pos, negsuc, sub_ℕ}
use Rattle.answer.specs.declared.Refusal.TheVariants.{Size, Source, Pad, Shape}
use Rattle.answer.specs.declared.Refusal.TheVariants.{Overlap, Chain, Split, Room, Form, Job, Netpbm}
use Rattle.answer.specs.declared.Refusal.TheVariants.{Marker, Full, Absent, Retired, Nest, Book}
use Rattle.answer.specs.declared.Refusal.TheVariants.{NoChain}
use Rattle.answer.specs.declared.Told.{Told}
use Rattle.answer.specs.Answer.{Answer, told, told_refusal, plain, centre}
use Rattle.answer.specs.Packed.{mod_byte, packed}
use Rattle.answer.specs.Apart.{byte_from, coordinate, apart, OfBytes}

-- ---- three bytes side by side
module _ (n x y : ℕ) (hn : n < 2 ^ 8) (hx : x < 2 ^ 8) (hy : y < 2 ^ 8) where
  low : bit_and (n + x * 2 ^ 8 + y * 2 ^ 16) (2 ^ 8 - 1) ≡ n
  low = and_mask (n + x * 2 ^ 8 + y * 2 ^ 16) 8 ∙ omega arith

  middle : byte_from 8 (n + x * 2 ^ 8 + y * 2 ^ 16) ≡ x
  middle = and_mask ((n + x * 2 ^ 8 + y * 2 ^ 16) / 2 ^ 8) 8 ∙ omega arith

  high : byte_from 16 (n + x * 2 ^ 8 + y * 2 ^ 16) ≡ y
  high = and_mask ((n + x * 2 ^ 8 + y * 2 ^ 16) / 2 ^ 16) 8 ∙ omega arith

-- ---- a coordinate mod 256
-- the sign's bit is put in, or taken away
set_bit : (r : ℕ) → r < centre → bit_xor r centre ≡ r + centre
set_bit r l = xor_comm r centre ∙ xor_shifted 1 7 r l ∙ omega arith

clear_bit : (r : ℕ) → r < centre → bit_xor (1 * 2 ^ 7 + r) centre ≡ r
clear_bit r l = xor_block 7 1 1 r 0 l (lit< tt) ∙ ap (λ v. 0 * 2 ^ 7 + v) (xor_zero_r r) ∙ omega arith

-- a coordinate that is a byte mod 256, and is taken from it again
abbrev Back : ℤ → Type 0
Back d = (mod_byte d < 2 ^ 8) × (coordinate (mod_byte d) ≡ d)

back : (x : ℕ) → x < 2 ^ 8 → Back (sub_ℕ x centre)
back x l = by (ltb x centre) refl
  where
    by : (b : Bool) → ltb x centre ≡ b → Back (cond b (negsuc (centre - suc x)) (pos (x - centre)))
    by true e = let h = ltb-true x centre e in
        let q : 2 ^ 8 - suc (centre - suc x) ≡ 1 * 2 ^ 7 + x = omega arith in (
          omega arith,
          ap coordinate q ∙ ap (λ r. sub_ℕ r centre) (clear_bit x h)
              ∙ ap (λ b. cond b (negsuc (centre - suc x)) (pos (x - centre))) e,
        )
    by false e = let h = ltb-false x centre e in
        let q : x - centre + centre ≡ x = omega arith in (
          omega arith,
          ap (λ r. sub_ℕ r centre) (set_bit (x - centre) (omega arith) ∙ q)
              ∙ ap (λ b. cond b (negsuc (centre - suc x)) (pos (x - centre))) e,
        )

none : Back (pos 0)
none = (lit< tt, refl)

-- ---- an answer
apart_told : (t : Told) → t.number < 2 ^ 8 → Back t.dx → Back t.dy → apart (packed t) ≡ t
unfolding apart packed
apart_told t hn hx hy = λ i. record {
  number = low t.number (mod_byte t.dx) (mod_byte t.dy) hn hx.0 hy.0 i;
  dx = (ap coordinate (middle t.number (mod_byte t.dx) (mod_byte t.dy) hn hx.0 hy.0)
      ∙ hx.1) i;
  dy = (ap coordinate (high t.number (mod_byte t.dx) (mod_byte t.dy) hn hx.0 hy.0) ∙ hy.1) i;
}

plain_apart : (n : ℕ) → n < 2 ^ 8 → apart (packed (plain n)) ≡ plain n
unfolding plain
plain_apart n l = apart_told (plain n) l none none

pub taken_apart : (a : Answer) → OfBytes a → apart (packed (told a)) ≡ told a
unfolding told told_refusal
taken_apart (Ok tt) bytes = plain_apart 0 (lit< tt)
taken_apart (Err Size) bytes = plain_apart 1 (lit< tt)
taken_apart (Err Source) bytes = plain_apart 2 (lit< tt)
taken_apart (Err Pad) bytes = plain_apart 3 (lit< tt)
taken_apart (Err Shape) bytes = plain_apart 4 (lit< tt)
taken_apart (Err Overlap) bytes = plain_apart 5 (lit< tt)
taken_apart (Err Chain) bytes = plain_apart 6 (lit< tt)
taken_apart (Err (Split x y)) bytes =
    apart_told (told_refusal (Split x y)) (lit< tt) (back x (bytes x y refl).0) (back y (bytes x y refl).1)
taken_apart (Err Room) bytes = plain_apart 8 (lit< tt)
taken_apart (Err Form) bytes = plain_apart 9 (lit< tt)
taken_apart (Err Job) bytes = plain_apart 10 (lit< tt)
taken_apart (Err Netpbm) bytes = plain_apart 11 (lit< tt)
taken_apart (Err Marker) bytes = plain_apart 12 (lit< tt)
taken_apart (Err Full) bytes = plain_apart 13 (lit< tt)
taken_apart (Err Absent) bytes = plain_apart 14 (lit< tt)
taken_apart (Err Retired) bytes = plain_apart 15 (lit< tt)
taken_apart (Err Nest) bytes = plain_apart 16 (lit< tt)
taken_apart (Err Book) bytes = plain_apart 17 (lit< tt)
taken_apart (Err NoChain) bytes = plain_apart 18 (lit< tt)
