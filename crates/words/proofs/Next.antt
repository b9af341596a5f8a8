-- The next set cell of a row word.
use Prim.Native.Nat.{ℕ, ◌+◌, ◌-◌, ◌*◌, ◌%◌, ◌^◌, ◌≤◌, ◌<◌}
use mathlib.Core.Path.{◌≡◌, sym, ap, ◌∙◌, subst}
use mathlib.Core.Bool.{Bool, true, false, cond}
use mathlib.Core.Logic.{⊎_elim}
use native.Mathlib.Omega.{arith}
use native.Mathlib.Nat.{lt_of_lt_of_le}
use lib.Dec.{eqb}
use lib.Pow.{pow_mono}
use borrow.Author.Tests.{eq-eqb, ne_eqb}
use Rattle.basics.specs.Bits.{bit}
use Rattle.basics.proofs.Bits.{bit_mod, bit_shl, bit_shl_low}
use Rattle.basics.proofs.SliceParts.{below_or_not}
use Rattle.blocks.proofs.Points.{bit_above}
use Rattle.packedline.specs.Steps.Cells.{cell_on64}
use Rattle.packedline.proofs.Words.{top_on}
use Rattle.words.specs.Steps.Words.{NextCell}

is_off : (n : ℕ) → n ≡ 0 → eqb n 1 ≡ false
is_off n e = ne_eqb n 1 (λ q. absurd (omega arith))

never : (b : Bool) → b ≡ true → b ≡ false → ⊥
never b p q = let z : ◌≡◌ {A = ℕ} 0 1 = ap (λ t. cond t 0 1) (sym p ∙ q) in omega arith

-- ---- the next set cell
pub next_past : (word c : ℕ) → c ≤ 64 → 64 ≤ c → NextCell word c 64
next_past word c h k =
    record {
      onward = h;
      few = omega arith;
      none = λ d a b. absurd (omega arith);
      found = λ l. absurd (omega arith);
    }

module _ (word c m : ℕ) (hc : c < 64) (em : m ≡ word * 2 ^ c % 2 ^ 64) where
  -- cell d of the word is cell d - c of the word moved on by c
  cell_on_lem : (d : ℕ) → c ≤ d → d < 64 → bit m (63 - (d - c)) ≡ bit word (63 - d)
  cell_on_lem d h k =
      ap (λ n. bit n (63 - (d - c))) em ∙ bit_mod (word * 2 ^ c) 64 (63 - (d - c)) (omega arith)
      ∙ ap (bit (word * 2 ^ c)) (place c d h k) ∙ bit_shl word c (63 - d)
    where
      place : (c d : ℕ) → c ≤ d → d < 64 → 63 - (d - c) ≡ c + (63 - d)
      place c d h k = omega arith

  pub next_none : m ≡ 0 → NextCell word c 64
  next_none z =
      record {
        onward = omega arith;
        few = omega arith;
        none = λ d a b. is_off (bit word (63 - d)) (sym (cell_on_lem d a b) ∙ nothing (63 - (d - c)));
        found = λ l. absurd (omega arith);
      }
    where
      nothing : (k : ℕ) → bit m k ≡ 0
      nothing k = bit_above m k (subst (λ n. n < 2 ^ k) (sym z) (lt_of_lt_of_le (one 0) (pow_mono {i = 0} {j
          = k} (omega arith))))
        where
          one : (n : ℕ) → 0 < 2 ^ 0
          one n = omega arith

  module _ (f : ℕ) (hf : f < 64) (lo : 2 ^ (63 - f) ≤ m) (hi : m < 2 ^ (64 - f)) where
    top : bit m (63 - f) ≡ 1
    top = top_on m (63 - f) lo (subst (λ n. m < 2 ^ n) (one f hf) hi)
      where
        one : (f : ℕ) → f < 64 → 64 - f ≡ 63 - f + 1
        one f h = omega arith

    inside : c + f < 64
    inside = ⊎_elim (λ l. absurd (apart (bit m (63 - f)) top (low l))) (λ l. omega arith) (below_or_not (63
        - f) c)
      where
        low : 63 - f < c → bit m (63 - f) ≡ 0
        low l =
            ap (λ n. bit n (63 - f)) em ∙ bit_mod (word * 2 ^ c) 64 (63 - f) (omega arith)
            ∙ bit_shl_low word c (63 - f) l

        apart : (n : ℕ) → n ≡ 1 → n ≡ 0 → ⊥
        apart n a b = omega arith

    pub next_found : NextCell word c (c + f)
    next_found =
        record {
          onward = omega arith;
          few = omega (arith, inside);
          none = λ d a b. is_off (bit word (63 - d))
              (sym (cell_on_lem d a (omega (arith, inside)))
              ∙ bit_above m (63 - (d - c))
              (lt_of_lt_of_le hi (pow_mono {i = 64 - f} {j = 63 - (d - c)} (omega arith))));
          found = λ l. eq-eqb (bit word (63 - (c + f))) 1
              (sym (cell_on_lem (c + f) (omega arith) l) ∙ ap (λ n. bit m (63 - n)) (back c f) ∙ top);
        }
      where
        back : (c f : ℕ) → c + f - c ≡ f
        back c f = omega arith

-- there is one such column
pub next_same : (word c r q : ℕ) → NextCell word c r → NextCell word c q → r ≡ q
next_same word c r q a b =
    ⊎_elim (λ l. absurd (apart r q l a b))
    (λ l. ⊎_elim (λ m. absurd (apart q r m b a)) (λ m. same r q l m) (below_or_not q r)) (below_or_not r q)
  where
    apart : (r q : ℕ) → r < q → NextCell word c r → NextCell word c q → ⊥
    apart r q l a b =
        never (cell_on64 word r) (a.found (omega (arith, b.few))) (b.none r a.onward l)

    same : (r q : ℕ) → q ≤ r → r ≤ q → r ≡ q
    same r q h k = omega arith
