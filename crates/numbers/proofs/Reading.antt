-- A number and a line's end, by one byte more.
use Rattle.std.proofs.Common.{◌≡◌, ℕ, ◌+◌, ◌<◌, ◌≤◌, cond, eqb, ltb, List, ◌∷◌, length, get_or, drop, sym}
use Rattle.std.proofs.Common.{ap, ◌∙◌, add-one, drop_of_length-le, drop-cons, le-ltb, lt-ltb, eq-eqb}
use Rattle.std.proofs.Common.{ne_eqb}
use Rattle.numbers.specs.declared.Found.{Found}
use Rattle.numbers.specs.Numbers.{more, number_in, end_in}

-- ---- what is left of a list from a place where it has something
left : (l : List ℕ) (i : ℕ) → i < length l → drop i l ≡ get_or l i 0 ∷ drop (i + 1) l
left l i h = drop-cons l i 0 h ∙ ap (λ j. get_or l i 0 ∷ drop j l) (sym (add-one i))

module _ (line : List ℕ) (v i : ℕ) where
  abbrev ended : Found
  ended = record { value = v; next = i + 1 }

  abbrev onward : Found
  onward = number_in (drop (i + 1) line) (more v (get_or line i 0)) (i + 1)

  module _ (h : i < length line) where
    here : number_in (drop i line) v i ≡ cond (ltb (get_or line i 0) 48) ended onward
    unfolding number_in
    here = ap (λ l. number_in l v i) (left line i h)

    -- the byte ends the number
    pub number_ends : get_or line i 0 < 48 → ended ≡ number_in (drop i line) v i
    number_ends b = sym (here ∙ ap (λ t. cond t ended onward) (lt-ltb (get_or line i 0) 48 b))

    -- the byte is a digit
    pub number_goes_on : 48 ≤ get_or line i 0 → onward ≡ number_in (drop i line) v i
    number_goes_on b = sym (here ∙ ap (λ t. cond t ended onward) (le-ltb (get_or line i 0) 48 b))

  -- the line has ended
  pub number_last : length line ≤ i
      → ◌≡◌ {A = Found} (record { value = v; next = i }) (number_in (drop i line) v i)
  unfolding number_in
  number_last h = ap (λ l. number_in l v i) (sym (drop_of_length-le line h))

module _ (input : List ℕ) (i : ℕ) where
  abbrev further : ℕ
  further = end_in (drop (i + 1) input) (i + 1)

  module _ (h : i < length input) where
    there : end_in (drop i input) i ≡ cond (eqb (get_or input i 0) 10) (i + 1) further
    unfolding end_in
    there = ap (λ l. end_in l i) (left input i h)

    pub line_ends : get_or input i 0 ≡ 10 → i + 1 ≡ end_in (drop i input) i
    line_ends e = sym (there ∙ ap (λ t. cond t (i + 1) further) (eq-eqb (get_or input i 0) 10 e))

    pub line_goes_on : (get_or input i 0 ≡ 10 → ⊥) → further ≡ end_in (drop i input) i
    line_goes_on e = sym (there ∙ ap (λ t. cond t (i + 1) further) (ne_eqb (get_or input i 0) 10 e))

  pub line_last : length input ≤ i → i ≡ end_in (drop i input) i
  unfolding end_in
  line_last h = ap (λ l. end_in l i) (sym (drop_of_length-le input h))
