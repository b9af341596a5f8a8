-- The rows that are listed, one after another: none, one more.
use Prim.Native.Nat.{ℕ, ◌+◌, ◌-◌, ◌*◌, ◌≤◌, ◌<◌}
use mathlib.Core.Path.{◌≡◌, sym, ◌∙◌, subst}
use mathlib.Core.Bool.{Bool}
use mathlib.Core.List.{List}
use mathlib.Core.Logic.{⊎_elim}
use native.Mathlib.Omega.{arith}
use native.Mathlib.Nat.{eq-or-lt_of_le, add-sub_cancel_left}
use lib.ListN.{length, get_or, drop, set, length-drop}
use lib.Seq.{get_or-drop, get_or-set_same, get_or-set_other}
use borrow.Rule.Slice.PartMut.{put_mid}
use Rattle.basics.proofs.SliceParts.{put_before, put_within, put_length}
use Rattle.picture.proofs.Sizes.{row_room}
use Rattle.element.specs.declared.Outline.{Outline}
use Rattle.heightsigns.specs.Steps.Taken.{Taken}
use Rattle.heightsigns.proofs.Cells.{taken_same}
use Rattle.byheight.specs.Steps.Listed.{Side}

below_one : (i n : ℕ) → i < n + 1 → i ≤ n
below_one i n h = omega arith

-- the numbers u of row from + n stand after those of the rows before, and their count k beside
module _ (grows rises : Bool) (o : Outline) (words hs : List ℕ) (from n : ℕ) (cells counts u : List ℕ)
    (k : ℕ) (fits : n * o.w + o.w ≤ length cells) (some : n < length counts) (long : length u ≡ o.w)
    (before : (i : ℕ) → i < n → Side grows rises o words hs from i cells counts)
    (taken : Taken grows rises (get_or words (from + n) 0) o.w o.origin.ping.0 hs ((from + n) * o.w)
    k u) where
  abbrev size : ℕ
  size = n * o.w + o.w - n * o.w

  is_size : size ≡ o.w
  is_size = add-sub_cancel_left (n * o.w) o.w

  abbrev new : List ℕ
  new = put_mid (n * o.w) size cells u

  in_it : n * o.w + size ≤ length cells
  in_it = omega (arith, is_size)

  as_long : length u ≡ size
  as_long = long ∙ sym is_size

  pub new_long : length new ≡ length cells
  new_long = put_length (n * o.w) size cells u in_it as_long

  -- a row that has its cells within the list
  left : (i : ℕ) → i * o.w + o.w ≤ length cells → o.w ≤ length (drop (i * o.w) new)
  left i h = subst (λ m. o.w ≤ m) (sym (length-drop (i * o.w) new)) (omega (arith, new_long))

  pub side_more : (i : ℕ) → i < n + 1 → Side grows rises o words hs from i new (set counts n k)
  side_more i h =
      ⊎_elim
      (λ e. subst (λ i. Side grows rises o words hs from i new (set counts n k)) (sym e)
      (subst (λ c. Taken grows rises (get_or words (from + n) 0) o.w o.origin.ping.0 hs
      ((from + n) * o.w) c (drop (n * o.w) new)) (sym (get_or-set_same counts n k 0 some))
      (taken_same grows rises _ o.w _ hs _ k u (drop (n * o.w) new) (left n fits)
      (λ j l. get_or-drop (n * o.w) new j 0
      ∙ put_within (n * o.w) size cells u in_it as_long j (omega (arith, is_size))) taken)))
      (λ l. let r = row_room o.w {y = i} {n = n} l in
      subst (λ c. Taken grows rises (get_or words (from + i) 0) o.w o.origin.ping.0 hs
      ((from + i) * o.w) c (drop (i * o.w) new))
      (sym (get_or-set_other counts n i k 0 (λ z. absurd (omega arith))))
      (taken_same grows rises _ o.w _ hs _ (get_or counts i 0) (drop (i * o.w) cells)
      (drop (i * o.w) new) (left i (omega (arith, r)))
      (λ j m. get_or-drop (i * o.w) new j 0
      ∙ put_before (n * o.w) size cells u in_it as_long (i * o.w + j) (omega (arith, r))
      ∙ sym (get_or-drop (i * o.w) cells j 0)) (before i l)))
      (eq-or-lt_of_le (below_one i n h))
