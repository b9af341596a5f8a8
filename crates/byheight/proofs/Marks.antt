-- The rows of the result that are marked, while one row after another is joined.
use Prim.Native.Nat.{ℕ, ◌+◌, ◌-◌, ◌*◌, ◌/◌, ◌≤◌, ◌<◌}
use mathlib.Core.Path.{◌≡◌, sym, ◌∙◌, subst}
use mathlib.Core.Bool.{Bool}
use mathlib.Core.List.{List}
use mathlib.Core.Logic.{◌⊎◌, inl, inr, ⊎_elim}
use native.Mathlib.Omega.{arith}
use native.Mathlib.Nat.{eq-or-lt_of_le, add-sub_cancel_left}
use lib.ListN.{length, get_or, set, length-set}
use lib.Seq.{get_or-set_same, get_or-set_other}
use borrow.Rule.Slice.PartMut.{put_mid}
use Rattle.basics.proofs.SliceParts.{below_or_not, put_before, put_within, put_after}
use Rattle.picture.proofs.Sizes.{row_room}
use Rattle.freeblocks.specs.Steps.Plain.{turned_by, Sure}
use Rattle.byheight.specs.Steps.Part.{Marked}

-- row y is now u, and its mark k
module _ (grows : Bool) (w h : ℕ) (marks t u : List ℕ) (y k : ℕ) (hy : y < h) (high : h ≤ 256)
    (len : length t ≡ h * w) (long : length u ≡ w) (sure : k ≡ 1 → Sure grows (length u / 128) u)
    (marked : Marked grows w h marks t) where
  abbrev size : ℕ
  size = y * w + w - y * w

  abbrev new : List ℕ
  new = put_mid (y * w) size t u

  is_size : size ≡ w
  is_size = add-sub_cancel_left (y * w) w

  fits : y * w + size ≤ length t
  fits = omega (arith, row_room w hy, len, is_size)

  same : length u ≡ size
  same = long ∙ sym is_size

  abbrev Sure-at : ℕ → Type 0
  Sure-at z = get_or (set marks y k) z 0 ≡ 1
      → (i : ℕ) → i < 128 * (w / 128) → 128 ≤ turned_by grows (get_or new (z * w + i) 0)

  here : Sure-at y
  here e i l =
      subst (λ v. 128 ≤ turned_by grows v)
      (sym (put_within (y * w) size t u fits same i (omega (arith, is_size))))
      (sure (sym (get_or-set_same marks y k 0 (omega (arith, marked.0))) ∙ e) i
      (subst (λ n. i < 128 * (n / 128)) (sym long) l))

  other : (z i : ℕ) → i < w → (z < y) ⊎ (y < z) → get_or new (z * w + i) 0 ≡ get_or t (z * w + i) 0
  other z i l apart =
      ⊎_elim
      (λ q. put_before (y * w) size t u fits same (z * w + i) (omega (arith, row_room w q)))
      (λ q. put_after (y * w) size t u fits same (z * w + i) (omega (arith, row_room w q, is_size))) apart

  elsewhere : (z : ℕ) → z < h → (z < y) ⊎ (y < z) → Sure-at z
  elsewhere z hz apart e i l =
      subst (λ v. 128 ≤ turned_by grows v) (sym (other z i (omega arith) apart))
      (marked.1 z hz
      (sym (get_or-set_other marks y z k 0
      (λ q. ⊎_elim (λ a. absurd (omega (arith, a, q))) (λ a. absurd (omega (arith, a, q))) apart)) ∙ e) i l)

  side : (z : ℕ) → (y ≡ z) ⊎ ((z < y) ⊎ (y < z))
  side z =
      ⊎_elim (λ l. inr (inl l)) (λ l. ⊎_elim (λ e. inl e) (λ m. inr (inr m)) (eq-or-lt_of_le l))
      (below_or_not z y)

  pub marked_join : Marked grows w h (set marks y k) new
  marked_join = (
    length-set marks y k ∙ marked.0,
    λ z hz. ⊎_elim (λ e. subst Sure-at e here) (λ a. elsewhere z hz a) (side z),
  )
