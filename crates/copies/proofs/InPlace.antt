-- Padding cleared where it stands:
-- only the last byte of a row is stored, and that is the row with its padding cleared.
use Prim.Native.Nat.{ℕ, ◌+◌, ◌-◌, ◌*◌, ◌/◌, ◌^◌, ◌≤◌, ◌<◌}
use mathlib.Core.Path.{◌≡◌, refl, sym, ap, ◌∙◌, subst}
use mathlib.Core.Bool.{Bool, true, false, cond}
use mathlib.Core.List.{List, ◌++◌}
use native.Mathlib.Omega.{arith}
use native.Mathlib.Nat.{add-sub_cancel_left}
use borrow.Author.Tests.{eqb-true, eqb-false}
use lib.Dec.{eqb}
use lib.ListN.{length, get_or, set, take, drop, length-set}
use lib.Seq.{get_or-set_same, get_or-set_other, get_or-take, get_or-drop, drop_at}
use Rattle.basics.specs.Lists.{firsts, joined}
use Rattle.basics.proofs.Lists.{list_is, firsts_same}
use Rattle.basics.proofs.Joined.{length_joined}
use Rattle.copies.specs.Steps.Copy.{cleared_byte, spare_at, cleared_at, cleared_row}
use Rattle.copies.proofs.Copies.{cleared_length}

from_start : (i : ℕ) → i ≡ 0 + i
from_start i = omega arith

-- one row: its last byte
pub last_cleared : (t : List ℕ) (n u v : ℕ) → length t ≡ n → 1 ≤ n
    → v ≡ cleared_byte false (get_or t (n - 1) 0) u
    → set t (n - 1) v ≡ firsts (cleared_at false t 0 n u) n
unfolding cleared_at cleared_byte
last_cleared t n u v l some e =
    list_is _ n (set t (n - 1) v) (length-set t (n - 1) v ∙ l) (λ i h. by i h (eqb (i + 1) n) refl)
  where
    kept : (b : ℕ) → b ≡ b / 2 ^ 0 * 2 ^ 0
    kept b = omega arith

    there : (i n : ℕ) → i + 1 ≡ n → n - 1 ≡ i
    there i n q = omega arith

    by : (i : ℕ) → i < n → (b : Bool) → eqb (i + 1) n ≡ b
        → get_or (set t (n - 1) v) i 0 ≡ get_or t (0 + i) 0 / 2 ^ cond b u 0 * 2 ^ cond b u 0
    by i h true q =
        let s = there i n (eqb-true (i + 1) n q) in
        ap (λ j. get_or (set t (n - 1) v) j 0) (sym s)
        ∙ get_or-set_same t (n - 1) v 0 (omega arith) ∙ e
        ∙ ap (λ j. get_or t j 0 / 2 ^ u * 2 ^ u) (s ∙ from_start i)
    by i h false q =
        let s = eqb-false (i + 1) n q in
        get_or-set_other t (n - 1) i v 0 (λ z. s (omega arith)) ∙ kept (get_or t i 0)
        ∙ ap (λ j. get_or t j 0 / 2 ^ 0 * 2 ^ 0) (from_start i)

-- row y, where the rows before it are cleared and the others are as they were
pub row_cleared : (t₀ t ys : List ℕ) (n u y : ℕ)
    → t ≡ joined (cleared_row false t₀ n u) y ++ drop (y * n) t₀
    → ys ≡ firsts (cleared_at false (take (y * n + n - y * n) (drop (y * n) t)) 0 n u) n
    → ys ≡ cleared_row false t₀ n u y
unfolding cleared_row cleared_at
row_cleared t₀ t ys n u y e q =
    q ∙ firsts_same _ _ n (λ i h. ap (λ b. cleared_byte false b (spare_at i n u)) (there i h))
  where
    past : drop (y * n) t ≡ drop (y * n) t₀
    past =
        ap (drop (y * n)) e
        ∙ drop_at (joined (cleared_row false t₀ n u) y) (drop (y * n) t₀) (y * n)
        (length_joined (cleared_row false t₀ n u) n (cleared_length false t₀ n u) y)

    there : (i : ℕ) → i < n
        → get_or (take (y * n + n - y * n) (drop (y * n) t)) (0 + i) 0 ≡ get_or t₀ (y * n + i) 0
    there i h =
        ap (λ j. get_or (take (y * n + n - y * n) (drop (y * n) t)) j 0) (sym (from_start i))
        ∙ get_or-take (y * n + n - y * n) (drop (y * n) t) i 0
        (subst (λ m. i < m) (sym (add-sub_cancel_left (y * n) n)) h)
        ∙ ap (λ l. get_or l i 0) past ∙ get_or-drop (y * n) t₀ i 0
