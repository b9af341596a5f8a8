-- A region and the one that it lies in are of different kinds: a hole lies in echoes and echoes in
-- background.
use Prim.Native.Nat.{ℕ, ◌+◌, ◌-◌, ◌*◌, ◌/◌, ◌%◌, ◌≤◌, ◌<◌}
use mathlib.Core.Path.{◌≡◌, refl, sym, ap, ◌∙◌}
use mathlib.Core.Bool.{Bool, true, false, cond}
use mathlib.Core.Logic.{◌⊎◌, ⊎_elim}
use native.Mathlib.Omega.{arith}
use native.Mathlib.Nat.{mod-lt, div-add-mod'}
use borrow.Author.Tests.{eq-eqb, ne_eqb}
use lib.Dec.{eqb}
use lib.Arith.{digits_div, digits_mod}
use Rattle.regions.specs.Regions.{first_column, one_row, Linked, beyond, beside, Joined, here, onward}
use Rattle.regions.specs.Regions.{back, Firsts}
use Rattle.regions.proofs.Cases.{same_or}
use Rattle.regions.specs.Listing.{left_of, parent_of}

-- the value of a node: what lies beyond is background
abbrev pub kind_of : (ℕ → ℕ) → ℕ → ℕ
kind_of A a = cond (eqb a 0) 0 (A (a - 1))

module _ (w h : ℕ) (A : ℕ → ℕ) where
  kind_point : (a p : ℕ) → a ≡ p + 1 → kind_of A a ≡ A p
  kind_point a p e = ap (λ t. cond t 0 (A (a - 1))) (ne_eqb a 0 (λ z. absurd (omega (arith, e, z))))
      ∙ ap A (omega (arith, e))

  kind_beyond : (a : ℕ) → a ≡ 0 → kind_of A a ≡ 0
  kind_beyond a e = ap (λ t. cond t 0 (A (a - 1))) (eq-eqb a 0 e)

  kind_linked : (a b : ℕ) → Linked w h A a b → kind_of A a ≡ kind_of A b
  kind_linked a b (beyond p ea eb i z e) = kind_beyond a ea ∙ sym (kind_point b p eb ∙ z)
  kind_linked a b (beside p q ea eb i j n) = kind_point a p ea ∙ n.like ∙ sym (kind_point b q eb)

  -- all of a region is of one kind
  pub kind_joined : {a b : ℕ} → Joined w h A a b → kind_of A a ≡ kind_of A b
  kind_joined here = refl
  kind_joined (onward {b} {c} j k) = kind_joined j ∙ kind_linked b c k
  kind_joined (back {b} {c} j k) = kind_joined j ∙ sym (kind_linked c b k)

  module _ (some : 0 < w) (R : ℕ → ℕ) (f : Firsts w h A R) (c : ℕ) (pos : 1 ≤ c) (in_frame : c ≤ h * w)
      (own : R c ≡ c) where
    -- nothing earlier is joined to a first node
    no_earlier : (b : ℕ) → b < c → Joined w h A c b → ⊥
    no_earlier b l j = absurd (omega (arith, f.least c b in_frame j, own, l))

    left_kind : kind_of A (left_of w c) ≡ kind_of A c → ⊥
    left_kind =
        ⊎_elim
        (λ z k.
        no_earlier 0 (omega arith)
        (back here (beyond (c - 1) refl (omega arith) (omega arith)
        (sym (kind_point c (c - 1) (omega arith)) ∙ sym k
        ∙ kind_beyond (left_of w c) (ap (λ t. cond t 0 (c - 1)) (eq-eqb ((c - 1) % w) 0 z)))
        (first_column z))))
        (λ nz k. no_earlier (c - 1) (omega arith) (joined_left nz (to_left nz ∙ k))) (same_or ((c - 1) % w) 0)
      where
        left_is : ((c - 1) % w ≡ 0 → ⊥) → left_of w c ≡ c - 1
        left_is nz = ap (λ t. cond t 0 (c - 1)) (ne_eqb ((c - 1) % w) 0 nz)

        to_left : ((c - 1) % w ≡ 0 → ⊥) → kind_of A (c - 1) ≡ kind_of A (left_of w c)
        to_left nz = ap (kind_of A) (sym (left_is nz))

        joined_left : ((c - 1) % w ≡ 0 → ⊥) → kind_of A (c - 1) ≡ kind_of A c → Joined w h A c (c - 1)
        joined_left nz k =
            let x = mod-lt (c - 1) some in
            let i = div-add-mod' (c - 1) w in
            let e : c - 2 ≡ (c - 1) / w * w + ((c - 1) % w - 1) = omega (arith, i, nz) in
            let q : (c - 1) % w - 1 < w = omega (arith, x) in
            let col : (c - 2) % w ≡ (c - 1) % w - 1 = ap (λ n. n % w) e ∙ digits_mod ((c - 1) / w) q in
            let row : (c - 2) / w ≡ (c - 1) / w = ap (λ n. n / w) e ∙ digits_div ((c - 1) / w) q in
            let two : 2 ≤ c = omega (arith, i, nz) in
            let lk : Linked w h A (c - 1) c = beside (c - 2) (c - 1) (omega (arith, two)) (omega arith)
            (omega arith) (omega arith)
            (record {
              like = sym (kind_point (c - 1) (c - 2) (omega (arith, two))) ∙ k
                  ∙ kind_point c (c - 1) (omega arith);
              right = omega (arith, col, nz);
              left = omega (arith, col, nz);
              down = omega (arith, row);
              up = omega (arith, row);
              straight = λ _. one_row row;
            }) in
            back here lk

    -- A REGION AND ITS PARENT DIFFER
    pub kinds_differ : kind_of A (parent_of R w c) ≡ kind_of A c → ⊥
    unfolding parent_of
    kinds_differ k = left_kind (kind_joined (f.joined (left_of w c) (low_left (eqb ((c - 1) % w) 0))) ∙ k)
      where
        low_left : (t : Bool) → cond t 0 (c - 1) ≤ h * w
        low_left true = omega arith
        low_left false = omega (arith, in_frame)
