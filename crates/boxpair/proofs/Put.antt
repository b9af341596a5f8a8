-- Rows written over others: the last one stays, and rows apart do not meet.
use Prim.Native.Nat.{ℕ, ◌+◌, ◌-◌, ◌*◌, ◌≤◌, ◌<◌}
use mathlib.Core.Path.{◌≡◌, refl, sym, ap, ap₂, ◌∙◌, subst}
use mathlib.Core.List.{List}
use mathlib.Core.Logic.{⊎_elim}
use native.Mathlib.Omega.{arith}
use borrow.Rule.Slice.PartMut.{put_mid}
use lib.ListN.{length, get_or}
use Rattle.basics.specs.Lists.{firsts}
use Rattle.basics.proofs.Lists.{list_is, length_firsts}
use Rattle.basics.proofs.SliceParts.{below_or_not, put_before, put_within, put_after, put_length}

lists_same : (u v : List ℕ) → length u ≡ length v → ((i : ℕ) → i < length u → get_or u i 0 ≡ get_or v i 0)
    → u ≡ v
lists_same u v e each =
    list_is (λ i. get_or v i 0) (length u) u refl each
    ∙ sym (list_is (λ i. get_or v i 0) (length u) v (sym e) (λ i h. refl))

-- a row written twice
pub put_again : (a k : ℕ) (t Z Y : List ℕ) → a + k ≤ length t → length Z ≡ k → length Y ≡ k
    → put_mid a k (put_mid a k t Z) Y ≡ put_mid a k t Y
put_again a k t Z Y fits e_z e_y =
    lists_same _ _ (put_length a k u Y fitu e_y ∙ put_length a k t Z fits e_z ∙ sym (put_length a k t Y fits
    e_y))
    (λ i h. ⊎_elim
    (λ l. put_before a k u Y fitu e_y i l ∙ put_before a k t Z fits e_z i l ∙ sym (put_before a k t Y fits e_y
    i l))
    (λ l. ⊎_elim
    (λ m. ap (λ j. get_or (put_mid a k u Y) j 0) (on a i l)
    ∙ put_within a k u Y fitu e_y (i - a) (omega arith)
    ∙ sym (ap (λ j. get_or (put_mid a k t Y) j 0) (on a i l)
    ∙ put_within a k t Y fits e_y (i - a) (omega arith)))
    (λ m. put_after a k u Y fitu e_y i m ∙ put_after a k t Z fits e_z i m
    ∙ sym (put_after a k t Y fits e_y i m))
    (below_or_not i (a + k)))
    (below_or_not i a))
  where
    u : List ℕ
    u = put_mid a k t Z

    fitu : a + k ≤ length (put_mid a k t Z)
    fitu = subst (λ n. a + k ≤ n) (sym (put_length a k t Z fits e_z)) fits

    on : (a i : ℕ) → a ≤ i → i ≡ a + (i - a)
    on a i h = omega arith

-- the row after one that was written stays
pub put_next : (a k : ℕ) (t Z Y : List ℕ) → a + k + k ≤ length t → length Z ≡ k → length Y ≡ k
    → firsts (λ i. get_or (put_mid a k (put_mid (a + k) k t Z) Y) (a + k + i) 0) k ≡ Z
put_next a k t Z Y fits e_z e_y =
    sym (list_is _ k Z e_z (λ i h. sym
    (put_after a k u Y fitu e_y (a + k + i) (omega arith) ∙ put_within (a + k) k t Z fits e_z i h)))
  where
    u : List ℕ
    u = put_mid (a + k) k t Z

    fitu : a + k ≤ length (put_mid (a + k) k t Z)
    fitu = omega (arith, put_length (a + k) k t Z fits e_z)

-- two rows, the second written before the first and after it
pub put_two : (a k : ℕ) (t Z Y X : List ℕ) → a + k + k ≤ length t → length Z ≡ k → length Y ≡ k → length X ≡ k
    → put_mid (a + k) k (put_mid a k (put_mid (a + k) k t Z) Y) X ≡ put_mid (a + k) k (put_mid a k t Y) X
put_two a k t Z Y X fits e_z e_y eX =
    lists_same _ _ (put_length (a + k) k v X fitv eX ∙ lv ∙ sym (put_length (a + k) k q X fitq eX ∙ lq))
    (λ i h. ⊎_elim
    (λ l. put_before (a + k) k v X fitv eX i l
    ∙ ⊎_elim
    (λ m. put_before a k u Y fitu e_y i m ∙ put_before (a + k) k t Z fits e_z i l ∙ sym (put_before a k t Y
    fitt e_y i m))
    (λ m. ap (λ j. get_or v j 0) (on a i m) ∙ put_within a k u Y fitu e_y (i - a) (omega arith)
    ∙ sym (ap (λ j. get_or q j 0) (on a i m) ∙ put_within a k t Y fitt e_y (i - a) (omega arith)))
    (below_or_not i a)
    ∙ sym (put_before (a + k) k q X fitq eX i l))
    (λ l. ⊎_elim
    (λ m. ap (λ j. get_or (put_mid (a + k) k v X) j 0) (on (a + k) i l)
    ∙ put_within (a + k) k v X fitv eX (i - (a + k)) (omega arith)
    ∙ sym (ap (λ j. get_or (put_mid (a + k) k q X) j 0) (on (a + k) i l)
    ∙ put_within (a + k) k q X fitq eX (i - (a + k)) (omega arith)))
    (λ m. put_after (a + k) k v X fitv eX i m ∙ put_after a k u Y fitu e_y i (omega arith)
    ∙ put_after (a + k) k t Z fits e_z i m
    ∙ sym (put_after (a + k) k q X fitq eX i m ∙ put_after a k t Y fitt e_y i (omega arith)))
    (below_or_not i (a + k + k)))
    (below_or_not i (a + k)))
  where
    on : (a i : ℕ) → a ≤ i → i ≡ a + (i - a)
    on a i h = omega arith

    u : List ℕ
    u = put_mid (a + k) k t Z

    v : List ℕ
    v = put_mid a k (put_mid (a + k) k t Z) Y

    q : List ℕ
    q = put_mid a k t Y

    fitt : a + k ≤ length t
    fitt = omega arith

    fitu : a + k ≤ length (put_mid (a + k) k t Z)
    fitu = omega (arith, put_length (a + k) k t Z fits e_z)

    lv : length (put_mid a k (put_mid (a + k) k t Z) Y) ≡ length t
    lv = put_length a k (put_mid (a + k) k t Z) Y fitu e_y ∙ put_length (a + k) k t Z fits e_z

    fitv : a + k + k ≤ length (put_mid a k (put_mid (a + k) k t Z) Y)
    fitv = subst (λ n. a + k + k ≤ n) (sym lv) fits

    lq : length (put_mid a k t Y) ≡ length t
    lq = put_length a k t Y fitt e_y

    fitq : a + k + k ≤ length (put_mid a k t Y)
    fitq = subst (λ n. a + k + k ≤ n) (sym lq) fits
