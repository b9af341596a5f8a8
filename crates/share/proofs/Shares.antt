-- A share that holds a map: what is read back from it, and that its layout is kept.
use Prim.Native.Nat.{ℕ, ◌+◌, ◌-◌, ◌*◌, ◌/◌, ◌%◌, ◌≤◌, ◌<◌}
use mathlib.Core.Path.{◌≡◌, refl, sym, ap, ap₂, ◌∙◌, subst}
use mathlib.Core.Bool.{true, cond, ◌&&◌, ◌||◌}
use mathlib.Core.List.{List, ◌++◌, append_assoc}
use native.Mathlib.Omega.{arith}
use borrow.Author.Tests.{eq-eqb, ne_eqb, le-leb, leb-true}
use lib.Dec.{leb, eqb}
use lib.ListN.{length, get_or, take, drop, replicate, length-append, length-drop, get_or-append}
use lib.ListN.{take-append-drop}
use lib.Seq.{drop-append-add, length-take-le}
use Rattle.std.proofs.lemmas.Grind.{common_steps}
use Rattle.basics.specs.Lists.{firsts, joined}
use Rattle.basics.specs.Tests.{all}
use Rattle.basics.proofs.Lists.{length_firsts, get_d_firsts}
use Rattle.basics.proofs.Tests.{both, all_of, all_at}
use Rattle.element.specs.Descriptor.{well_made}
use Rattle.std.proofs.lemmas.List.{length-replicate}
use Rattle.share.specs.Share.{sum_to, length_at, place_of, held_at, entry_made, share_made, length_byte}
use Rattle.share.specs.Share.{share_bytes, holding, cleared}
use Rattle.share.specs.Maps.{Map}
use Rattle.share.proofs.Sums.{sum_same, sum_within, length_joined, joined_part}

pub length_bytes : (N : ℕ) (m : Map) → length (share_bytes N m) ≡ 2 * N + sum_to (λ i. length (m i)) N
unfolding share_bytes
length_bytes N m =
    length-append (firsts (length_byte m) (2 * N)) (joined m N)
    ∙ ap₂ (λ a b. a + b) (length_firsts (length_byte m) (2 * N)) (length_joined m N)

pub length_holding : (N : ℕ) (m : Map) (s : List ℕ) → 2 * N + sum_to (λ i. length (m i)) N ≤ length s
    → length (holding N m s) ≡ length s
unfolding holding
length_holding N m s h =
    length-append (share_bytes N m) (drop (length (share_bytes N m)) s)
    ∙ omega (arith, length-drop (length (share_bytes N m)) s, length_bytes N m)

-- ---- the lengths read back
byte_at : (N : ℕ) (m : Map) (s : List ℕ) (i : ℕ) → i < 2 * N → get_or (holding N m s) i 0 ≡ length_byte m i
unfolding holding share_bytes
byte_at N m s i h =
    ap (λ l. get_or l i 0) (append_assoc (firsts (length_byte m) (2 * N)) (joined m N) _)
    ∙ get_or-append (firsts (length_byte m) (2 * N)) _ 0 i
    (subst (λ n. i < n) (sym (length_firsts (length_byte m) (2 * N))) h)
    ∙ get_d_firsts (length_byte m) (2 * N) i h

pub low_byte : (m : Map) (n : ℕ) → length_byte m (2 * n) ≡ length (m n) % 256
low_byte m n =
    ap (λ b. cond b (length (m (2 * n / 2)) % 256) (length (m (2 * n / 2)) / 256))
    (eq-eqb (2 * n % 2) 0 (omega arith))
    ∙ ap (λ k. length (m k) % 256) (half n)
  where
    half : (n : ℕ) → 2 * n / 2 ≡ n
    half n = omega arith

pub high_byte : (m : Map) (n : ℕ) → length_byte m (2 * n + 1) ≡ length (m n) / 256
high_byte m n =
    ap (λ b. cond b (length (m ((2 * n + 1) / 2)) % 256) (length (m ((2 * n + 1) / 2)) / 256))
    (ne_eqb ((2 * n + 1) % 2) 0 (λ e. omega arith))
    ∙ ap (λ k. length (m k) / 256) (half n)
  where
    half : (n : ℕ) → (2 * n + 1) / 2 ≡ n
    half n = omega arith

pub hold_length : (N : ℕ) (m : Map) (s : List ℕ) (n : ℕ) → n < N → length_at (holding N m s) n ≡ length (m n)
unfolding length_at
hold_length N m s n h =
    ap₂ (λ a b. a + 256 * b) (byte_at N m s (2 * n) (omega arith) ∙ low_byte m n)
    (byte_at N m s (2 * n + 1) (omega arith) ∙ high_byte m n)
    ∙ whole (length (m n))
  where
    whole : (k : ℕ) → k % 256 + 256 * (k / 256) ≡ k
    whole k = omega arith

pub hold_sum : (N : ℕ) (m : Map) (s : List ℕ) (n : ℕ) → n ≤ N
    → sum_to (length_at (holding N m s)) n ≡ sum_to (λ i. length (m i)) n
hold_sum N m s n h =
    sum_same (length_at (holding N m s)) (λ i. length (m i)) n (λ i l. hold_length N m s i (omega arith))

-- ---- the descriptors read back
held_in : (N : ℕ) (F Z : List ℕ) (m : Map) (n k j : ℕ) → length F ≡ 2 * N → n < N → k ≡ length (m n)
    → j ≡ length (joined m n)
    → take k (drop (2 * N + j) ((F ++ joined m N) ++ Z)) ≡ m n
held_in N F Z m n k j e h ek ej =
    ap₂ (λ a b. take a (drop (2 * N + b) ((F ++ joined m N) ++ Z))) ek ej
    ∙ ap (λ l. take (length (m n)) (drop (2 * N + length (joined m n)) l)) (append_assoc F (joined m N) Z)
    ∙ ap (λ a. take (length (m n)) (drop (a + length (joined m n)) (F ++ (joined m N ++ Z)))) (sym e)
    ∙ ap (take (length (m n))) (drop-append-add F (joined m N ++ Z) (length (joined m n)))
    ∙ joined_part m n N Z h

held_from : (N : ℕ) (m : Map) (s : List ℕ) (n k j : ℕ) → n < N → k ≡ length (m n)
    → j ≡ length (joined m n) → take k (drop (2 * N + j) (holding N m s)) ≡ m n
unfolding holding share_bytes
held_from N m s n k j h a b =
    held_in N (firsts (length_byte m) (2 * N)) _ m n k j (length_firsts (length_byte m) (2 * N)) h a b

pub hold_held : (N : ℕ) (m : Map) (s : List ℕ) (n : ℕ) → n < N → held_at N (holding N m s) n ≡ m n
unfolding held_at place_of
hold_held N m s n h =
    held_from N m s n _ _ h (hold_length N m s n h)
    (hold_sum N m s n (omega arith) ∙ sym (length_joined m n))

-- ---- a share and the map that it holds
abbrev pub fine_at : Map → ℕ → Type 0
fine_at m i = (eqb (length (m i)) 0 || well_made (m i)) ≡ true

pub record Holds (N M : ℕ) (s : List ℕ) (m : Map) : Type 0 where
  pub long : length s ≡ 2 * N + M
  pub few : sum_to (λ i. length (m i)) N ≤ M
  pub fine : (i : ℕ) → i < N → fine_at m i
  pub lengths : (i : ℕ) → i < N → length_at s i ≡ length (m i)
  pub held : (i : ℕ) → i < N → held_at N s i ≡ m i

pub holding_holds : (N M : ℕ) (s : List ℕ) (m : Map) → length s ≡ 2 * N + M
    → sum_to (λ i. length (m i)) N ≤ M → ((i : ℕ) → i < N → fine_at m i)
    → Holds N M (holding N m s) m
holding_holds N M s m e h f =
    record {
      long = length_holding N m s (omega arith) ∙ e;
      few = h;
      fine = f;
      lengths = λ i l. hold_length N m s i l;
      held = λ i l. hold_held N m s i l;
    }

module _ (N M : ℕ) (s : List ℕ) where
  pub holds_as : (m k : Map) → ((i : ℕ) → i < N → m i ≡ k i) → Holds N M s m → Holds N M s k
  holds_as m k each h =
      record {
        long = h.long;
        few =
            subst (λ n. n ≤ M) (sum_same (λ i. length (m i)) (λ i. length (k i)) N
            (λ i l. ap length (each i l))) h.few;
        fine =
            λ i l. subst (λ (d : List ℕ). (eqb (length d) 0 || well_made d) ≡ true) (each i l)
            (h.fine i l);
        lengths = λ i l. h.lengths i l ∙ ap length (each i l);
        held = λ i l. h.held i l ∙ each i l;
      }

  pub holds_sum : (m : Map) → Holds N M s m → (n : ℕ) → n ≤ N
      → sum_to (length_at s) n ≡ sum_to (λ i. length (m i)) n
  holds_sum m h n l = sum_same (length_at s) (λ i. length (m i)) n (λ i q. h.lengths i (omega arith))

  -- such a share is made by the layout
  pub holds_made : (m : Map) → Holds N M s m → share_made N M s ≡ true
  unfolding share_made
  holds_made m h =
      ap₂ ◌&&◌
      (le-leb (sum_to (length_at s) N) M (subst (λ n. n ≤ M) (sym (holds_sum m h N (omega arith))) h.few))
      (all_of (entry_made N s) N (λ i l. ap₂ (λ a b. eqb a 0 || well_made b) (h.lengths i l) (h.held i l)
      ∙ h.fine i l))

  pub held_length : 2 * N + sum_to (length_at s) N ≤ length s → (n : ℕ) → n < N
      → length (held_at N s n) ≡ length_at s n
  unfolding held_at place_of
  held_length h n l =
      let w = sum_within (length_at s) n N l in
      length-take-le (length_at s n) (drop (2 * N + sum_to (length_at s) n) s)
      (omega (arith, length-drop (2 * N + sum_to (length_at s) n) s))

  -- and what is made by the layout holds what is read from it
  pub made_few : share_made N M s ≡ true → sum_to (length_at s) N ≤ M
  unfolding share_made
  made_few e =
      leb-true (sum_to (length_at s) N) M (both (leb (sum_to (length_at s) N) M) (all (entry_made N s) N) e).0

  pub made_entry : share_made N M s ≡ true → (i : ℕ) → i < N → entry_made N s i ≡ true
  unfolding share_made
  made_entry e i l =
      all_at (entry_made N s) N (both (leb (sum_to (length_at s) N) M) (all (entry_made N s) N) e).1 i l

  pub made_holds : length s ≡ 2 * N + M → share_made N M s ≡ true → Holds N M s (held_at N s)
  made_holds e made =
      let f = made_few made in
      let each = held_length (omega arith) in
      record {
        long = e;
        few = subst (λ n. n ≤ M) (sym (sum_same (λ i. length (held_at N s i)) (length_at s) N each)) f;
        fine = λ i l. ap (λ n. eqb n 0 || well_made (held_at N s i)) (each i l) ∙ made_entry made i l;
        lengths = λ i l. sym (each i l);
        held = λ i l. refl;
      }

-- ---- the spare bytes are of no account
prefix_length : (xs y z : List ℕ) (n : ℕ) → 2 * n + 1 < length xs
    → length_at (xs ++ y) n ≡ length_at (xs ++ z) n
unfolding length_at
prefix_length xs y z n h =
    grind (arith, common_steps)

within : (xs y : List ℕ) (p k : ℕ) → p + k ≤ length xs → take k (drop p (xs ++ y)) ≡ take k (drop p xs)
within xs y p k h = grind (arith, common_steps)

prefix_held : (N : ℕ) (xs y z : List ℕ) → 2 * N + sum_to (length_at (xs ++ y)) N ≤ length xs → (n : ℕ)
    → n < N → held_at N (xs ++ y) n ≡ held_at N (xs ++ z) n
unfolding held_at place_of
prefix_held N xs y z h n l =
    let w = sum_within (length_at (xs ++ y)) n N l in
    within xs y (2 * N + sum_to (length_at (xs ++ y)) n) (length_at (xs ++ y) n) (omega arith)
    ∙ sym (within xs z (2 * N + sum_to (length_at (xs ++ y)) n) (length_at (xs ++ y) n) (omega arith))
    ∙ ap₂ (λ a b. take a (drop (2 * N + b) (xs ++ z))) (prefix_length xs y z n (omega arith))
    (sum_same (length_at (xs ++ y)) (length_at (xs ++ z)) n (λ i q. prefix_length xs y z i (omega arith)))

pub cleared_holds : (N M : ℕ) (s : List ℕ) (m : Map) → Holds N M s m
    → Holds N M (cleared (place_of N s N) s) m
unfolding cleared place_of
cleared_holds N M s m h =
    let a = holds_sum N M s m h N (omega arith) in
    let f = h.few in
    let g = h.long in
    by (2 * N + sum_to (length_at s) N) refl (omega arith)
  where
    by : (T : ℕ) → T ≡ 2 * N + sum_to (length_at s) N → T ≤ length s
        → Holds N M (take T s ++ replicate (length s - T) 0) m
    by T e l =
        let t = length-take-le T s l in
        let w = take-append-drop T s in
        record {
          long =
              length-append (take T s) (replicate (length s - T) 0)
              ∙ omega (arith, t, length-replicate {A = ℕ} (length s - T) 0, h.long);
          few = h.few;
          fine = h.fine;
          lengths =
              λ i q. prefix_length (take T s) (replicate (length s - T) 0) (drop T s) i (omega arith)
              ∙ ap (λ l. length_at l i) w ∙ h.lengths i q;
          held =
              λ i q. sym (prefix_held N (take T s) (drop T s) (replicate (length s - T) 0)
              (subst (λ l. 2 * N + sum_to (length_at l) N ≤ length (take T s)) (sym w) (omega arith)) i q)
              ∙ ap (λ l. held_at N l i) w ∙ h.held i q;
        }
