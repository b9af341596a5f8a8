-- One call of one party: the share answers as its map does, and holds what the map then has.
use Prim.Native.Nat.{ℕ, ◌+◌, ◌≤◌, ◌<◌}
use mathlib.Core.Path.{◌≡◌, refl, sym, ap, ap₂, ◌∙◌, subst}
use mathlib.Core.Bool.{Bool, true, false, cond, not, ◌||◌}
use mathlib.Core.List.{List, [], ◌∷◌}
use native.Mathlib.Omega.{arith}
use borrow.Author.Tests.{eq-eqb, leb-false, ltb-false, not-false}
use lib.Dec.{leb, ltb, eqb}
use lib.ListN.{length}
use Rattle.answer.specs.Answer.{plain, is_done}
use Rattle.answer.specs.Refuse.{Test, refuse}
use Rattle.answer.specs.Lent.{unless_refused}
use Rattle.answer.proofs.Order.{Numbered, NoneOf, none_of, number_of}
use Rattle.element.specs.Descriptor.{well_made}
use Rattle.share.specs.Share.{sum_to, held_at, holding}
use Rattle.share.specs.Maps.{Map, with, Call, Put, Get, Remove, Tidy, others, absent, tests, map_answer}
use Rattle.share.specs.Maps.{found, changed, map_reply, map_after}
use Rattle.share.specs.Work.{worked, share_after}
use Rattle.share.proofs.Sums.{sum_same, sum_others}
use Rattle.share.proofs.Shares.{Holds, fine_at, holding_holds, holds_as, cleared_holds}

pub numbered : (N M : ℕ) (m : Map) (c : Call) → Numbered (tests N M m c)
numbered N M m (Put n d) = (omega arith, (omega arith, (omega arith, tt)))
numbered N M m (Get n) = (omega arith, tt)
numbered N M m (Remove n) = (omega arith, tt)
numbered N M m Tidy = tt

-- what is got of a number that the maps agree on, or that is not below N
got_same : (above : Bool) (x y : List ℕ) → (above ≡ false → x ≡ y)
    → unless_refused (refuse ((above || eqb (length x) 0, 14) ∷ []) (plain 0)) [] x
    ≡ unless_refused (refuse ((above || eqb (length y) 0, 14) ∷ []) (plain 0)) [] y
unfolding unless_refused plain
got_same true x y e = refl
got_same false x y e =
    ap (λ (d : List ℕ). cond (is_done (refuse ((eqb (length d) 0, 14) ∷ []) (plain 0))) d []) (e refl)

-- ---- maps that agree below N answer alike
module _ (N M : ℕ) (m k : Map) (each : (i : ℕ) → i < N → m i ≡ k i) where
  same_absent : (n : ℕ) → absent N m n ≡ absent N k n
  same_absent n = by (leb N n) refl
    where
      by : (b : Bool) → leb N n ≡ b → (b || eqb (length (m n)) 0) ≡ (b || eqb (length (k n)) 0)
      by true e = refl
      by false e = ap (λ (d : List ℕ). eqb (length d) 0) (each n (leb-false N n e))

  pub same_tests : (c : Call) → tests N M m c ≡ tests N M k c
  same_tests (Put n d) =
      ap (λ (o : ℕ). (leb N n, 14) ∷ (not (well_made d), 4) ∷ (ltb M (o + length d), 13) ∷ [])
      (sum_same (λ i. cond (eqb i n) 0 (length (m i))) (λ i. cond (eqb i n) 0 (length (k i))) N
      (λ i h. ap (λ (l : List ℕ). cond (eqb i n) 0 (length l)) (each i h)))
  same_tests (Get n) = ap (λ (b : Bool). (b, 14) ∷ []) (same_absent n)
  same_tests (Remove n) = ap (λ (b : Bool). (b, 14) ∷ []) (same_absent n)
  same_tests Tidy = refl

  same_found : (c : Call)
      → unless_refused (map_answer N M m c) [] (found m c)
      ≡ unless_refused (map_answer N M k c) [] (found k c)
  same_found (Put n d) =
      ap (λ (ts : List Test). unless_refused (refuse ts (plain 0)) [] []) (same_tests (Put n d))
  same_found (Get n) = got_same (leb N n) (m n) (k n) (λ e. each n (leb-false N n e))
  same_found (Remove n) =
      ap (λ (ts : List Test). unless_refused (refuse ts (plain 0)) [] []) (same_tests (Remove n))
  same_found Tidy = refl

  pub same_reply : (c : Call) → map_reply N M m c ≡ map_reply N M k c
  unfolding map_reply
  same_reply c =
      ap₂ (λ (ts : List Test) (l : List ℕ). (refuse ts (plain 0), l)) (same_tests c) (same_found c)

  same_changed : (c : Call) (i : ℕ) → i < N → changed m c i ≡ changed k c i
  same_changed (Put n d) i h = ap (λ (l : List ℕ). cond (eqb i n) d l) (each i h)
  same_changed (Get n) i h = each i h
  same_changed (Remove n) i h = ap (λ (l : List ℕ). cond (eqb i n) [] l) (each i h)
  same_changed Tidy i h = each i h

  pub same_after : (c : Call) (i : ℕ) → i < N → map_after N M m c i ≡ map_after N M k c i
  unfolding map_after
  same_after c i h =
      by (is_done (map_answer N M m c))
      ∙ ap (λ (ts : List Test). cond (is_done (refuse ts (plain 0))) (changed k c) k i) (same_tests c)
    where
      by : (b : Bool) → cond b (changed m c) m i ≡ cond b (changed k c) k i
      by true = same_changed c i h
      by false = each i h

-- ---- a map with one entry changed
pub sum_with : (N : ℕ) (m : Map) (n : ℕ) (d : List ℕ) → n < N
    → sum_to (λ i. length (with m n d i)) N ≡ others N m n + length d
sum_with N m n d h =
    let a = sum_others (λ i. length (with m n d i)) n N h in
    let b = sum_same (λ i. cond (eqb i n) 0 (length (with m n d i)))
    (λ i. cond (eqb i n) 0 (length (m i))) N (λ i l. by i (eqb i n)) in
    let c : length (with m n d n) ≡ length d = ap (λ (t : Bool). length (cond t d (m n))) (eq-eqb n n refl) in
    omega arith
  where
    by : (i : ℕ) (t : Bool) → cond t 0 (length (cond t d (m i))) ≡ cond t 0 (length (m i))
    by i true = refl
    by i false = refl

fine_with : (m : Map) (n : ℕ) (d : List ℕ) (i : ℕ) → (eqb (length d) 0 || well_made d) ≡ true → fine_at m i
    → fine_at (with m n d) i
fine_with m n d i e f = by (eqb i n)
  where
    by : (t : Bool) → (eqb (length (cond t d (m i))) 0 || well_made (cond t d (m i))) ≡ true
    by true = e
    by false = f

pub or_left : (a b : Bool) → (a || b) ≡ false → a ≡ false
or_left false b e = refl
or_left true b e = e

or_right : (a b : Bool) → b ≡ true → (a || b) ≡ true
or_right true b e = refl
or_right false b e = e

module _ (N M : ℕ) where
  -- the share with one entry changed
  put_holds : (s : List ℕ) (m : Map) (n : ℕ) (d : List ℕ) → n < N → others N m n + length d ≤ M
      → (eqb (length d) 0 || well_made d) ≡ true → Holds N M s m
      → Holds N M (holding N (with (held_at N s) n d) s) (with m n d)
  put_holds s m n d l room made h =
      holds_as N M (holding N (with (held_at N s) n d) s) (with (held_at N s) n d) (with m n d) agree
      (holding_holds N M s (with (held_at N s) n d) h.long
      (subst (λ k. k ≤ M) (sym (sum_same (λ i. length (with (held_at N s) n d i))
      (λ i. length (with m n d i)) N (λ i q. ap length (agree i q)) ∙ sum_with N m n d l)) room)
      (λ i q. subst (λ (e : List ℕ). (eqb (length e) 0 || well_made e) ≡ true) (sym (agree i q))
      (fine_with m n d i made (h.fine i q))))
    where
      agree : (i : ℕ) → i < N → with (held_at N s) n d i ≡ with m n d i
      agree i q = ap (λ (e : List ℕ). cond (eqb i n) d e) (h.held i q)

  less_others : (m : Map) (n : ℕ) → n < N → others N m n ≤ sum_to (λ i. length (m i)) N
  less_others m n l = let a = sum_others (λ i. length (m i)) n N l in omega arith

  pub worked_holds : (s : List ℕ) (m : Map) (c : Call) → Holds N M s m → NoneOf (tests N M m c)
      → Holds N M (worked N s c) (changed m c)
  unfolding worked
  worked_holds s m (Put n d) h none =
      put_holds s m n d (leb-false N n none.0) (ltb-false M (others N m n + length d) none.1.1.0)
      (or_right (eqb (length d) 0) (well_made d) (not-false (well_made d) none.1.0)) h
  worked_holds s m (Get n) h none = h
  worked_holds s m (Remove n) h none =
      let l = leb-false N n (or_left (leb N n) (eqb (length (m n)) 0) none.0) in
      let o = less_others m n l in
      let f = h.few in
      put_holds s m n [] l (omega arith) refl h
  worked_holds s m Tidy h none = cleared_holds N M s m h

  either : (b : Bool) (s t : List ℕ) (m k : Map) → Holds N M s m → (b ≡ true → Holds N M t k)
      → Holds N M (cond b t s) (cond b k m)
  either true s t m k h f = f refl
  either false s t m k h f = h

  -- what a share is after any call
  after_as : (s : List ℕ) (m : Map) (c : Call) → Holds N M s m
      → Holds N M (unless_refused (map_answer N M m c) s (worked N s c)) (map_after N M m c)
  unfolding map_after unless_refused
  after_as s m c h =
      either (is_done (map_answer N M m c)) s (worked N s c) m (changed m c) h
      (λ e. worked_holds s m c h (none_of (tests N M m c) (numbered N M m c) e))

  pub after_holds : (s : List ℕ) (m : Map) (c : Call) → Holds N M s m
      → Holds N M (share_after N M s c) (map_after N M m c)
  unfolding share_after
  after_holds s m c h =
      subst (λ (ts : List Test).
      Holds N M (unless_refused (refuse ts (plain 0)) s (worked N s c)) (map_after N M m c))
      (sym (same_tests N M (held_at N s) m h.held c)) (after_as s m c h)

none_absent : (x : Bool) → refuse ((x, 14) ∷ []) (plain 0) ≡ plain 17 → ⊥
none_absent true e = let q = number_of 14 17 e in omega arith
none_absent false e = let q = number_of 0 17 e in omega arith

-- no plain map answers BOOK
pub no_book : (N M : ℕ) (m : Map) (c : Call) → map_answer N M m c ≡ plain 17 → ⊥
no_book N M m (Put n d) e = by (leb N n) (well_made d) (ltb M (others N m n + length d)) e
  where
    by : (x y z : Bool)
        → refuse ((x, 14) ∷ (not y, 4) ∷ (z, 13) ∷ []) (plain 0) ≡ plain 17 → ⊥
    by true y z e = let q = number_of 14 17 e in omega arith
    by false false z e = let q = number_of 4 17 e in omega arith
    by false true true e = let q = number_of 13 17 e in omega arith
    by false true false e = let q = number_of 0 17 e in omega arith
no_book N M m (Get n) e = none_absent (absent N m n) e
no_book N M m (Remove n) e = none_absent (absent N m n) e
no_book N M m Tidy e = let q = number_of 0 17 e in omega arith
