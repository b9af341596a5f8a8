-- What a share that keeps the layout tells, and what it is after a call.
use Prim.Native.Nat.{ℕ, ◌+◌, ◌*◌, ◌≤◌, ◌<◌}
use mathlib.Core.Path.{◌≡◌, refl, sym, ap, ◌∙◌}
use mathlib.Core.Bool.{true, false}
use mathlib.Core.List.{List, []}
use native.Mathlib.Omega.{arith}
use borrow.Author.Tests.{leb-false, ltb-false}
use lib.Dec.{leb, eqb}
use lib.ListN.{length}
use Rattle.share.specs.Share.{sum_to, length_at, place_of, held_at, holding, cleared}
use Rattle.answer.specs.declared.Refusal.TheVariants.{Absent}
use Rattle.answer.specs.declared.Told.{Told}
use Rattle.answer.specs.Answer.{plain, told_refusal, is_done}
use Rattle.answer.proofs.Order.{none_of}
use Rattle.answer.proofs.Lent.{all_done, kept_by, made_by_lem}
use Rattle.share.specs.Maps.{Map, with, Call, Put, Get, Remove, Tidy, others, tests, map_answer}
use Rattle.share.specs.Work.{worked, share_after}
use Rattle.share.specs.Steps.Moves.{Within, Fits, Whole}
use Rattle.share.proofs.Sums.{sum_same, sum_within, sum_others}
use Rattle.share.proofs.Shares.{made_few, held_length}
use Rattle.share.proofs.Steps.{or_left, numbered}

-- number n ends within a share whose descriptors lie in it
pub entry_end : (N : ℕ) (s : List ℕ) (n k : ℕ) → k ≡ length_at s n → (t : ℕ) → t ≡ sum_to (length_at s) n
    → Within N n s → 2 * N + t + k ≤ length s
entry_end N s n k e t q w = let h = sum_within (length_at s) n N w.below in omega (arith, w.fits)

-- ---- what a share that keeps the layout tells
module _ (N M : ℕ) (s : List ℕ) (w : Whole N M s) where
  pub whole_sum : sum_to (length_at s) N ≤ M
  whole_sum = made_few N M s w.made

  pub whole_fits : 2 * N + sum_to (length_at s) N ≤ length s
  whole_fits = let h = whole_sum in omega (arith, w.long)

  pub whole_held : (n : ℕ) → n < N → length (held_at N s n) ≡ length_at s n
  whole_held n h = held_length N M s whole_fits n h

  -- the others, and this number's own, are all
  pub others_is : (n t k : ℕ) → n < N → t ≡ sum_to (length_at s) N → k ≡ length_at s n
      → others N (held_at N s) n + k ≡ t
  others_is n t k h et ek =
      let u = sum_others (λ i. length (held_at N s i)) n N h in
      let q = whole_held n h in
      let r = sum_same (λ i. length (held_at N s i)) (length_at s) N whole_held in
      omega arith

-- what is known where ABSENT is told
pub absent_told : told_refusal Absent ≡ plain 14
unfolding told_refusal
absent_told = refl

pub ruleset absence = (whole_held, absent_told)

-- where a put is not refused there is room, and where a remove is not
pub put_fits : (N M : ℕ) (s : List ℕ) (n : ℕ) (d : List ℕ) (t : Told) → Whole N M s
    → t ≡ map_answer N M (held_at N s) (Put n d) → is_done t ≡ true → Fits N n s d
put_fits N M s n d t w e z =
    let none = none_of (tests N M (held_at N s) (Put n d)) (numbered N M (held_at N s) (Put n d))
    (sym (ap is_done e) ∙ z) in
    let h = leb-false N n none.0 in
    let l = ltb-false M (others N (held_at N s) n + length d) none.1.1.0 in
    let o = others_is N M s w n (sum_to (length_at s) N) (length_at s n) h refl refl in
    record {
      few = w.few;
      below = h;
      fits = whole_fits N M s w;
      short = omega (arith, w.short);
      grown = omega (arith, w.long);
    }

pub got_below : (N M : ℕ) (m : Map) (n : ℕ) (t : Told) → t ≡ map_answer N M m (Get n) → is_done t ≡ true → n
    < N
got_below N M m n t e z =
    let none = none_of (tests N M m (Get n)) (numbered N M m (Get n)) (sym (ap is_done e) ∙ z) in
    leb-false N n (or_left (leb N n) (eqb (length (m n)) 0) none.0)

pub remove_fits : (N M : ℕ) (s : List ℕ) (n : ℕ) (t : Told) → Whole N M s
    → t ≡ map_answer N M (held_at N s) (Get n) → is_done t ≡ true → Fits N n s []
remove_fits N M s n t w e z =
    let h = got_below N M (held_at N s) n t e z in
    let f = whole_fits N M s w in
    record { few = w.few; below = h; fits = f; short = omega arith; grown = omega arith }

-- ---- a share after a call
module _ (N M : ℕ) (s : List ℕ) (c : Call) (t : Told) (e : t ≡ map_answer N M (held_at N s) c) where
  pub call_refused : is_done t ≡ false → s ≡ share_after N M s c
  unfolding share_after
  call_refused z = kept_by s (worked N s c) (map_answer N M (held_at N s) c) t e z

  call_worked : (x : List ℕ) → is_done t ≡ true → x ≡ worked N s c → x ≡ share_after N M s c
  unfolding share_after
  call_worked x z q = made_by_lem s (worked N s c) (map_answer N M (held_at N s) c) t e x z q

pub put_worked : (N M : ℕ) (s : List ℕ) (n : ℕ) (d x : List ℕ) (t : Told)
    → t ≡ map_answer N M (held_at N s) (Put n d) → is_done t ≡ true
    → x ≡ holding N (with (held_at N s) n d) s → x ≡ share_after N M s (Put n d)
unfolding worked
put_worked N M s n d x t e z q = call_worked N M s (Put n d) t e x z q

pub remove_worked : (N M : ℕ) (s : List ℕ) (n : ℕ) (x : List ℕ) (t : Told)
    → t ≡ map_answer N M (held_at N s) (Get n) → is_done t ≡ true
    → x ≡ holding N (with (held_at N s) n []) s → x ≡ share_after N M s (Remove n)
unfolding worked
remove_worked N M s n x t e z q = call_worked N M s (Remove n) t e x z q

pub tidy_is : (N M : ℕ) (s : List ℕ) (t : ℕ) (x : List ℕ) → t ≡ sum_to (length_at s) N
    → x ≡ cleared (2 * N + t) s
    → x ≡ share_after N M s Tidy
unfolding worked place_of
tidy_is N M s t x e q =
    call_worked N M s Tidy (plain 0) refl x all_done (q ∙ ap (λ n. cleared (2 * N + n) s) e)
