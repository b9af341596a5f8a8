-- Reading links one after another: where each begins and ends,
-- what is refused first, and the links that are read.
use Prim.Native.Nat.{ℕ, suc, ◌+◌, ◌-◌, ◌≤◌, ◌<◌}
use mathlib.Core.Path.{◌≡◌, refl, sym, ap, ap₂, ◌∙◌, subst}
use mathlib.Core.Bool.{Bool, true, false, not, false≢true}
use mathlib.Core.List.{List, [], ◌∷◌, ◌++◌, append_assoc, append-nil}
use native.Mathlib.Omega.{arith}
use native.Mathlib.Nat.{sub-zero, add-sub_cancel_left}
use native.Mathlib.Numerals.{add-one}
use borrow.Author.Tests.{le-ltb, lt-ltb, eqb-true}
use lib.Dec.{ltb}
use lib.ListN.{length, take, drop, set, length-drop, length-set}
use lib.Seq.{drop-drop, take-suc-set}
use Rattle.std.specs.Prelude.{Result, Ok, Err, IfOk, cond}
use Rattle.std.proofs.lemmas.Result.{IfOk-at_ok}
use Rattle.basics.proofs.Lists.{tail_is}
use Rattle.answer.specs.declared.Told.{Told}
use Rattle.answer.specs.declared.Refusal.{Refusal}
use Rattle.answer.specs.declared.Refusal.TheVariants.{Shape, Chain}
use Rattle.answer.specs.Answer.{told, told_refusal, plain, is_done}
use Rattle.answer.specs.Refuse.{Test, refuse}
use Rattle.answer.proofs.Order.{Numbered, number_of}
use Rattle.answer.proofs.Variants.{err_undone, ok_done}
use Rattle.element.specs.declared.Element.{Element}
use Rattle.element.specs.Descriptor.{wide_of, high_of, well_made, descriptor_length}
use Rattle.element.specs.Record.{element_of}
use Rattle.reach.specs.declared.Link.{Link}
use Rattle.reach.specs.Steps.Links.{link_of}
use Rattle.morphology.specs.Chain.{most_links}
use Rattle.chain.specs.Reading.{first_of, rest_of, small, link_tests}
use Rattle.chain.specs.Steps.Records.{link_read, held_in, ReadAs}

-- ---- refusals

-- a list of refusals, as it stands before what follows:
-- where none holds it is what follows, and else it does not ask what follows
pub none_after : (ts : List Test) → Numbered ts → refuse ts (plain 0) ≡ plain 0 → (after : Told)
    → refuse ts after ≡ after
none_after [] some e after = refl
none_after ((true, m) ∷ ts) some e after = let z = number_of m 0 e in absurd (omega (arith, some.0))
none_after ((false, m) ∷ ts) some e after = none_after ts some.1 e after

pub some_after : (ts : List Test) → (refuse ts (plain 0) ≡ plain 0 → ⊥) → (after : Told)
    → refuse ts (plain 0) ≡ refuse ts after
some_after [] n after = absurd (n refl)
some_after ((true, m) ∷ ts) n after = refl
some_after ((false, m) ∷ ts) n after = some_after ts n after

-- the number 0 is that of no refusal
pub zero_none : (ts : List Test) → Numbered ts → is_done (refuse ts (plain 0)) ≡ true
    → refuse ts (plain 0) ≡ plain 0
unfolding plain
zero_none [] some e = refl
zero_none ((true, m) ∷ ts) some e = let z = eqb-true m 0 e in absurd (omega (arith, some.0))
zero_none ((false, m) ∷ ts) some e = zero_none ts some.1 e

-- one descriptor, by what is met first
module _ (d : List ℕ) where
  pub one_unmade : well_made d ≡ false → Err Shape ≡ link_read d
  unfolding link_read
  one_unmade e = simp e

  pub one_wide : well_made d ≡ true → small (wide_of d) (high_of d) ≡ false → Err Chain ≡ link_read d
  unfolding link_read
  one_wide e s = simp (e, s)

  pub one_held : well_made d ≡ true → small (wide_of d) (high_of d) ≡ true → (l : Link)
      → l ≡ link_of (element_of d) → Ok l ≡ link_read d
  unfolding link_read
  one_held e s l q = simp (e, s, q)

-- and from what was read of it: a refusal is the first of its tests that holds, and a link has passed both
module _ (x : Link) (b s : Bool) where
  abbrev read : Result Link Refusal
  read = cond b (cond s (Ok x) (Err Chain)) (Err Shape)

read_refused : (x : Link) (b s : Bool) (r : Refusal) → read x b s ≡ Err r → (ts : List Test)
    → told_refusal r ≡ refuse ((not b, 4) ∷ (not s, 6) ∷ ts) (plain 0)
unfolding told told_refusal
read_refused x true true r e ts =
    absurd (false≢true (sym (err_undone _ r e) ∙ ok_done (read x true true) x refl))
read_refused x true false r e ts = sym (ap (λ (l : Result Link Refusal). told l) e)
read_refused x false s r e ts = sym (ap (λ (l : Result Link Refusal). told l) e)

read_taken : (x : Link) (b s : Bool) (l : Link) → read x b s ≡ Ok l → (b ≡ true) × ((s ≡ true) × (l ≡ x))
read_taken x true true l e = (refl, (refl, IfOk-at_ok (λ (y : Link). y ≡ x) e refl))
read_taken x true false l e =
    absurd (false≢true (sym (err_undone (read x true false) Chain refl) ∙ ok_done _ l e))
read_taken x false s l e =
    absurd (false≢true (sym (err_undone (read x false s) Shape refl) ∙ ok_done _ l e))

-- its size, from the element that was read
pub size_of : (d : List ℕ) (e : Element) → e ≡ element_of d → (s : Bool)
    → small e.outline.w e.outline.h ≡ s → small (wide_of d) (high_of d) ≡ s
unfolding element_of
size_of d e q s z = sym (ap (λ (e : Element). small e.outline.w e.outline.h) q) ∙ z

-- ---- one link after another

-- the descriptor that begins at the place `at`, of n bytes
module _ (d : List ℕ) (at n : ℕ) (inside : at ≤ length d)
    (en : n ≡ descriptor_length (take (length d - at) (drop at d))) where
  len_is : n ≡ descriptor_length (drop at d)
  len_is = en ∙ ap descriptor_length (tail_is d at)

  pub ends_in : at + n ≤ length d
  unfolding descriptor_length
  ends_in = omega (arith, inside, len_is, length-drop at d)

  pub first_is : take (at + n - at) (drop at d) ≡ first_of (drop at d)
  unfolding first_of
  first_is = ap (λ m. take m (drop at d)) (add-sub_cancel_left at n ∙ len_is)

  pub rest_is : drop (at + n) d ≡ rest_of (drop at d)
  unfolding rest_of
  rest_is = sym (drop-drop n at d) ∙ ap (λ m. drop m (drop at d)) len_is

-- link i begins at the place `at`: the refusal from here on is the refusal,
-- and the links so far with those from here on are all
pub record Onward (d : List ℕ) (k : ℕ) (all : List Link) (i at : ℕ) : Type 0 where
  pub inside : at ≤ length d
  pub long : length all ≡ most_links
  pub refusal : refuse (link_tests (k - i) (drop at d)) (plain 0) ≡ refuse (link_tests k d) (plain 0)
  pub links : take i all ++ held_in (k - i) (drop at d) ≡ held_in k d

pub onward_start : (d : List ℕ) (k : ℕ) (all : List Link) → length all ≡ most_links → Onward d k all 0 0
onward_start d k all l =
    record {
      inside = omega arith;
      long = l;
      refusal = ap (λ n. refuse (link_tests n d) (plain 0)) (sub-zero k);
      links = ap (λ n. held_in n d) (sub-zero k);
    }

-- what a chain's reading promises
abbrev pub Promised : List ℕ → ℕ → Result (List Link) Refusal → Type 0
Promised d k r = ReadAs (refuse (link_tests k d) (plain 0)) k d r

-- a refusal promises no links
pub refused_as : (d : List ℕ) (k : ℕ) (r : Result (List Link) Refusal) (x : Refusal) → r ≡ Err x
    → told r ≡ refuse (link_tests k d) (plain 0) → Promised d k r
refused_as d k r x q e =
    record {
      answered = e;
      links = subst (λ (r : Result (List Link) Refusal). IfOk r (λ all. take k all ≡ held_in k d)) (sym q) tt;
    }

-- where it is done nothing of it is refused, and its links are those of the chain
pub read_passed : (d : List ℕ) (k : ℕ) (r : Result (List Link) Refusal) (all : List Link) → r ≡ Ok all
    → Promised d k r → (refuse (link_tests k d) (plain 0) ≡ plain 0) × (take k all ≡ held_in k d)
unfolding told
read_passed d k r all e p = (
  sym p.answered ∙ ap (λ (r : Result (List Link) Refusal). told r) e,
  IfOk-at_ok (λ (all : List Link). take k all ≡ held_in k d) e p.links,
)

module _ (d : List ℕ) (k : ℕ) (all : List Link) (i at : ℕ) (o : Onward d k all i at) where
  module _ (more : i < k) (n : ℕ) (en : n ≡ descriptor_length (take (length d - at) (drop at d))) where
    pub end_in_lem : at + n ≤ length d
    end_in_lem = ends_in d at n o.inside en

    rest_here : drop (at + n) d ≡ rest_of (drop at d)
    rest_here = rest_is d at n o.inside en

    left : suc (k - suc i) ≡ k - i
    left = omega arith

    same : k - suc i ≡ k - (i + 1)
    same = omega arith

    one_link : (b s : Bool) → well_made (first_of (drop at d)) ≡ b
        → small (wide_of (first_of (drop at d))) (high_of (first_of (drop at d))) ≡ s
        → refuse ((not b, 4) ∷ (not s, 6) ∷ link_tests (k - suc i) (rest_of (drop at d))) (plain 0)
        ≡ refuse (link_tests k d) (plain 0)
    unfolding link_tests
    one_link b s eb es =
        ap₂ (λ x y. refuse ((not x, 4) ∷ (not y, 6) ∷ link_tests (k - suc i) (rest_of (drop at d))) (plain 0))
        (sym eb) (sym es)
        ∙ ap (λ m. refuse (link_tests m (drop at d)) (plain 0)) left ∙ o.refusal

    -- what is read here
    here_read : (was : Result Link Refusal) → was ≡ link_read (take (at + n - at) (drop at d))
        → was ≡ link_read (first_of (drop at d))
    here_read was e = e ∙ ap link_read (first_is d at n o.inside en)

    -- what follows a link that is refused is not asked
    pub link_refused : (was : Result Link Refusal) → was ≡ link_read (take (at + n - at) (drop at d))
        → (r : Refusal) → was ≡ Err r → told was ≡ refuse (link_tests k d) (plain 0)
    unfolding told link_read
    link_refused was e r q =
        ap (λ (a : Result Link Refusal). told a) q
        ∙ read_refused _ _ _ r (sym (here_read was e) ∙ q) (link_tests (k - suc i) (rest_of (drop at d)))
        ∙ one_link _ _ refl refl

    -- one that is taken
    pub link_taken : (was : Result Link Refusal) → was ≡ link_read (take (at + n - at) (drop at d))
        → (link : Link) → was ≡ Ok link → k ≤ most_links → Onward d k (set all i link) (i + 1) (at + n)
    unfolding held_in link_read
    link_taken was e link q few =
        let t = read_taken _ _ _ link (sym (here_read was e) ∙ q) in
        record {
          inside = end_in_lem;
          long = length-set all i link ∙ o.long;
          refusal =
              ap₂ (λ m l. refuse (link_tests m l) (plain 0)) (sym same) rest_here
              ∙ one_link true true t.0 t.1.0;
          links =
              ap₂ (λ a b. a ++ b) (ap (λ m. take m (set all i link)) (add-one i)
              ∙ take-suc-set all i link (in_array o.long))
              (ap₂ (λ m l. held_in m l) (sym same) rest_here)
              ∙ append_assoc (take i all) (link ∷ []) (held_in (k - suc i) (rest_of (drop at d)))
              ∙ ap (λ e. take i all ++ (e ∷ held_in (k - suc i) (rest_of (drop at d)))) t.1.1
              ∙ ap (λ m. take i all ++ held_in m (drop at d)) left ∙ o.links;
        }
      where
        in_array : length all ≡ most_links → i < length all
        in_array l = omega arith

  -- after the last link
  module _ (last : k ≡ i) where
    none : 0 ≡ k - i
    none = omega arith

    over : (b : Bool) → ltb 0 (length (drop at d)) ≡ b
        → refuse ((b, 4) ∷ []) (plain 0) ≡ refuse (link_tests k d) (plain 0)
    unfolding link_tests
    over b e =
        ap (λ x. refuse ((x, 4) ∷ []) (plain 0)) (sym e)
        ∙ ap (λ m. refuse (link_tests m (drop at d)) (plain 0)) none ∙ o.refusal

    pub bytes_follow : at < length d → Promised d k (Err Shape)
    unfolding told told_refusal
    bytes_follow l =
        refused_as d k _ Shape refl
        (over true (lt-ltb 0 (length (drop at d)) (omega (arith, length-drop at d))))

    pub links_read : length d ≤ at → Promised d k (Ok all)
    unfolding told held_in
    links_read l =
        record {
          answered = over false (le-ltb 0 (length (drop at d)) (omega (arith, length-drop at d)));
          links =
              ap (λ m. take m all) last ∙ sym (append-nil (take i all))
              ∙ ap (λ m. take i all ++ held_in m (drop at d)) none ∙ o.links;
        }
