-- A sum as it is written and checked, refusal by refusal.
use Prim.Native.Nat.{ℕ, ◌*◌, ◌≤◌, ◌<◌, min}
use mathlib.Core.Path.{◌≡◌, sym, ap, ap₂, ◌∙◌}
use mathlib.Core.Bool.{true, false, cond, not}
use mathlib.Core.List.{List, ◌++◌}
use native.Mathlib.Omega.{arith}
use native.Mathlib.Nat.{le_refl}
use borrow.Author.Tests.{lt-ltb, le-ltb}
use lib.ListN.{length, take, drop}
use lib.Seq.{length-take-le, take_all}
use Rattle.std.specs.Prelude.{Ok, Err}
use Rattle.std.specs.Result.{is_ok}
use Rattle.answer.specs.Answer.{Answer, told, plain, is_done}
use Rattle.chainfor.proofs.Search.{ok_is_done}
use Rattle.answer.specs.Lent.{unless_refused}
use Rattle.answer.proofs.Lent.{not_done, all_done}
use Rattle.basics.proofs.Lists.{length_firsts}
use Rattle.chain.specs.Reading.{checked}
use Rattle.takeapart.specs.declared.Way.{Way}
use Rattle.takeapart.specs.Sum.{sum_byte, sum_bytes}
use Rattle.chainfor.specs.declared.Found.{Found}
use Rattle.chainfor.specs.declared.Unfound.{Unfound}
use Rattle.chainfor.specs.Find.{sum_links, sum_chain, sums, told_found, gives_up}
use Rattle.chainfor.specs.Steps.Summed.{sum_answer, SumAs, sum_left}

-- ---- how much there is
module _ (w : Way) where
  pub sum_few : sum_links w ≤ 5
  unfolding sum_links
  sum_few = omega arith

  pub sum_sixty : sum_links w * 12 ≤ 60
  sum_sixty = omega (arith, sum_few)

  bytes_long : length (sum_bytes w) ≡ 60
  unfolding sum_bytes
  bytes_long = length_firsts (sum_byte w) 60

  pub sum_length : length (sum_chain w) ≡ sum_links w * 12
  unfolding sum_chain
  sum_length = length-take-le (sum_links w * 12) (sum_bytes w) (omega (arith, sum_sixty, bytes_long))

  pub sum_short : length (sum_chain w) ≤ 60
  sum_short = omega (arith, sum_length, sum_sixty)

  pub sum_room : (work : List ℕ) (k : ℕ) → work ≡ sum_bytes w → k ≡ min w.depth 5 → k * 12 ≤ length work
  sum_room work k ew ek =
      let l : length work ≡ 60 = ap length ew ∙ bytes_long in omega (arith, l, ek)

  pub sum_cut : (work : List ℕ) (k : ℕ) → work ≡ sum_bytes w → k ≡ min w.depth 5
      → k * 12 ≡ length (take (k * 12) work)
  sum_cut work k ew ek = sym (length-take-le (k * 12) work (sum_room work k ew ek))

  -- what was copied
  pub sum_copied : (src u t : List ℕ) → src ≡ sum_chain w → u ≡ take (length src) src ++ drop (length src) t
      → u ≡ sum_chain w ++ drop (length (sum_chain w)) t
  sum_copied src u t es eu =
      eu ∙ ap (λ (l : List ℕ). take (length l) l ++ drop (length l) t) es
      ∙ ap (λ (l : List ℕ). l ++ drop (length (sum_chain w)) t)
      (take_all (length (sum_chain w)) (sum_chain w) (le_refl (length (sum_chain w))))

  -- the links as they were counted and written
  module _ (work : List ℕ) (k n : ℕ) (ew : work ≡ sum_bytes w) (ek : k ≡ min w.depth 5)
      (en : n ≡ k * 12) where
    pub sum_links_lem : k ≡ sum_links w
    unfolding sum_links
    sum_links_lem = ek

    pub sum_chain_lem : take n work ≡ sum_chain w
    unfolding sum_chain
    sum_chain_lem = ap₂ take (en ∙ ap (λ x. x * 12) sum_links_lem) ew

    pub sum_bytes_are : n ≡ length (sum_chain w)
    sum_bytes_are = en ∙ ap (λ x. x * 12) sum_links_lem ∙ sym sum_length

    pub sum_fits : (d : List ℕ) (said : Answer) → told said ≡ checked d k (take n work)
        → is_ok said ≡ sums d w
    unfolding sums
    sum_fits d said es = ok_is_done said ∙ ap is_done (es ∙ ap₂ (checked d) sum_links_lem sum_chain_lem)

-- ---- the answer
module _ (d : List ℕ) (w : Way) (room : ℕ) where
  pub sum_none : sums d w ≡ false → sum_answer d w room ≡ plain 18
  unfolding sum_answer
  sum_none e = simp e

  pub sum_cramped : sums d w ≡ true → room < length (sum_chain w) → sum_answer d w room ≡ plain 8
  unfolding sum_answer
  sum_cramped e h = simp (e, lt-ltb room (length (sum_chain w)) h)

  pub sum_done : sums d w ≡ true → length (sum_chain w) ≤ room → sum_answer d w room ≡ plain 0
  unfolding sum_answer
  sum_done e h = simp (e, le-ltb room (length (sum_chain w)) h)

-- ---- the outcome
module _ (d t : List ℕ) (w : Way) where
  pub sum_refused_so : (u : Unfound) (n : ℕ) → 0 < n → sum_answer d w (length t) ≡ plain n
      → told_found (Err u) ≡ plain n → gives_up (Err u) ≡ not (sums d w)
      → SumAs d w (length t) (Err u) × (t ≡ sum_left d w t)
  unfolding sum_left unless_refused
  sum_refused_so u n h e a g =
      let f = ap is_done e ∙ not_done n h in (
        record { answered = a ∙ sym e; found = tt; tried = g },
        sym (ap (λ q. cond q (sum_chain w ++ drop (length (sum_chain w)) t) t) f),
      )

  pub sum_done_so : (u : List ℕ) (f : Found) → sum_answer d w (length t) ≡ plain 0
      → f.links ≡ sum_links w → f.bytes ≡ length (sum_chain w) → false ≡ not (sums d w)
      → u ≡ sum_chain w ++ drop (length (sum_chain w)) t
      → SumAs d w (length t) (Ok f) × (u ≡ sum_left d w t)
  unfolding sum_left unless_refused told_found gives_up
  sum_done_so u f e l b g v =
      let q = ap is_done e ∙ all_done in (
        record { answered = sym e; found = (l, b); tried = g },
        v ∙ sym (ap (λ q. cond q (sum_chain w ++ drop (length (sum_chain w)) t) t) q),
      )
