-- Each number below the last is asked in turn, until one is not well made.
-- The numbers that are asked are those of the test over all numbers.
use Rattle.std.proofs.Common.{rules, ◌≡◌, ◌<◌, ℕ, Bool, true, false, sym, ◌∙◌, ap, refl, arith, length}
use Rattle.std.proofs.Common.{get_or, MatchBool}
use Rattle.std.specs.List.{range_with_len, AllWithin, HoldsAt}
use Rattle.std.proofs.lemmas.Iterator.{cases_from_all, YieldsList-from_range}
use Rattle.std.proofs.lemmas.List.FromFn.{length-range_with_len, get_or-range_with_len}
use Rattle.basics.specs.Tests.{all}
use Rattle.basics.proofs.Tests.{all_of, all_stop}
use Rattle.share.specs.Share.{entry_made}
use Rattle.share.proofs.entries_made.Goals as goal

-- number k of those that are asked
asked : (N k : ℕ) → k < N → k ≡ get_or (range_with_len 0 N) k 0
asked N k l = let e = get_or-range_with_len 0 N k 0 l in omega arith

all_by : (p : ℕ → Bool) (N : ℕ) (r : Bool)
    → MatchBool r (AllWithin (λ k. p k ≡ true) (range_with_len 0 N) 0 (length (range_with_len 0 N)))
    ((k : ℕ) × (k < length (range_with_len 0 N)) × HoldsAt (λ k. p k ≡ false) (range_with_len 0 N) k)
    → r ≡ all p N
all_by p N true h =
    let n = length-range_with_len 0 N in
    sym (all_of p N (λ k l. ap p (asked N k l) ∙ h k 0 (omega arith) (omega arith)))
all_by p N false h =
    let n = length-range_with_len 0 N in
    let l : h.0 < N = omega arith in
    sym (all_stop p h.0 N l (ap p (asked N h.0 l) ∙ h.2 0))

pub returns : goal.returns
returns c = let a = c.args in
    all_by (entry_made a.numbers a.s.now) a.numbers _
    (cases_from_all _ _ _ (λ k. entry_made a.numbers a.s.now k ≡ true)
    (λ k. entry_made a.numbers a.s.now k ≡ false) c.all.ensures.ran
    (YieldsList-from_range 0 a.numbers a.numbers refl (omega arith))
    (λ x q k. search rules) (λ x q k. search rules))
