-- A call of hit-or-miss, as the prover reads its contract.
use Rattle.std.specs.Prelude.{ℕ, List, length}
use borrow.Fn.Kinds.{Dens, ended_of}
use denote.Triple.Clauses.{AtExit}
use contract.Lifetimes.{Lfts}
use Rattle.answer.specs.Refuse.{Test}
use Rattle.hit.specs.Hit.{hit_tests}
use Rattle.hit.proofs.hit_or_miss.Kinds as pair

-- its arguments, and the bytes of its target before and after
pub record HitCall : Type 0 where
  pub w : ℕ
  pub h : ℕ
  pub source : List ℕ
  pub hit : List ℕ
  pub miss : List ℕ
  pub before : List ℕ
  pub after : List ℕ

abbrev pub hit_call : (κs : Lfts 4) → Dens κs pair.ps → AtExit (ended_of 4 pair.ps pair.r) κs → HitCall
hit_call κs a e =
    record {
      w = a.0;
      h = a.1.0;
      source = a.1.1.0.now;
      hit = a.1.1.1.0.now;
      miss = a.1.1.1.1.0.now;
      before = a.1.1.1.1.1.0.now;
      after = e.1.1.1.1.1.0.now;
    }

abbrev pub tests_hit : HitCall → List Test
tests_hit c = hit_tests c.w c.h c.source c.hit c.miss (length c.before)
