-- A call of the nesting of regions, as the prover reads its contract.
use Rattle.std.specs.Prelude.{ℕ, List, ◌≡◌, length}
use borrow.Fn.Kinds.{Dens, ended_of}
use denote.Triple.Clauses.{AtExit}
use contract.Lifetimes.{Lfts}
use Rattle.answer.specs.Refuse.{Test}
use Rattle.picture.specs.declared.Depth.TheVariants.{OneBit}
use Rattle.nesting.specs.Nesting.{nest_tests, OfRegions}
use Rattle.nesting.proofs.nest.Kinds as nest
use Rattle.demands.specs.PointsAlone.{SamePoints}

-- its arguments, and the numbers of its list before and after
pub record NestCall : Type 0 where
  pub w : ℕ
  pub h : ℕ
  pub source : List ℕ
  pub before : List ℕ
  pub after : List ℕ

abbrev pub nest_call : (κs : Lfts 2) → Dens κs nest.ps → AtExit (ended_of 2 nest.ps nest.r) κs → NestCall
nest_call κs a e =
    record {
      w = a.0;
      h = a.1.0;
      source = a.1.1.0.now;
      before = a.1.1.1.0.now;
      after = e.1.1.1.0.now;
    }

-- of the R that gives each node of its picture the first of its region
abbrev pub ByRegions : NestCall → ((ℕ → ℕ) → Type 0) → Type 0
ByRegions c P = OfRegions c.source c.w c.h P

abbrev pub tests_nest : (ℕ → ℕ) → NestCall → List Test
tests_nest R c = nest_tests R c.w c.h (length c.source) (length c.before)

-- two calls that are the same but for what stands in the padding of their sources
pub record RepaddedNest (c d : NestCall) : Type 0 where
  pub pings : c.w ≡ d.w
  pub bins : c.h ≡ d.h
  pub source : SamePoints OneBit c.w c.h c.source d.source
  pub list : c.before ≡ d.before
