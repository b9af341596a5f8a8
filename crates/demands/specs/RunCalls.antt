-- Calls of chained erosion and dilation, and of the finder of the last picture,
-- as the prover reads their contracts.
use Rattle.std.specs.Prelude.{ℕ, min, List, length}
use borrow.Fn.Kinds.{Dens, ended_of}
use denote.Triple.Clauses.{AtExit}
use contract.Lifetimes.{Lfts}
use Rattle.answer.specs.Refuse.{Test}
use Rattle.picture.specs.declared.Depth.{Depth}
use Rattle.chained.proofs.erode.Kinds as run
use Rattle.finder.proofs.last_picture.Kinds as find
use Rattle.demands.specs.Chains.{run_tests}

-- a chained run: its arguments, and its two work buffers before and after
pub record RunCall : Type 0 where
  pub depth : Depth
  pub w : ℕ
  pub h : ℕ
  pub source : List ℕ
  pub element : List ℕ
  pub links : ℕ
  pub chain : List ℕ
  pub first : List ℕ
  pub second : List ℕ
  pub first_after : List ℕ
  pub second_after : List ℕ

abbrev pub run_call : (κs : Lfts 5) → Dens κs run.ps → AtExit (ended_of 5 run.ps run.r) κs → RunCall
run_call κs a e =
    record {
      depth = a.0;
      w = a.1.0;
      h = a.1.1.0;
      source = a.1.1.1.0.now;
      element = a.1.1.1.1.0.now;
      links = a.1.1.1.1.1.0;
      chain = a.1.1.1.1.1.1.0.now;
      first = a.1.1.1.1.1.1.1.0.now;
      second = a.1.1.1.1.1.1.1.1.0.now;
      first_after = e.1.1.1.1.1.1.1.0.now;
      second_after = e.1.1.1.1.1.1.1.1.0.now;
    }

abbrev pub room_run : RunCall → ℕ
room_run c = min (length c.first) (length c.second)

abbrev pub tests_run : RunCall → List Test
tests_run c = run_tests c.depth c.w c.h c.source c.element c.links c.chain (room_run c)

-- a search for the last picture: the two work buffers, and the numbers of the run
pub record FindCall : Type 0 where
  pub first : List ℕ
  pub second : List ℕ
  pub depth : Depth
  pub w : ℕ
  pub h : ℕ
  pub links : ℕ

abbrev pub find_call : (κs : Lfts 1) → Dens κs find.ps → FindCall
find_call κs a =
    record {
      first = a.0.now;
      second = a.1.0.now;
      depth = a.1.1.0;
      w = a.1.1.1.0;
      h = a.1.1.1.1.0;
      links = a.1.1.1.1.1.0;
    }
