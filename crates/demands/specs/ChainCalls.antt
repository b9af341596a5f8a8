-- A call of the check of a chain, as the prover reads its contract.
use Rattle.std.specs.Prelude.{ℕ, List}
use borrow.Fn.Kinds.{Dens}
use contract.Lifetimes.{Lfts}
use Rattle.chain.proofs.check_chain.Kinds as check

pub record CheckCall : Type 0 where
  pub element : List ℕ
  pub links : ℕ
  pub chain : List ℕ

abbrev pub check_call : (κs : Lfts 2) → Dens κs check.ps → CheckCall
check_call κs a = record { element = a.0.now; links = a.1.0; chain = a.1.1.0.now }
