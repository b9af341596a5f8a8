-- Calls of the writer and of the reader of files, as the prover reads their contracts.
use Rattle.std.specs.Prelude.{ℕ, List, length}
use borrow.Fn.Kinds.{Dens, ended_of}
use denote.Triple.Clauses.{AtExit}
use contract.Lifetimes.{Lfts}
use Rattle.answer.specs.Refuse.{Test}
use Rattle.ech.specs.ReadWrite.{file_tests, write_tests}
use Rattle.echwrite.proofs.write_ech.Kinds as write
use Rattle.ech.proofs.read_ech.Kinds as read

-- the arguments of each, and its target before and after
pub record WriteCall : Type 0 where
  pub kind : ℕ
  pub w : ℕ
  pub h : ℕ
  pub source : List ℕ
  pub before : List ℕ
  pub after : List ℕ

abbrev pub write_call : (κs : Lfts 2) → Dens κs write.ps → AtExit (ended_of 2 write.ps write.r) κs → WriteCall
write_call κs a e =
    record {
      kind = a.0;
      w = a.1.0;
      h = a.1.1.0;
      source = a.1.1.1.0.now;
      before = a.1.1.1.1.0.now;
      after = e.1.1.1.1.0.now;
    }

abbrev pub tests_write : WriteCall → List Test
tests_write c = write_tests c.kind c.w c.h c.source (length c.before)

pub record ReadCall : Type 0 where
  pub file : List ℕ
  pub before : List ℕ
  pub after : List ℕ

abbrev pub read_call : (κs : Lfts 2) → Dens κs read.ps → AtExit (ended_of 2 read.ps read.r) κs → ReadCall
read_call κs a e = record { file = a.0.now; before = a.1.0.now; after = e.1.0.now }

abbrev pub tests_read : ReadCall → List Test
tests_read d = file_tests d.file (length d.before)
