-- Calls of the writers and of the readers of PBM and PGM files, as the prover reads their contracts.
use Rattle.std.specs.Prelude.{ℕ, List, length}
use borrow.Fn.Kinds.{Dens, ended_of}
use denote.Triple.Clauses.{AtExit}
use contract.Lifetimes.{Lfts}
use Rattle.answer.specs.Refuse.{Test}
use Rattle.picture.specs.declared.Depth.{Depth}
use Rattle.netpbm.specs.ReadWrite.{read_tests, write_tests}
use Rattle.pnmwrite.proofs.write_pbm.Kinds as write
use Rattle.netpbm.proofs.read_pbm.Kinds as read

-- the arguments of each, and its target before and after
pub record PnmWrite : Type 0 where
  pub w : ℕ
  pub h : ℕ
  pub source : List ℕ
  pub before : List ℕ
  pub after : List ℕ

abbrev pub pnm_write : (κs : Lfts 2) → Dens κs write.ps → AtExit (ended_of 2 write.ps write.r) κs → PnmWrite
pnm_write κs a e =
    record {
      w = a.0;
      h = a.1.0;
      source = a.1.1.0.now;
      before = a.1.1.1.0.now;
      after = e.1.1.1.0.now;
    }

abbrev pub tests_pnm_write : Depth → PnmWrite → List Test
tests_pnm_write depth c = write_tests depth c.w c.h c.source (length c.before)

pub record PnmRead : Type 0 where
  pub file : List ℕ
  pub before : List ℕ
  pub after : List ℕ

abbrev pub pnm_read : (κs : Lfts 2) → Dens κs read.ps → AtExit (ended_of 2 read.ps read.r) κs → PnmRead
pnm_read κs a e = record { file = a.0.now; before = a.1.0.now; after = e.1.0.now }

abbrev pub tests_pnm_read : Depth → PnmRead → List Test
tests_pnm_read depth d = read_tests depth d.file (length d.before)
