-- A read taken apart again from the one number that C gets, as include/qiksavlut.h does it.
use Rattle.std.specs.Prelude.{ℕ, ◌-◌, ◌/◌, ◌^◌, cond, List, length}
use Rattle.std.specs.Int.Bits.{bit_and}
use Rattle.answer.specs.Answer.{is_done}
use Rattle.answer.specs.Apart.{byte_from}
use Rattle.ech.specs.File.{reported_kind, pings_of, bins_of}
use Rattle.ech.specs.ReadWrite.{read_answer}
use Rattle.picture.specs.declared.Depth.{Depth}
use Rattle.netpbm.specs.File as pnm
use Rattle.netpbm.specs.ReadWrite as files

pub record ReadTold : Type 0 where
  pub number : ℕ
  pub kind : ℕ
  pub w : ℕ
  pub h : ℕ

-- qik_read_number, qik_read_kind, qik_read_w and qik_read_h
unfoldable pub read_apart : ℕ → ReadTold
read_apart n =
    record {
      number = bit_and n (2 ^ 8 - 1);
      kind = byte_from 8 n;
      w = bit_and (n / 2 ^ 16) (2 ^ 16 - 1);
      h = bit_and (n / 4294967296) (2 ^ 16 - 1);
    }

-- what the read of the file f into the target t is told as; a refused read gives 0 for kind, W and H
unfoldable pub read_told : List ℕ → List ℕ → ReadTold
read_told f t =
    let done = is_done (read_answer f (length t)) in
    record {
      number = (read_answer f (length t)).number;
      kind = cond done (reported_kind f) 0;
      w = cond done (pings_of f) 0;
      h = cond done (bins_of f) 0;
    }

-- the same of a PBM or PGM file, which has no kind
unfoldable pub pnm_told : Depth → List ℕ → List ℕ → ReadTold
pnm_told depth f t =
    let done = is_done (files.read_answer depth f (length t)) in
    record {
      number = (files.read_answer depth f (length t)).number;
      kind = 0;
      w = cond done (pnm.pings_of depth f) 0;
      h = cond done (pnm.bins_of depth f) 0;
    }
