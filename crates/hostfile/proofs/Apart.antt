-- What C gets of a read is taken apart again into its number, the kind, W and H.
use Prim.Native.Nat.{ℕ, ◌+◌, ◌*◌, ◌/◌, ◌^◌, ◌<◌}
use mathlib.Core.Path.{◌≡◌, ap, ◌∙◌}
use mathlib.Core.Bool.{cond}
use mathlib.Core.List.{List}
use native.Mathlib.Omega.{arith}
use borrow.Fn.Kinds.{Dens, res_t, ended_of}
use denote.Triple.Clauses.{AtExit}
use contract.Lifetimes.{Lfts}
use lib.Bits.{and_mask}
use lib.Dec.{lit<}
use lib.ListN.{length}
use Rattle.answer.specs.Answer.{plain, is_done}
use Rattle.answer.specs.Refuse.{refuse}
use Rattle.answer.proofs.Packed.{number_few, number_packed}
use Rattle.ech.specs.File.{reported_kind, pings_of, bins_of}
use Rattle.ech.specs.ReadWrite.{file_tests, read_answer}
use Rattle.ech.proofs.RoundTrip.{accepted}
use Rattle.picture.specs.declared.Depth.{Depth}
use Rattle.picture.specs.declared.Depth.TheVariants.{OneBit, EightBit}
use Rattle.netpbm.specs.File as pnm
use Rattle.netpbm.specs.ReadWrite as files
use Rattle.netpbm.proofs.Reading as pnm-reading
use Rattle.hostfile.specs.Read.{read_number, pnm_number}
use Rattle.hostfile.specs.Apart.{read_apart, read_told, pnm_told}
use Rattle.hostfile.proofs.qik_ech_read.Kinds as kinds
use Rattle.hostfile.proofs.qik_ech_read.Reads as reads
use Rattle.hostfile.proofs.qik_pbm_read.Kinds as pbm-kinds
use Rattle.hostfile.proofs.qik_pbm_read.Reads as pbm-reads
use Rattle.hostfile.proofs.qik_pgm_read.Kinds as pgm-kinds
use Rattle.hostfile.proofs.qik_pgm_read.Reads as pgm-reads
use Rattle.hostfile.proofs.ReadPacked.{Packable, packable_if}
use Rattle.hostfile.proofs.PnmPacked.{small_if}

-- ---- two bytes and two pairs of bytes side by side
told_apart : (n kind w h : ℕ) → n < 2 ^ 8 → Packable kind w h
    → read_apart (n + kind * 2 ^ 8 + w * 2 ^ 16 + h * 4294967296)
    ≡ record { number = n; kind = kind; w = w; h = h }
unfolding read_apart
told_apart n kind w h l p = λ i. record {
  number = number i;
  kind = kind_is i;
  w = pings i;
  h = bins i;
}
  where
    sum : ℕ
    sum = n + kind * 2 ^ 8 + w * 2 ^ 16 + h * 4294967296

    number : (read_apart sum).number ≡ n
    number = and_mask sum 8 ∙ omega (arith, l, p.0, p.1.0, p.1.1)

    kind_is : (read_apart sum).kind ≡ kind
    kind_is = and_mask (sum / 2 ^ 8) 8 ∙ omega (arith, l, p.0, p.1.0, p.1.1)

    pings : (read_apart sum).w ≡ w
    pings = and_mask (sum / 2 ^ 16) 16 ∙ omega (arith, l, p.0, p.1.0, p.1.1)

    bins : (read_apart sum).h ≡ h
    bins = and_mask (sum / 4294967296) 16 ∙ omega (arith, l, p.0, p.1.0, p.1.1)

pub read_apart_lem : (f t : List ℕ) → read_apart (read_number f t) ≡ read_told f t
unfolding read_number read_told read_answer
read_apart_lem f t =
    let ts = file_tests f (length t) in
    let done = is_done (read_answer f (length t)) in
    ap (λ n. read_apart (n + cond done (reported_kind f) 0 * 2 ^ 8 + cond done (pings_of f) 0 * 2 ^ 16
    + cond done (bins_of f) 0 * 4294967296)) (number_packed ts)
    ∙ told_apart (refuse ts (plain 0)).number _ _ _
    (number_few ts (lit< tt, (lit< tt, (lit< tt, (lit< tt, (lit< tt, tt))))))
    (packable_if done f (accepted f (length t)))

-- so of every number that the contract of `qik_ech_read` allows, as the prover reads it
pub qik_ech_read_apart : (κs : Lfts 2) (a : Dens κs kinds.ps) (r : (res_t kinds.r κs).Denot)
    (e : AtExit (ended_of 2 kinds.ps kinds.r) κs) → reads.Learnt κs a r e
    → read_apart r ≡ read_told a.0.now a.1.0.now
qik_ech_read_apart κs a r e p = ap read_apart p.0 ∙ read_apart_lem a.0.now a.1.0.now

-- ---- the same of PBM and PGM
pub pnm_apart : (depth : Depth) (f t : List ℕ) → read_apart (pnm_number depth f t) ≡ pnm_told depth f t
unfolding pnm_number pnm_told files.read_answer
pnm_apart depth f t =
    let ts = files.read_tests depth f (length t) in
    let done = is_done (files.read_answer depth f (length t)) in
    let w = cond done (pnm.pings_of depth f) 0 in
    let h = cond done (pnm.bins_of depth f) 0 in
    ap (λ n. read_apart (n + w * 2 ^ 16 + h * 4294967296))
    (number_packed ts ∙ no_kind (refuse ts (plain 0)).number)
    ∙ told_apart (refuse ts (plain 0)).number 0 w h
    (number_few ts (lit< tt, (lit< tt, (lit< tt, (lit< tt, tt)))))
    (small_if done (pnm.pings_of depth f) (pnm.bins_of depth f)
    (λ e. (pnm-reading.file_admitted depth f (length t) e).1.sized))
  where
    no_kind : (n : ℕ) → n ≡ n + 0 * 2 ^ 8
    no_kind n = omega arith

pub qik_pbm_read_apart : (κs : Lfts 2) (a : Dens κs pbm-kinds.ps) (r : (res_t pbm-kinds.r κs).Denot)
    (e : AtExit (ended_of 2 pbm-kinds.ps pbm-kinds.r) κs) → pbm-reads.Learnt κs a r e
    → read_apart r ≡ pnm_told OneBit a.0.now a.1.0.now
qik_pbm_read_apart κs a r e p = ap read_apart p.0 ∙ pnm_apart OneBit a.0.now a.1.0.now

pub qik_pgm_read_apart : (κs : Lfts 2) (a : Dens κs pgm-kinds.ps) (r : (res_t pgm-kinds.r κs).Denot)
    (e : AtExit (ended_of 2 pgm-kinds.ps pgm-kinds.r) κs) → pgm-reads.Learnt κs a r e
    → read_apart r ≡ pnm_told EightBit a.0.now a.1.0.now
qik_pgm_read_apart κs a r e p = ap read_apart p.0 ∙ pnm_apart EightBit a.0.now a.1.0.now
