-- What C gets of a search for a chain is taken apart again into its number, the links and the bytes.
use Prim.Native.Nat.{ℕ, ◌+◌, ◌*◌, ◌/◌, ◌^◌, ◌<◌, ◌≤◌}
use mathlib.Core.Path.{◌≡◌, ap, ◌∙◌}
use mathlib.Core.Bool.{Bool, true, false, cond}
use mathlib.Core.List.{List}
use native.Mathlib.Omega.{arith}
use borrow.Fn.Kinds.{Dens, res_t, ended_of}
use denote.Triple.Clauses.{AtExit}
use contract.Lifetimes.{Lfts}
use lib.Bits.{and_mask}
use lib.Dec.{lit<}
use lib.ListN.{length}
use Rattle.answer.specs.Answer.{plain, is_done}
use Rattle.answer.specs.Refuse.{refuse}
use Rattle.answer.proofs.Packed.{number_few, number_packed}
use Rattle.chainfor.specs.Find.{find_tests, find_answer, gave_up}
use Rattle.chainfor.proofs.Finding.{chain_few}
use Rattle.hostfind.specs.Find.{links_told, bytes_told, find_number}
use Rattle.hostfind.specs.Apart.{find_apart, find_told}
use Rattle.hostfind.proofs.Packed.{flag_few}
use Rattle.hostfind.proofs.qik_find_chain.Kinds as kinds
use Rattle.hostfind.proofs.qik_find_chain.Reads as reads

-- a byte, and two pairs of bytes, side by side
told_apart : (n links bytes : ℕ) → n < 2 ^ 8 → links < 2 ^ 16 → bytes < 2 ^ 16
    → find_apart (n + links * 2 ^ 16 + bytes * 4294967296)
    ≡ record { number = n; links = links; bytes = bytes }
unfolding find_apart
told_apart n links bytes small p l = λ i. record {
  number = number i;
  links = links_are i;
  bytes =
      bytes_are i;
}
  where
    sum : ℕ
    sum = n + links * 2 ^ 16 + bytes * 4294967296

    number : (find_apart sum).number ≡ n
    number = and_mask sum 8 ∙ omega (arith, small, p, l)

    links_are : (find_apart sum).links ≡ links
    links_are = and_mask (sum / 2 ^ 16) 16 ∙ omega (arith, small, p, l)

    bytes_are : (find_apart sum).bytes ≡ bytes
    bytes_are = and_mask (sum / 4294967296) 16 ∙ omega (arith, small, p, l)

held : (b : Bool) {n m : ℕ} → n ≤ m → cond b n 0 ≤ m
held true h = h
held false h = omega arith

pub find_apart_lem : (d : List ℕ) (room : ℕ) → find_apart (find_number d room) ≡ find_told d room
unfolding find_number find_told find_answer find_tests
find_apart_lem d room =
    let ts = find_tests d room in
    let h = chain_few d in
    let f = flag_few (gave_up d) in
    let l = held (is_done (find_answer d room)) h.0 in
    let b = held (is_done (find_answer d room)) h.1 in
    ap (λ k. find_apart (k + links_told d room * 2 ^ 16 + bytes_told d room * 4294967296)) (number_packed ts)
    ∙ told_apart (refuse ts (plain 0)).number (links_told d room) (bytes_told d room)
    (number_few ts (lit< tt, (lit< tt, (lit< tt, tt)))) (omega (arith, l, f)) (omega (arith, b))

-- so of every number that the contract of `qik_find_chain` allows, as the prover reads it
pub qik_find_chain_apart : (κs : Lfts 2) (a : Dens κs kinds.ps) (r : (res_t kinds.r κs).Denot)
    (e : AtExit (ended_of 2 kinds.ps kinds.r) κs) → reads.Learnt κs a r e
    → find_apart r ≡ find_told a.0.now (length a.1.0.now)
qik_find_chain_apart κs a r e p = ap find_apart p.0 ∙ find_apart_lem a.0.now (length a.1.0.now)
