-- What C gets of a get is taken apart again into its number, the place and the length.
use Prim.Native.Nat.{ℕ, ◌+◌, ◌*◌, ◌/◌, ◌^◌, ◌<◌}
use mathlib.Core.Path.{◌≡◌, ap, ◌∙◌}
use mathlib.Core.List.{List}
use native.Mathlib.Omega.{arith}
use borrow.Fn.Kinds.{Dens, res_t, ended_of}
use denote.Triple.Clauses.{AtExit}
use contract.Lifetimes.{Lfts}
use lib.Bits.{and_mask}
use lib.Dec.{lit<}
use lib.ListN.{length}
use Rattle.answer.specs.Answer.{plain}
use Rattle.answer.specs.Refuse.{refuse}
use Rattle.answer.proofs.Packed.{number_few, number_packed}
use Rattle.share.specs.Maps.{Get}
use Rattle.book.specs.declared.Party.{Party}
use Rattle.book.specs.declared.Party.TheVariants.{Display, Export}
use Rattle.book.specs.Book.{book_tests, book_answer, book_handed, book_place}
use Rattle.book.proofs.Calls.{handed_small}
use Rattle.hostbook.specs.Get.{get_number}
use Rattle.hostbook.specs.Apart.{get_apart, get_told}
use Rattle.hostbook.proofs.qik_display_get.Kinds as display-kinds
use Rattle.hostbook.proofs.qik_display_get.Reads as display-reads
use Rattle.hostbook.proofs.qik_export_get.Kinds as export-kinds
use Rattle.hostbook.proofs.qik_export_get.Reads as export-reads

-- a byte, and two pairs of bytes, side by side
told_apart : (n place long : ℕ) → n < 2 ^ 8 → place < 2 ^ 16 → long < 2 ^ 16
    → get_apart (n + place * 2 ^ 16 + long * 4294967296) ≡ record { number = n; place = place; long = long }
unfolding get_apart
told_apart n place long small p l = λ i. record { number = number i; place = place_is i; long = long_is i }
  where
    sum : ℕ
    sum = n + place * 2 ^ 16 + long * 4294967296

    number : (get_apart sum).number ≡ n
    number = and_mask sum 8 ∙ omega (arith, small, p, l)

    place_is : (get_apart sum).place ≡ place
    place_is = and_mask (sum / 2 ^ 16) 16 ∙ omega (arith, small, p, l)

    long_is : (get_apart sum).long ≡ long
    long_is = and_mask (sum / 4294967296) 16 ∙ omega (arith, small, p, l)

pub get_apart_lem : (b : List ℕ) (p : Party) (n : ℕ) → get_apart (get_number b p n) ≡ get_told b p n
unfolding get_number get_told book_answer
get_apart_lem b p n =
    let ts = book_tests b p (Get n) in
    let h = handed_small b p n in
    ap (λ k. get_apart (k + book_place b p n * 2 ^ 16 + length (book_handed b p (Get n)) * 4294967296))
    (number_packed ts)
    ∙ told_apart (refuse ts (plain 0)).number (book_place b p n) (length (book_handed b p (Get n)))
    (number_few ts (lit< tt, (lit< tt, tt))) (omega arith) (omega arith)

-- so of every number that the contracts of `qik_display_get` and `qik_export_get` allow,
-- as the prover reads them
pub qik_display_get_apart : (κs : Lfts 1) (a : Dens κs display-kinds.ps)
    (r : (res_t display-kinds.r κs).Denot)
    (e : AtExit (ended_of 1 display-kinds.ps display-kinds.r) κs) → display-reads.Learnt κs a r e
    → get_apart r ≡ get_told a.0.now Display a.1.0
qik_display_get_apart κs a r e p = ap get_apart p ∙ get_apart_lem a.0.now Display a.1.0

pub qik_export_get_apart : (κs : Lfts 1) (a : Dens κs export-kinds.ps) (r : (res_t export-kinds.r κs).Denot)
    (e : AtExit (ended_of 1 export-kinds.ps export-kinds.r) κs) → export-reads.Learnt κs a r e
    → get_apart r ≡ get_told a.0.now Export a.1.0
qik_export_get_apart κs a r e p = ap get_apart p ∙ get_apart_lem a.0.now Export a.1.0
