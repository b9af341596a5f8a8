-- What is found is small, so that it can be packed in one number; and what is packed of each outcome.
use Prim.Native.Nat.{ℕ, ◌+◌, ◌*◌, ◌^◌, ◌≤◌}
use mathlib.Core.Path.{◌≡◌, refl, sym, ap, ap₂, ◌∙◌, subst}
use mathlib.Core.Bool.{Bool, true, false, cond}
use mathlib.Core.List.{List}
use native.Mathlib.Omega.{arith}
use lib.ListN.{length}
use Rattle.std.specs.Prelude.{Result, Ok, Err}
use Rattle.answer.specs.declared.Refusal.{Refusal}
use Rattle.answer.specs.declared.Refusal.TheVariants.{NoChain}
use Rattle.answer.specs.declared.Told.{Told}
use Rattle.answer.specs.Answer.{told, is_done}
use Rattle.answer.specs.Packed.{packed}
use Rattle.answer.proofs.Variants.{refused_undone}
use Rattle.answer.proofs.Lent.{all_done}
use Rattle.chainfor.specs.declared.Found.{Found}
use Rattle.chainfor.specs.declared.Unfound.{Unfound}
use Rattle.chainfor.specs.declared.Unfound.TheVariants.{Refused, GaveUp}
use Rattle.chainfor.specs.Find.{FoundAs, told_found, gives_up, gave_up, find_answer, links_for, chain_for}
use Rattle.chainfor.proofs.Finding.{found_few}
use Rattle.hostfind.specs.Find.{flag_of, find_number}

pub flag_few : (b : Bool) → flag_of b ≤ 1
flag_few true = omega arith
flag_few false = omega arith

module _ (d : List ℕ) (room : ℕ) (r : Result Found Unfound) (so : FoundAs d room r) where
  outcome : {o : Result Found Unfound} → r ≡ o → FoundAs d room o
  outcome e = subst (λ (o : Result Found Unfound). FoundAs d room o) e so

  pub find_few : (f : Found) → r ≡ Ok f → (f.links ≤ 5) × (f.bytes ≤ 60)
  find_few f e = found_few d room f (outcome e)

  -- from the answer, and whether the search gave up
  module _ (t : Told) (g b : Bool) (et : t ≡ find_answer d room) (eb : is_done t ≡ b)
      (eg : g ≡ gave_up d) where
    by_parts : (k l n : ℕ) → k ≡ packed t → l ≡ cond b (links_for d) 0 + flag_of g
        → n ≡ cond b (length (chain_for d)) 0
        → k + l * 2 ^ 16 + n * 4294967296 ≡ find_number d room
    unfolding find_number
    by_parts k l n ek el en =
        let done : b ≡ is_done (find_answer d room) = sym eb ∙ ap is_done et in
        let number = ek ∙ ap packed et in
        let links = el ∙ ap₂ (λ b g. cond b (links_for d) 0 + flag_of g) done eg in
        let bytes = en ∙ ap (λ b. cond b (length (chain_for d)) 0) done in
        λ i. number i + links i * 2 ^ 16 + bytes i * 4294967296

  pub packed_found : (f : Found) → r ≡ Ok f → (k : ℕ) → k ≡ packed (told {A = Unit {0}} (Ok (tt {0})))
      → k + f.links * 2 ^ 16 + f.bytes * 4294967296 ≡ find_number d room
  unfolding told told_found gives_up
  packed_found f e k ek =
      let s = outcome e in
      by_parts _ false true s.answered all_done s.tried k f.links f.bytes ek
      (omega (arith, s.found.0)) s.found.1

  pub packed_refused : (x : Refusal) → r ≡ Err (Refused x) → (k : ℕ)
      → k ≡ packed (told {A = Unit {0}} (Err x)) → k + 0 * 2 ^ 16 + 0 * 4294967296 ≡ find_number d room
  unfolding told told_found gives_up
  packed_refused x e k ek =
      let s = outcome e in
      by_parts _ false false s.answered (refused_undone x) s.tried k 0 0 ek refl refl

  pub packed_given_up : r ≡ Err GaveUp → (k : ℕ)
      → k ≡ packed (told {A = Unit {0}} (Err NoChain)) → k + 1 * 2 ^ 16 + 0 * 4294967296 ≡ find_number d room
  unfolding told told_found gives_up
  packed_given_up e k ek =
      let s = outcome e in
      by_parts _ true false s.answered (refused_undone NoChain) s.tried k 1 0 ek refl refl
