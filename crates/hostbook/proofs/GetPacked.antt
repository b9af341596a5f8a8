-- What is found is small, so that it can be packed in one number.
use Prim.Native.Nat.{ℕ, ◌+◌, ◌*◌, ◌^◌, ◌<◌}
use mathlib.Core.Path.{◌≡◌, sym, ap, ◌∙◌}
use Rattle.std.specs.Prelude.{Result, Ok, Err}
use Rattle.answer.specs.declared.Refusal.{Refusal}
use mathlib.Core.List.{List}
use native.Mathlib.Omega.{arith}
use Rattle.answer.specs.Answer.{plain, told, told_refusal}
use Rattle.answer.specs.Packed.{packed}
use Rattle.share.specs.Maps.{Get}
use Rattle.book.specs.declared.Found.{Found}
use Rattle.book.specs.declared.Party.{Party}
use Rattle.book.specs.Book.{book_answer, place_found, length_found, FoundAt}
use Rattle.book.proofs.Calls.{found_small}
use Rattle.hostbook.specs.Get.{get_number}

module _ (b : List ℕ) (p : Party) (n : ℕ) (r : Result Found Refusal) (f : FoundAt b p n r) where
  pub get_packable : (at : Found) → r ≡ Ok at → (at.place < 2 ^ 16) × (at.length < 2 ^ 16)
  unfolding place_found length_found
  get_packable at e =
      let h = found_small b p n r f in
      let q = ap place_found e in
      let l = ap length_found e in
      (omega arith, omega arith)

  -- what is found, after the number 0
  pub found_packed : (at : Found) → r ≡ Ok at → at.place * 2 ^ 16 + at.length * 4294967296 ≡ get_number b p n
  unfolding get_number told packed plain place_found length_found
  found_packed at e =
      let number : 0 ≡ packed (book_answer b p (Get n)) =
      sym (ap (λ (r : Result Found Refusal). packed (told r)) e) ∙ ap packed f.answer in
      let place = sym (ap place_found e) ∙ f.place in
      let long = sym (ap length_found e) ∙ f.long in
      omega arith

  -- what is refused, with 0 for both
  pub refused_packed : (x : Refusal) → r ≡ Err x → (k : ℕ) → k ≡ packed (told_refusal x)
      → k ≡ get_number b p n
  unfolding get_number told place_found length_found
  refused_packed x e k q =
      let number = q ∙ sym (ap (λ (r : Result Found Refusal). packed (told r)) e) ∙ ap packed f.answer in
      let place = sym (ap place_found e) ∙ f.place in
      let long = sym (ap length_found e) ∙ f.long in
      omega arith
