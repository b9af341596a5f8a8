-- What a refusal prints.
use Prim.Native.Nat.{ℕ, ◌≤◌, ◌<◌}
use mathlib.Core.Path.{◌≡◌, refl, sym, ap, ap₂, ◌∙◌}
use mathlib.Core.Bool.{false, cond, ◌||◌}
use mathlib.Core.List.{List, []}
use native.Mathlib.Omega.{arith}
use borrow.Author.Tests.{lt-ltb, le-ltb, eq-eqb, ne_eqb}
use lib.Dec.{ltb, eqb}
use lib.ListN.{length}
use Rattle.answer.specs.declared.Told.{Told}
use Rattle.answer.specs.Answer.{Answer, told}
use Rattle.text.specs.Text.{refused_line}
use Rattle.text.proofs.Longest.{refused_most}
use Rattle.work.specs.Prints.{most_refused, refusal_of, over}
use Rattle.work.proofs.Refusals.{number_few}

abbrev Says : Told → List ℕ → ℕ → List ℕ → Type 0
Says a t k u = (k ≡ length (refusal_of a (length t))) × (u ≡ over (refusal_of a (length t)) t)

-- the line, or none, put before all
said : (a : Told) (t l : List ℕ) (k : ℕ) (u : List ℕ)
    → refusal_of a (length t) ≡ l → k ≡ length l → u ≡ over l t → Says a t k u
said a t l k u e ek eu = (ek ∙ ap length (sym e), eu ∙ ap (λ l. over l t) (sym e))

module _ (no : Answer) (t : List ℕ) (x : Told) (ex : x ≡ told no) where
  number_is : x.number ≡ (told no).number
  number_is = ap (λ (y : Told). y.number) ex

  pub says_room : x.number ≡ 8 → Says (told no) t 0 t
  unfolding refusal_of
  says_room e =
      said (told no) t [] 0 t
      (ap (λ b. cond (b || ltb (length t) most_refused) [] (refused_line (told no).number))
      (eq-eqb _ _ (sym number_is ∙ e))) refl refl

  module _ (ne : x.number ≡ 8 → ⊥) where
    not_room : eqb (told no).number 8 ≡ false
    not_room = ne_eqb _ _ (λ e. ne (number_is ∙ e))

    pub says_short : length t < most_refused → Says (told no) t 0 t
    unfolding refusal_of
    says_short l =
        said (told no) t [] 0 t
        (ap₂ (λ a b. cond (a || b) [] (refused_line (told no).number)) not_room (lt-ltb _ _ l)) refl refl

    pub says_line : most_refused ≤ length t → (k : ℕ) (u : List ℕ) → k ≡ length (refused_line x.number)
        → u ≡ over (refused_line x.number) t → Says (told no) t k u
    unfolding refusal_of
    says_line l k u ek eu =
        said (told no) t (refused_line x.number) k u
        (ap₂ (λ a b. cond (a || b) [] (refused_line (told no).number)) not_room (le-ltb _ _ l)
        ∙ ap refused_line (sym number_is)) ek eu

  pub line_fits : most_refused ≤ length t → length (refused_line x.number) ≤ length t
  line_fits l = omega (arith, refused_most x.number (omega (arith, number_is, number_few no)))
