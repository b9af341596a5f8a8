-- The refusals: none is done, and but for a split dx and dy are 0.
use mathlib.Core.Path.{◌≡◌, refl, sym, ap, ◌∙◌}
use mathlib.Core.Bool.{true, false}
use lib.IntN.{pos}
use Prim.Native.Nat.{ℕ}
use Rattle.answer.specs.declared.Refusal.{Refusal}
use Rattle.answer.specs.declared.Refusal.TheVariants.{Size, Source, Pad, Shape}
use Rattle.answer.specs.declared.Refusal.TheVariants.{Overlap, Chain, Split, Room, Form, Job, Netpbm}
use Rattle.answer.specs.declared.Refusal.TheVariants.{Marker, Full, Absent, Retired, Nest, Book}
use Rattle.answer.specs.declared.Refusal.TheVariants.{NoChain}
use Rattle.std.specs.Prelude.{Result, Ok, Err}
use Rattle.answer.specs.Answer.{plain, told, told_refusal, is_done}

pub plain_offset : (a : Refusal)
    → ((x y : ℕ) → a ≡ Split x y → ⊥)
    → (pos 0 ≡ (told_refusal a).dx) × (pos 0 ≡ (told_refusal a).dy)
unfolding told_refusal plain
plain_offset Size k = (refl, refl)
plain_offset Source k = (refl, refl)
plain_offset Pad k = (refl, refl)
plain_offset Shape k = (refl, refl)
plain_offset Overlap k = (refl, refl)
plain_offset Chain k = (refl, refl)
plain_offset Room k = (refl, refl)
plain_offset Form k = (refl, refl)
plain_offset Job k = (refl, refl)
plain_offset Netpbm k = (refl, refl)
plain_offset Marker k = (refl, refl)
plain_offset Full k = (refl, refl)
plain_offset Absent k = (refl, refl)
plain_offset Retired k = (refl, refl)
plain_offset Nest k = (refl, refl)
plain_offset Book k = (refl, refl)
plain_offset NoChain k = (refl, refl)
plain_offset (Split x y) k = absurd (k x y refl)

-- what is refused is not done, whatever a call that is done gives; and what is done is
pub refused_undone : (r : Refusal) → is_done (told_refusal r) ≡ false
unfolding told_refusal plain
refused_undone Size = refl
refused_undone Source = refl
refused_undone Pad = refl
refused_undone Shape = refl
refused_undone Overlap = refl
refused_undone Chain = refl
refused_undone (Split x y) = refl
refused_undone Room = refl
refused_undone Form = refl
refused_undone Job = refl
refused_undone Netpbm = refl
refused_undone Marker = refl
refused_undone Full = refl
refused_undone Absent = refl
refused_undone Retired = refl
refused_undone Nest = refl
refused_undone Book = refl
refused_undone NoChain = refl

pub err_undone : {A : Type 0} (a : Result A Refusal) (r : Refusal) → a ≡ Err r → is_done (told a) ≡ false
unfolding told
err_undone {A = A} a r e = ap (λ (a : Result A Refusal). is_done (told a)) e ∙ refused_undone r

pub ok_done : {A : Type 0} (a : Result A Refusal) (x : A) → a ≡ Ok x → is_done (told a) ≡ true
unfolding told plain
ok_done {A = A} a x e = ap (λ (a : Result A Refusal). is_done (told a)) e

-- what `?` hands on is told as it was
pub handed_on : {A B : Type 0} (was : Result A Refusal) (now : Result B Refusal) (r : Refusal)
    → was ≡ Err r
    → (s : Refusal) × (now ≡ Err s) × (s ≡ r)
    → told now ≡ told was
unfolding told
handed_on {A = A} {B = B} was now r e p =
    ap (λ (a : Result B Refusal). told a) p.1 ∙ ap told_refusal p.2
    ∙ sym (ap (λ (a : Result A Refusal). told a) e)
