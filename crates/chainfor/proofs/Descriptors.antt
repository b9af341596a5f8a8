-- What the reader of one descriptor gives: an element exactly where the descriptor is well made.
use mathlib.Core.Path.{◌≡◌, refl, sym, ◌∙◌}
use mathlib.Core.Bool.{Bool, true, false, cond, false≢true}
use Rattle.std.specs.Prelude.{Result, Ok, Err}
use Rattle.std.proofs.lemmas.Result.{IfOk-at_ok, IfErr-at_err}
use Rattle.answer.specs.declared.Refusal.{Refusal}
use Rattle.answer.specs.declared.Refusal.TheVariants.{Shape}
use Rattle.answer.proofs.Variants.{err_undone, ok_done}
use Rattle.element.specs.declared.Element.{Element}

abbrev read : Bool → Element → Result Element Refusal
read made x = cond made (Ok x) (Err Shape)

pub read_made : (made : Bool) (x e : Element) → read made x ≡ Ok e → (made ≡ true) × (e ≡ x)
read_made true x e q = (refl, IfOk-at_ok (λ (y : Element). y ≡ x) q refl)
read_made false x e q =
    absurd (false≢true (sym (err_undone (read false x) Shape refl) ∙ ok_done (read false x) e q))

pub read_unmade : (made : Bool) (x : Element) (r : Refusal) → read made x ≡ Err r
    → (made ≡ false) × (r ≡ Shape)
read_unmade true x r q =
    absurd (false≢true (sym (err_undone (read true x) r q) ∙ ok_done (read true x) x refl))
read_unmade false x r q = (refl, IfErr-at_err (λ (y : Refusal). y ≡ Shape) q refl)
