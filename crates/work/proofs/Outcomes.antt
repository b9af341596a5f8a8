-- All that is left, from what the parts leave.
use Prim.Native.Nat.{ℕ}
use mathlib.Core.Path.{◌≡◌, sym, ap, ◌∙◌}
use mathlib.Core.Bool.{true, false, cond}
use mathlib.Core.List.{List}
use lib.ListN.{length}
use Rattle.answer.specs.declared.Told.{Told}
use Rattle.answer.specs.Answer.{Answer, told, is_done}
use Rattle.answer.proofs.Lent.{kept_by, made_by_lem}
use Rattle.element.specs.Descriptor.{shape_in}
use Rattle.work.specs.declared.Operation.{Operation}
use Rattle.work.specs.declared.Outcome.{Outcome}
use Rattle.work.specs.Work.{text_in}
use Rattle.work.specs.Prints.{refusal_of, printed, over, picture_after}
use Rattle.work.specs.Prints.{result_after, scratch_after, Carried}
use Rattle.work.specs.Steps.Taken.{text_by, Worked}

module _ (a : Told) (op : Operation) (d f p r m t : List ℕ) (said : Answer) (ea : told said ≡ a) where
  -- nothing is refused
  pub carried_done : (k : ℕ) (p' r' m' t' : List ℕ) → is_done (told said) ≡ true
      → Worked op (shape_in d) f p r m t k p' r' m' t'
      → Carried a op d f p r m t (record { answer = said; printed = k }) p' r' m' t'
  unfolding picture_after result_after scratch_after printed text_in text_by
  carried_done k p' r' m' t' e o =
      let q : is_done a ≡ true = ap is_done (sym ea) ∙ e in
      record {
        answer = ea;
        length_is = o.length_is
            ∙ sym (ap (λ b. length (cond b (text_in op d f) (refusal_of a (length t)))) q);
        picture = made_by_lem p _ a (told said) ea p' e o.picture;
        result = made_by_lem r _ a (told said) ea r' e o.result;
        scratch = made_by_lem m _ a (told said) ea m' e o.scratch;
        text = o.text ∙ sym (ap (λ b. over (cond b (text_in op d f) (refusal_of a (length t))) t) q);
      }

  -- a refusal: every work buffer stays
  pub carried_refused : (back : Outcome) (t' : List ℕ) → is_done (told said) ≡ false
      → (back.answer ≡ said) × (back.printed ≡ length (refusal_of (told said) (length t)))
      → t' ≡ over (refusal_of (told said) (length t)) t → Carried a op d f p r m t back p r m t'
  unfolding picture_after result_after scratch_after printed
  carried_refused back t' e b et =
      let s : refusal_of (told said) (length t) ≡ cond (is_done a) (text_in op d f) (refusal_of a
      (length t)) =
      ap (λ x. refusal_of x (length t)) ea
      ∙ sym (ap (λ b. cond b (text_in op d f) (refusal_of a (length t))) (ap is_done (sym ea) ∙ e)) in
      record {
        answer = ap told b.0 ∙ ea;
        length_is = b.1 ∙ ap length s;
        picture = kept_by p _ a (told said) ea e;
        result = kept_by r _ a (told said) ea e;
        scratch = kept_by m _ a (told said) ea e;
        text = et ∙ ap (λ l. over l t) s;
      }
