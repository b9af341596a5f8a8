-- Nothing is written before all is judged: a refusal returns with the target as it was.
-- Where nothing is refused (`known`) marker, mask and target hold the picture, the marker lies in the mask,
-- and `make` does the rest.
use Rattle.marker.proofs.Judged.{Growable, growable}
use Rattle.answer.specs.Answer.{told, is_done}
use Rattle.answer.proofs.Lent.{kept_by, made_by_lem}
use Rattle.answer.proofs.Variants.{err_undone, ok_done, handed_on}
use Rattle.std.proofs.lemmas.Result.{err_from_is_err_and}
use Rattle.picture.specs.declared.Depth.TheVariants.{OneBit}
use Rattle.judge.specs.declared.Padding.TheVariants.{Free}
use Rattle.judge.proofs.Admitted.{holds}
use lib.ListN.{length}
use mathlib.Core.Path.{sym, ap, ◌∙◌}
use native.Mathlib.Nat.{le_of_eq}
use Rattle.reconstruct.proofs.reconstruct.Goals as goal
use Rattle.reconstruct.proofs.reconstruct.Goals.{In_ok-refusal}

known : (c : In_ok-refusal) → let a = c.args in
    Growable a.w a.h a.marker.now a.mask.now (length a.target.now)
known c = let a = c.args in
    growable a.w a.h a.marker.now a.mask.now (length a.target.now)
    (ap is_done (sym c.refusal.ensures) ∙ ok_done _ _ c.in_ok-refusal.was)

pub make-requires : goal.make-requires
make-requires c =
    let a = c.args in
    let k = known (goal.at.make-requires c).In_ok-refusal in record {
      holds = holds Free OneBit a.w a.h a.marker.now _ k.sized (le_of_eq (sym k.marker_whole));
      holds_2 = holds Free OneBit a.w a.h a.marker.now _ k.sized (le_of_eq (sym k.mask_whole));
      holds_3 = holds Free OneBit a.w a.h a.marker.now _ k.sized k.roomy;
      w_value = k.inside;
    }

pub returns : goal.returns
returns c =
    let w = c.in_ok-refusal.was in
    let e = c.refusal.ensures in record {
      answer = sym (ap told w) ∙ e;
      bytes = made_by_lem c.args.target.now _ _ _ e _ (ok_done _ _ w) c.make.ensures;
    }

pub returns-in_err-refusal : goal.returns-in_err-refusal
returns-in_err-refusal c =
    let w = c.in_err-refusal.was in
    let e = c.refusal.ensures in
    record {
      answer = handed_on _ _ _ w (err_from_is_err_and c.from_residual.result c.from_residual.ensures.1) ∙ e;
      bytes = kept_by c.args.target.now _ _ _ e (err_undone _ _ w);
    }
