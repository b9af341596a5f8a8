-- Stands on is_known, retired, refusal and put_file: what nothing refuses is admitted, and is written.
-- A refusal writes nothing.
use Rattle.ech.proofs.Judging.{write_admitted}
use Rattle.ech.proofs.Writing.{unknown, write_answer_lem, write_done, write_refused}
use Rattle.ech.specs.File.{known_kind}
use Rattle.answer.specs.Answer.{Answer, told, is_done}
use Rattle.answer.proofs.Variants.{err_undone, handed_on, ok_done}
use Rattle.std.proofs.lemmas.Result.{err_from_is_err_and}
use mathlib.Core.Bool.{true}
use mathlib.Core.Path.{◌≡◌, sym, ap, ◌∙◌}
use Rattle.echwrite.proofs.write_ech.Goals as goal
use Rattle.echwrite.proofs.write_ech.Goals.{Else-not-is_known, In_ok-refusal}

known : (c : Else-not-is_known) → known_kind c.args.kind ≡ true
known c = sym c.is_known.ensures ∙ c.if-not-is_known.false

done : (c : In_ok-refusal) → is_done (told c.refusal.result) ≡ true
done c = ok_done _ _ c.in_ok-refusal.was

pub returns-then-not-is_known : goal.returns-then-not-is_known
unfolding told
returns-then-not-is_known c =
    let p = unknown _ _ _ _ _ (sym c.is_known.ensures ∙ c.if-not-is_known.true) in
    record { result_value = p.0; target_after = p.1 }

pub returns-in_err-refusal : goal.returns-in_err-refusal
returns-in_err-refusal c =
    let w = c.in_err-refusal.was in
    let p = write_refused _ _ _ _ _ (known (goal.at.returns-in_err-refusal c).Else-not-is_known) _
    c.depth_of-depth.ensures _ c.retired.ensures _ c.refusal.ensures (err_undone _ _ w) in
    record {
      result_value =
          handed_on _ _ _ w (err_from_is_err_and c.from_residual.result c.from_residual.ensures.1) ∙ p.0;
      target_after = p.1;
    }

pub put_file-requires : goal.put_file-requires
put_file-requires c =
    let a = c.args in
    let e = write_answer_lem a.kind a.w a.h a.source.now a.target.now
    (known (goal.at.put_file-requires c).Else-not-is_known) _
    c.depth_of-depth.ensures _ c.retired.ensures _ c.refusal.ensures in
    let p = write_admitted a.kind a.w a.h a.source.now a.target.now
    (ap is_done (sym e) ∙ done (goal.at.put_file-requires c).In_ok-refusal) in
    record {
      kind_value = p.0;
      admitted = p.1.0;
    }

pub returns : goal.returns
returns c =
    let p = write_done _ _ _ _ _ (known (goal.at.returns c).Else-not-is_known) _
    c.depth_of-depth.ensures _ c.retired.ensures _
    c.refusal.ensures _ (done (goal.at.returns c).In_ok-refusal)
    c.put_file.ensures in
    record { result_value = sym (ap (λ (a : Answer). told a) c.in_ok-refusal.was) ∙ p.0; target_after = p.1 }
