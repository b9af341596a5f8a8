-- Stands on judge's refusal and put_file: what nothing refuses is admitted, and is written.
-- A refusal writes nothing.
use Rattle.judge.specs.declared.Padding.TheVariants.{Free}
use Rattle.judge.specs.Tests.{body_tests}
use Rattle.judge.proofs.Bodies.{body_judged}
use Rattle.netpbm.proofs.Writing.{write_admitted, write_done, write_refused}
use Rattle.answer.specs.Answer.{Answer, told, plain, is_done}
use Rattle.answer.proofs.Variants.{err_undone, handed_on, ok_done}
use Rattle.std.proofs.lemmas.Result.{err_from_is_err_and}
use Rattle.answer.specs.Refuse.{refuse}
use lib.ListN.{length}
use mathlib.Core.Bool.{true}
use mathlib.Core.Path.{◌≡◌, sym, ap, ◌∙◌}
use Rattle.pnmwrite.proofs.write_file.Goals as goal
use Rattle.pnmwrite.proofs.write_file.Goals.{After-refusal, In_ok-refusal}

judged : (c : After-refusal) → let a = c.args in
    told c.refusal.result
    ≡ refuse (body_tests Free a.depth a.w a.h a.source.now
    c.head_len-before.result (length a.target.now)) (plain 0)
judged c = let a = c.args in
    body_judged Free a.depth a.w a.h a.source.now
    c.head_len-before.result (length a.target.now) _ c.refusal.ensures

done : (c : In_ok-refusal) → is_done (told c.refusal.result) ≡ true
done c = ok_done _ _ c.in_ok-refusal.was

pub returns-in_err-refusal : goal.returns-in_err-refusal
returns-in_err-refusal c =
    let w = c.in_err-refusal.was in
    let p = write_refused _ _ _ _ _ _ c.head_len-before.ensures _
    (judged (goal.at.returns-in_err-refusal c).After-refusal) (err_undone _ _ w) in
    record {
      result_value =
          handed_on _ _ _ w (err_from_is_err_and c.from_residual.result c.from_residual.ensures.1) ∙ p.0;
      target_after = p.1;
    }

pub put_file-requires : goal.put_file-requires
put_file-requires c =
    let a = c.args in
    let p = goal.at.put_file-requires c in
    write_admitted a.depth a.w a.h a.source.now a.target.now _ c.head_len-before.ensures
    _ (judged p.After-refusal) (done p.In_ok-refusal)

pub returns : goal.returns
returns c =
    let q = goal.at.returns c in
    let p = write_done _ _ _ _ _ _ c.head_len-before.ensures _
    (judged q.After-refusal) _ (done q.In_ok-refusal) c.put_file.ensures in
    record { result_value = sym (ap (λ (a : Answer). told a) c.in_ok-refusal.was) ∙ p.0; target_after = p.1 }
