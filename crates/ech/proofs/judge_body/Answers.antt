-- Stands on judge's refusal, of the body alone.
-- The kind that is reported, W and H are given back where nothing is refused, and else the refusal.
use Rattle.judge.specs.declared.Padding.TheVariants.{Judged}
use Rattle.judge.specs.Tests.{body_tests}
use Rattle.judge.proofs.Bodies.{body_judged}
use Rattle.ech.proofs.Reading.{body_done, body_refused}
use Rattle.answer.specs.Answer.{told, plain}
use Rattle.answer.specs.Refuse.{refuse}
use Rattle.std.proofs.lemmas.Result.{err_from_is_err_and}
use mathlib.Core.Path.{◌≡◌}
use Rattle.ech.proofs.judge_body.Goals as goal
use Rattle.ech.proofs.judge_body.Goals.{After-refusal}

judged : (c : After-refusal) → let a = c.args in
    told c.refusal.result
    ≡ refuse (body_tests Judged c.depth_of.result a.w a.h a.body.now 0 a.room)
    (plain 0)
judged c = let a = c.args in
    body_judged Judged c.depth_of.result a.w a.h a.body.now 0 a.room _
    c.refusal.ensures

pub returns-in_err-refusal : goal.returns-in_err-refusal
returns-in_err-refusal c =
    body_refused _ _ _ _ _ _ _ c.depth_of.ensures (judged (goal.at.returns-in_err-refusal c).After-refusal) _
    c.in_err-refusal.was _
    (err_from_is_err_and c.from_residual.result c.from_residual.ensures.1)

pub returns : goal.returns
returns c =
    body_done _ _ _ _ _ _ _ c.depth_of.ensures (judged (goal.at.returns c).After-refusal) _
    c.in_ok-refusal.was _ c.reported_kind.ensures
