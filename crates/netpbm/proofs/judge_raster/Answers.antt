-- Stands on judge's refusal, of the raster alone, its padding free.
-- W and H are given back where nothing is refused, and else the refusal.
use Rattle.judge.specs.declared.Padding.TheVariants.{Free}
use Rattle.judge.specs.Tests.{body_tests}
use Rattle.judge.proofs.Bodies.{body_judged}
use Rattle.netpbm.proofs.Reading.{raster_done, raster_refused}
use Rattle.answer.specs.Answer.{told, plain}
use Rattle.answer.specs.Refuse.{refuse}
use Rattle.std.proofs.lemmas.Result.{err_from_is_err_and}
use mathlib.Core.Path.{◌≡◌}
use Rattle.netpbm.proofs.judge_raster.Goals as goal
use Rattle.netpbm.proofs.judge_raster.Goals.{After-refusal}

judged : (c : After-refusal) → let a = c.args in
    told c.refusal.result
    ≡ refuse (body_tests Free a.depth a.w a.h a.raster.now 0 a.room) (plain 0)
judged c = let a = c.args in
    body_judged Free a.depth a.w a.h a.raster.now 0 a.room _ c.refusal.ensures

pub returns-in_err-refusal : goal.returns-in_err-refusal
returns-in_err-refusal c =
    raster_refused _ _ _ _ _ _ (judged (goal.at.returns-in_err-refusal c).After-refusal) _
    c.in_err-refusal.was _
    (err_from_is_err_and c.from_residual.result c.from_residual.ensures.1)

pub returns : goal.returns
returns c =
    raster_done _ _ _ _ _ _ (judged (goal.at.returns c).After-refusal) _ c.in_ok-refusal.was
