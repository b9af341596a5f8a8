-- Nothing is written before all is judged: a refusal returns with every work buffer as it was.
-- Where nothing is refused the file is taken and the element is the descriptor's, and work_out does the rest.
use Rattle.work.proofs.Refusals.{answer_is, work_taken}
use Rattle.work.proofs.Works.{worked_read}
use Rattle.work.proofs.Outcomes.{carried_done, carried_refused}
use Rattle.work.specs.Work.{shortest, work_answer}
use Rattle.work.specs.Steps.Taken.{Taken}
use Rattle.std.specs.Prelude.{Ok, Err}
use Rattle.answer.specs.Answer.{Answer, told, plain, is_done}
use Rattle.answer.proofs.Variants.{err_undone, ok_done}
use Rattle.answer.specs.Refuse.{refuse}
use Rattle.element.specs.Descriptor.{well_made}
use Rattle.element.proofs.WellMade.{made_cells}
use Rattle.judge.specs.Tests.{shape_tests}
use Rattle.apply.proofs.Read.{fitting}
use lib.ListN.{length}
use mathlib.Core.Bool.{true}
use mathlib.Core.Path.{◌≡◌, refl, sym, ap, ◌∙◌}
use native.Mathlib.Omega.{arith}
use Rattle.work.proofs.carry_out.Goals as goal
use Rattle.work.proofs.carry_out.Goals.{After-refusal, In-Ok}

answered : (c : After-refusal) → let a = c.args in
    told c.refusal.result
    ≡ work_answer a.descriptor.now a.file.now a.source.now
    a.res.now a.scratch.now a.text.now
answered c = let a = c.args in
    answer_is a.descriptor.now a.file.now a.source.now
    a.res.now a.scratch.now a.text.now _ _ _ _
    c.min.ensures c.min-room.ensures
    (c.shape_answer-shape.ensures
    ∙ ap (λ m. refuse (shape_tests m) (plain 0)) c.well_made-made.ensures) c.refusal.ensures

-- where nothing is refused
known : (c : In-Ok) → let a = c.args in
    (well_made a.descriptor.now ≡ true)
    × Taken a.file.now (shortest a.source.now a.res.now a.scratch.now)
    (length a.text.now)
known c = let a = c.args in
    work_taken a.descriptor.now a.file.now a.source.now
    a.res.now a.scratch.now a.text.now
    (ap is_done (sym (answered (goal.at.In-Ok c).After-refusal)) ∙ ok_done _ _ c.in-Ok.is)

pub element_at-e-requires : goal.element_at-e-requires
element_at-e-requires c = made_cells _ (known (goal.at.element_at-e-requires c).In-Ok).0

pub work_out-printed-requires : goal.work_out-printed-requires
work_out-printed-requires c =
    let d = c.args.descriptor.now in
    let k = known (goal.at.work_out-printed-requires c).In-Ok in record {
      fitting = fitting d (made_cells d k.0) _ c.element_at-e.ensures;
      taken = k.1;
    }

pub returns-in-Ok : goal.returns-in-Ok
returns-in-Ok c =
    let a = c.args in
    let d = a.descriptor.now in
    let q = goal.at.returns-in-Ok c in
    let said : Answer = Ok c.in-Ok.field-0 in
    carried_done _ a.op d a.file.now a.source.now a.res.now a.scratch.now a.text.now said
    (sym (ap (λ (x : Answer). told x) c.in-Ok.is) ∙ answered q.After-refusal) _ _ _ _ _
    (ok_done said _ refl)
    (worked_read d (made_cells d (known q.In-Ok).0) (λ i. omega (arith, c.type_inv.descriptor i))
    _ c.element_at-e.ensures a.op a.file.now a.source.now a.res.now a.scratch.now a.text.now _ _ _ _ _
    c.work_out-printed.ensures)

pub returns-in-Err : goal.returns-in-Err
returns-in-Err c =
    let a = c.args in
    let said : Answer = Err c.in-Err.why in
    carried_refused _ a.op a.descriptor.now a.file.now a.source.now a.res.now a.scratch.now a.text.now said
    (sym (ap (λ (x : Answer). told x) c.in-Err.is) ∙ answered (goal.at.returns-in-Err c).After-refusal) _ _
    (err_undone said _ refl) c.refused.ensures.answer_value c.refused.ensures.text_after
