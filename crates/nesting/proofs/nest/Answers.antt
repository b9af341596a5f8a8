-- Nothing is written before the frame is judged: a refusal returns with the list as it was.
-- The labels are the first nodes of the regions; whatever else gives these gives as many regions and the same
-- list.
use mathlib.Core.Bool.{true}
use mathlib.Core.Path.{◌≡◌, sym, ap, ◌∙◌}
use native.Mathlib.Omega.{arith}
use lib.ListN.{length}
use Rattle.answer.specs.Answer.{plain, is_done}
use Rattle.answer.specs.Refuse.{refuse}
use Rattle.answer.proofs.Lent.{kept_by}
use Rattle.answer.proofs.Variants.{err_undone, ok_done, handed_on}
use Rattle.std.proofs.lemmas.Result.{err_from_is_err_and}
use Rattle.mates.specs.Steps.Framed.{Framed}
use Rattle.nesting.specs.Nesting.{frame_tests}
use Rattle.nesting.proofs.Refused.{framed, stopped, back_refused, back_as}
use Rattle.nesting.proofs.Whole.{labelled_of, as_many, answer_as, list_as}
use Rattle.nesting.proofs.nest.Goals as goal
use Rattle.nesting.proofs.nest.Goals.{In_ok-frame_refusal}

passed : (c : In_ok-frame_refusal) → let a = c.args in
    is_done (refuse (frame_tests a.w a.h (length a.source.now)) (plain 0)) ≡ true
passed c = ap is_done (sym c.frame_refusal.ensures) ∙ ok_done _ _ c.in_ok-frame_refusal.was

known : (c : In_ok-frame_refusal) → let a = c.args in Framed (length a.source.now) a.w a.h
known c = framed _ _ _ (passed c)

pub label-requires : goal.label-requires
label-requires c =
    let f = known (goal.at.label-requires c).In_ok-frame_refusal in
    record {
      framed = f;
      places = record { room = omega (arith, f.few_points); few = omega arith };
    }

pub overflow_mul-h : goal.overflow_mul-h
overflow_mul-h c = omega (arith, (known (goal.at.overflow_mul-h c).In_ok-frame_refusal).few_points)

pub list_labels-requires : goal.list_labels-requires
list_labels-requires c =
    let a = c.args in
    let l = c.label in
    let f = known (goal.at.list_labels-requires c).In_ok-frame_refusal in
    labelled_of a.source.now _ a.w a.h f _ l.ensures (omega (arith, l.auto.up, f.few_points))

pub returns : goal.returns
returns c =
    let a = c.args in
    let l = c.label in
    let t = (goal.at.returns c).In_ok-frame_refusal in
    record {
      back = λ R f. back_as _ _ _ _ _
          (answer_as a.source.now _ a.w a.h (known t) _ l.ensures R f (passed t) _)
          (as_many a.source.now _ a.w a.h (known t) _ l.ensures R f) c.list_labels.ensures.given_back;
      numbers = λ R f. c.list_labels.ensures.list_after
          ∙ list_as a.source.now _ a.w a.h (known t) _ l.ensures R f (passed t) a.list.now;
    }

pub returns-in_err-frame_refusal : goal.returns-in_err-frame_refusal
returns-in_err-frame_refusal c =
    let a = c.args in
    let n = c.frame_refusal.ensures in
    let w = c.in_err-frame_refusal.was in
    let d = ap is_done (sym n) ∙ err_undone _ _ w in
    let p = err_from_is_err_and c.from_residual.result c.from_residual.ensures.1 in
    record {
      back = λ R f. back_refused _ _ _ _ p.1 (handed_on _ _ _ w p ∙ n ∙ stopped R a.w a.h _ _ d);
      numbers = λ R f. kept_by a.list.now _ _ _ (n ∙ stopped R a.w a.h _ _ d) (err_undone _ _ w);
    }
