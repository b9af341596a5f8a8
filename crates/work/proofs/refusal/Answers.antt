-- Stands on judge_ech and most_len: the element's answer, the file's, the room for the text, in this order.
-- Each answer is that of the whole list where it is the first that refuses.
use Rattle.work.proofs.Refusals.{refused_shape, refused_file, refused_room}
use Rattle.work.proofs.Refusals.{nothing_refused, longest_own}
use Rattle.work.specs.Work.{longest}
use Rattle.ech.proofs.Reading.{target_held}
use Rattle.answer.specs.Answer.{told, is_done}
use mathlib.Core.Bool.{true}
use mathlib.Core.List.{[]}
use mathlib.Core.Path.{◌≡◌, ◌∙◌}
use Rattle.answer.proofs.Variants.{err_undone, handed_on, ok_done}
use Rattle.std.proofs.lemmas.Result.{err_from_is_err_and}
use Rattle.work.proofs.refusal.Goals as goal
use Rattle.work.proofs.refusal.Goals.{After-most_len, In_ok-shape}

shape_done : (c : In_ok-shape) → is_done (told c.args.shape) ≡ true
shape_done c = ok_done _ _ c.in_ok-shape.was

long : (c : After-most_len) → c.most_len.result ≡ longest c.args.file.now
long c = longest_own _ _ _ c.in_ok-head.ensures _ _ c.depth_of-depth.ensures c.most_len.ensures

pub returns-in_err-shape : goal.returns-in_err-shape
returns-in_err-shape c =
    let w = c.in_err-shape.was in
    handed_on _ _ _ w (err_from_is_err_and c.from_residual.result c.from_residual.ensures.1)
    ∙ refused_shape _ _ _ _ (err_undone _ _ w)

pub returns-in_err-head : goal.returns-in_err-head
returns-in_err-head c =
    let w = c.in_err-head.was in
    handed_on _ _ _ w
    (err_from_is_err_and c.from_residual-in_err-head.result c.from_residual-in_err-head.ensures.1)
    ∙ refused_file _ _ _ _ (shape_done (goal.at.returns-in_err-head c).In_ok-shape) _
    c.judge_ech.ensures.answer (err_undone _ _ w)

pub most_len-requires : goal.most_len-requires
most_len-requires c =
    let p = target_held _ [] _ _ c.in_ok-head.ensures _ c.depth_of-depth.ensures in
    (p.few_pings, p.few_bins)

pub returns-then-n-most_len : goal.returns-then-n-most_len
unfolding told
returns-then-n-most_len c =
    let p = goal.at.returns-then-n-most_len c in
    refused_room _ _ _ _ (shape_done p.In_ok-shape) _ c.judge_ech.ensures.answer
    (ok_done _ _ c.in_ok-head.was) _ (long p.After-most_len) c.if-n-most_len.true

pub returns : goal.returns
unfolding told
returns c =
    let p = goal.at.returns c in
    nothing_refused _ _ _ _ (shape_done p.In_ok-shape) _ c.judge_ech.ensures.answer
    (ok_done _ _ c.in_ok-head.was) _ (long p.After-most_len) c.if-n-most_len.false
