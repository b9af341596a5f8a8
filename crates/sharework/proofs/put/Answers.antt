-- Stands on put_refusal and replace: where nothing is refused there is room, and the share is written.
-- A refusal writes nothing.
use Rattle.answer.proofs.Variants.{err_undone, ok_done}
use Rattle.share.specs.Maps.{Put}
use Rattle.share.proofs.Checks.{put_fits, put_worked, call_refused}
use Rattle.sharework.proofs.put.Goals as goal

pub returns-in_err-put_refusal-clause-bytes : goal.returns-in_err-put_refusal-clause-bytes
returns-in_err-put_refusal-clause-bytes c =
    let a = c.args in
    call_refused a.numbers a.room a.s.now (Put a.n a.d.now) _ c.put_refusal.ensures
    (err_undone _ _ c.in_err-put_refusal.was)

pub replace-requires : goal.replace-requires
replace-requires c =
    let a = c.args in
    put_fits a.numbers a.room a.s.now a.n a.d.now _ c.requires c.put_refusal.ensures
    (ok_done _ _ c.in_ok-put_refusal.was)

pub returns-clause-bytes : goal.returns-clause-bytes
returns-clause-bytes c =
    let a = c.args in
    put_worked a.numbers a.room a.s.now a.n a.d.now _ _ c.put_refusal.ensures
    (ok_done _ _ c.in_ok-put_refusal.was) c.replace.ensures
