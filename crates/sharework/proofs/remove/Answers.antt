-- Stands on absent_refusal and replace: a held number is replaced by no bytes, which always fit.
-- A refusal writes nothing.
use Rattle.answer.proofs.Variants.{err_undone, ok_done}
use Rattle.share.specs.Maps.{Remove}
use Rattle.share.proofs.Checks.{remove_fits, remove_worked, call_refused}
use Rattle.sharework.proofs.remove.Goals as goal

pub returns-in_err-absent_refusal-clause-bytes : goal.returns-in_err-absent_refusal-clause-bytes
returns-in_err-absent_refusal-clause-bytes c =
    let a = c.args in
    call_refused a.numbers a.room a.s.now (Remove a.n) _ c.absent_refusal.ensures
    (err_undone _ _ c.in_err-absent_refusal.was)

pub replace-requires : goal.replace-requires
replace-requires c =
    let a = c.args in
    remove_fits a.numbers a.room a.s.now a.n _ c.requires c.absent_refusal.ensures
    (ok_done _ _ c.in_ok-absent_refusal.was)

pub returns-clause-bytes : goal.returns-clause-bytes
returns-clause-bytes c =
    let a = c.args in
    remove_worked a.numbers a.room a.s.now a.n _ _ c.absent_refusal.ensures
    (ok_done _ _ c.in_ok-absent_refusal.was) c.replace.ensures
