-- Any two outcomes that a contract allows of one call are the same:
-- for each public function, of its contract itself, as the prover reads it.
use Rattle.basics.specs.Settles.{SettlesBytes}
use Rattle.basics.proofs.Settled.{settled}
use Rattle.cellrow.proofs.fold_row.Kinds as fold-row-kinds
use Rattle.cellrow.proofs.fold_row.Reads as fold-row

pub fold_row_settled : SettlesBytes 3 fold-row-kinds.ps
    fold-row-kinds.r fold-row.Learnt (λ κs e. e.1.0.now)
fold_row_settled κs a x y s t p q = settled p q
