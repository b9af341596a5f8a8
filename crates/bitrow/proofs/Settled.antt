-- Any two outcomes that a contract allows of one call are the same:
-- for each public function, of its contract itself, as the prover reads it.
use Rattle.basics.specs.Settles.{SettlesBytes}
use Rattle.basics.proofs.Settled.{settled}
use Rattle.bitrow.proofs.make_row.Kinds as make-row-kinds
use Rattle.bitrow.proofs.make_row.Reads as make-row

pub make_row_settled : SettlesBytes 3 make-row-kinds.ps
    make-row-kinds.r make-row.Learnt (λ κs e. e.1.0.now)
make_row_settled κs a x y s t p q = settled p q
