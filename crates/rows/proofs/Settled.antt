-- Any two outcomes that a contract allows of one call are the same:
-- for each public function, of its contract itself, as the prover reads it.
use Rattle.basics.specs.Settles.{Settles, SettlesBytes}
use Rattle.basics.proofs.Settled.{settled}
use Rattle.rows.proofs.is_growing.Kinds as is-growing-kinds
use Rattle.rows.proofs.is_growing.Reads as is-growing
use Rattle.rows.proofs.place_in.Kinds as place-in-kinds
use Rattle.rows.proofs.place_in.Reads as IsPlace-in
use Rattle.rows.proofs.source_row.Kinds as source-row-kinds
use Rattle.rows.proofs.source_row.Reads as source_row
use Rattle.rows.proofs.begin.Kinds as begin-kinds
use Rattle.rows.proofs.begin.Reads as begin

pub is_growing_settled : Settles 0 is-growing-kinds.ps is-growing-kinds.r is-growing.Learnt
is_growing_settled κs a x y s t p q = settled p q

pub place_in_settled : Settles 0 place-in-kinds.ps place-in-kinds.r IsPlace-in.Learnt
place_in_settled κs a x y s t p q = settled p q

pub source_row_settled : Settles 0 source-row-kinds.ps source-row-kinds.r source_row.Learnt
source_row_settled κs a x y s t p q = settled p q

pub begin_settled : SettlesBytes 1 begin-kinds.ps begin-kinds.r begin.Learnt (λ κs e. e.1.1.0.now)
begin_settled κs a x y s t p q = settled p q
