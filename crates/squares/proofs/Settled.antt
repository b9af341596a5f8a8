-- Any two outcomes that a contract allows of one call are the same:
-- for each public function, of its contract itself, as the prover reads it.
use Rattle.basics.specs.Settles.{Settles, SettlesBytes}
use Rattle.basics.proofs.Settled.{settled}
use Rattle.squares.proofs.sweep.Kinds as sweep-kinds
use Rattle.squares.proofs.sweep.Reads as sweep
use Rattle.squares.proofs.count.Kinds as count-kinds
use Rattle.squares.proofs.count.Reads as count

pub sweep_settled : SettlesBytes 1 sweep-kinds.ps sweep-kinds.r sweep.Learnt (λ κs e. e.1.0.now)
sweep_settled κs a x y s t p q = settled p q

pub count_settled : Settles 1 count-kinds.ps count-kinds.r count.Learnt
count_settled κs a x y s t p q = settled p q
