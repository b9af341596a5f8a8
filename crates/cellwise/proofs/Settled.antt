-- Any two outcomes that a contract allows of one call are the same:
-- for each public function, of its contract itself, as the prover reads it.
use Rattle.basics.specs.Settles.{Settles, SettlesBytes}
use Rattle.basics.proofs.Settled.{settled}
use Rattle.cellwise.proofs.side.Kinds as side-kinds
use Rattle.cellwise.proofs.side.Reads as side
use Rattle.cellwise.proofs.sweep_whole.Kinds as sweep-whole-kinds
use Rattle.cellwise.proofs.sweep_whole.Reads as sweep-whole

pub side_settled : Settles 0 side-kinds.ps side-kinds.r side.Learnt
side_settled κs a x y s t p q = settled p.0 q.0

pub sweep_whole_settled : SettlesBytes 4 sweep-whole-kinds.ps
    sweep-whole-kinds.r sweep-whole.Learnt (λ κs e. e.1.1.0.now)
sweep_whole_settled κs a x y s t p q = settled p q
