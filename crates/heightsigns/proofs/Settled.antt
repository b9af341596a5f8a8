-- Any two outcomes that a contract allows of one call are the same:
-- for each public function, of its contract itself, as the prover reads it.
use Rattle.basics.specs.Settles.{Settles, SettlesBytes}
use Rattle.basics.proofs.Settled.{settled}
use Rattle.heightsigns.proofs.cells_both.Kinds as cells-both-kinds
use Rattle.heightsigns.proofs.cells_both.Reads as cells-both

pub cells_both_settled : Settles 3 cells-both-kinds.ps cells-both-kinds.r cells-both.Learnt
cells_both_settled κs a x y s t p q = λ i. record {
  rising = settled p.0.0 q.0.0 i;
  others = settled p.0.1 q.0.1 i;
}

pub cells_both_rising_settled : SettlesBytes 3 cells-both-kinds.ps cells-both-kinds.r cells-both.Learnt
    (λ κs e. e.0.now)
cells_both_rising_settled κs a x y s t p q = settled p.1.0 q.1.0

pub cells_both_others_settled : SettlesBytes 3 cells-both-kinds.ps cells-both-kinds.r cells-both.Learnt
    (λ κs e. e.1.0.now)
cells_both_others_settled κs a x y s t p q = settled p.1.1 q.1.1
