-- Any two outcomes that a contract allows of one call are the same:
-- for each public function, of its contract itself, as the prover reads it.
use Rattle.basics.specs.Settles.{Settles}
use Rattle.basics.proofs.Settled.{settled}
use Rattle.board.proofs.reach.Kinds as reach-kinds
use Rattle.board.proofs.reach.Reads as reach

pub reach_settled : Settles 0 reach-kinds.ps reach-kinds.r reach.Learnt
reach_settled κs a x y s t p q = settled p q
