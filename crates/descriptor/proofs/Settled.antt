-- Any two outcomes that a contract allows of one call are the same:
-- for each public function, of its contract itself, as the prover reads it.
use Rattle.basics.specs.Settles.{Settles}
use Rattle.basics.proofs.Settled.{settled}
use Rattle.descriptor.proofs.well_made.Kinds as well-made-kinds
use Rattle.descriptor.proofs.well_made.Reads as well-made
use Rattle.descriptor.proofs.well_weighted.Kinds as well-weighted-kinds
use Rattle.descriptor.proofs.well_weighted.Reads as well-weighted

pub well_made_settled : Settles 1 well-made-kinds.ps well-made-kinds.r well-made.Learnt
well_made_settled κs a x y s t p q = settled p q

pub well_weighted_settled : Settles 1 well-weighted-kinds.ps well-weighted-kinds.r well-weighted.Learnt
well_weighted_settled κs a x y s t p q = settled p q
