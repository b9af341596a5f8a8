-- Any two outcomes that a contract allows of one call are the same:
-- for each public function, of its contract itself, as the prover reads it.
use Rattle.basics.specs.Settles.{Settles}
use Rattle.basics.proofs.Settled.{settled}
use Rattle.heights.proofs.heights_made.Kinds as heights-made-kinds
use Rattle.heights.proofs.heights_made.Reads as heights-made

pub heights_made_settled : Settles 2 heights-made-kinds.ps heights-made-kinds.r heights-made.Learnt
heights_made_settled κs a x y s t p q = settled p q
