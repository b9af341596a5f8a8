-- Any two outcomes that a contract allows of one call are the same: for each public function, of its contract
-- itself, as the prover reads it.
use Rattle.basics.specs.Settles.{Settles}
use Rattle.basics.proofs.Settled.{settled}
use Rattle.padding.proofs.spare_bits.Kinds as spare-bits-kinds
use Rattle.padding.proofs.spare_bits.Reads as spare-bits
use Rattle.padding.proofs.padding_clear.Kinds as padding-clear-kinds
use Rattle.padding.proofs.padding_clear.Reads as padding-clear

pub spare_bits_settled : Settles 0 spare-bits-kinds.ps spare-bits-kinds.r spare-bits.Learnt
spare_bits_settled κs a x y s t p q = settled p q

pub padding_clear_settled : Settles 1 padding-clear-kinds.ps padding-clear-kinds.r padding-clear.Learnt
padding_clear_settled κs a x y s t p q = settled p q
