-- Any two outcomes that a contract allows of one call are the same:
-- for each public function, of its contract itself, as the prover reads it.
use Rattle.basics.specs.Settles.{Settles}
use Rattle.basics.proofs.Settled.{settled}
use Rattle.covering.proofs.first_bare.Kinds as first-bare-kinds
use Rattle.covering.proofs.first_bare.Reads as first-bare
use Rattle.covering.proofs.quarter.Kinds as quarter-kinds
use Rattle.covering.proofs.quarter.Reads as quarter
use Rattle.covering.proofs.link_quarter.Kinds as link-quarter-kinds
use Rattle.covering.proofs.link_quarter.Reads as link-quarter

pub first_bare_settled : Settles 2 first-bare-kinds.ps first-bare-kinds.r first-bare.Learnt
first_bare_settled κs a x y s t p q = settled p q

pub quarter_settled : Settles 1 quarter-kinds.ps quarter-kinds.r quarter.Learnt
quarter_settled κs a x y s t p q = settled p q

pub link_quarter_settled : Settles 0 link-quarter-kinds.ps link-quarter-kinds.r link-quarter.Learnt
link_quarter_settled κs a x y s t p q = settled p q
