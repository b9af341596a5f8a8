-- Any two outcomes that a contract allows of one call are the same:
-- for each public function, of its contract itself, as the prover reads it.
use Rattle.basics.specs.Settles.{Settles}
use Rattle.basics.proofs.Settled.{settled}
use Rattle.choosing.proofs.link_no.Kinds as link-no-kinds
use Rattle.choosing.proofs.link_no.Reads as link-no
use Rattle.choosing.proofs.origin_no.Kinds as origin-no-kinds
use Rattle.choosing.proofs.origin_no.Reads as origin-no

pub link_no_settled : Settles 1 link-no-kinds.ps link-no-kinds.r link-no.Learnt
link_no_settled κs a x y s t p q = settled p q

pub origin_no_settled : Settles 1 origin-no-kinds.ps origin-no-kinds.r origin-no.Learnt
origin_no_settled κs a x y s t p q = settled p q
