-- Any two outcomes that a contract allows of one call are the same:
-- for each public function, of its contract itself, as the prover reads it.
use Rattle.basics.specs.Settles.{Settles}
use Rattle.basics.proofs.Settled.{settled}
use Rattle.reach.proofs.holds.Kinds as holds-kinds
use Rattle.reach.proofs.holds.Reads as holds
use Rattle.reach.proofs.link_of.Kinds as link-of-kinds
use Rattle.reach.proofs.link_of.Reads as link-of
use Rattle.reach.proofs.no_link.Kinds as no-link-kinds
use Rattle.reach.proofs.no_link.Reads as no-link

pub holds_settled : Settles 1 holds-kinds.ps holds-kinds.r holds.Learnt
holds_settled κs a x y s t p q = settled p q

pub link_of_settled : Settles 1 link-of-kinds.ps link-of-kinds.r link-of.Learnt
link_of_settled κs a x y s t p q = settled p q

pub no_link_settled : Settles 0 no-link-kinds.ps no-link-kinds.r no-link.Learnt
no_link_settled κs a x y s t p q = settled p q
