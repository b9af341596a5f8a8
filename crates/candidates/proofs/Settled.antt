-- Any two outcomes that a contract allows of one call are the same:
-- for each public function, of its contract itself, as the prover reads it.
use Rattle.basics.specs.Settles.{Settles, SettlesBytes}
use Rattle.basics.proofs.Settled.{settled}
use Rattle.candidates.proofs.try_no.Kinds as try-no-kinds
use Rattle.candidates.proofs.try_no.Reads as try-no
use Rattle.candidates.proofs.links_of.Kinds as links-of-kinds
use Rattle.candidates.proofs.links_of.Reads as links-of
use Rattle.candidates.proofs.length_of.Kinds as length-of-kinds
use Rattle.candidates.proofs.length_of.Reads as length-of
use Rattle.candidates.proofs.put_links.Kinds as put-links-kinds
use Rattle.candidates.proofs.put_links.Reads as put-links

pub try_no_settled : Settles 0 try-no-kinds.ps try-no-kinds.r try-no.Learnt
try_no_settled κs a x y s t p q = settled p.0 q.0

pub links_of_settled : Settles 0 links-of-kinds.ps links-of-kinds.r links-of.Learnt
links_of_settled κs a x y s t p q = settled p.0 q.0

pub length_of_settled : Settles 0 length-of-kinds.ps length-of-kinds.r length-of.Learnt
length_of_settled κs a x y s t p q = settled p.0 q.0

pub put_links_settled : SettlesBytes 1 put-links-kinds.ps put-links-kinds.r put-links.Learnt
    (λ κs e. e.0.now)
put_links_settled κs a x y s t p q = settled p q
