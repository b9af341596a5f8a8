-- Any two outcomes that a contract allows of one call are the same:
-- for each public function, of its contract itself, as the prover reads it.
use Rattle.answer.proofs.OneToOne.{same_answer}
use Rattle.basics.specs.Settles.{Settles, SettlesBytes}
use Rattle.basics.proofs.Settled.{settled}
use Rattle.flat.proofs.erode.Kinds as erode-kinds
use Rattle.flat.proofs.erode.Reads as erode
use Rattle.flat.proofs.dilate.Kinds as dilate-kinds
use Rattle.flat.proofs.dilate.Reads as dilate
use Rattle.flat.proofs.open.Kinds as open-kinds
use Rattle.flat.proofs.open.Reads as opened
use Rattle.flat.proofs.close.Kinds as close-kinds
use Rattle.flat.proofs.close.Reads as close

pub erode_settled : Settles 3 erode-kinds.ps erode-kinds.r erode.Learnt
erode_settled κs a x y s t p q = same_answer x y _ p.0 q.0

pub erode_settled_target : SettlesBytes 3 erode-kinds.ps
    erode-kinds.r erode.Learnt (λ κs e. e.1.1.1.1.1.0.now)
erode_settled_target κs a x y s t p q = settled p.1 q.1

pub dilate_settled : Settles 3 dilate-kinds.ps dilate-kinds.r dilate.Learnt
dilate_settled κs a x y s t p q = same_answer x y _ p.0 q.0

pub dilate_settled_target : SettlesBytes 3 dilate-kinds.ps
    dilate-kinds.r dilate.Learnt (λ κs e. e.1.1.1.1.1.0.now)
dilate_settled_target κs a x y s t p q = settled p.1 q.1

pub open_settled : Settles 4 open-kinds.ps open-kinds.r opened.Learnt
open_settled κs a x y s t p q = same_answer x y _ p.0 q.0

pub open_settled_target : SettlesBytes 4 open-kinds.ps
    open-kinds.r opened.Learnt (λ κs e. e.1.1.1.1.1.0.now)
open_settled_target κs a x y s t p q = settled p.1.0 q.1.0

pub open_settled_scratch : SettlesBytes 4 open-kinds.ps
    open-kinds.r opened.Learnt (λ κs e. e.1.1.1.1.1.1.0.now)
open_settled_scratch κs a x y s t p q = settled p.1.1 q.1.1

pub close_settled : Settles 4 close-kinds.ps close-kinds.r close.Learnt
close_settled κs a x y s t p q = same_answer x y _ p.0 q.0

pub close_settled_target : SettlesBytes 4 close-kinds.ps
    close-kinds.r close.Learnt (λ κs e. e.1.1.1.1.1.0.now)
close_settled_target κs a x y s t p q = settled p.1.0 q.1.0

pub close_settled_scratch : SettlesBytes 4 close-kinds.ps
    close-kinds.r close.Learnt (λ κs e. e.1.1.1.1.1.1.0.now)
close_settled_scratch κs a x y s t p q = settled p.1.1 q.1.1
