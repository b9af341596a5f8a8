-- Any two outcomes that a contract allows of one call are the same:
-- for each public function, of its contract itself, as the prover reads it.
use Rattle.basics.specs.Settles.{Settles, SettlesBytes}
use Rattle.basics.proofs.Settled.{settled}
use Rattle.boxrow.proofs.before.Kinds as before-kinds
use Rattle.boxrow.proofs.before.Reads as before
use Rattle.boxrow.proofs.copy_from.Kinds as copy-from-kinds
use Rattle.boxrow.proofs.copy_from.Reads as copy-from
use Rattle.boxrow.proofs.along.Kinds as along-kinds
use Rattle.boxrow.proofs.along.Reads as along

pub before_settled : Settles 0 before-kinds.ps before-kinds.r before.Learnt
before_settled κs a x y s t p q = settled p q

pub copy_from_settled : SettlesBytes 2 copy-from-kinds.ps
    copy-from-kinds.r copy-from.Learnt (λ κs e. e.0.now)
copy_from_settled κs a x y s t p q = settled p q

pub along_settled : SettlesBytes 2 along-kinds.ps along-kinds.r along.Learnt (λ κs e. e.1.1.1.0.now)
along_settled κs a x y s t p q = settled p.0 q.0

pub along_settled_left : SettlesBytes 2 along-kinds.ps along-kinds.r along.Learnt (λ κs e. e.1.1.0.now)
along_settled_left κs a x y s t p q = settled p.1.1 q.1.1
