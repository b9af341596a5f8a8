-- Any two outcomes that the contract allows of one call are the same:
-- the bytes of the part that is given back, and where it begins.
use mathlib.Core.Path.{◌≡◌}
use borrow.Fn.Kinds.{Dens, res_t, ended_of}
use denote.Triple.Clauses.{AtExit}
use contract.Lifetimes.{Lfts}
use Rattle.basics.proofs.Settled.{settled}
use Rattle.finder.proofs.last_picture.Kinds as last-picture-kinds
use Rattle.finder.proofs.last_picture.Reads as last-picture

pub last_picture_settled : (κs : Lfts 1) (a : Dens κs last-picture-kinds.ps)
    (x y : (res_t last-picture-kinds.r κs).Denot)
    (s t : AtExit (ended_of 1 last-picture-kinds.ps last-picture-kinds.r) κs)
    → last-picture.Learnt κs a x s → last-picture.Learnt κs a y t
    → (x.now ≡ y.now) × (x.ref_ptr ≡ y.ref_ptr)
last_picture_settled κs a x y s t p q = (settled p.0 q.0, settled p.1 q.1)
