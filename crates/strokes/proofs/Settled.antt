-- Any two outcomes that a contract allows of one call are the same:
-- for each public function, of its contract itself, as the prover reads it.
use Rattle.basics.specs.Settles.{Settles, SettlesBytes}
use Rattle.basics.proofs.Settled.{settled}
use mathlib.Core.Path.{ap}
use Rattle.strokes.proofs.places_of.Kinds as places-of-kinds
use Rattle.strokes.proofs.places_of.Reads as places_of
use Rattle.strokes.proofs.kind_of.Kinds as kind-of-kinds
use Rattle.strokes.proofs.kind_of.Reads as kind-of
use Rattle.strokes.proofs.lacks_kind.Kinds as lacks-kind-kinds
use Rattle.strokes.proofs.lacks_kind.Reads as lacks-kind

pub places_of_settled : Settles 1 places-of-kinds.ps places-of-kinds.r places_of.Learnt
places_of_settled κs a x y s t p q = ap (λ f. f.0) (settled p.1 q.1)

pub places_of_settled_places : SettlesBytes 1 places-of-kinds.ps
    places-of-kinds.r places_of.Learnt (λ κs e. e.0.now)
places_of_settled_places κs a x y s t p q = ap (λ f. f.1) (settled p.1 q.1)

pub kind_of_settled : Settles 0 kind-of-kinds.ps kind-of-kinds.r kind-of.Learnt
kind_of_settled κs a x y s t p q = settled p q

pub lacks_kind_settled : Settles 1 lacks-kind-kinds.ps lacks-kind-kinds.r lacks-kind.Learnt
lacks_kind_settled κs a x y s t p q = settled p q
