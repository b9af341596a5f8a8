-- Any two outcomes that a contract allows of one call are the same:
-- for each public function, of its contract itself, as the prover reads it.
use Rattle.basics.specs.Settles.{Settles}
use Rattle.basics.proofs.Settled.{settled}
use Rattle.plan.proofs.plan_of.Kinds as plan-of-kinds
use Rattle.plan.proofs.plan_of.Reads as plan-of
use Rattle.plan.proofs.outline_of.Kinds as outline-of-kinds
use Rattle.plan.proofs.outline_of.Reads as outline-of
use Rattle.plan.proofs.grows_of.Kinds as grows-of-kinds
use Rattle.plan.proofs.grows_of.Reads as grows-of

pub plan_of_settled : Settles 0 plan-of-kinds.ps plan-of-kinds.r plan-of.Learnt
plan_of_settled κs a x y s t p q = settled p q

pub outline_of_settled : Settles 0 outline-of-kinds.ps outline-of-kinds.r outline-of.Learnt
outline_of_settled κs a x y s t p q = settled p q

pub grows_of_settled : Settles 0 grows-of-kinds.ps grows-of-kinds.r grows-of.Learnt
grows_of_settled κs a x y s t p q = settled p q
