-- Any two outcomes that a contract allows of one call are the same:
-- for each public function, of its contract itself, as the prover reads it.
use Rattle.basics.specs.Settles.{SettlesBytes}
use Rattle.basics.proofs.Settled.{settled}
use Rattle.gathers.proofs.lay.Kinds as lay-kinds
use Rattle.gathers.proofs.lay.Reads as lay
use Rattle.gathers.proofs.step.Kinds as step-kinds
use Rattle.gathers.proofs.step.Reads as step

pub lay_settled : SettlesBytes 3 lay-kinds.ps lay-kinds.r lay.Learnt (λ κs e. e.1.1.0.now)
lay_settled κs a x y s t p q = settled p q

pub step_settled : SettlesBytes 3 step-kinds.ps step-kinds.r step.Learnt (λ κs e. e.1.1.0.now)
step_settled κs a x y s t p q = settled p q
