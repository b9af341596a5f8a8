-- Any two outcomes that a contract allows of one call are the same:
-- for each public function, of its contract itself, as the prover reads it.
use Rattle.basics.specs.Settles.{SettlesBytes}
use Rattle.basics.proofs.Settled.{settled}
use Rattle.rowruns.proofs.runs.Kinds as runs-kinds
use Rattle.rowruns.proofs.runs.Reads as runs

pub runs_settled : SettlesBytes 1 runs-kinds.ps runs-kinds.r runs.Learnt (λ κs e. e.1.0.now)
runs_settled κs a x y s t p q = settled p q
