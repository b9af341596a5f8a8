-- Any two outcomes that a contract allows of one call are the same:
-- for each public function, of its contract itself, as the prover reads it.
use Rattle.basics.specs.Settles.{SettlesBytes}
use Rattle.basics.proofs.Settled.{settled}
use Rattle.less.proofs.subtract.Kinds as subtract-kinds
use Rattle.less.proofs.subtract.Reads as subtract

pub subtract_settled : SettlesBytes 2 subtract-kinds.ps
    subtract-kinds.r subtract.Learnt (λ κs e. e.1.1.1.1.1.0.now)
subtract_settled κs a x y s t p q = settled p q
