-- Any two outcomes that a contract allows of one call are the same:
-- for each public function, of its contract itself, as the prover reads it.
use Rattle.basics.specs.Settles.{Settles}
use Rattle.basics.proofs.Settled.{settled}
use Rattle.paths.proofs.all_sums.Kinds as all-sums-kinds
use Rattle.paths.proofs.all_sums.Reads as all-sums
use Rattle.paths.proofs.path.Kinds as path-kinds
use Rattle.paths.proofs.path.Reads as path

pub all_sums_settled : Settles 0 all-sums-kinds.ps all-sums-kinds.r all-sums.Learnt
all_sums_settled κs a x y s t p q = settled p q

pub path_settled : Settles 0 path-kinds.ps path-kinds.r path.Learnt
path_settled κs a x y s t p q = settled p q
