-- Any two outcomes that a contract allows of one call are the same:
-- for each public function, of its contract itself, as the prover reads it.
use Rattle.answer.proofs.OneToOne.{same_answer}
use Rattle.basics.specs.Settles.{Settles, SettlesBytes}
use Rattle.basics.proofs.Settled.{settled}
use Rattle.spectrum.proofs.spectrum.Kinds as spectrum-kinds
use Rattle.spectrum.proofs.spectrum.Reads as spectrum

pub spectrum_settled : Settles 3 spectrum-kinds.ps spectrum-kinds.r spectrum.Learnt
spectrum_settled κs a x y s t p q = same_answer x y _ p.0 q.0

pub spectrum_settled_counts : SettlesBytes 3 spectrum-kinds.ps
    spectrum-kinds.r spectrum.Learnt (λ κs e. e.1.1.1.0.now)
spectrum_settled_counts κs a x y s t p q = settled p.1.0 q.1.0

pub spectrum_settled_scratch : SettlesBytes 3 spectrum-kinds.ps
    spectrum-kinds.r spectrum.Learnt (λ κs e. e.1.1.1.1.0.now)
spectrum_settled_scratch κs a x y s t p q = settled p.1.1 q.1.1
