-- Any two outcomes that a contract allows of one call are the same:
-- for the entry point, of its contract itself, as the prover reads it.
use Rattle.basics.specs.Settles.{Settles, SettlesBytes}
use Rattle.basics.proofs.Settled.{settled}
use Rattle.hostsizes.proofs.qik_size_spectrum.Kinds as qik-size-spectrum-kinds
use Rattle.hostsizes.proofs.qik_size_spectrum.Reads as qik-size-spectrum

pub qik_size_spectrum_settled : Settles 3 qik-size-spectrum-kinds.ps qik-size-spectrum-kinds.r
    qik-size-spectrum.Learnt
qik_size_spectrum_settled κs a x y s t p q = settled p.0 q.0

pub qik_size_spectrum_settled_counts : SettlesBytes 3 qik-size-spectrum-kinds.ps
    qik-size-spectrum-kinds.r qik-size-spectrum.Learnt (λ κs e. e.1.1.1.0.now)
qik_size_spectrum_settled_counts κs a x y s t p q = settled p.1.0 q.1.0

pub qik_size_spectrum_settled_scratch : SettlesBytes 3 qik-size-spectrum-kinds.ps
    qik-size-spectrum-kinds.r qik-size-spectrum.Learnt (λ κs e. e.1.1.1.1.0.now)
qik_size_spectrum_settled_scratch κs a x y s t p q = settled p.1.1 q.1.1
