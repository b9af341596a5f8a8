-- Any two outcomes that a contract allows of one call are the same:
-- for each public function, of its contract itself, as the prover reads it.
use Rattle.basics.specs.Settles.{SettlesBytes}
use Rattle.basics.proofs.Settled.{settled}
use Rattle.bitwindows.proofs.windows.Kinds as windows-kinds
use Rattle.bitwindows.proofs.windows.Reads as windows
use Rattle.bitwindows.proofs.gather.Kinds as gather-kinds
use Rattle.bitwindows.proofs.gather.Reads as gather

pub windows_settled : SettlesBytes 1 windows-kinds.ps windows-kinds.r windows.Learnt (λ κs e. e.1.0.now)
windows_settled κs a x y s t p q = settled p q

pub gather_settled : SettlesBytes 1 gather-kinds.ps gather-kinds.r gather.Learnt (λ κs e. e.1.0.now)
gather_settled κs a x y s t p q = settled p q
