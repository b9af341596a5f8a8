-- Any two outcomes that a contract allows of one call are the same:
-- for each public function, of its contract itself, as the prover reads it.
use Rattle.basics.specs.Settles.{SettlesBytes}
use Rattle.basics.proofs.Settled.{settled}
use Rattle.bytewindows.proofs.windows.Kinds as windows-kinds
use Rattle.bytewindows.proofs.windows.Reads as windows
use Rattle.bytewindows.proofs.lay.Kinds as lay-kinds
use Rattle.bytewindows.proofs.lay.Reads as lay

pub windows_settled : SettlesBytes 1 windows-kinds.ps windows-kinds.r windows.Learnt (λ κs e. e.1.0.now)
windows_settled κs a x y s t p q = settled p q

pub lay_settled : SettlesBytes 2 lay-kinds.ps lay-kinds.r lay.Learnt (λ κs e. e.1.0.now)
lay_settled κs a x y s t p q = settled p q
