-- Any two outcomes that a contract allows of one call are the same:
-- for each public function, of its contract itself, as the prover reads it.
use Rattle.basics.specs.Settles.{Settles}
use Rattle.basics.proofs.Settled.{settled}
use Rattle.numbers.proofs.number_at.Kinds as number-at-kinds
use Rattle.numbers.proofs.number_at.Reads as number_at
use Rattle.numbers.proofs.line_end.Kinds as line-end-kinds
use Rattle.numbers.proofs.line_end.Reads as line-end

pub number_at_settled : Settles 1 number-at-kinds.ps number-at-kinds.r number_at.Learnt
number_at_settled κs a x y s t p q = settled p q

pub line_end_settled : Settles 1 line-end-kinds.ps line-end-kinds.r line-end.Learnt
line_end_settled κs a x y s t p q = settled p.0 q.0
