-- Any two outcomes that a contract allows of one call are the same:
-- for each public function, of its contract itself, as the prover reads it.
use Rattle.basics.specs.Settles.{Settles}
use Rattle.basics.proofs.Settled.{settled}
use Rattle.settle.proofs.word.Kinds as word-kinds
use Rattle.settle.proofs.word.Reads as word
use Rattle.settle.proofs.across.Kinds as across-kinds
use Rattle.settle.proofs.across.Reads as across
use Rattle.settle.proofs.spread.Kinds as spread-kinds
use Rattle.settle.proofs.spread.Reads as spread

pub word_settled : Settles 1 word-kinds.ps word-kinds.r word.Learnt
word_settled κs a x y s t p q = settled p q

pub across_settled : Settles 1 across-kinds.ps across-kinds.r across.Learnt
across_settled κs a x y s t p q = settled p q

pub spread_settled : Settles 1 spread-kinds.ps spread-kinds.r spread.Learnt
spread_settled κs a x y s t p q = settled p q
