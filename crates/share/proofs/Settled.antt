-- Any two outcomes that a contract allows of one call are the same:
-- for each public function, of its contract itself, as the prover reads it.
use Rattle.answer.proofs.OneToOne.{same_answer}
use Rattle.basics.specs.Settles.{Settles, SettlesBytes}
use Rattle.basics.proofs.Settled.{settled}
use Rattle.share.proofs.made.Kinds as made-kinds
use Rattle.share.proofs.made.Reads as made
use Rattle.share.proofs.absent_refusal.Kinds as absent-refusal-kinds
use Rattle.share.proofs.absent_refusal.Reads as absent-refusal
use Rattle.share.proofs.tidy.Kinds as tidy-kinds
use Rattle.share.proofs.tidy.Reads as tidy
use Rattle.share.proofs.length_at.Kinds as length-at-kinds
use Rattle.share.proofs.length_at.Reads as length_at
use Rattle.share.proofs.place_of.Kinds as place-of-kinds
use Rattle.share.proofs.place_of.Reads as place_of
use Rattle.share.proofs.total.Kinds as total-kinds
use Rattle.share.proofs.total.Reads as total

pub made_settled : Settles 1 made-kinds.ps made-kinds.r made.Learnt
made_settled κs a x y s t p q = settled p q

pub absent_refusal_settled : Settles 1 absent-refusal-kinds.ps absent-refusal-kinds.r absent-refusal.Learnt
absent_refusal_settled κs a x y s t p q = same_answer x y _ p q

pub tidy_settled : SettlesBytes 1 tidy-kinds.ps tidy-kinds.r tidy.Learnt (λ κs e. e.0.now)
tidy_settled κs a x y s t p q = settled p q

pub length_at_settled : Settles 1 length-at-kinds.ps length-at-kinds.r length_at.Learnt
length_at_settled κs a x y s t p q = settled p.0 q.0

pub place_of_settled : Settles 1 place-of-kinds.ps place-of-kinds.r place_of.Learnt
place_of_settled κs a x y s t p q = settled p.0 q.0

pub total_settled : Settles 1 total-kinds.ps total-kinds.r total.Learnt
total_settled κs a x y s t p q = settled p.0 q.0
