-- Any two outcomes that a contract allows of one call are the same:
-- for each public function, of its contract itself, as the prover reads it.
use Rattle.answer.proofs.OneToOne.{same_answer}
use Rattle.basics.specs.Settles.{Settles, SettlesBytes}
use Rattle.basics.proofs.Settled.{settled}
use Rattle.differences.proofs.white_tophat.Kinds as white-kinds
use Rattle.differences.proofs.white_tophat.Reads as white
use Rattle.differences.proofs.black_tophat.Kinds as black-kinds
use Rattle.differences.proofs.black_tophat.Reads as black
use Rattle.differences.proofs.gradient.Kinds as gradient-kinds
use Rattle.differences.proofs.gradient.Reads as gradient

pub white_tophat_settled : Settles 4 white-kinds.ps white-kinds.r white.Learnt
white_tophat_settled κs a x y s t p q = same_answer x y _ p.0 q.0

pub white_tophat_settled_target : SettlesBytes 4 white-kinds.ps
    white-kinds.r white.Learnt (λ κs e. e.1.1.1.1.1.0.now)
white_tophat_settled_target κs a x y s t p q = settled p.1.0 q.1.0

pub white_tophat_settled_scratch : SettlesBytes 4 white-kinds.ps
    white-kinds.r white.Learnt (λ κs e. e.1.1.1.1.1.1.0.now)
white_tophat_settled_scratch κs a x y s t p q = settled p.1.1 q.1.1

pub black_tophat_settled : Settles 4 black-kinds.ps black-kinds.r black.Learnt
black_tophat_settled κs a x y s t p q = same_answer x y _ p.0 q.0

pub black_tophat_settled_target : SettlesBytes 4 black-kinds.ps
    black-kinds.r black.Learnt (λ κs e. e.1.1.1.1.1.0.now)
black_tophat_settled_target κs a x y s t p q = settled p.1.0 q.1.0

pub black_tophat_settled_scratch : SettlesBytes 4 black-kinds.ps
    black-kinds.r black.Learnt (λ κs e. e.1.1.1.1.1.1.0.now)
black_tophat_settled_scratch κs a x y s t p q = settled p.1.1 q.1.1

pub gradient_settled : Settles 4 gradient-kinds.ps gradient-kinds.r gradient.Learnt
gradient_settled κs a x y s t p q = same_answer x y _ p.0 q.0

pub gradient_settled_target : SettlesBytes 4 gradient-kinds.ps
    gradient-kinds.r gradient.Learnt (λ κs e. e.1.1.1.1.1.0.now)
gradient_settled_target κs a x y s t p q = settled p.1.0 q.1.0

pub gradient_settled_scratch : SettlesBytes 4 gradient-kinds.ps
    gradient-kinds.r gradient.Learnt (λ κs e. e.1.1.1.1.1.1.0.now)
gradient_settled_scratch κs a x y s t p q = settled p.1.1 q.1.1
