-- Any two outcomes that a contract allows of one call are the same: for each public function, of its contract
-- itself, as the prover reads it.
use Rattle.answer.proofs.OneToOne.{same_answer}
use Rattle.basics.specs.Settles.{Settles, SettlesBytes}
use Rattle.basics.proofs.Settled.{settled}
use Rattle.work.proofs.refused.Kinds as refused-kinds
use Rattle.work.proofs.refused.Reads as refused
use Rattle.work.proofs.carry_out.Kinds as carry-out-kinds
use Rattle.work.proofs.carry_out.Reads as carry-out

pub refused_settled : Settles 1 refused-kinds.ps refused-kinds.r refused.Learnt
refused_settled κs a x y s t p q = λ i. record {
  answer = settled p.0.0 q.0.0 i;
  printed = settled p.0.1 q.0.1 i;
}

pub refused_settled_text : SettlesBytes 1 refused-kinds.ps
    refused-kinds.r refused.Learnt (λ κs e. e.1.0.now)
refused_settled_text κs a x y s t p q = settled p.1 q.1

pub carry_out_settled : Settles 6 carry-out-kinds.ps carry-out-kinds.r carry-out.Learnt
carry_out_settled κs a x y s t p q = λ i. record {
  answer = same_answer x.answer y.answer _ p.answer q.answer i;
  printed = settled p.length_is q.length_is i;
}

pub carry_out_settled_picture :
    SettlesBytes 6 carry-out-kinds.ps carry-out-kinds.r carry-out.Learnt (λ κs e. e.1.1.1.0.now)
carry_out_settled_picture κs a x y s t p q = settled p.picture q.picture

pub carry_out_settled_result :
    SettlesBytes 6 carry-out-kinds.ps carry-out-kinds.r carry-out.Learnt (λ κs e. e.1.1.1.1.0.now)
carry_out_settled_result κs a x y s t p q = settled p.result q.result

pub carry_out_settled_scratch :
    SettlesBytes 6 carry-out-kinds.ps carry-out-kinds.r carry-out.Learnt (λ κs e. e.1.1.1.1.1.0.now)
carry_out_settled_scratch κs a x y s t p q = settled p.scratch q.scratch

pub carry_out_settled_text :
    SettlesBytes 6 carry-out-kinds.ps carry-out-kinds.r carry-out.Learnt (λ κs e. e.1.1.1.1.1.1.0.now)
carry_out_settled_text κs a x y s t p q = settled p.text q.text
