-- Any two outcomes that a contract allows of one call are the same: for each public function, of its contract
-- itself, as the prover reads it.
use Rattle.basics.specs.Settles.{Settles, SettlesBytes}
use Rattle.basics.proofs.Settled.{settled}
use Rattle.decimals.proofs.decimal_len.Kinds as decimal-len-kinds
use Rattle.decimals.proofs.decimal_len.Reads as decimal-len
use Rattle.decimals.proofs.put_decimal.Kinds as put-decimal-kinds
use Rattle.decimals.proofs.put_decimal.Reads as put-decimal
use Rattle.decimals.proofs.put_labelled.Kinds as put-labelled-kinds
use Rattle.decimals.proofs.put_labelled.Reads as put-labelled

pub decimal_len_settled : Settles 0 decimal-len-kinds.ps decimal-len-kinds.r decimal-len.Learnt
decimal_len_settled κs a x y s t p q = settled p.0 q.0

pub put_decimal_settled : Settles 1 put-decimal-kinds.ps put-decimal-kinds.r put-decimal.Learnt
put_decimal_settled κs a x y s t p q = settled p.0 q.0

pub put_decimal_settled_target : SettlesBytes 1 put-decimal-kinds.ps
    put-decimal-kinds.r put-decimal.Learnt (λ κs e. e.0.now)
put_decimal_settled_target κs a x y s t p q = settled p.1 q.1

pub put_labelled_settled : Settles 2 put-labelled-kinds.ps put-labelled-kinds.r put-labelled.Learnt
put_labelled_settled κs a x y s t p q = settled p.0 q.0

pub put_labelled_settled_target : SettlesBytes 2 put-labelled-kinds.ps
    put-labelled-kinds.r put-labelled.Learnt (λ κs e. e.0.now)
put_labelled_settled_target κs a x y s t p q = settled p.1 q.1
