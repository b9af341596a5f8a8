-- Any two outcomes that a contract allows of one call are the same: for each public function, of its contract
-- itself, as the prover reads it.
use Rattle.basics.specs.Settles.{Settles, SettlesBytes}
use Rattle.basics.proofs.Settled.{settled}
use Rattle.digits.proofs.put_byte.Kinds as put-byte-kinds
use Rattle.digits.proofs.put_byte.Reads as put_byte
use Rattle.digits.proofs.put_bytes.Kinds as put-bytes-kinds
use Rattle.digits.proofs.put_bytes.Reads as put-bytes

pub put_byte_settled : Settles 1 put-byte-kinds.ps put-byte-kinds.r put_byte.Learnt
put_byte_settled κs a x y s t p q = settled p.0 q.0

pub put_byte_settled_target : SettlesBytes 1 put-byte-kinds.ps
    put-byte-kinds.r put_byte.Learnt (λ κs e. e.0.now)
put_byte_settled_target κs a x y s t p q = settled p.1 q.1

pub put_bytes_settled : Settles 2 put-bytes-kinds.ps put-bytes-kinds.r put-bytes.Learnt
put_bytes_settled κs a x y s t p q = settled p.0 q.0

pub put_bytes_settled_target : SettlesBytes 2 put-bytes-kinds.ps
    put-bytes-kinds.r put-bytes.Learnt (λ κs e. e.0.now)
put_bytes_settled_target κs a x y s t p q = settled p.1 q.1
