-- Any two outcomes that a contract allows of one call are the same:
-- for each entry point, of its contract itself, as the prover reads it.
use Rattle.basics.specs.Settles.{Settles, SettlesBytes}
use Rattle.basics.proofs.Settled.{settled}
use Rattle.hostgrow.proofs.qik_reconstruct_cross.Kinds as qik-reconstruct-cross-kinds
use Rattle.hostgrow.proofs.qik_reconstruct_cross.Reads as qik-reconstruct-cross
use Rattle.hostgrow.proofs.qik_reconstruct_square.Kinds as qik-reconstruct-square-kinds
use Rattle.hostgrow.proofs.qik_reconstruct_square.Reads as qik-reconstruct-square

pub qik_reconstruct_cross_settled : Settles 3 qik-reconstruct-cross-kinds.ps qik-reconstruct-cross-kinds.r
    qik-reconstruct-cross.Learnt
qik_reconstruct_cross_settled κs a x y s t p q = settled p.0 q.0

pub qik_reconstruct_cross_settled_target : SettlesBytes 3 qik-reconstruct-cross-kinds.ps
    qik-reconstruct-cross-kinds.r qik-reconstruct-cross.Learnt (λ κs e. e.1.1.1.1.0.now)
qik_reconstruct_cross_settled_target κs a x y s t p q = settled p.1 q.1

pub qik_reconstruct_square_settled : Settles 3 qik-reconstruct-square-kinds.ps qik-reconstruct-square-kinds.r
    qik-reconstruct-square.Learnt
qik_reconstruct_square_settled κs a x y s t p q = settled p.0 q.0

pub qik_reconstruct_square_settled_target : SettlesBytes 3 qik-reconstruct-square-kinds.ps
    qik-reconstruct-square-kinds.r qik-reconstruct-square.Learnt (λ κs e. e.1.1.1.1.0.now)
qik_reconstruct_square_settled_target κs a x y s t p q = settled p.1 q.1
