-- Any two outcomes that a contract allows of one call are the same:
-- for each entry point, of its contract itself, as the prover reads it.
use Rattle.basics.specs.Settles.{Settles, SettlesBytes}
use Rattle.basics.proofs.Settled.{settled}
use Rattle.regions.proofs.Firsts.{firsts_exist}
use Rattle.hostnest.proofs.qik_nesting.Kinds as qik-nesting-kinds
use Rattle.hostnest.proofs.qik_nesting.Reads as qik-nesting

pub qik_nesting_settled : Settles 2 qik-nesting-kinds.ps qik-nesting-kinds.r qik-nesting.Learnt
qik_nesting_settled κs a x y s t p q =
    let R = firsts_exist a.1.1.0.now a.0 a.1.0 in
    settled (p.0 R.0 R.1) (q.0 R.0 R.1)

pub qik_nesting_settled_list : SettlesBytes 2 qik-nesting-kinds.ps
    qik-nesting-kinds.r qik-nesting.Learnt (λ κs e. e.1.1.1.0.now)
qik_nesting_settled_list κs a x y s t p q =
    let R = firsts_exist a.1.1.0.now a.0 a.1.0 in
    settled (p.1 R.0 R.1) (q.1 R.0 R.1)
