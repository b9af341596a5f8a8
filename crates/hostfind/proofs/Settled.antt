-- Any two outcomes that a contract allows of one call are the same:
-- for the entry point, of its contract itself, as the prover reads it.
use Rattle.basics.specs.Settles.{Settles, SettlesBytes}
use Rattle.basics.proofs.Settled.{settled}
use Rattle.hostfind.proofs.qik_find_chain.Kinds as qik-find-chain-kinds
use Rattle.hostfind.proofs.qik_find_chain.Reads as qik-find-chain

pub qik_find_chain_settled : Settles 2 qik-find-chain-kinds.ps qik-find-chain-kinds.r qik-find-chain.Learnt
qik_find_chain_settled κs a x y s t p q = settled p.0 q.0

pub qik_find_chain_settled_chain : SettlesBytes 2 qik-find-chain-kinds.ps
    qik-find-chain-kinds.r qik-find-chain.Learnt (λ κs e. e.1.0.now)
qik_find_chain_settled_chain κs a x y s t p q = settled p.1 q.1
