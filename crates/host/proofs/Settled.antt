-- Any two outcomes that a contract allows of one call are the same:
-- for each entry point, of its contract itself, as the prover reads it.
use Rattle.basics.specs.Settles.{Settles, SettlesBytes}
use Rattle.basics.proofs.Settled.{settled}
use Rattle.host.proofs.qik_erode1.Kinds as qik-erode1-kinds
use Rattle.host.proofs.qik_erode1.Reads as qik-erode1
use Rattle.host.proofs.qik_dilate1.Kinds as qik-dilate1-kinds
use Rattle.host.proofs.qik_dilate1.Reads as qik-dilate1
use Rattle.host.proofs.qik_open1.Kinds as qik-open1-kinds
use Rattle.host.proofs.qik_open1.Reads as qik-open1
use Rattle.host.proofs.qik_close1.Kinds as qik-close1-kinds
use Rattle.host.proofs.qik_close1.Reads as qik-close1
use Rattle.host.proofs.qik_erode8.Kinds as qik-erode8-kinds
use Rattle.host.proofs.qik_erode8.Reads as qik-erode8
use Rattle.host.proofs.qik_dilate8.Kinds as qik-dilate8-kinds
use Rattle.host.proofs.qik_dilate8.Reads as qik-dilate8
use Rattle.host.proofs.qik_open8.Kinds as qik-open8-kinds
use Rattle.host.proofs.qik_open8.Reads as qik-open8
use Rattle.host.proofs.qik_close8.Kinds as qik-close8-kinds
use Rattle.host.proofs.qik_close8.Reads as qik-close8
use Rattle.host.proofs.qik_hit_or_miss.Kinds as qik-hit-or-miss-kinds
use Rattle.host.proofs.qik_hit_or_miss.Reads as qik-hit-or-miss
use Rattle.host.proofs.qik_weighted_erode.Kinds as qik-weighted-erode-kinds
use Rattle.host.proofs.qik_weighted_erode.Reads as qik-weighted-erode
use Rattle.host.proofs.qik_weighted_dilate.Kinds as qik-weighted-dilate-kinds
use Rattle.host.proofs.qik_weighted_dilate.Reads as qik-weighted-dilate
use Rattle.host.proofs.qik_weighted_open.Kinds as qik-weighted-open-kinds
use Rattle.host.proofs.qik_weighted_open.Reads as qik-weighted-open
use Rattle.host.proofs.qik_weighted_close.Kinds as qik-weighted-close-kinds
use Rattle.host.proofs.qik_weighted_close.Reads as qik-weighted-close
use Rattle.host.proofs.qik_white_tophat1.Kinds as qik-white-tophat1-kinds
use Rattle.host.proofs.qik_white_tophat1.Reads as qik-white-tophat1
use Rattle.host.proofs.qik_white_tophat8.Kinds as qik-white-tophat8-kinds
use Rattle.host.proofs.qik_white_tophat8.Reads as qik-white-tophat8
use Rattle.host.proofs.qik_black_tophat1.Kinds as qik-black-tophat1-kinds
use Rattle.host.proofs.qik_black_tophat1.Reads as qik-black-tophat1
use Rattle.host.proofs.qik_black_tophat8.Kinds as qik-black-tophat8-kinds
use Rattle.host.proofs.qik_black_tophat8.Reads as qik-black-tophat8
use Rattle.host.proofs.qik_gradient1.Kinds as qik-gradient1-kinds
use Rattle.host.proofs.qik_gradient1.Reads as qik-gradient1
use Rattle.host.proofs.qik_gradient8.Kinds as qik-gradient8-kinds
use Rattle.host.proofs.qik_gradient8.Reads as qik-gradient8
use Rattle.host.proofs.qik_check_chain.Kinds as qik-check-chain-kinds
use Rattle.host.proofs.qik_check_chain.Reads as qik-check-chain
use Rattle.host.proofs.qik_chain_erode1.Kinds as qik-chain-erode1-kinds
use Rattle.host.proofs.qik_chain_erode1.Reads as qik-chain-erode1
use Rattle.host.proofs.qik_chain_erode8.Kinds as qik-chain-erode8-kinds
use Rattle.host.proofs.qik_chain_erode8.Reads as qik-chain-erode8
use Rattle.host.proofs.qik_chain_dilate1.Kinds as qik-chain-dilate1-kinds
use Rattle.host.proofs.qik_chain_dilate1.Reads as qik-chain-dilate1
use Rattle.host.proofs.qik_chain_dilate8.Kinds as qik-chain-dilate8-kinds
use Rattle.host.proofs.qik_chain_dilate8.Reads as qik-chain-dilate8

pub qik_erode1_settled : Settles 3 qik-erode1-kinds.ps qik-erode1-kinds.r qik-erode1.Learnt
qik_erode1_settled κs a x y s t p q = settled p.0 q.0

pub qik_erode1_settled_target : SettlesBytes 3 qik-erode1-kinds.ps
    qik-erode1-kinds.r qik-erode1.Learnt (λ κs e. e.1.1.1.1.0.now)
qik_erode1_settled_target κs a x y s t p q = settled p.1 q.1

pub qik_dilate1_settled : Settles 3 qik-dilate1-kinds.ps qik-dilate1-kinds.r qik-dilate1.Learnt
qik_dilate1_settled κs a x y s t p q = settled p.0 q.0

pub qik_dilate1_settled_target : SettlesBytes 3 qik-dilate1-kinds.ps
    qik-dilate1-kinds.r qik-dilate1.Learnt (λ κs e. e.1.1.1.1.0.now)
qik_dilate1_settled_target κs a x y s t p q = settled p.1 q.1

pub qik_open1_settled : Settles 4 qik-open1-kinds.ps qik-open1-kinds.r qik-open1.Learnt
qik_open1_settled κs a x y s t p q = settled p.0 q.0

pub qik_open1_settled_target : SettlesBytes 4 qik-open1-kinds.ps
    qik-open1-kinds.r qik-open1.Learnt (λ κs e. e.1.1.1.1.0.now)
qik_open1_settled_target κs a x y s t p q = settled p.1.0 q.1.0

pub qik_open1_settled_scratch : SettlesBytes 4 qik-open1-kinds.ps
    qik-open1-kinds.r qik-open1.Learnt (λ κs e. e.1.1.1.1.1.0.now)
qik_open1_settled_scratch κs a x y s t p q = settled p.1.1 q.1.1

pub qik_close1_settled : Settles 4 qik-close1-kinds.ps qik-close1-kinds.r qik-close1.Learnt
qik_close1_settled κs a x y s t p q = settled p.0 q.0

pub qik_close1_settled_target : SettlesBytes 4 qik-close1-kinds.ps
    qik-close1-kinds.r qik-close1.Learnt (λ κs e. e.1.1.1.1.0.now)
qik_close1_settled_target κs a x y s t p q = settled p.1.0 q.1.0

pub qik_close1_settled_scratch : SettlesBytes 4 qik-close1-kinds.ps
    qik-close1-kinds.r qik-close1.Learnt (λ κs e. e.1.1.1.1.1.0.now)
qik_close1_settled_scratch κs a x y s t p q = settled p.1.1 q.1.1

pub qik_erode8_settled : Settles 3 qik-erode8-kinds.ps qik-erode8-kinds.r qik-erode8.Learnt
qik_erode8_settled κs a x y s t p q = settled p.0 q.0

pub qik_erode8_settled_target : SettlesBytes 3 qik-erode8-kinds.ps
    qik-erode8-kinds.r qik-erode8.Learnt (λ κs e. e.1.1.1.1.0.now)
qik_erode8_settled_target κs a x y s t p q = settled p.1 q.1

pub qik_dilate8_settled : Settles 3 qik-dilate8-kinds.ps qik-dilate8-kinds.r qik-dilate8.Learnt
qik_dilate8_settled κs a x y s t p q = settled p.0 q.0

pub qik_dilate8_settled_target : SettlesBytes 3 qik-dilate8-kinds.ps
    qik-dilate8-kinds.r qik-dilate8.Learnt (λ κs e. e.1.1.1.1.0.now)
qik_dilate8_settled_target κs a x y s t p q = settled p.1 q.1

pub qik_open8_settled : Settles 4 qik-open8-kinds.ps qik-open8-kinds.r qik-open8.Learnt
qik_open8_settled κs a x y s t p q = settled p.0 q.0

pub qik_open8_settled_target : SettlesBytes 4 qik-open8-kinds.ps
    qik-open8-kinds.r qik-open8.Learnt (λ κs e. e.1.1.1.1.0.now)
qik_open8_settled_target κs a x y s t p q = settled p.1.0 q.1.0

pub qik_open8_settled_scratch : SettlesBytes 4 qik-open8-kinds.ps
    qik-open8-kinds.r qik-open8.Learnt (λ κs e. e.1.1.1.1.1.0.now)
qik_open8_settled_scratch κs a x y s t p q = settled p.1.1 q.1.1

pub qik_close8_settled : Settles 4 qik-close8-kinds.ps qik-close8-kinds.r qik-close8.Learnt
qik_close8_settled κs a x y s t p q = settled p.0 q.0

pub qik_close8_settled_target : SettlesBytes 4 qik-close8-kinds.ps
    qik-close8-kinds.r qik-close8.Learnt (λ κs e. e.1.1.1.1.0.now)
qik_close8_settled_target κs a x y s t p q = settled p.1.0 q.1.0

pub qik_close8_settled_scratch : SettlesBytes 4 qik-close8-kinds.ps
    qik-close8-kinds.r qik-close8.Learnt (λ κs e. e.1.1.1.1.1.0.now)
qik_close8_settled_scratch κs a x y s t p q = settled p.1.1 q.1.1

pub qik_hit_or_miss_settled : Settles 4 qik-hit-or-miss-kinds.ps
    qik-hit-or-miss-kinds.r qik-hit-or-miss.Learnt
qik_hit_or_miss_settled κs a x y s t p q = settled p.0 q.0

pub qik_hit_or_miss_settled_target : SettlesBytes 4 qik-hit-or-miss-kinds.ps
    qik-hit-or-miss-kinds.r qik-hit-or-miss.Learnt (λ κs e. e.1.1.1.1.1.0.now)
qik_hit_or_miss_settled_target κs a x y s t p q = settled p.1 q.1

pub qik_weighted_erode_settled : Settles 3 qik-weighted-erode-kinds.ps
    qik-weighted-erode-kinds.r qik-weighted-erode.Learnt
qik_weighted_erode_settled κs a x y s t p q = settled p.0 q.0

pub qik_weighted_erode_settled_target : SettlesBytes 3 qik-weighted-erode-kinds.ps
    qik-weighted-erode-kinds.r qik-weighted-erode.Learnt (λ κs e. e.1.1.1.1.0.now)
qik_weighted_erode_settled_target κs a x y s t p q = settled p.1 q.1

pub qik_weighted_dilate_settled : Settles 3 qik-weighted-dilate-kinds.ps
    qik-weighted-dilate-kinds.r qik-weighted-dilate.Learnt
qik_weighted_dilate_settled κs a x y s t p q = settled p.0 q.0

pub qik_weighted_dilate_settled_target : SettlesBytes 3 qik-weighted-dilate-kinds.ps
    qik-weighted-dilate-kinds.r qik-weighted-dilate.Learnt (λ κs e. e.1.1.1.1.0.now)
qik_weighted_dilate_settled_target κs a x y s t p q = settled p.1 q.1

pub qik_weighted_open_settled : Settles 4 qik-weighted-open-kinds.ps
    qik-weighted-open-kinds.r qik-weighted-open.Learnt
qik_weighted_open_settled κs a x y s t p q = settled p.0 q.0

pub qik_weighted_open_settled_target : SettlesBytes 4 qik-weighted-open-kinds.ps
    qik-weighted-open-kinds.r qik-weighted-open.Learnt (λ κs e. e.1.1.1.1.0.now)
qik_weighted_open_settled_target κs a x y s t p q = settled p.1.0 q.1.0

pub qik_weighted_open_settled_scratch : SettlesBytes 4 qik-weighted-open-kinds.ps
    qik-weighted-open-kinds.r qik-weighted-open.Learnt (λ κs e. e.1.1.1.1.1.0.now)
qik_weighted_open_settled_scratch κs a x y s t p q = settled p.1.1 q.1.1

pub qik_weighted_close_settled : Settles 4 qik-weighted-close-kinds.ps
    qik-weighted-close-kinds.r qik-weighted-close.Learnt
qik_weighted_close_settled κs a x y s t p q = settled p.0 q.0

pub qik_weighted_close_settled_target : SettlesBytes 4 qik-weighted-close-kinds.ps
    qik-weighted-close-kinds.r qik-weighted-close.Learnt (λ κs e. e.1.1.1.1.0.now)
qik_weighted_close_settled_target κs a x y s t p q = settled p.1.0 q.1.0

pub qik_weighted_close_settled_scratch : SettlesBytes 4 qik-weighted-close-kinds.ps
    qik-weighted-close-kinds.r qik-weighted-close.Learnt (λ κs e. e.1.1.1.1.1.0.now)
qik_weighted_close_settled_scratch κs a x y s t p q = settled p.1.1 q.1.1

pub qik_white_tophat1_settled : Settles 4 qik-white-tophat1-kinds.ps qik-white-tophat1-kinds.r
    qik-white-tophat1.Learnt
qik_white_tophat1_settled κs a x y s t p q = settled p.0 q.0

pub qik_white_tophat1_settled_target : SettlesBytes 4 qik-white-tophat1-kinds.ps
    qik-white-tophat1-kinds.r qik-white-tophat1.Learnt (λ κs e. e.1.1.1.1.0.now)
qik_white_tophat1_settled_target κs a x y s t p q = settled p.1.0 q.1.0

pub qik_white_tophat1_settled_scratch : SettlesBytes 4 qik-white-tophat1-kinds.ps
    qik-white-tophat1-kinds.r qik-white-tophat1.Learnt (λ κs e. e.1.1.1.1.1.0.now)
qik_white_tophat1_settled_scratch κs a x y s t p q = settled p.1.1 q.1.1

pub qik_white_tophat8_settled : Settles 4 qik-white-tophat8-kinds.ps qik-white-tophat8-kinds.r
    qik-white-tophat8.Learnt
qik_white_tophat8_settled κs a x y s t p q = settled p.0 q.0

pub qik_white_tophat8_settled_target : SettlesBytes 4 qik-white-tophat8-kinds.ps
    qik-white-tophat8-kinds.r qik-white-tophat8.Learnt (λ κs e. e.1.1.1.1.0.now)
qik_white_tophat8_settled_target κs a x y s t p q = settled p.1.0 q.1.0

pub qik_white_tophat8_settled_scratch : SettlesBytes 4 qik-white-tophat8-kinds.ps
    qik-white-tophat8-kinds.r qik-white-tophat8.Learnt (λ κs e. e.1.1.1.1.1.0.now)
qik_white_tophat8_settled_scratch κs a x y s t p q = settled p.1.1 q.1.1

pub qik_black_tophat1_settled : Settles 4 qik-black-tophat1-kinds.ps qik-black-tophat1-kinds.r
    qik-black-tophat1.Learnt
qik_black_tophat1_settled κs a x y s t p q = settled p.0 q.0

pub qik_black_tophat1_settled_target : SettlesBytes 4 qik-black-tophat1-kinds.ps
    qik-black-tophat1-kinds.r qik-black-tophat1.Learnt (λ κs e. e.1.1.1.1.0.now)
qik_black_tophat1_settled_target κs a x y s t p q = settled p.1.0 q.1.0

pub qik_black_tophat1_settled_scratch : SettlesBytes 4 qik-black-tophat1-kinds.ps
    qik-black-tophat1-kinds.r qik-black-tophat1.Learnt (λ κs e. e.1.1.1.1.1.0.now)
qik_black_tophat1_settled_scratch κs a x y s t p q = settled p.1.1 q.1.1

pub qik_black_tophat8_settled : Settles 4 qik-black-tophat8-kinds.ps qik-black-tophat8-kinds.r
    qik-black-tophat8.Learnt
qik_black_tophat8_settled κs a x y s t p q = settled p.0 q.0

pub qik_black_tophat8_settled_target : SettlesBytes 4 qik-black-tophat8-kinds.ps
    qik-black-tophat8-kinds.r qik-black-tophat8.Learnt (λ κs e. e.1.1.1.1.0.now)
qik_black_tophat8_settled_target κs a x y s t p q = settled p.1.0 q.1.0

pub qik_black_tophat8_settled_scratch : SettlesBytes 4 qik-black-tophat8-kinds.ps
    qik-black-tophat8-kinds.r qik-black-tophat8.Learnt (λ κs e. e.1.1.1.1.1.0.now)
qik_black_tophat8_settled_scratch κs a x y s t p q = settled p.1.1 q.1.1

pub qik_gradient1_settled : Settles 4 qik-gradient1-kinds.ps qik-gradient1-kinds.r qik-gradient1.Learnt
qik_gradient1_settled κs a x y s t p q = settled p.0 q.0

pub qik_gradient1_settled_target : SettlesBytes 4 qik-gradient1-kinds.ps
    qik-gradient1-kinds.r qik-gradient1.Learnt (λ κs e. e.1.1.1.1.0.now)
qik_gradient1_settled_target κs a x y s t p q = settled p.1.0 q.1.0

pub qik_gradient1_settled_scratch : SettlesBytes 4 qik-gradient1-kinds.ps
    qik-gradient1-kinds.r qik-gradient1.Learnt (λ κs e. e.1.1.1.1.1.0.now)
qik_gradient1_settled_scratch κs a x y s t p q = settled p.1.1 q.1.1

pub qik_gradient8_settled : Settles 4 qik-gradient8-kinds.ps qik-gradient8-kinds.r qik-gradient8.Learnt
qik_gradient8_settled κs a x y s t p q = settled p.0 q.0

pub qik_gradient8_settled_target : SettlesBytes 4 qik-gradient8-kinds.ps
    qik-gradient8-kinds.r qik-gradient8.Learnt (λ κs e. e.1.1.1.1.0.now)
qik_gradient8_settled_target κs a x y s t p q = settled p.1.0 q.1.0

pub qik_gradient8_settled_scratch : SettlesBytes 4 qik-gradient8-kinds.ps
    qik-gradient8-kinds.r qik-gradient8.Learnt (λ κs e. e.1.1.1.1.1.0.now)
qik_gradient8_settled_scratch κs a x y s t p q = settled p.1.1 q.1.1

pub qik_check_chain_settled : Settles 2 qik-check-chain-kinds.ps
    qik-check-chain-kinds.r qik-check-chain.Learnt
qik_check_chain_settled κs a x y s t p q = settled p q

pub qik_chain_erode1_settled : Settles 5 qik-chain-erode1-kinds.ps
    qik-chain-erode1-kinds.r qik-chain-erode1.Learnt
qik_chain_erode1_settled κs a x y s t p q = settled p.0 q.0

pub qik_chain_erode1_settled_first : SettlesBytes 5 qik-chain-erode1-kinds.ps
    qik-chain-erode1-kinds.r qik-chain-erode1.Learnt (λ κs e. e.1.1.1.1.1.1.0.now)
qik_chain_erode1_settled_first κs a x y s t p q = settled p.1.0 q.1.0

pub qik_chain_erode1_settled_second : SettlesBytes 5 qik-chain-erode1-kinds.ps
    qik-chain-erode1-kinds.r qik-chain-erode1.Learnt (λ κs e. e.1.1.1.1.1.1.1.0.now)
qik_chain_erode1_settled_second κs a x y s t p q = settled p.1.1 q.1.1

pub qik_chain_erode8_settled : Settles 5 qik-chain-erode8-kinds.ps
    qik-chain-erode8-kinds.r qik-chain-erode8.Learnt
qik_chain_erode8_settled κs a x y s t p q = settled p.0 q.0

pub qik_chain_erode8_settled_first : SettlesBytes 5 qik-chain-erode8-kinds.ps
    qik-chain-erode8-kinds.r qik-chain-erode8.Learnt (λ κs e. e.1.1.1.1.1.1.0.now)
qik_chain_erode8_settled_first κs a x y s t p q = settled p.1.0 q.1.0

pub qik_chain_erode8_settled_second : SettlesBytes 5 qik-chain-erode8-kinds.ps
    qik-chain-erode8-kinds.r qik-chain-erode8.Learnt (λ κs e. e.1.1.1.1.1.1.1.0.now)
qik_chain_erode8_settled_second κs a x y s t p q = settled p.1.1 q.1.1

pub qik_chain_dilate1_settled : Settles 5 qik-chain-dilate1-kinds.ps
    qik-chain-dilate1-kinds.r qik-chain-dilate1.Learnt
qik_chain_dilate1_settled κs a x y s t p q = settled p.0 q.0

pub qik_chain_dilate1_settled_first : SettlesBytes 5 qik-chain-dilate1-kinds.ps
    qik-chain-dilate1-kinds.r qik-chain-dilate1.Learnt (λ κs e. e.1.1.1.1.1.1.0.now)
qik_chain_dilate1_settled_first κs a x y s t p q = settled p.1.0 q.1.0

pub qik_chain_dilate1_settled_second : SettlesBytes 5 qik-chain-dilate1-kinds.ps
    qik-chain-dilate1-kinds.r qik-chain-dilate1.Learnt (λ κs e. e.1.1.1.1.1.1.1.0.now)
qik_chain_dilate1_settled_second κs a x y s t p q = settled p.1.1 q.1.1

pub qik_chain_dilate8_settled : Settles 5 qik-chain-dilate8-kinds.ps
    qik-chain-dilate8-kinds.r qik-chain-dilate8.Learnt
qik_chain_dilate8_settled κs a x y s t p q = settled p.0 q.0

pub qik_chain_dilate8_settled_first : SettlesBytes 5 qik-chain-dilate8-kinds.ps
    qik-chain-dilate8-kinds.r qik-chain-dilate8.Learnt (λ κs e. e.1.1.1.1.1.1.0.now)
qik_chain_dilate8_settled_first κs a x y s t p q = settled p.1.0 q.1.0

pub qik_chain_dilate8_settled_second : SettlesBytes 5 qik-chain-dilate8-kinds.ps
    qik-chain-dilate8-kinds.r qik-chain-dilate8.Learnt (λ κs e. e.1.1.1.1.1.1.1.0.now)
qik_chain_dilate8_settled_second κs a x y s t p q = settled p.1.1 q.1.1
