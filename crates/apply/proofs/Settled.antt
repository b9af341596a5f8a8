-- Any two outcomes that a contract allows of one call are the same:
-- for each public function, of its contract itself, as the prover reads it.
use Rattle.basics.specs.Settles.{SettlesBytes}
use Rattle.basics.proofs.Settled.{settled}
use Rattle.apply.proofs.flat_bits.Kinds as flat-bits-kinds
use Rattle.apply.proofs.flat_bits.Reads as flat-bits
use Rattle.apply.proofs.flat_bytes.Kinds as flat-bytes-kinds
use Rattle.apply.proofs.flat_bytes.Reads as flat-bytes
use Rattle.apply.proofs.flat.Kinds as flat-kinds
use Rattle.apply.proofs.flat.Reads as flat
use Rattle.apply.proofs.bits_twice.Kinds as bits-twice-kinds
use Rattle.apply.proofs.bits_twice.Reads as bits-twice
use Rattle.apply.proofs.bytes_twice.Kinds as bytes-twice-kinds
use Rattle.apply.proofs.bytes_twice.Reads as bytes-twice
use Rattle.apply.proofs.flat_twice.Kinds as flat-twice-kinds
use Rattle.apply.proofs.flat_twice.Reads as flat-twice
use Rattle.apply.proofs.weighted.Kinds as weighted-kinds
use Rattle.apply.proofs.weighted.Reads as weighted
use Rattle.apply.proofs.weighted_twice.Kinds as weighted-twice-kinds
use Rattle.apply.proofs.weighted_twice.Reads as weighted-twice
use Rattle.apply.proofs.BitsDeep.flat.Kinds as bits-flat-kinds
use Rattle.apply.proofs.BitsDeep.flat.Reads as bits-flat
use Rattle.apply.proofs.BytesDeep.flat.Kinds as bytes-flat-kinds
use Rattle.apply.proofs.BytesDeep.flat.Reads as bytes-flat
use Rattle.apply.proofs.BitsDeep.twice.Kinds as bits-deep-twice-kinds
use Rattle.apply.proofs.BitsDeep.twice.Reads as bits-deep-twice
use Rattle.apply.proofs.BytesDeep.twice.Kinds as bytes-deep-twice-kinds
use Rattle.apply.proofs.BytesDeep.twice.Reads as bytes-deep-twice

pub flat_bits_settled : SettlesBytes 3 flat-bits-kinds.ps
    flat-bits-kinds.r flat-bits.Learnt (λ κs e. e.1.1.0.now)
flat_bits_settled κs a x y s t p q = settled p q

pub flat_bytes_settled : SettlesBytes 3 flat-bytes-kinds.ps
    flat-bytes-kinds.r flat-bytes.Learnt (λ κs e. e.1.1.0.now)
flat_bytes_settled κs a x y s t p q = settled p q

pub flat_settled : SettlesBytes 3 flat-kinds.ps
    flat-kinds.r flat.Learnt (λ κs e. e.1.1.1.0.now)
flat_settled κs a x y s t p q = settled p q

pub bits_twice_settled : SettlesBytes 4 bits-twice-kinds.ps
    bits-twice-kinds.r bits-twice.Learnt (λ κs e. e.1.1.0.now)
bits_twice_settled κs a x y s t p q = settled p.0 q.0

pub bits_twice_settled_scratch : SettlesBytes 4 bits-twice-kinds.ps
    bits-twice-kinds.r bits-twice.Learnt (λ κs e. e.1.1.1.0.now)
bits_twice_settled_scratch κs a x y s t p q = settled p.1 q.1

pub bytes_twice_settled : SettlesBytes 4 bytes-twice-kinds.ps
    bytes-twice-kinds.r bytes-twice.Learnt (λ κs e. e.1.1.0.now)
bytes_twice_settled κs a x y s t p q = settled p.0 q.0

pub bytes_twice_settled_scratch : SettlesBytes 4 bytes-twice-kinds.ps
    bytes-twice-kinds.r bytes-twice.Learnt (λ κs e. e.1.1.1.0.now)
bytes_twice_settled_scratch κs a x y s t p q = settled p.1 q.1

pub flat_twice_settled : SettlesBytes 4 flat-twice-kinds.ps
    flat-twice-kinds.r flat-twice.Learnt (λ κs e. e.1.1.1.0.now)
flat_twice_settled κs a x y s t p q = settled p.0 q.0

pub flat_twice_settled_scratch : SettlesBytes 4 flat-twice-kinds.ps
    flat-twice-kinds.r flat-twice.Learnt (λ κs e. e.1.1.1.1.0.now)
flat_twice_settled_scratch κs a x y s t p q = settled p.1 q.1

pub weighted_settled : SettlesBytes 4 weighted-kinds.ps
    weighted-kinds.r weighted.Learnt (λ κs e. e.1.1.0.now)
weighted_settled κs a x y s t p q = settled p q

pub weighted_twice_settled : SettlesBytes 5 weighted-twice-kinds.ps
    weighted-twice-kinds.r weighted-twice.Learnt (λ κs e. e.1.1.0.now)
weighted_twice_settled κs a x y s t p q = settled p.0 q.0

pub weighted_twice_settled_scratch : SettlesBytes 5 weighted-twice-kinds.ps
    weighted-twice-kinds.r weighted-twice.Learnt (λ κs e. e.1.1.1.0.now)
weighted_twice_settled_scratch κs a x y s t p q = settled p.1 q.1

-- the same of each depth as a type
pub bits_deep_flat_settled : SettlesBytes 3 bits-flat-kinds.ps
    bits-flat-kinds.r bits-flat.Learnt (λ κs e. e.1.1.0.now)
bits_deep_flat_settled κs a x y s t p q = settled p q

pub bytes_deep_flat_settled : SettlesBytes 3 bytes-flat-kinds.ps
    bytes-flat-kinds.r bytes-flat.Learnt (λ κs e. e.1.1.0.now)
bytes_deep_flat_settled κs a x y s t p q = settled p q

pub bits_deep_twice_settled : SettlesBytes 4 bits-deep-twice-kinds.ps
    bits-deep-twice-kinds.r bits-deep-twice.Learnt (λ κs e. e.1.1.0.now)
bits_deep_twice_settled κs a x y s t p q = settled p.0 q.0

pub bits_deep_twice_settled_scratch : SettlesBytes 4 bits-deep-twice-kinds.ps
    bits-deep-twice-kinds.r bits-deep-twice.Learnt (λ κs e. e.1.1.1.0.now)
bits_deep_twice_settled_scratch κs a x y s t p q = settled p.1 q.1

pub bytes_deep_twice_settled : SettlesBytes 4 bytes-deep-twice-kinds.ps
    bytes-deep-twice-kinds.r bytes-deep-twice.Learnt (λ κs e. e.1.1.0.now)
bytes_deep_twice_settled κs a x y s t p q = settled p.0 q.0

pub bytes_deep_twice_settled_scratch : SettlesBytes 4 bytes-deep-twice-kinds.ps
    bytes-deep-twice-kinds.r bytes-deep-twice.Learnt (λ κs e. e.1.1.1.0.now)
bytes_deep_twice_settled_scratch κs a x y s t p q = settled p.1 q.1
