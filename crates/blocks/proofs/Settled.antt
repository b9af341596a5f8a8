-- Any two outcomes that a contract allows of one call are the same:
-- for each public function, of its contract itself, as the prover reads it.
use Prim.Native.Nat.{ℕ}
use mir.Val.{Fits}
use mir.Syntax.{w64}
use Rattle.basics.specs.Settles.{Settles, SettlesBytes}
use Rattle.basics.proofs.Settled.{settled}
use Rattle.blocks.proofs.beyond.Kinds as beyond-kinds
use Rattle.blocks.proofs.beyond.Reads as beyond
use Rattle.blocks.proofs.joined.Kinds as joined-kinds
use Rattle.blocks.proofs.joined.Reads as joined
use Rattle.blocks.proofs.bytes_at.Kinds as bytes-at-kinds
use Rattle.blocks.proofs.bytes_at.Reads as bytes_at
use Rattle.blocks.proofs.put_bytes.Kinds as put-bytes-kinds
use Rattle.blocks.proofs.put_bytes.Reads as put-bytes
use Rattle.blocks.proofs.some_at.Kinds as some-at-kinds
use Rattle.blocks.proofs.some_at.Reads as some_at
use Rattle.blocks.proofs.put_some.Kinds as put-some-kinds
use Rattle.blocks.proofs.put_some.Reads as put-some
use Rattle.blocks.proofs.block_at.Kinds as block-at-kinds
use Rattle.blocks.proofs.block_at.Reads as block_at
use Rattle.blocks.proofs.put_block.Kinds as put-block-kinds
use Rattle.blocks.proofs.put_block.Reads as put-block
use Rattle.blocks.proofs.join_bytes.Kinds as join-bytes-kinds
use Rattle.blocks.proofs.join_bytes.Reads as join-bytes
use Rattle.blocks.proofs.join_block.Kinds as join-block-kinds
use Rattle.blocks.proofs.join_block.Reads as join-block
use Rattle.blocks.proofs.join_bits.Kinds as join-bits-kinds
use Rattle.blocks.proofs.join_bits.Reads as join-bits

pub beyond_settled : Settles 0 beyond-kinds.ps beyond-kinds.r beyond.Learnt
beyond_settled κs a x y s t p q = settled p q

pub block_at_settled : Settles 1 block-at-kinds.ps block-at-kinds.r block_at.Learnt
block_at_settled κs a x y s t p q = settled p q

pub put_block_settled : SettlesBytes 1 put-block-kinds.ps
    put-block-kinds.r put-block.Learnt (λ κs e. e.0.now)
put_block_settled κs a x y s t p q = settled p q

pub join_bytes_settled : SettlesBytes 2 join-bytes-kinds.ps
    join-bytes-kinds.r join-bytes.Learnt (λ κs e. e.1.0.now)
join_bytes_settled κs a x y s t p q = settled p q

pub join_block_settled : Settles 1 join-block-kinds.ps join-block-kinds.r join-block.Learnt
join_block_settled κs a x y s t p q = settled p q

pub join_bits_settled : Settles 1 join-bits-kinds.ps join-bits-kinds.r join-bits.Learnt
join_bits_settled κs a x y s t p q = settled p q

pub joined_settled : Settles 0 joined-kinds.ps joined-kinds.r joined.Learnt
joined_settled κs a x y s t p q = settled p q

pub some_at_settled : Settles 1 some-at-kinds.ps some-at-kinds.r some_at.Learnt
some_at_settled κs a x y s t p q = settled p q

pub put_some_settled : SettlesBytes 1 put-some-kinds.ps put-some-kinds.r put-some.Learnt (λ κs e. e.0.now)
put_some_settled κs a x y s t p q = settled p q

pub bytes_at_settled : (N : ℕ) (fits : Fits w64 N)
    → Settles 2 (bytes-at-kinds.ps N fits) (bytes-at-kinds.r N fits) (bytes_at.Learnt N fits)
bytes_at_settled N fits κs a x y s t p q = settled p q

pub put_bytes_settled : (N : ℕ) (fits : Fits w64 N)
    → SettlesBytes 2 (put-bytes-kinds.ps N fits) (put-bytes-kinds.r N fits) (put-bytes.Learnt N fits)
    (λ κs e. e.0.now)
put_bytes_settled N fits κs a x y s t p q = settled p q
