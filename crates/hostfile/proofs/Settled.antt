-- Any two outcomes that a contract allows of one call are the same:
-- for each entry point, of its contract itself, as the prover reads it.
use Rattle.basics.specs.Settles.{Settles, SettlesBytes}
use Rattle.basics.proofs.Settled.{settled}
use Rattle.hostfile.proofs.qik_ech_read.Kinds as qik-ech-read-kinds
use Rattle.hostfile.proofs.qik_ech_read.Reads as qik-ech-read
use Rattle.hostfile.proofs.qik_ech_write.Kinds as qik-ech-write-kinds
use Rattle.hostfile.proofs.qik_ech_write.Reads as qik-ech-write
use Rattle.hostfile.proofs.qik_pbm_read.Kinds as qik-pbm-read-kinds
use Rattle.hostfile.proofs.qik_pbm_read.Reads as qik-pbm-read
use Rattle.hostfile.proofs.qik_pbm_write.Kinds as qik-pbm-write-kinds
use Rattle.hostfile.proofs.qik_pbm_write.Reads as qik-pbm-write
use Rattle.hostfile.proofs.qik_pgm_read.Kinds as qik-pgm-read-kinds
use Rattle.hostfile.proofs.qik_pgm_read.Reads as qik-pgm-read
use Rattle.hostfile.proofs.qik_pgm_write.Kinds as qik-pgm-write-kinds
use Rattle.hostfile.proofs.qik_pgm_write.Reads as qik-pgm-write

pub qik_ech_read_settled : Settles 2 qik-ech-read-kinds.ps qik-ech-read-kinds.r qik-ech-read.Learnt
qik_ech_read_settled κs a x y s t p q = settled p.0 q.0

pub qik_ech_read_settled_target : SettlesBytes 2 qik-ech-read-kinds.ps
    qik-ech-read-kinds.r qik-ech-read.Learnt (λ κs e. e.1.0.now)
qik_ech_read_settled_target κs a x y s t p q = settled p.1 q.1

pub qik_ech_write_settled : Settles 2 qik-ech-write-kinds.ps qik-ech-write-kinds.r qik-ech-write.Learnt
qik_ech_write_settled κs a x y s t p q = settled p.0 q.0

pub qik_ech_write_settled_target : SettlesBytes 2 qik-ech-write-kinds.ps
    qik-ech-write-kinds.r qik-ech-write.Learnt (λ κs e. e.1.1.1.1.0.now)
qik_ech_write_settled_target κs a x y s t p q = settled p.1 q.1

pub qik_pbm_read_settled : Settles 2 qik-pbm-read-kinds.ps qik-pbm-read-kinds.r qik-pbm-read.Learnt
qik_pbm_read_settled κs a x y s t p q = settled p.0 q.0

pub qik_pbm_read_settled_target : SettlesBytes 2 qik-pbm-read-kinds.ps
    qik-pbm-read-kinds.r qik-pbm-read.Learnt (λ κs e. e.1.0.now)
qik_pbm_read_settled_target κs a x y s t p q = settled p.1 q.1

pub qik_pbm_write_settled : Settles 2 qik-pbm-write-kinds.ps qik-pbm-write-kinds.r qik-pbm-write.Learnt
qik_pbm_write_settled κs a x y s t p q = settled p.0 q.0

pub qik_pbm_write_settled_target : SettlesBytes 2 qik-pbm-write-kinds.ps
    qik-pbm-write-kinds.r qik-pbm-write.Learnt (λ κs e. e.1.1.1.0.now)
qik_pbm_write_settled_target κs a x y s t p q = settled p.1 q.1

pub qik_pgm_read_settled : Settles 2 qik-pgm-read-kinds.ps qik-pgm-read-kinds.r qik-pgm-read.Learnt
qik_pgm_read_settled κs a x y s t p q = settled p.0 q.0

pub qik_pgm_read_settled_target : SettlesBytes 2 qik-pgm-read-kinds.ps
    qik-pgm-read-kinds.r qik-pgm-read.Learnt (λ κs e. e.1.0.now)
qik_pgm_read_settled_target κs a x y s t p q = settled p.1 q.1

pub qik_pgm_write_settled : Settles 2 qik-pgm-write-kinds.ps qik-pgm-write-kinds.r qik-pgm-write.Learnt
qik_pgm_write_settled κs a x y s t p q = settled p.0 q.0

pub qik_pgm_write_settled_target : SettlesBytes 2 qik-pgm-write-kinds.ps
    qik-pgm-write-kinds.r qik-pgm-write.Learnt (λ κs e. e.1.1.1.0.now)
qik_pgm_write_settled_target κs a x y s t p q = settled p.1 q.1
