-- Any two outcomes that a contract allows of one call are the same:
-- for each public function, of its contract itself, as the prover reads it.
use Rattle.basics.specs.Settles.{Settles, SettlesBytes}
use Rattle.basics.proofs.Settled.{settled}
use Rattle.words.proofs.Next.{next_same}
use Rattle.words.proofs.points_at.Kinds as points-at-kinds
use Rattle.words.proofs.points_at.Reads as points-at
use Rattle.words.proofs.slid.Kinds as slid-kinds
use Rattle.words.proofs.slid.Reads as slid
use Rattle.words.proofs.next_cell.Kinds as next-cell-kinds
use Rattle.words.proofs.next_cell.Reads as next-cell
use Rattle.words.proofs.put_points.Kinds as put-points-kinds
use Rattle.words.proofs.put_points.Reads as put-points

pub points_at_settled : Settles 1 points-at-kinds.ps points-at-kinds.r points-at.Learnt
points_at_settled κs a x y s t p q = settled p.0 q.0

pub slid_settled : Settles 0 slid-kinds.ps slid-kinds.r slid.Learnt
slid_settled κs a x y s t p q = settled p.0 q.0

pub next_cell_settled : Settles 0 next-cell-kinds.ps next-cell-kinds.r next-cell.Learnt
next_cell_settled κs a x y s t p q = next_same _ _ x y p q

pub put_points_settled : SettlesBytes 1 put-points-kinds.ps
    put-points-kinds.r put-points.Learnt (λ κs e. e.0.now)
put_points_settled κs a x y s t p q = settled p.0 q.0
