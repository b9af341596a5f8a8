-- Any two outcomes that a contract allows of one call are the same:
-- for each public function, of its contract itself, as the prover reads it.
use Rattle.basics.specs.Settles.{Settles, SettlesBytes}
use Rattle.basics.proofs.Settled.{settled}
use Rattle.bitsource.proofs.BitsLane.join_place.Kinds as bits-place-kinds
use Rattle.bitsource.proofs.BitsLane.join_place.Reads as bits-place
use Rattle.bitsource.proofs.BitsScan.depth.Kinds as bits-depth-kinds
use Rattle.bitsource.proofs.BitsScan.depth.Reads as bits-depth
use Rattle.bitsource.proofs.BitsScan.fill_rooms.Kinds as bits-rooms-kinds
use Rattle.bitsource.proofs.BitsScan.fill_rooms.Reads as bits-rooms
use Rattle.bitsource.proofs.sweep.Kinds as sweep-kinds
use Rattle.bitsource.proofs.sweep.Reads as sweep
use Rattle.bitsource.proofs.sweep_by_plan.Kinds as sweep-by-plan-kinds
use Rattle.bitsource.proofs.sweep_by_plan.Reads as sweep-by-plan

pub sweep_settled : SettlesBytes 3 sweep-kinds.ps sweep-kinds.r sweep.Learnt (λ κs e. e.1.1.0.now)
sweep_settled κs a x y s t p q = settled p q

pub sweep_by_plan_settled : SettlesBytes 3 sweep-by-plan-kinds.ps
    sweep-by-plan-kinds.r sweep-by-plan.Learnt (λ κs e. e.1.1.0.now)
sweep_by_plan_settled κs a x y s t p q = settled p q

-- and what a depth has of its own, of packed points
pub bits_lane_join_place_settled : Settles 1 bits-place-kinds.ps bits-place-kinds.r bits-place.Learnt
bits_lane_join_place_settled κs a x y s t p q = settled p q

pub bits_scan_depth_settled : Settles 0 bits-depth-kinds.ps bits-depth-kinds.r bits-depth.Learnt
bits_scan_depth_settled κs a x y s t p q = settled p q

pub bits_scan_fill_rooms_settled : SettlesBytes 2 bits-rooms-kinds.ps bits-rooms-kinds.r bits-rooms.Learnt
    (λ κs e. e.1.0.now)
bits_scan_fill_rooms_settled κs a x y s t p q = settled p.1 q.1
