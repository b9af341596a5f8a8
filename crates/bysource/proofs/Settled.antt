-- Any two outcomes that a contract allows of one call are the same:
-- for each public function, of its contract itself, as the prover reads it.
use Prim.Native.Nat.{ℕ}
use denote.RattleType.{RattleType}
use denote.Param.Laws.{Laws}
use mir.Syntax.{Dict, w64}
use mir.Val.{Fits}
use Rattle.basics.specs.Settles.{Settles, SettlesBytes}
use Rattle.basics.proofs.Settled.{settled}
use Rattle.rooms.specs.declared.Lane as Lane
use Rattle.bysource.specs.declared.Scan as Scan
use Rattle.bysource.proofs.BytesScan.depth.Kinds as bytes-depth-kinds
use Rattle.bysource.proofs.BytesScan.depth.Reads as bytes-depth
use Rattle.bysource.proofs.BytesScan.fill_rooms.Kinds as bytes-rooms-kinds
use Rattle.bysource.proofs.BytesScan.fill_rooms.Reads as bytes-rooms
use Rattle.bysource.proofs.sweep_rows.Kinds as sweep-rows-kinds
use Rattle.bysource.proofs.sweep_rows.Reads as sweep-rows
use Rattle.bysource.proofs.sweep.Kinds as sweep-kinds
use Rattle.bysource.proofs.sweep.Reads as sweep

pub sweep_settled : SettlesBytes 3 sweep-kinds.ps sweep-kinds.r sweep.Learnt (λ κs e. e.1.1.0.now)
sweep_settled κs a x y s t p q = settled p q

-- at whatever depth
pub sweep_rows_settled : (T : RattleType) (n : ℕ) (laws : Laws T) (fits : Fits w64 n)
    (scan : Scan.Ghosts T.Denot)
    (sd : Dict) (lane : Lane.Ghosts T.Denot) (ld : Dict)
    → SettlesBytes 5 (sweep-rows-kinds.ps T n laws fits) (sweep-rows-kinds.r T n laws fits)
    (sweep-rows.Learnt T n laws fits scan sd lane ld) (λ κs e. e.1.1.0.now)
sweep_rows_settled T n laws fits scan sd lane ld κs a x y s t p q = settled p q

-- and what a depth has of its own, of bytes
pub bytes_scan_depth_settled : Settles 0 bytes-depth-kinds.ps bytes-depth-kinds.r bytes-depth.Learnt
bytes_scan_depth_settled κs a x y s t p q = settled p q

pub bytes_scan_fill_rooms_settled : SettlesBytes 2 bytes-rooms-kinds.ps bytes-rooms-kinds.r bytes-rooms.Learnt
    (λ κs e. e.1.0.now)
bytes_scan_fill_rooms_settled κs a x y s t p q = settled p.1 q.1
