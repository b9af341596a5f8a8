-- Any two outcomes that a contract allows of one call are the same:
-- for each public function, of its contract itself, as the prover reads it.
use denote.RattleType.{RattleType}
use denote.Param.Laws.{Laws}
use mir.Syntax.{Dict}
use Rattle.basics.specs.Settles.{Settles, SettlesBytes}
use Rattle.basics.proofs.Settled.{settled}
use Rattle.rooms.specs.declared.Lane.{Ghosts}
use Rattle.rooms.proofs.BytesLane.join_place.Kinds as join-place-kinds
use Rattle.rooms.proofs.BytesLane.join_place.Reads as join-place
use Rattle.rooms.proofs.widen.Kinds as widen-kinds
use Rattle.rooms.proofs.widen.Reads as widen
use Rattle.rooms.proofs.join_row.Kinds as join-row-kinds
use Rattle.rooms.proofs.join_row.Reads as join-row
use Rattle.rooms.proofs.some_at.Kinds as some-at-kinds
use Rattle.rooms.proofs.some_at.Reads as some_at
use Rattle.rooms.proofs.put_some.Kinds as put-some-kinds
use Rattle.rooms.proofs.put_some.Reads as put_some_lem

pub some_at_settled : Settles 1 some-at-kinds.ps some-at-kinds.r some_at.Learnt
some_at_settled κs a x y s t p q = settled p q

pub put_some_settled : SettlesBytes 1 put-some-kinds.ps put-some-kinds.r put_some_lem.Learnt (λ κs e. e.0.now)
put_some_settled κs a x y s t p q = settled p q

-- in whatever lane
pub widen_settled : (T : RattleType) (laws : Laws T) (lane : Ghosts T.Denot) (d : Dict)
    → SettlesBytes 2 (widen-kinds.ps T laws)
    (widen-kinds.r T laws) (widen.Learnt T laws lane d) (λ κs e. e.1.0.now)
widen_settled T laws lane d κs a x y s t p q = settled p q

pub join_row_settled : (T : RattleType) (laws : Laws T) (lane : Ghosts T.Denot) (d : Dict)
    → SettlesBytes 4 (join-row-kinds.ps T laws)
    (join-row-kinds.r T laws) (join-row.Learnt T laws lane d) (λ κs e. e.1.0.now)
join_row_settled T laws lane d κs a x y s t p q = settled p q

pub join_place_settled : Settles 1 join-place-kinds.ps join-place-kinds.r join-place.Learnt
join_place_settled κs a x y s t p q = settled p q
