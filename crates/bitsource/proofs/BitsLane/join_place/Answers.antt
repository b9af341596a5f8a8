-- What `join_place` joins is what the way of packed points sees:
-- the same byte by byte.
use Rattle.windows.specs.Steps.Places as places
use Rattle.rooms.specs.Steps.Lanes as lanes
use native.Mathlib.Omega.{arith}
use Rattle.bitsource.proofs.BitsLane.join_place.Goals as goal

pub join_place-requires : goal.join_place-requires
join_place-requires c = omega (arith, c.requires)

pub returns : goal.returns
unfolding lanes.place_joined places.place_joined
returns c = c.join_place.ensures
