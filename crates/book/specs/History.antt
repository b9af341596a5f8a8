-- Histories: calls of both parties one after another, the two plain maps, and what one party sees.
use Rattle.std.specs.Prelude.{Bool, true, false, cond, List, [], ◌∷◌}
use Rattle.share.specs.Maps.{Map, Call, Reply, map_reply, map_after}
use Rattle.book.specs.declared.Party.{Party}
use Rattle.book.specs.declared.Party.TheVariants.{Display, Export}
use Rattle.book.specs.Book.{numbers, room}

-- a call, and whose it is
abbrev pub Asked : Type 0
Asked = Party × Call

abbrev pub same : Party → Party → Bool
same Display Display = true
same Display Export = false
same Export Display = false
same Export Export = true

-- "The map of (vi) becomes two maps": one for each party, which the other's calls do not change
abbrev pub Maps : Type 0
Maps = Party → Map

abbrev pub no_maps : Maps
no_maps p n = []

abbrev pub maps_after : Maps → Asked → Maps
maps_after ms a q = cond (same q a.0) (map_after numbers room (ms a.0) a.1) (ms q)

unfoldable pub maps_replies : Maps → List Asked → List Reply
maps_replies ms [] = []
maps_replies ms (a ∷ more) = map_reply numbers room (ms a.0) a.1 ∷ maps_replies (maps_after ms a) more

-- one party's calls of a history, and the replies to them
unfoldable pub calls_of : Party → List Asked → List Call
calls_of p [] = []
calls_of p (a ∷ more) = cond (same p a.0) (a.1 ∷ calls_of p more) (calls_of p more)

unfoldable pub replies_to : Party → List Asked → List Reply → List Reply
replies_to p [] rs = []
replies_to p (a ∷ more) [] = []
replies_to p (a ∷ more) (r ∷ rs) = cond (same p a.0) (r ∷ replies_to p more rs) (replies_to p more rs)
