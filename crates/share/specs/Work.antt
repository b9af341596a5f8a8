-- What a share becomes by a call.
use Rattle.std.specs.Prelude.{ℕ, List, []}
use Rattle.answer.specs.Lent.{unless_refused}
use Rattle.share.specs.Share.{held_at, place_of, holding, cleared}
use Rattle.share.specs.Maps.{with, Call, Put, Get, Remove, Tidy, map_answer}

-- by one that is not refused, of a share of N numbers
unfoldable pub worked : ℕ → List ℕ → Call → List ℕ
worked N s (Put n d) = holding N (with (held_at N s) n d) s
worked N s (Get n) = s
worked N s (Remove n) = holding N (with (held_at N s) n []) s
worked N s Tidy = cleared (place_of N s N) s

-- by any, with M bytes
unfoldable pub share_after : ℕ → ℕ → List ℕ → Call → List ℕ
share_after N M s c = unless_refused (map_answer N M (held_at N s) c) s (worked N s c)
