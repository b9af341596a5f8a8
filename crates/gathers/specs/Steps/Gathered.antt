-- What stands at all places, and elements of a list set anew at equal steps.
use Rattle.std.specs.Prelude.{ℕ, zero, suc, ◌+◌, ◌*◌, Bool, List, length, get_or, set}
use Rattle.rooms.specs.Steps.Joined.{at_places}

-- what stands at all places, i bytes on, where there is one
unfoldable pub at_all : Bool → List ℕ → List ℕ → ℕ → ℕ
at_all grows s at i = at_places grows (get_or s (i + get_or at 0 0) 0) s i at (length at)

-- the list t with f 0, .., f (n - 1) at the places a, a + w, a + 2 w, ..
unfoldable pub stepped : ℕ → ℕ → ℕ → (ℕ → ℕ) → List ℕ → List ℕ
stepped a w zero f t = t
stepped a w (suc n) f t = set (stepped a w n f t) (a + n * w) (f n)
