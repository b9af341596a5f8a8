-- The order that a join goes by: a join is bounded exactly where both its parts are.
use Rattle.std.specs.Prelude.{ℕ, ◌≤◌, Bool, true, false}

-- v bounds x: from above where values grow, from below where they shrink
abbrev pub Bound : Bool → ℕ → ℕ → Type 0
Bound true x v = x ≤ v
Bound false x v = v ≤ x
