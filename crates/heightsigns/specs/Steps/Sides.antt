-- A height taken apart: whether it raises, and its size.
use Rattle.std.specs.Prelude.{ℕ, ◌-◌, Bool, false, cond, not, eqb, ltb}

abbrev pub rises_of : ℕ → Bool
rises_of g = cond (eqb g 0) false (ltb g 128)

abbrev pub side_of : Bool → ℕ → Bool
side_of rises g = cond rises (rises_of g) (not (rises_of g))

abbrev pub size_of : ℕ → ℕ
size_of g = cond (ltb g 128) g (256 - g)
