-- A list over part of another.
use Rattle.std.specs.Prelude.{ℕ, ◌+◌, List, ◌++◌, length, take, drop}

-- t with s from the place `at` on
unfoldable pub put : ℕ → List ℕ → List ℕ → List ℕ
put at s t = take at t ++ (s ++ drop (at + length s) t)
