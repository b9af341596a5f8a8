-- Row words that are all the run of `wide` cells.
use Rattle.std.specs.Prelude.{ℕ, Bool, List, eqb, get_or}
use Rattle.basics.specs.Tests.{all}
use Rattle.packedline.specs.Steps.Cells.{run_word}

unfoldable pub is_box : List ℕ → ℕ → ℕ → Bool
is_box words h wide = all (λ r. eqb (get_or words r 0) (run_word wide)) h
