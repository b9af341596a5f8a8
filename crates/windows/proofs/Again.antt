-- Both widenings of a packed row as one.
use Prim.Native.Nat.{ℕ, ◌+◌}
use mathlib.Core.Path.{◌≡◌, sym, ap, ◌∙◌}
use mathlib.Core.Bool.{Bool, true, false}
use mathlib.Core.List.{List}
use Rattle.basics.specs.Lists.{firsts}
use Rattle.blocks.specs.Steps.Block.{block_of, joined_block, joined_bits}
use Rattle.windows.proofs.InPlace.{Ahead, ahead1, ahead4, block1, block4}
use Rattle.windows.specs.Steps.Widened.{widen_by}

pub widen_ahead : (grows again : Bool) → Ahead (widen_by grows again)
widen_ahead grows true = ahead4 grows
widen_ahead grows false = ahead1 grows

module _ (grows again : Bool) (b c d e f : List ℕ) (i : ℕ) (ec : c ≡ block_of b i) where
  pub wider_block : again ≡ true → d ≡ joined_bits grows c b i 4 → e ≡ joined_block grows d b (i + 1)
      → f ≡ joined_bits grows e b (i + 1) 4 → f ≡ firsts (λ j. widen_by grows again b (i + j)) 64
  wider_block t ed ee ef =
      block4 b i grows c d e f ec ed ee ef ∙ ap (λ t. firsts (λ j. widen_by grows t b (i + j)) 64) (sym t)

  pub wide_block : again ≡ false → d ≡ joined_bits grows c b i 1 → e ≡ joined_bits grows d b i 2
      → f ≡ joined_bits grows e b i 3 → f ≡ firsts (λ j. widen_by grows again b (i + j)) 64
  wide_block t ed ee ef =
      block1 b i grows c d e f ec ed ee ef ∙ ap (λ t. firsts (λ j. widen_by grows t b (i + j)) 64) (sym t)
