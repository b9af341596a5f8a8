-- What stands at four places: the joins one after another are those of the list of them.
use Prim.Native.Nat.{ℕ, ◌+◌}
use mathlib.Core.Path.{◌≡◌, refl, ap, ◌∙◌}
use mathlib.Core.Bool.{Bool}
use mathlib.Core.List.{List, [], ◌∷◌}
use lib.ListN.{length, replicate, length-replicate}
use Rattle.basics.specs.Lists.{firsts}
use Rattle.rows.specs.Steps.Fold.{start_by}
use Rattle.windows.specs.Steps.Places.{place_joined, gathered_at}
use Rattle.windows.proofs.Places.{places_none, places_more, gathered_block}

pub four_block : (grows : Bool) (b n c d e f : List ℕ) (i p q r s : ℕ) → n ≡ replicate 64 (start_by grows 255)
    → c ≡ place_joined grows n b i p → d ≡ place_joined grows c b i q → e ≡ place_joined grows d b i r
    → f ≡ place_joined grows e b i s → f ≡ firsts (λ j. gathered_at grows (p ∷ q ∷ r ∷ s ∷ []) b (i + j)) 64
four_block grows b n c d e f i p q r s en ec ed ee ef =
    gathered_block grows n b f at i en
    (places_more grows n e f b i s at 3
    (places_more grows n d e b i r at 2
    (places_more grows n c d b i q at 1
    (places_more grows n n c b i p at 0
    (places_none grows n b i at (ap length en ∙ length-replicate 64 (start_by grows 255))) refl ec) refl ed)
    refl ee) refl ef)
  where
    at : List ℕ
    at = p ∷ q ∷ r ∷ s ∷ []
