-- What a call of the size spectrum gives, by its source and the lengths of its list and its scratch.
use Rattle.std.specs.Prelude.{ℕ, ◌*◌, List, [], ◌∷◌, ◌++◌, ltb, length, drop}
use Rattle.basics.specs.Lists.{firsts}
use Rattle.answer.specs.declared.Told.{Told}
use Rattle.answer.specs.Answer.{plain}
use Rattle.answer.specs.Refuse.{Test, refuse}
use Rattle.answer.specs.Lent.{unless_refused}
use Rattle.picture.specs.declared.Depth.TheVariants.{OneBit}
use Rattle.picture.specs.Frame.{frame, picture_bytes}
use Rattle.picture.specs.Points.{value_at}
use Rattle.judge.specs.declared.Padding.TheVariants.{Free}
use Rattle.judge.specs.Tests.{picture_tests}
use Rattle.sizes.specs.Spectrum.{sides, spectrum}

-- ROOM: the list holds fewer than 32 counts, or the scratch is short of two pictures
abbrev pub spectrum_room : ℕ → ℕ → ℕ → ℕ → List Test
spectrum_room w h counts scratch =
    (ltb counts sides, 8) ∷ (ltb scratch (2 * picture_bytes OneBit w h), 8) ∷ []

-- SIZE, SOURCE, ROOM: what stands in the padding is free
abbrev pub spectrum_tests : ℕ → ℕ → List ℕ → ℕ → ℕ → List Test
spectrum_tests w h s counts scratch = picture_tests Free OneBit w h s ++ spectrum_room w h counts scratch

-- the answer: the first refusal, or done
abbrev pub spectrum_answer : ℕ → ℕ → List ℕ → ℕ → ℕ → Told
spectrum_answer w h s counts scratch = refuse (spectrum_tests w h s counts scratch) (plain 0)

-- the list afterwards: as it was where the call is refused, else with the 32 counts and its further places
abbrev pub counts_left : ℕ → ℕ → List ℕ → ℕ → List ℕ → List ℕ
counts_left w h s scratch counts =
    unless_refused (spectrum_answer w h s (length counts) scratch) counts
    (spectrum (frame w h) (value_at OneBit s w) ++ drop sides counts)

-- the scratch afterwards: as it was, or else all 0 for two pictures, and its further bytes
abbrev pub scratch_left : ℕ → ℕ → List ℕ → ℕ → List ℕ → List ℕ
scratch_left w h s counts scratch =
    unless_refused (spectrum_answer w h s counts (length scratch)) scratch
    (firsts (λ i. 0) (2 * picture_bytes OneBit w h) ++ drop (2 * picture_bytes OneBit w h) scratch)
