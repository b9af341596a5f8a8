-- Document 01, "Chains": where the last picture of a chained run lies.
use Rattle.std.specs.Prelude.{ℕ, ◌%◌, Bool, cond, ◌&&◌, List, [], leb, eqb, length, take}
use Rattle.picture.specs.declared.Depth.{Depth}
use Rattle.picture.specs.Frame.{sized_frame, picture_bytes}
use Rattle.chain.specs.Reading.{counted}

-- there is no last picture for a wrong size, a k outside 1 to 5 or a short buffer, by the two lengths
unfoldable pub is_there : ℕ → ℕ → Depth → ℕ → ℕ → ℕ → Bool
is_there first second depth w h k =
    (sized_frame w h && counted k)
    && (leb (picture_bytes depth w h) first && leb (picture_bytes depth w h) second)

-- results 1, 3 and 5 go to the first buffer, 2 and 4 to the second
abbrev pub last_of : {A : Type 0} → A → A → ℕ → A
last_of first second k = cond (eqb (k % 2) 1) first second

-- the last picture's own bytes; nothing where there is none
unfoldable pub found_at : List ℕ → List ℕ → Depth → ℕ → ℕ → ℕ → List ℕ
found_at first second depth w h k =
    cond (is_there (length first) (length second) depth w h k)
    (take (picture_bytes depth w h) (last_of first second k)) []

-- where they begin, by where the two buffers do: with the one that has them,
-- and with the first where there is none. A place is a block and an offset in it
unfoldable pub place_at : List ℕ → List ℕ → Depth → ℕ → ℕ → ℕ → ℕ × ℕ → ℕ × ℕ → ℕ × ℕ
place_at first second depth w h k one two =
    cond (is_there (length first) (length second) depth w h k) (last_of one two k) one
