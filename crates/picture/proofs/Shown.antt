-- A picture that was written is read back at each point of the frame; of one bit its values must be 0 or 1.
use Prim.Native.Nat.{ℕ, ◌≤◌, ◌<◌}
use mathlib.Core.Path.{◌≡◌, refl, ◌∙◌}
use mathlib.Core.List.{List}
use lib.ListN.{drop}
use Rattle.basics.proofs.Lists.{get_d_firsts}
use Rattle.basics.proofs.Joined.{get_d_joined}
use Rattle.picture.specs.declared.Depth.{Depth}
use Rattle.picture.specs.declared.Depth.TheVariants.{OneBit, EightBit}
use Rattle.picture.specs.Frame.{picture_bytes}
use Rattle.picture.specs.Points.{value_at, value_in}
use Rattle.picture.specs.Bytes.{Picture, row_byte, row_of, bytes_of, written}
use Rattle.picture.proofs.Rows.{row_length}
use Rattle.picture.proofs.Points.{written_value}

pub written_shown : (depth : Depth) (A : Picture) (w h : ℕ) (t : List ℕ)
    → (depth ≡ OneBit → (x y : ℕ) → x < w → y < h → A x y ≤ 1) → (x y : ℕ) → x < w → y < h
    → value_at depth (written depth A w h t) w x y ≡ A x y
unfolding value_at value_in written bytes_of row_of row_byte
written_shown OneBit A w h t small x y hx hy = written_value OneBit A w h t (small refl) x y hx hy
written_shown EightBit A w h t small x y hx hy =
    get_d_joined (λ y. row_of EightBit (λ x. A x y) w) w
    (λ y. row_length EightBit (λ x. A x y) w) h y x (drop (picture_bytes EightBit w h) t) hy hx
    ∙ get_d_firsts (λ x. A x y) w x hx
