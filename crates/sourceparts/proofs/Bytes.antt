-- The same of 8-bit pictures, by the bytes that hold them: what is said above of any values, at 255.
use Prim.Native.Nat.{ℕ, ◌+◌, ◌*◌, ◌≤◌, ◌<◌}
use mathlib.Core.Path.{◌≡◌, refl, sym, ap, ◌∙◌}
use mathlib.Core.Bool.{Bool}
use mathlib.Core.List.{List, ◌++◌}
use native.Mathlib.Omega.{arith}
use lib.ListN.{length, get_or, drop}
use borrow.Rule.Slice.PartMut.{put_mid}
use Rattle.basics.specs.Bytes.{Bytes}
use Rattle.basics.proofs.Lists.{list_is}
use Rattle.basics.proofs.SliceParts.{get_mid, length_mid}
use Rattle.picture.specs.declared.Depth.TheVariants.{EightBit}
use Rattle.picture.specs.Frame.{frame}
use Rattle.picture.specs.Points.{value_at, value_in}
use Rattle.picture.specs.Bytes.{Picture, bytes_of, written}
use Rattle.picture.proofs.Sizes.{row_room}
use Rattle.element.specs.declared.Outline.{Outline}
use Rattle.element.specs.Record.{shape_by}
use Rattle.morphology.specs.Operations.{flat}
use Rattle.morphology.specs.Order.{Bounded}
use Rattle.rows.specs.Steps.Fold.{start_by}
use Rattle.rows.specs.Steps.Ways.{swept_by}
use Rattle.windows.specs.Steps.Bounds.{Bound}
use Rattle.bitrow.specs.Steps.Added.{row_in}
use Rattle.sourceparts.specs.Steps.Part.{across_to, down_to, Leads}
use Rattle.sourceparts.proofs.Shown.{start_bound}
use Rattle.sourceparts.proofs.Whole.{values_same, swept_to, swept_from, swept_small}

pub byte_start : (grows : Bool) (v : ℕ) → v < 256 → Bound grows (start_by grows 255) v
byte_start grows v h = start_bound grows 255 v (omega arith)

-- equal bounds, equal bytes
pub bytes_same : (grows : Bool) (a b : ℕ) → a < 256 → b < 256
    → ((v : ℕ) → v < 256 → Bound grows a v → Bound grows b v)
    → ((v : ℕ) → v < 256 → Bound grows b v → Bound grows a v) → a ≡ b
bytes_same grows a b ha hb to from =
    values_same grows 255 a b (omega arith) (omega arith) (λ v h. to v (omega arith)) (λ v h. from v
    (omega arith))

-- two lists of n elements, each the same
pub lists_same : (n : ℕ) (l m : List ℕ) → length l ≡ n → length m ≡ n
    → ((i : ℕ) → i < n → get_or l i 0 ≡ get_or m i 0) → l ≡ m
lists_same n l m el em each =
    list_is (λ i. get_or m i 0) n l el each ∙ sym (list_is (λ i. get_or m i 0) n m em (λ i h. refl))

-- a row of the source
pub row_at : (s : List ℕ) (w v x : ℕ) → x < w → get_or (row_in w s v) x 0 ≡ get_or s (v * w + x) 0
row_at s w v x l = get_mid (v * w) w s x l

pub row_long : (s : List ℕ) (w h v : ℕ) → v < h → h * w ≤ length s → length (row_in w s v) ≡ w
row_long s w h v l fits = length_mid (v * w) w s (omega (arith, row_room w l))

-- the picture in the first bytes of a target
pub over_first : (A : Picture) (w h : ℕ) (t u : List ℕ) → u ≡ bytes_of EightBit A w h
    → put_mid 0 (h * w) t u ≡ written EightBit A w h t
unfolding written
over_first A w h t u e = ap (λ l. l ++ drop (h * w) t) e

-- ---- the definition of a flat operation, by the set cells
module _ (grows : Bool) (s : List ℕ) (w h : ℕ) (o : Outline) (words : List ℕ) where
  abbrev P : Picture
  P = swept_by grows flat 255 (frame w h) (shape_by o words) (value_at EightBit s w)

  abbrev value : ℕ → ℕ → ℕ → ℕ → ℕ
  value x y c r = get_or s (down_to grows o y r * w + across_to grows o x c) 0

  pub bytes_to : (x y z : ℕ) → Bound grows (P x y) z → (c r : ℕ) → Leads grows w h o words x y c r
      → Bound grows (value x y c r) z
  unfolding value_at value_in
  bytes_to x y z b c r l = swept_to grows 255 (value_at EightBit s w) w h o words x y z b c r l

  pub bytes_from : (x y z : ℕ) → z < 256
      → ((c r : ℕ) → Leads grows w h o words x y c r → Bound grows (value x y c r) z)
      → Bound grows (P x y) z
  unfolding value_at value_in
  bytes_from x y z hz each =
      swept_from grows 255 (value_at EightBit s w) w h o words x y z (omega arith) each

  pub bytes_small : Bytes s → (x y : ℕ) → x < w → y < h → P x y ≤ 255
  unfolding value_at value_in
  bytes_small bytes x y hx hy =
      swept_small grows 255 (value_at EightBit s w) w h o words (bounded bytes) x y hx hy
    where
      bounded : Bytes s → Bounded 255 (frame w h) (value_at EightBit s w)
      bounded bytes p i = let l = bytes (p.y * w + p.x) in omega arith
