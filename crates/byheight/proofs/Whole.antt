-- Once all is done, the points are the definition's: both are bounded exactly where all that the cells
-- find is.
use Prim.Native.Nat.{ℕ, ◌+◌, ◌*◌, ◌/◌, ◌%◌, ◌≤◌, ◌<◌}
use mathlib.Core.Path.{◌≡◌, refl, sym, ap, ◌∙◌, subst}
use mathlib.Core.Bool.{Bool, true, false, cond, ◌&&◌}
use mathlib.Core.List.{List}
use mathlib.Core.Logic.{inl}
use native.Mathlib.Omega.{arith}
use native.Mathlib.Nat.{mod-lt, div-lt_iff_lt-mul, div-add-mod'}
use lib.ListN.{length, get_or}
use Rattle.basics.specs.Bytes.{Bytes}
use Rattle.basics.proofs.Tests.{both}
use Rattle.picture.specs.declared.Depth.TheVariants.{EightBit}
use Rattle.picture.specs.Frame.{frame}
use Rattle.picture.specs.Points.{value_at, value_in}
use Rattle.picture.specs.Bytes.{Picture, bytes_of}
use Rattle.picture.proofs.Bytes.{bytes_long, bytes_value}
use Rattle.element.specs.declared.Outline.{Outline}
use Rattle.element.specs.Record.{cell_on}
use Rattle.morphology.specs.Operations.{fold, gather, within, erode_by, dilate_by}
use Rattle.morphology.specs.Weighted.{lower, raise}
use Rattle.morphology.proofs.Order.{erode_bounded, dilate_bounded}
use Rattle.morphology.proofs.Weights.{raise_holds}
use Rattle.rows.specs.Steps.Fold.{join_by, start_by, plus_by, minus_by}
use Rattle.byterow.specs.Steps.Row.{heightened_by, swept_bytes}
use Rattle.byterow.proofs.Row.{bytes_bounded}
use Rattle.windows.specs.Steps.Bounds.{Bound}
use Rattle.windows.proofs.Bounds.{fold_to, fold_from}
use Rattle.sourceparts.specs.Steps.Part.{Leads}
use Rattle.sourceparts.proofs.Bytes.{byte_start, bytes_same, lists_same}
use Rattle.byheight.specs.Steps.Part.{finds_at, Part}

module _ (grows : Bool) (s : List ℕ) (w h : ℕ) (o : Outline) (words hs : List ℕ) (x y : ℕ) where
  abbrev taken : ℕ → ℕ → Bool
  taken c r =
      cell_on (get_or words r 0) c
      && (within w x (plus_by grows o.origin.ping.0 c) (minus_by grows o.origin.ping.0 c)
      && within h y (plus_by grows o.origin.bin.0 r) (minus_by grows o.origin.bin.0 r))

  abbrev cell : ℕ → ℕ → ℕ
  cell r c = cond (taken c r) (finds_at grows s w o hs x y c r) (start_by grows 255)

  -- the definition, of either way
  abbrev row : ℕ → ℕ
  row r = fold (join_by grows) (start_by grows 255) (cell r) o.w

swept_is : (grows : Bool) (s : List ℕ) (w h : ℕ) (o : Outline) (words hs : List ℕ) (x y : ℕ)
    → swept_bytes grows s w h o words hs x y
    ≡ fold (join_by grows) (start_by grows 255) (row grows s w h o words hs x y) o.h
unfolding swept_bytes heightened_by erode_by dilate_by gather value_at value_in
swept_is true s w h o words hs x y = refl
swept_is false s w h o words hs x y = refl

swept_small : (grows : Bool) (s : List ℕ) (w h : ℕ) (o : Outline) (words hs : List ℕ) → Bytes s
    → (x y : ℕ) → x < w → y < h → swept_bytes grows s w h o words hs x y ≤ 255
unfolding swept_bytes
swept_small true s w h o words hs bytes x y hx hy =
    dilate_bounded raise 255 (frame w h) (heightened_by o words hs) (value_at EightBit s w) raise_holds
    (bytes_bounded s w (frame w h) bytes) (record { x = x; y = y }) (record { ping = hx; bin = hy })
swept_small false s w h o words hs bytes x y hx hy =
    erode_bounded lower 255 (frame w h) (heightened_by o words hs) (value_at EightBit s w)
    (record { x = x; y = y }) (record { ping = hx; bin = hy })

module _ (grows : Bool) (s : List ℕ) (w h : ℕ) (o : Outline) (words hs : List ℕ) where
  abbrev P : Picture
  P = swept_bytes grows s w h o words hs

  swept_to : (x y z : ℕ) → Bound grows (P x y) z → (c r : ℕ) → Leads grows w h o words x y c r
      → Bound grows (finds_at grows s w o hs x y c r) z
  swept_to x y z b c r l =
      let f = fold_to grows (start_by grows 255) (row grows s w h o words hs x y) z o.h
      (subst (λ m. Bound grows m z) (swept_is grows s w h o words hs x y) b) in
      let g = fold_to grows (start_by grows 255) (cell grows s w h o words hs x y r) z o.w (f.1 r
      l.row) in
      subst (λ t. Bound grows (cond t (finds_at grows s w o hs x y c r) (start_by grows 255)) z)
      (all_three l.set l.across l.down) (g.1 c l.column)
    where
      all_three : {a b c : Bool} → a ≡ true → b ≡ true → c ≡ true → a && (b && c) ≡ true
      all_three e f g = simp (e, f, g)

  swept_from : (x y z : ℕ) → z < 256
      → ((c r : ℕ) → Leads grows w h o words x y c r → Bound grows (finds_at grows s w o hs x y c r) z)
      → Bound grows (P x y) z
  swept_from x y z hz each =
      subst (λ m. Bound grows m z) (sym (swept_is grows s w h o words hs x y))
      (fold_from grows (start_by grows 255) (row grows s w h o words hs x y) z o.h (byte_start grows z hz)
      (λ r hr. fold_from grows (start_by grows 255) (cell grows s w h o words hs x y r) z o.w
      (byte_start grows z hz)
      (λ c hc. by c r hc hr (taken grows s w h o words hs x y c r) refl)))
    where
      by : (c r : ℕ) → c < o.w → r < o.h → (t : Bool) → taken grows s w h o words hs x y c r ≡ t
          → Bound grows (cond t (finds_at grows s w o hs x y c r) (start_by grows 255)) z
      by c r hc hr true e =
          let p = both (cell_on (get_or words r 0) c) _ e in
          let q = both (within w x (plus_by grows o.origin.ping.0 c) (minus_by grows
          o.origin.ping.0 c))
          (within h y (plus_by grows o.origin.bin.0 r) (minus_by grows o.origin.bin.0 r)) p.1 in
          each c r (record { column = hc; row = hr; set = p.0; across = q.0; down = q.1 })
      by c r hc hr false e = byte_start grows z hz

  -- ---- all rows of the element are done
  module _ (t : List ℕ) (v : ℕ) (all : o.h ≤ v) (source : Bytes s) (target : Bytes t)
      (done : Part grows s w h o words hs v 0 0 v t) where
    point : (x y : ℕ) → x < w → y < h → get_or t (y * w + x) 0 ≡ P x y
    point x y hx hy =
        bytes_same grows (get_or t (y * w + x) 0) (P x y) (target (y * w + x)) (omega
        (arith, swept_small grows s w h o words hs source x y hx hy))
        (λ z hz b. swept_from x y z hz (λ c r l. done.to x y z hx hy hz b c r l (inl (omega (
          arith,
          all,
          l.row,
        )))))
        (λ z hz b. done.follows x y z hx hy hz (λ c r l d. swept_to x y z b c r l))

    bytes_at : (x y : ℕ) → x < w → y < h → get_or (bytes_of EightBit P w h) (y * w + x) 0 ≡ P x y
    unfolding value_at value_in
    bytes_at x y hx hy = bytes_value EightBit P w h (swept_small grows s w h o words hs source) x y hx hy

    pub part_all : 1 ≤ w → length t ≡ h * w → t ≡ bytes_of EightBit P w h
    part_all some len =
        lists_same (h * w) t (bytes_of EightBit P w h) len (bytes_long EightBit P w h)
        (λ i l.
        let x : i % w < w = mod-lt i {m = w} some in
        let y : i / w < h = (div-lt_iff_lt-mul {k = w} {x = i} {y = h} some).1 l in
        ap (λ n. get_or t n 0) (sym (div-add-mod' i w)) ∙ point (i % w) (i / w) x y
        ∙ sym (bytes_at (i % w) (i / w) x y)
        ∙ ap (λ n. get_or (bytes_of EightBit P w h) n 0) (div-add-mod' i w))
