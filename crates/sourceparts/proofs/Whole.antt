-- Once all is done, the points are the definition's: both are bounded exactly where all that the cells
-- find is.
use Prim.Native.Nat.{ℕ, ◌≤◌, ◌<◌}
use mathlib.Core.Path.{◌≡◌, refl, sym, ◌∙◌, subst}
use mathlib.Core.Bool.{Bool, true, false, cond, ◌&&◌}
use mathlib.Core.List.{List}
use mathlib.Core.Logic.{inl}
use native.Mathlib.Omega.{arith}
use lib.Dec.{leb}
use lib.ListN.{get_or}
use Rattle.basics.proofs.Tests.{both}
use Rattle.picture.specs.Frame.{frame}
use Rattle.picture.specs.Bytes.{Picture}
use Rattle.element.specs.declared.Outline.{Outline}
use Rattle.element.specs.Record.{cell_on, shape_of, shape_by}
use Rattle.morphology.specs.Operations.{fold, gather, within, flat, erode_by, dilate_by}
use Rattle.morphology.specs.Order.{Bounded}
use Rattle.rows.specs.Steps.Fold.{join_by, start_by, plus_by, minus_by}
use Rattle.rows.specs.Steps.Ways.{swept_by}
use Rattle.rows.proofs.Swept.{swept_bounded}
use Rattle.windows.specs.Steps.Bounds.{Bound}
use Rattle.windows.proofs.Bounds.{fold_to, fold_from}
use Rattle.packedline.specs.Steps.Cells.{level_of}
use Rattle.bitrow.specs.Steps.Added.{masked_of}
use Rattle.strokes.specs.Steps.Strokes.{kind_at}
use Rattle.sourceparts.specs.Steps.Part.{across_to, down_to, Leads, Part}
use Rattle.sourceparts.proofs.Shown.{start_bound}

-- equal bounds, equal values
pub values_same : (grows : Bool) (most a b : ℕ) → a ≤ most → b ≤ most
    → ((v : ℕ) → v ≤ most → Bound grows a v → Bound grows b v)
    → ((v : ℕ) → v ≤ most → Bound grows b v → Bound grows a v) → a ≡ b
values_same true most a b ha hb to from =
    let x : b ≤ a = to a ha (omega arith) in let y : a ≤ b = from b hb (omega arith) in omega arith
values_same false most a b ha hb to from =
    let x : a ≤ b = to a ha (omega arith) in let y : b ≤ a = from b hb (omega arith) in omega arith

module _ (grows : Bool) (most : ℕ) (S : Picture) (w h : ℕ) (o : Outline) (words : List ℕ) where
  abbrev A : Picture
  A = swept_by grows flat most (frame w h) (shape_by o words) S

  abbrev taken : ℕ → ℕ → ℕ → ℕ → Bool
  taken x y c r =
      cell_on (get_or words r 0) c
      && (within w x (plus_by grows o.origin.ping.0 c) (minus_by grows o.origin.ping.0 c)
      && within h y (plus_by grows o.origin.bin.0 r) (minus_by grows o.origin.bin.0 r))

  abbrev value : ℕ → ℕ → ℕ → ℕ → ℕ
  value x y c r = S (across_to grows o x c) (down_to grows o y r)

  -- the definition, of either way
  abbrev row : ℕ → ℕ → ℕ → ℕ
  row x y r =
      fold (join_by grows) (start_by grows most) (λ c. cond (taken x y c r) (value x y c r)
      (start_by grows most)) o.w

swept_is : (grows : Bool) (most : ℕ) (S : Picture) (w h : ℕ) (o : Outline) (words : List ℕ) (x y : ℕ)
    → A grows most S w h o words x y
    ≡ fold (join_by grows) (start_by grows most) (row grows most S w h o words x y) o.h
unfolding erode_by dilate_by gather shape_of
swept_is true most S w h o words x y = refl
swept_is false most S w h o words x y = refl

module _ (grows : Bool) (most : ℕ) (S : Picture) (w h : ℕ) (o : Outline) (words : List ℕ) where
  abbrev P : Picture
  P = A grows most S w h o words

  abbrev cell : ℕ → ℕ → ℕ → ℕ → ℕ
  cell x y r c =
      cond (taken grows most S w h o words x y c r) (value grows most S w h o words x y c r)
      (start_by grows most)

  pub swept_to : (x y z : ℕ) → Bound grows (P x y) z → (c r : ℕ) → Leads grows w h o words x y c r
      → Bound grows (value grows most S w h o words x y c r) z
  swept_to x y z b c r l =
      let f = fold_to grows (start_by grows most) (row grows most S w h o words x y) z o.h
      (subst (λ m. Bound grows m z) (swept_is grows most S w h o words x y) b) in
      let g = fold_to grows (start_by grows most) (cell x y r) z o.w (f.1 r l.row) in
      subst (λ t. Bound grows (cond t (value grows most S w h o words x y c r) (start_by grows most)) z)
      (all_three l.set l.across l.down) (g.1 c l.column)
    where
      all_three : {a b c : Bool} → a ≡ true → b ≡ true → c ≡ true → a && (b && c) ≡ true
      all_three e f g = simp (e, f, g)

  pub swept_from : (x y z : ℕ) → z ≤ most
      → ((c r : ℕ) → Leads grows w h o words x y c r → Bound grows (value grows most S w h o words x y c r) z)
      → Bound grows (P x y) z
  swept_from x y z hz each =
      subst (λ m. Bound grows m z) (sym (swept_is grows most S w h o words x y))
      (fold_from grows (start_by grows most) (row grows most S w h o words x y) z o.h
      (start_bound grows most z hz)
      (λ r hr. fold_from grows (start_by grows most) (cell x y r) z o.w (start_bound grows most z hz)
      (λ c hc. by c r hc hr (taken grows most S w h o words x y c r) refl)))
    where
      by : (c r : ℕ) → c < o.w → r < o.h → (t : Bool) → taken grows most S w h o words x y c r ≡ t
          → Bound grows (cond t (value grows most S w h o words x y c r) (start_by grows most)) z
      by c r hc hr true e =
          let p = both (cell_on (get_or words r 0) c) _ e in
          let q = both (within w x (plus_by grows o.origin.ping.0 c) (minus_by grows
          o.origin.ping.0 c))
          (within h y (plus_by grows o.origin.bin.0 r) (minus_by grows o.origin.bin.0 r)) p.1 in
          each c r (record { column = hc; row = hr; set = p.0; across = q.0; down = q.1 })
      by c r hc hr false e = start_bound grows most z hz

  pub swept_small : Bounded most (frame w h) S → (x y : ℕ) → x < w → y < h → P x y ≤ most
  swept_small bounded x y hx hy =
      swept_bounded grows most (frame w h) (shape_by o words) S bounded
      (record { x = x; y = y }) (record { ping = hx; bin = hy })

  -- ---- all rows of both kinds are done
  kind_lt : (r : ℕ) → kind_at o words r < 2
  kind_lt r = by (leb (level_of (masked_of (get_or words r 0) o.w)) 1)
    where
      by : (b : Bool) → cond b 0 1 < 2
      by true = omega arith
      by false = omega arith

  pub part_all : (T : Picture) → Bounded most (frame w h) S
      → ((x y : ℕ) → x < w → y < h → T x y ≤ most) → Part grows most S w h o words 2 0 0 T
      → (x y : ℕ) → x < w → y < h → T x y ≡ P x y
  part_all T bounded small done x y hx hy =
      values_same grows most (T x y) (P x y) (small x y hx hy) (swept_small bounded x y hx hy)
      (λ z hz b. swept_from x y z hz (λ c r l. done.to x y z hx hy hz b c r l (inl (kind_lt r))))
      (λ z hz b. done.from x y z hx hy hz (λ c r l d. swept_to x y z b c r l))
