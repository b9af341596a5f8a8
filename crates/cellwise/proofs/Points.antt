-- What stands at the places of the cells, joined, is the definition's value: both are bounded exactly where
-- all that the cells find is.
use Prim.Native.Nat.{ℕ, zero, suc, ◌+◌, ◌-◌, ◌*◌, ◌%◌, ◌≤◌, ◌<◌}
use mathlib.Core.Path.{◌≡◌, sym, ap, ap₂, ◌∙◌, subst}
use mathlib.Core.Bool.{Bool, true, false}
use mathlib.Core.List.{List}
use native.Mathlib.Omega.{arith}
use lib.Arith.{digits_mod}
use lib.Dec.{leb, ltb}
use lib.ListN.{length, get_or, take}
use lib.Seq.{get_or-take, length-take-le}
use borrow.Author.Tests.{leb-true, ltb-true, le-leb, lt-ltb}
use Rattle.basics.specs.Bytes.{Bytes}
use Rattle.basics.proofs.Tests.{both}
use Rattle.picture.proofs.Sizes.{row_room}
use Rattle.element.specs.declared.Outline.{Outline}
use Rattle.morphology.specs.Operations.{fold, moved, within}
use Rattle.rows.specs.Steps.Fold.{join_by, start_by, plus_by, minus_by}
use Rattle.rows.proofs.Places.{within_yes}
use Rattle.windows.specs.Steps.Bounds.{Bound}
use Rattle.windows.proofs.Bounds.{fold_to, fold_from}
use Rattle.rooms.specs.Steps.Joined.{at_places}
use Rattle.sourceparts.specs.Steps.Part.{across_to, down_to, Leads}
use Rattle.sourceparts.proofs.Bytes.{byte_start}
use Rattle.sourceparts.proofs.Bytes.{bytes_same, bytes_to, bytes_from, bytes_small}
use Rattle.gathers.specs.Steps.Gathered.{at_all}
use Rattle.cellwise.specs.Steps.Spots.{side_of, spot_of, near_of, Cell, Picked}
use Rattle.cellwise.specs.Steps.Made.{swept_flat, back_of, up_of, Places, Middle}

-- ---- along one axis: a cell leads to p + d - back, where that lies in the frame
module _ (grows : Bool) (n o c : ℕ) (hc : c < n) (ho : o < n) where
  pub lead_from : (w p : ℕ) → side_of grows n o ≤ side_of grows n c + p
      → side_of grows n c + p - side_of grows n o < w
      → within w p (plus_by grows o c) (minus_by grows o c) ≡ true
  lead_from w p h k = go grows h k
    where
      go : (grows : Bool) → side_of grows n o ≤ side_of grows n c + p
          → side_of grows n c + p - side_of grows n o < w
          → within w p (plus_by grows o c) (minus_by grows o c) ≡ true
      go true h k = within_yes w p o c (omega arith) (omega arith)
      go false h k = within_yes w p c o (omega arith) (omega arith)

  pub lead_to : (w p : ℕ) → within w p (plus_by grows o c) (minus_by grows o c) ≡ true
      → (side_of grows n o ≤ side_of grows n c + p) × (side_of grows n c + p - side_of grows n o < w)
  lead_to w p t = go grows t
    where
      inside : (plus minus : ℕ) → within w p plus minus ≡ true → (minus ≤ p + plus) × (p + plus - minus < w)
      inside plus minus t =
          let r = both (leb minus (p + plus)) (ltb (p + plus - minus) w) t in
          (leb-true minus (p + plus) r.0, ltb-true (p + plus - minus) w r.1)

      go : (grows : Bool) → within w p (plus_by grows o c) (minus_by grows o c) ≡ true
          → (side_of grows n o ≤ side_of grows n c + p) × (side_of grows n c + p - side_of grows n o < w)
      go true t = let i = inside o c t in (omega (arith, i.0), omega (arith, i.0, i.1))
      go false t = let i = inside c o t in (omega (arith, i.0), omega (arith, i.0, i.1))

  pub lead_is : (p : ℕ) → side_of grows n o ≤ side_of grows n c + p
      → moved p (plus_by grows o c) (minus_by grows o c) ≡ side_of grows n c + p - side_of grows n o
  lead_is p h = go grows h
    where
      go : (grows : Bool) → side_of grows n o ≤ side_of grows n c + p
          → moved p (plus_by grows o c) (minus_by grows o c) ≡ side_of grows n c + p - side_of grows n o
      go true h = omega arith
      go false h = omega arith

  pub side_lt : side_of grows n c < n
  side_lt = go grows
    where
      go : (grows : Bool) → side_of grows n c < n
      go true = omega arith
      go false = omega arith

  -- from the middle every cell leads into the frame
  pub lead_all : (w p : ℕ) → side_of grows n o ≤ p → p < side_of grows n o + (w + 1 - n) → n ≤ w
      → (side_of grows n o ≤ side_of grows n c + p) × (side_of grows n c + p - side_of grows n o < w)
  lead_all w p h k fits = (omega arith, omega (arith, side_lt))

-- ---- a fold of bytes is a byte
fold_byte : (grows : Bool) (v : ℕ) (f : ℕ → ℕ) (n : ℕ) → v < 256 → ((i : ℕ) → f i < 256)
    → fold (join_by grows) v f n < 256
unfolding fold
fold_byte grows v f zero h each = h
fold_byte grows v f (suc n) h each =
    join_byte_lem grows (fold (join_by grows) v f n) (f n) (fold_byte grows v f n h each) (each n)
  where
    join_byte_lem : (grows : Bool) (a b : ℕ) → a < 256 → b < 256 → join_by grows a b < 256
    join_byte_lem true a b h k = omega arith
    join_byte_lem false a b h k = omega arith

start_byte : (grows : Bool) → start_by grows 255 < 256
start_byte true = omega arith
start_byte false = omega arith

module _ (grows : Bool) (s : List ℕ) (w h : ℕ) (o : Outline) (words : List ℕ) (bytes : Bytes s) where
  abbrev index : ℕ → ℕ → ℕ → ℕ → ℕ
  index x y c r = down_to grows o y r * w + across_to grows o x c

  -- ---- places that are just those that the cells lead to
  found : (x y : ℕ) → x < w → y < h → (v n : ℕ) (g : ℕ → ℕ) → v < 256
      → ((k : ℕ) → k < n → (c : ℕ) × ((r : ℕ) × (Leads grows w h o words x y c r × (g k ≡ index x y c r))))
      → ((c r : ℕ) → Leads grows w h o words x y c r → (k : ℕ) × ((k < n) × (g k ≡ index x y c r)))
      → ((m : ℕ) → m < 256 → ((k : ℕ) → k < n → Bound grows (get_or s (g k) 0) m) → Bound grows v m)
      → fold (join_by grows) v (λ k. get_or s (g k) 0) n ≡ swept_flat grows s w h o words x y
  found x y hx hy v n g hv into from start =
      bytes_same grows (fold (join_by grows) v (λ k. get_or s (g k) 0) n) (swept_flat grows s w h o words x y)
      (fold_byte grows v (λ k. get_or s (g k) 0) n hv (λ k. bytes (g k)))
      (omega (arith, bytes_small grows s w h o words bytes x y hx hy))
      (λ m hm b. let f = fold_to grows v (λ k. get_or s (g k) 0) m n b in
      bytes_from grows s w h o words x y m hm
      (λ c r l. let k = from c r l in
      subst (λ i. Bound grows (get_or s i 0) m) k.1.1 (f.1 k.0 k.1.0)))
      (λ m hm b. let each : (k : ℕ) → k < n → Bound grows (get_or s (g k) 0) m = λ k hk. (let i = into k hk in
      subst (λ i. Bound grows (get_or s i 0) m) (sym i.1.1.1)
      (bytes_to grows s w h o words x y m b i.0 i.1.0 i.1.1.0)) in
      fold_from grows v (λ k. get_or s (g k) 0) m n (start m hm each) each)

  -- ---- a row z of the middle
  module _ (at : List ℕ) (places : Places grows w o words at) (fit : Middle w h o)
      (column : o.origin.ping.0 < o.w) (row : o.origin.bin.0 < o.h) (x z : ℕ) (hx : x < w)
      (above : up_of grows o ≤ z) (below : z < up_of grows o + (h + 1 - o.h)) where
    z_in : z < h
    z_in = omega (arith, fit.high, up_lt)
      where
        up_lt : up_of grows o < o.h
        up_lt = side_lt grows o.h o.origin.bin.0 o.origin.bin.0 row row

    down : (r : ℕ) → r < o.h → within h z (plus_by grows o.origin.bin.0 r)
        (minus_by grows o.origin.bin.0 r) ≡ true
    down r hr =
        let l = lead_all grows o.h o.origin.bin.0 r hr row h z above below fit.high in
        lead_from grows o.h o.origin.bin.0 r hr row h z l.0 l.1

    down_is : (r : ℕ) → r < o.h → down_to grows o z r ≡ z - up_of grows o + side_of grows o.h r
    down_is r hr =
        let l = lead_all grows o.h o.origin.bin.0 r hr row h z above below fit.high in
        lead_is grows o.h o.origin.bin.0 r hr row z l.0
        ∙ turn (side_of grows o.h r) z (up_of grows o) above
      where
        turn : (a b c : ℕ) → c ≤ b → a + b - c ≡ b - c + a
        turn a b c h = omega arith

    leads : (c r : ℕ) → Cell o words c r
        → within w x (plus_by grows o.origin.ping.0 c) (minus_by grows o.origin.ping.0 c) ≡ true
        → Leads grows w h o words x z c r
    leads c r l t =
        record { column = l.column; row = l.row; set = l.set; across = t; down = down r l.row }

    cell : (c r : ℕ) → Leads grows w h o words x z c r → Cell o words c r
    cell c r l = record { column = l.column; row = l.row; set = l.set }

    -- the place of a cell, i bytes on, is where it leads to
    place_is : (c r i p : ℕ) → Cell o words c r → back_of grows o ≤ side_of grows o.w c + x
        → i + p ≡ (z - up_of grows o + side_of grows o.h r) * w + (side_of grows o.w c + x - back_of
        grows o)
        → i + p ≡ index x z c r
    place_is c r i p l h e =
        e ∙ ap₂ (λ a b. a * w + b) (sym (down_is r l.row))
        (sym (lead_is grows o.w o.origin.ping.0 c l.column column x h))

    -- in the middle: the list, (z - up) w + (x - back) bytes on
    module _ (left : back_of grows o ≤ x) (right : x < back_of grows o + (w + 1 - o.w)) where
      abbrev on : ℕ
      on = (z - up_of grows o) * w + (x - back_of grows o)

      all : (c : ℕ) → c < o.w
          → (back_of grows o ≤ side_of grows o.w c + x) × (side_of grows o.w c + x - back_of grows o < w)
      all c hc = lead_all grows o.w o.origin.ping.0 c hc column w x left right fit.wide

      at_cell : (c r p : ℕ) → Cell o words c r → p ≡ spot_of grows w o c r → on + p ≡ index x z c r
      at_cell c r p l e =
          place_is c r on p l (all c l.column).0
          (ap (λ q. on + q) e
          ∙ sum (z - up_of grows o) (side_of grows o.h r) (side_of grows o.w c) x (back_of grows o) left)
        where
          sum : (a q d x b : ℕ) → b ≤ x → a * w + (x - b) + (q * w + d) ≡ (a + q) * w + (d + x - b)
          sum a q d x b h = omega arith

      pub middle_value : 0 < length at → at_all grows s at on ≡ swept_flat grows s w h o words x z
      unfolding at_all at_places
      middle_value some =
          found x z hx z_in (get_or s (on + get_or at 0 0) 0) (length at) (λ j. on + get_or at j 0)
          (bytes (on + get_or at 0 0))
          (λ j hj. let i = places.inside j hj in
          let l = i.1.1.0 in
          let a = all i.0 l.column in (
            i.0,
            (
              i.1.0,
              (
                leads i.0 i.1.0 l
                    (lead_from grows o.w o.origin.ping.0 i.0 l.column column w x a.0 a.1),
                at_cell i.0 i.1.0 (get_or at j 0) l i.1.1.1,
              ),
            ),
          ))
          (λ c r l. let j = places.covered c r (cell c r l) in
          (j.0, (j.1.0, at_cell c r (get_or at j.0 0) (cell c r l) j.1.1)))
          (λ m hm each. each 0 some)

    -- in another column: the places that it sees, (z - up) w bytes on
    module _ (k : ℕ) (near : List ℕ) (picked : Picked w (back_of grows o) x at (length at) k near) where
      rem : (c r p : ℕ) → Cell o words c r → p ≡ spot_of grows w o c r → p % w ≡ side_of grows o.w c
      rem c r p l e =
          ap (λ q. q % w) e ∙ digits_mod (side_of grows o.h r) side
        where
          side : side_of grows o.w c < w
          side = omega (arith, fit.wide, side_lt grows o.w o.origin.ping.0 c l.column column)

      near_to : (p : ℕ) → near_of w (back_of grows o) x p ≡ true
          → (back_of grows o ≤ p % w + x) × (p % w + x - back_of grows o < w)
      unfolding near_of
      near_to p t =
          let r = both (leb (back_of grows o) (p % w + x)) (ltb (p % w + x - back_of grows o) w) t in
          (leb-true (back_of grows o) (p % w + x) r.0, ltb-true (p % w + x - back_of grows o) w r.1)

      near_from : (p : ℕ) → back_of grows o ≤ p % w + x → p % w + x - back_of grows o < w
          → near_of w (back_of grows o) x p ≡ true
      unfolding near_of
      near_from p a b = simp (le-leb _ _ a, lt-ltb _ _ b)

      near_sum : (a q d : ℕ) → back_of grows o ≤ d + x
          → a * w + (q * w + d + x - back_of grows o) ≡ (a + q) * w + (d + x - back_of grows o)
      near_sum a q d h = sum a q d x (back_of grows o) h
        where
          sum : (a q d x b : ℕ) → b ≤ d + x → a * w + (q * w + d + x - b) ≡ (a + q) * w + (d + x - b)
          sum a q d x b h = omega arith

      at_near : (c r p : ℕ) → Cell o words c r → p ≡ spot_of grows w o c r
          → back_of grows o ≤ side_of grows o.w c + x
          → (z - up_of grows o) * w + (p + x - back_of grows o) ≡ index x z c r
      at_near c r p l e h =
          place_is c r ((z - up_of grows o) * w) (p + x - back_of grows o) l h
          (ap (λ q. (z - up_of grows o) * w + (q + x - back_of grows o)) e
          ∙ near_sum (z - up_of grows o) (side_of grows o.h r) (side_of grows o.w c) h)

      -- and they lie in the picture
      pub near_inside : (i : ℕ) → i < k → (z - up_of grows o) * w + get_or near i 0 < h * w
      near_inside i hk =
          let f = picked.inside i hk in
          let p = places.inside f.0 f.1.0 in
          let l = p.1.1.0 in
          let e = rem p.0 p.1.0 _ l p.1.1.1 in
          let n = near_to (get_or at f.0 0) f.1.1.0 in
          let a = subst (λ d. back_of grows o ≤ d + x) e n.0 in
          let b = subst (λ d. d + x - back_of grows o < w) e n.1 in
          let m = lead_all grows o.h o.origin.bin.0 p.1.0 l.row row h z above below
          fit.high in
          let q : z - up_of grows o + side_of grows o.h p.1.0 < h = omega (arith, m.1) in
          let y : (z - up_of grows o) * w + get_or near i 0
          ≡ (z - up_of grows o + side_of grows o.h p.1.0) * w
          + (side_of grows o.w p.0 + x - back_of grows o) =
          ap (λ q. (z - up_of grows o) * w + q) (f.1.1.1 ∙ ap (λ q. q + x - back_of grows o) p.1.1.1)
          ∙ near_sum (z - up_of grows o) (side_of grows o.h p.1.0) (side_of grows o.w p.0) a in
          omega (arith, y, b, row_room w q)

      pub near_value : at_places grows (start_by grows 255) s ((z - up_of grows o) * w) (take k near)
          (length (take k near)) ≡ swept_flat grows s w h o words x z
      unfolding at_places
      near_value =
          found x z hx z_in (start_by grows 255) (length (take k near))
          (λ i. (z - up_of grows o) * w + get_or (take k near) i 0) (start_byte grows)
          (λ i hi. let hk = subst (λ n. i < n) taken hi in
          let f = picked.inside i hk in
          let p = places.inside f.0 f.1.0 in
          let l = p.1.1.0 in
          let e = rem p.0 p.1.0 _ l p.1.1.1 in
          let n = near_to (get_or at f.0 0) f.1.1.0 in
          let a = subst (λ d. back_of grows o ≤ d + x) e n.0 in
          let b = subst (λ d. d + x - back_of grows o < w) e n.1 in (
            p.0,
            (
              p.1.0,
              (
                leads p.0 p.1.0 l
                    (lead_from grows o.w o.origin.ping.0 p.0 l.column column w x a b),
                ap (λ q. (z - up_of grows o) * w + q) (get_or-take k near i 0 hk ∙ f.1.1.1)
                    ∙ at_near p.0 p.1.0 (get_or at f.0 0) l p.1.1.1 a,
              ),
            ),
          ))
          (λ c r l. let j = places.covered c r (cell c r l) in
          let e = sym (rem c r _ (cell c r l) j.1.1) in
          let t = lead_to grows o.w o.origin.ping.0 c l.column column w x l.across in
          let f = picked.covered j.0 j.1.0 (near_from (get_or at j.0 0)
          (subst (λ d. back_of grows o ≤ d + x) e t.0)
          (subst (λ d. d + x - back_of grows o < w) e t.1)) in (
            f.0,
            (
              subst (λ n. f.0 < n) (sym taken) f.1.0,
              ap (λ q. (z - up_of grows o) * w + q) (get_or-take k near f.0 0 f.1.0 ∙ f.1.1)
                  ∙ at_near c r (get_or at j.0 0) (cell c r l) j.1.1 t.0,
            ),
          ))
          (λ m hm each. byte_start grows m hm)
        where
          taken : length (take k near) ≡ k
          taken = length-take-le k near (omega (arith, picked.long, picked.few, places.few))
