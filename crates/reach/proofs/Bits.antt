-- The words of a board, bit by bit: they are the board's places.
use Prim.Native.Nat.{ℕ, zero, suc, ◌+◌, ◌-◌, ◌*◌, ◌/◌, ◌%◌, ◌^◌, ◌≤◌, ◌<◌}
use mathlib.Core.Path.{◌≡◌, refl, sym, ap, ap₂, ◌∙◌}
use mathlib.Core.Bool.{Bool, true, false, cond, ◌&&◌, ◌||◌, or-false, or_assoc}
use mathlib.Core.List.{List, [], ◌∷◌}
use native.Mathlib.Omega.{arith}
use native.Mathlib.Decide.{dec_le}
use lib.Dec.{leb, ltb, eqb}
use lib.ListN.{get_or, replicate}
use lib.Bits.{bit_and}
use borrow.Author.Tests.{le-ltb, le-leb, lt-leb, ne_eqb}
use Rattle.answer.specs.Answer.{centre}
use Rattle.basics.specs.Bits.{on}
use Rattle.basics.proofs.Lists.{get_d_firsts}
use Rattle.basics.proofs.Flags.{on_or, on_and, on_none, on_shr, on_shl, on_mod, on_ones}
use Rattle.reach.specs.declared.Link.{Link}
use Rattle.element.specs.Record.{cell_on, shape_of}
use Rattle.morphology.specs.Step.{Place}
use Rattle.morphology.specs.Check.{total, back_x, back_y}
use Rattle.basics.specs.Tests.{any}
use Rattle.basics.proofs.Any.{any_same}
use Rattle.reach.specs.declared.Cut.{Cut}
use Rattle.reach.specs.declared.Bounds.{Bounds}
use Rattle.reach.specs.declared.Sum.{Sum}
use Rattle.reach.specs.Steps.Words.{sums, moved_of, spread_of, line_of, row_of, mask_of, cut_row, step_of}
use Rattle.reach.specs.Steps.Links.{link_shape, shapes_of}
use Rattle.reach.specs.Steps.Boards.{clipped, cut_of, start_of, onward_of, words_from}
use Rattle.reach.proofs.Walked.{Places, place_at, start_places, next_places, places_from}

-- ---- tests over a range
any_step : (f : ℕ → Bool) (n : ℕ) → any f (suc n) ≡ (any f n || f n)
unfolding any
any_step f n = by (f n) (any f n)
  where
    by : (b a : Bool) → elim b [ true ↦ true | false ↦ a ] ≡ (a || b)
    by true true = refl
    by true false = refl
    by false true = refl
    by false false = refl

leb_same : (a b c d : ℕ) → (a ≤ b → c ≤ d) → (c ≤ d → a ≤ b) → leb a b ≡ leb c d
leb_same a b c d f g = by (dec_le a b)
  where
    by : Dec (a ≤ b) → leb a b ≡ leb c d
    by (yes h) = le-leb a b h ∙ sym (le-leb c d (f h))
    by (no n) = lt-leb a b (omega arith) ∙ sym (lt-leb c d (below (λ h. n (g h))))
      where
        below : (c ≤ d → ⊥) → d < c
        below m = omega arith

-- ---- one step, bit by bit
moved_bit : (line cells c X : ℕ) → X < 64
    → on (moved_of line cells c) X ≡ (cell_on cells c && (leb c X && on line (X - c)))
unfolding moved_of
moved_bit line cells c X h = by (cell_on cells c)
  where
    by : (t : Bool) → on (cond t (line * 2 ^ c % 2 ^ 64) 0) X ≡ (t && (leb c X && on line (X - c)))
    by true = on_mod (line * 2 ^ c) 64 X h ∙ on_shl line c X
    by false = on_none X

spread_bit : (acc line cells n X : ℕ) → X < 64
    → on (spread_of acc line cells n) X
    ≡ (on acc X || any (λ c. cell_on cells c && (leb c X && on line (X - c))) n)
unfolding spread_of any
spread_bit acc line cells zero X h = sym (or-false (on acc X))
spread_bit acc line cells (suc n) X h =
    on_or (spread_of acc line cells n) (moved_of line cells n) X
    ∙ ap₂ (λ s t. s || t) (spread_bit acc line cells n X h) (moved_bit line cells n X h)
    ∙ or_assoc (on acc X) (any (λ c. cell_on cells c && (leb c X && on line (X - c))) n)
    (cell_on cells n && (leb n X && on line (X - n)))
    ∙ ap (λ t. on acc X || t) (sym (any_step (λ c. cell_on cells c && (leb c X && on line (X - c))) n))

line_bit : (board : List ℕ) (y r k : ℕ) → on (line_of board y r) k
    ≡ (leb r y && on (get_or board (y - r) 0) k)
unfolding line_of
line_bit board y r k = by (leb r y)
  where
    by : (t : Bool) → on (cond t (get_or board (y - r) 0) 0) k ≡ (t && on (get_or board (y - r) 0) k)
    by true = refl
    by false = on_none k

-- the places of a board's words, and the cell of column c of row r that leads from (X - c, Y - r) to (X, Y)
abbrev pub places_in : List ℕ → Places
places_in words X Y = on (get_or words Y 0) X

abbrev leads_in : List ℕ → List ℕ → ℕ → ℕ → ℕ → ℕ → Bool
leads_in board cells X Y r c =
    cell_on (get_or cells r 0) c && (leb c X && (leb r Y && places_in board (X - c) (Y - r)))

row_bit : (board cells : List ℕ) (w y n X : ℕ) → X < 64
    → on (row_of board cells w y n) X ≡ any (λ r. any (leads_in board cells X y r) w) n
unfolding row_of any
row_bit board cells w y zero X h = on_none X
row_bit board cells w y (suc n) X h =
    spread_bit (row_of board cells w y n) (line_of board y n) (get_or cells n 0) w X h
    ∙ ap₂ (λ s t. s || t) (row_bit board cells w y n X h)
    (any_same _ _ w
    (λ c _. ap (λ t. cell_on (get_or cells n 0) c && (leb c X && t)) (line_bit board y n (X - c))))
    ∙ sym (any_step (λ r. any (leads_in board cells X y r) w) n)

mask_bit : (left right X : ℕ) → X < 64 → on (mask_of left right) X ≡ (leb left X && ltb X right)
unfolding mask_of
mask_bit left right X h =
    on_mod ((2 ^ right - 1) / 2 ^ left * 2 ^ left) 64 X h ∙ on_shl ((2 ^ right - 1) / 2 ^ left) left X
    ∙ ap (λ t. leb left X && t) (on_shr (2 ^ right - 1) left (X - left) ∙ on_ones right (left + (X - left)))
    ∙ by (dec_le left X)
  where
    there : left ≤ X → left + (X - left) ≡ X
    there h = omega arith

    by : Dec (left ≤ X) → (leb left X && ltb (left + (X - left)) right) ≡ (leb left X && ltb X right)
    by (yes h) = ap (λ n. leb left X && ltb n right) (there h)
    by (no n) = simp (lt-leb left X (omega arith))

-- the place is inside the cut
abbrev in_cut : Cut → ℕ → ℕ → Bool
in_cut cut X Y = (leb cut.left X && ltb X cut.right) && (leb cut.top Y && ltb Y cut.bottom)

cut_bit : (board cells : List ℕ) (w h : ℕ) (cut : Cut) (X Y : ℕ) → X < 64
    → on (cut_row board cells w h (mask_of cut.left cut.right) cut Y) X
    ≡ (in_cut cut X Y && any (λ r. any (leads_in board cells X Y r) w) h)
unfolding cut_row
cut_bit board cells w h cut X Y small =
    by (leb cut.top Y) (ltb Y cut.bottom)
    ∙ ap₂ (λ s t. ((s && (leb cut.top Y && ltb Y cut.bottom)) && t))
    (mask_bit cut.left cut.right X small) (row_bit board cells w Y h X small)
  where
    line : ℕ
    line = row_of board cells w Y h

    mask : ℕ
    mask = mask_of cut.left cut.right

    swap : (a b : Bool) → (a && b) ≡ ((b && true) && a)
    swap true true = refl
    swap true false = refl
    swap false true = refl
    swap false false = refl

    none : (a b : Bool) → false ≡ ((b && false) && a)
    none a true = refl
    none a false = refl

    by : (s t : Bool) → on (cond s (cond t (bit_and line mask) 0) 0) X
        ≡ ((on mask X && (s && t)) && on line X)
    by true true = on_and line mask X ∙ swap (on line X) (on mask X)
    by true false = on_none X ∙ none (on line X) (on mask X)
    by false true = on_none X ∙ none (on line X) (on mask X)
    by false false = on_none X ∙ none (on line X) (on mask X)

-- a place is set when it is inside the cut and a set cell of the link leads to it from a set place
step_bit : (board cells : List ℕ) (w h : ℕ) (cut : Cut) (X Y : ℕ) → X < sums → Y < sums
    → places_in (step_of board cells w h cut) X Y
    ≡ (in_cut cut X Y && any (λ r. any (leads_in board cells X Y r) w) h)
unfolding step_of
step_bit board cells w h cut X Y hx hy =
    ap (λ v. on v X) (get_d_firsts (cut_row board cells w h (mask_of cut.left cut.right) cut) sums Y hy)
    ∙ cut_bit board cells w h cut X Y (omega arith)

-- ---- the box of offsets

-- the offset lies in the box
unfoldable pub in_bounds : Bounds → Place → Bool
in_bounds m p =
    (leb m.left p.x && leb p.x m.right) && (leb m.top p.y && leb p.y m.bottom)

low_same : (o s X : ℕ) → X < sums → o ≤ centre → leb (clipped (o + s)) X ≡ leb s (X + centre - o)
low_same o s X h l = leb_same (clipped (o + s)) X s (X + centre - o) (λ k. omega arith) (λ k. omega arith)

high_same : (o s X : ℕ) → X < sums → o ≤ centre → ltb X (clipped (o + s + 1)) ≡ leb (X + centre - o) s
high_same o s X h l =
    leb_same (suc X) (clipped (o + s + 1)) (X + centre - o) s (λ k. omega arith) (λ k. omega arith)

cut_bounds : (o : Sum) (m : Bounds) (X Y : ℕ) → X < sums → Y < sums → o.column ≤ centre → o.row ≤ centre
    → in_cut (cut_of o m) X Y ≡ in_bounds m (place_at o.column o.row X Y)
unfolding cut_of in_bounds place_at
cut_bounds o m X Y hx hy lx ly =
    ap₂ (λ s t. s && t)
    (ap₂ (λ s t. s && t) (low_same o.column m.left X hx lx) (high_same o.column m.right X hx lx))
    (ap₂ (λ s t. s && t) (low_same o.row m.top Y hy ly) (high_same o.row m.bottom Y hy ly))

-- ---- all links

start_bit : (X Y : ℕ) → places_in start_of X Y ≡ start_places X Y
unfolding start_of start_places
start_bit X zero = on_ones 1 X ∙ first X
  where
    first : (X : ℕ) → ltb X 1 ≡ (eqb X 0 && true)
    first zero = refl
    first (suc X) =
        le-ltb (suc X) 1 (omega arith) ∙ ap (λ t. t && true) (sym (ne_eqb (suc X) 0 (omega arith)))
start_bit X (suc Y) =
    ap (λ w. on w X) (nothing (sums - 1) Y) ∙ on_none X
    ∙ sym (ap (λ t. eqb X 0 && t) (ne_eqb (suc Y) 0 (omega arith)) ∙ none (eqb X 0))
  where
    nothing : (n i : ℕ) → ◌≡◌ {A = ℕ} (get_or (replicate n 0) i 0) 0
    nothing zero i = refl
    nothing (suc n) zero = refl
    nothing (suc n) (suc i) = nothing n i

    none : (t : Bool) → (t && false) ≡ false
    none true = refl
    none false = refl

-- words and places agree on the board
abbrev Agree : List ℕ → Places → Type 0
Agree words S = (X Y : ℕ) → X < sums → Y < sums → places_in words X Y ≡ S X Y

next_agree : (m : Bounds) (e : Link) (ox oy : ℕ) (words : List ℕ) (S : Places)
    → ox + e.outline.origin.ping.0 ≤ centre → oy + e.outline.origin.bin.0 ≤ centre → Agree words S
    → Agree (onward_of words e
    (record { column = ox + e.outline.origin.ping.0; row = oy + e.outline.origin.bin.0 }) m)
    (next_places (in_bounds m) ox oy (link_shape e) S)
unfolding onward_of next_places shape_of
next_agree m e ox oy words S lx ly so X Y hx hy =
    step_bit words e.rows e.outline.w e.outline.h _ X Y hx hy
    ∙ ap₂ (λ s t. s && t)
    (cut_bounds (record { column = ox + e.outline.origin.ping.0; row = oy + e.outline.origin.bin.0 })
    m X Y hx hy lx ly)
    (any_same _ _ e.outline.h (λ r _. any_same _ _ e.outline.w
    (λ c _. ap (λ t. cell_on (get_or e.rows r 0) c && (leb c X && (leb r Y && t)))
    (so (X - c) (Y - r) (omega arith) (omega arith)))))

from_agree : (m : Bounds) (es : List Link) (ox oy : ℕ) (words : List ℕ) (S : Places)
    → ox + back_x (shapes_of es) ≤ centre → oy + back_y (shapes_of es) ≤ centre → Agree words S
    → Agree (words_from m ox oy es words) (places_from (in_bounds m) ox oy (shapes_of es) S)
unfolding words_from places_from total shape_of
from_agree m [] ox oy words S lx ly so = so
from_agree m (e ∷ es) ox oy words S lx ly so =
    from_agree m es (ox + e.outline.origin.ping.0) (oy + e.outline.origin.bin.0) _ _ (omega arith)
    (omega arith) (next_agree m e ox oy words S (omega arith) (omega arith) so)

-- the words of a chain's board are its places
pub words_agree : (m : Bounds) (es : List Link) → back_x (shapes_of es) ≤ centre
    → back_y (shapes_of es) ≤ centre
    → Agree (words_from m 0 0 es start_of) (places_from (in_bounds m) 0 0 (shapes_of es) start_places)
words_agree m es lx ly =
    from_agree m es 0 0 start_of start_places (omega arith) (omega arith) (λ X Y hx hy. start_bit X Y)
