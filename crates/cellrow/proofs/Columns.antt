-- Row after row of an element, folded into a row of bytes:
-- over any function on the source's value and the height of a cell.
use Prim.Native.Nat.{ℕ, ◌+◌, ◌≤◌, ◌<◌}
use mathlib.Core.Path.{◌≡◌, sym, ap, ◌∙◌}
use mathlib.Core.Bool.{Bool, true, false, cond}
use mathlib.Core.List.{List}
use native.Mathlib.Numerals.{add-one}
use lib.ListN.{get_or}
use Rattle.basics.specs.Lists.{firsts}
use Rattle.basics.proofs.Lists.{get_d_firsts, firsts_same}
use Rattle.picture.specs.Frame.{frame}
use Rattle.picture.specs.Bytes.{Picture}
use Rattle.element.specs.Shape.{Shape}
use Rattle.morphology.specs.Operations.{Change, moved, within}
use Rattle.rows.specs.Steps.Ways.{swept_by}
use Rattle.rows.specs.Steps.Fold.{plus_by, minus_by, start_by, folded_at}
use Rattle.rows.specs.Steps.Row.{folded_row, source_row, added_row}
use Rattle.rows.proofs.Places.{place_out, place_in_lem}
use Rattle.rows.proofs.Fold.{folded_row_same}
use Rattle.rows.proofs.Gathered.{rows_at, rows_at_none, rows_at_more, rows_at_all}

module _ (grows : Bool) (change : Change) (w h : ℕ) (B : Shape) (A : Picture) (y : ℕ) where
  -- ---- one row of the element, given the source row v that it leads to, or h
  module _ (t u : List ℕ) (r v : ℕ) (ev : v ≡ source_row grows h y B.origin_row r) where
    abbrev plus : ℕ
    plus = plus_by grows B.origin_row r

    abbrev minus : ℕ
    minus = minus_by grows B.origin_row r

    abbrev made : ℕ → List ℕ
    made v =
        folded_row grows change (λ c. B.height c r) t (λ x. A x v) w (λ c. B.has c r)
        B.wide B.origin_column

    pub added_none : h ≤ v → t ≡ added_row grows change w h B A y t r
    unfolding added_row source_row
    added_none l = ap (λ b. cond b (made (moved y plus minus)) t) (sym (place_out h y plus minus v ev l))

    -- what the row routine makes of heights and a source that are the element's and the picture's
    pub added_some : (height source : ℕ → ℕ) → v < h → ((c : ℕ) → c < B.wide → height c ≡ B.height c r)
        → ((x : ℕ) → x < w → source x ≡ A x v)
        → u ≡ folded_row grows change height t source w (λ c. B.has c r) B.wide B.origin_column
        → u ≡ added_row grows change w h B A y t r
    unfolding added_row source_row
    added_some height source l eh es eu =
        let q = place_in_lem h y plus minus v ev l in
        eu ∙ folded_row_same grows change w (λ c. B.has c r)
        B.wide B.origin_column height _ source _ eh es t
        ∙ ap made q.1 ∙ ap (λ b. cond b (made (moved y plus minus)) t) (sym q.0)

  -- ---- row after row
  module _ (top : ℕ) where
    -- column x of row y after the first n rows of the element, and all columns
    abbrev at : ℕ → ℕ → ℕ
    at n x = rows_at grows change top (frame w h) B A x y n

    unfoldable pub columns_after : ℕ → List ℕ
    columns_after n = firsts (at n) w

    pub columns_none : (t : List ℕ) (n : ℕ) → n ≡ w → t ≡ firsts (λ x. start_by grows top) n
        → t ≡ columns_after 0
    unfolding columns_after
    columns_none t n e q =
        q ∙ ap (firsts (λ x. start_by grows top)) e
        ∙ firsts_same _ _ w (λ x l. sym (rows_at_none grows change top (frame w h) B A x y))

    -- one row more, from the source row that it leads to, where the frame has that row
    pub columns_more : (n : ℕ) (t u : List ℕ) → t ≡ columns_after n → u ≡ added_row grows change w h B A y t n
        → u ≡ columns_after (n + 1)
    unfolding columns_after folded_row added_row
    columns_more n t u et eu =
        eu ∙ rw (add-one n)
        (go (within h y (plus_by grows B.origin_row n) (minus_by grows B.origin_row n))
        ∙ firsts_same _ _ w (λ x l. sym (rows_at_more grows change top (frame w h) B A x y n)))
      where
        folded : ℕ → ℕ → ℕ
        folded q x =
            folded_at grows change (λ c. B.height c n)
            (λ x. A x (moved y (plus_by grows B.origin_row n) (minus_by grows B.origin_row n)))
            w (λ c. B.has c n)
            B.wide B.origin_column q x

        now_at : (x : ℕ) → x < w → get_or t x 0 ≡ at n x
        now_at x l = ap (λ q. get_or q x 0) et ∙ get_d_firsts (at n) w x l

        go : (b : Bool)
            → cond b (firsts (λ x. folded (get_or t x 0) x) w) t
            ≡ firsts (λ x. cond b (folded (at n x) x) (at n x)) w
        go true = firsts_same _ _ w (λ x l. ap (λ q. folded q x) (now_at x l))
        go false = et

    -- after all of them it is the definition's
    pub columns_all : (n : ℕ) (t : List ℕ) → t ≡ columns_after n → n ≡ B.high
        → t ≡ firsts (λ x. swept_by grows change top (frame w h) B A x y) w
    unfolding columns_after
    columns_all n t q e =
        q ∙ ap columns_after e ∙ firsts_same _ _ w (λ x l. rows_at_all grows change top (frame w h) B A x y)
