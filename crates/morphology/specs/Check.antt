-- The chain check, as a definition that computes: a scan of the offsets in row order for the first at fault.
-- proofs/Check.antt: it says what Chain.antt says.
use Rattle.std.specs.Prelude.{ℕ, zero, suc, ◌+◌, ◌-◌, min, max, Bool, true, false, not, ◌&&◌, List, []}
use Rattle.std.specs.Prelude.{◌∷◌, leb, eqb}
use Rattle.std.proofs.Math.IntN.{sub_ℕ}
use Rattle.answer.specs.Answer.{centre}
use Rattle.basics.specs.Tests.{any}
use Rattle.element.specs.Shape.{Shape, Offset}
use Rattle.morphology.specs.Step.{Place}
use Rattle.morphology.specs.Operations.{moved, within}
use Rattle.morphology.specs.Chain.{Accepted, Fault, First}

-- Here a place stands for the offset (x - centre, y - centre), so that no number is negative, and `still` for
-- (0, 0). There is room: the offsets of an element lie within -63..63, the sums of a chain within -35..35.
abbrev pub value : Place → Offset
value p = record { dx = sub_ℕ p.x centre; dy = sub_ℕ p.y centre }

abbrev pub still : Place
still = record { x = centre; y = centre }

-- ---- the tests

-- q = p + b for the offset b of a set cell of B: the cell q - p + origin
unfoldable pub step_test : Shape → Place → Place → Bool
step_test B p q =
    B.has (moved q.x B.origin_column p.x) (moved q.y B.origin_row p.y)
    && (within B.wide q.x B.origin_column p.x && within B.high q.y B.origin_row p.y)

-- p moved by the offset of the cell (c, r), and whether ℕ has the place
unfoldable pub moved_by : Shape → Place → ℕ → ℕ → Place
moved_by B p c r = record { x = moved p.x c B.origin_column; y = moved p.y r B.origin_row }

unfoldable pub can_move : Shape → Place → ℕ → ℕ → Bool
can_move B p c r = B.has c r && (leb B.origin_column (p.x + c) && leb B.origin_row (p.y + r))

-- from p to q by one offset from each link, in order, each place that is come to inside
unfoldable pub walk_test : (Place → Bool) → List Shape → Place → Place → Bool
walk_test inside [] p q = eqb p.x q.x && eqb p.y q.y
walk_test inside (B ∷ Bs) p q =
    any (λ r. any (λ c.
    let m = moved_by B p c r in
    let rest = walk_test inside Bs m q in
    can_move B p c r && (inside m && rest)) B.wide) B.high

-- s lies between 0 and e, ends included; and in each coordinate
abbrev pub amid_test : ℕ → ℕ → Bool
amid_test e s = leb (min centre e) s && leb s (max centre e)

unfoldable pub between_test : Place → Place → Bool
between_test e s = amid_test e.x s.x && amid_test e.y s.y

unfoldable pub has_test : Shape → Place → Bool
has_test E e = step_test E still e

unfoldable pub sum_test : List Shape → Place → Bool
sum_test Bs e = walk_test (λ s. true) Bs still e

unfoldable pub path_test : List Shape → Place → Bool
path_test Bs e = walk_test (between_test e) Bs still e

-- the element has e and no path leads to it, or the element lacks e and it is a sum
unfoldable pub fault_test : Shape → List Shape → Place → Bool
fault_test E Bs e = elim (has_test E e) [ true ↦ not (path_test Bs e) | false ↦ sum_test Bs e ]

-- ---- the scan

-- the chain is taken, or it is split at the offset of the place (x, y)
pub data Verdict : Type 0 where
  Taken : Verdict
  Split : ℕ → ℕ → Verdict

-- the first of the n columns from x on that passes in row y, or else what comes after
unfoldable pub scan_row : (Place → Bool) → ℕ → ℕ → ℕ → Verdict → Verdict
scan_row test y x zero after = after
scan_row test y x (suc n) after =
    elim (test (record { x = x; y = y })) [ true ↦ Split x y | false ↦ scan_row test y (suc x) n after ]

-- the first place that passes, row after row: n rows from y on, each of k columns from x on
unfoldable pub scan : (Place → Bool) → ℕ → ℕ → ℕ → ℕ → Verdict
scan test x k y zero = Taken
scan test x k y (suc n) = let rest = scan test x k (suc y) n in scan_row test y x k rest

-- how far the offsets of the chain lead back and forth at the most, in each coordinate
unfoldable pub total : (Shape → ℕ) → List Shape → ℕ
total f [] = 0
total f (B ∷ Bs) = f B + total f Bs

abbrev pub back_x : List Shape → ℕ
back_x Bs = total (λ B. B.origin_column) Bs

abbrev pub forth_x : List Shape → ℕ
forth_x Bs = total (λ B. B.wide - 1 - B.origin_column) Bs

abbrev pub back_y : List Shape → ℕ
back_y Bs = total (λ B. B.origin_row) Bs

abbrev pub forth_y : List Shape → ℕ
forth_y Bs = total (λ B. B.high - 1 - B.origin_row) Bs

-- a scan over all offsets within reach of the element or of the chain
unfoldable pub scan_reach : Shape → List Shape → (Place → Bool) → Verdict
scan_reach E Bs test =
    let l = max E.origin_column (back_x Bs) in
    let u = max E.origin_row (back_y Bs) in
    scan test (centre - l) (l + max (E.wide - 1 - E.origin_column) (forth_x Bs) + 1)
    (centre - u) (u + max (E.high - 1 - E.origin_row) (forth_y Bs) + 1)

-- the check
unfoldable pub check_of : Shape → List Shape → Verdict
check_of E Bs = scan_reach E Bs (fault_test E Bs)

-- what a verdict says
abbrev pub Says : Shape → List Shape → Verdict → Type 0
Says E Bs Taken = Accepted E Bs
Says E Bs (Split x y) = First (Fault E Bs) (value (record { x = x; y = y }))
