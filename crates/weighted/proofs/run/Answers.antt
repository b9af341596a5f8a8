-- Nothing is written before all is judged: a refusal returns with the target as it was.
-- Where nothing is refused the picture is admitted and the element is the descriptor's (`judged`),
-- and apply does the rest.
use mathlib.Core.Path.{◌≡◌}
use Rattle.weighted.proofs.Known.{Known, known, refused_left, room_holds, element_ready}
use Rattle.weighted.proofs.Known.{small, heights_start, once_left}
use Rattle.apply.proofs.Read.{parts_read}
use Rattle.element.specs.declared.Element.{Element}
use Rattle.element.specs.Record.{element_of}
use Rattle.answer.specs.Answer.{told}
use Rattle.answer.proofs.Variants.{err_undone, ok_done}
use Rattle.rows.specs.Steps.Ways.{grows_of}
use lib.ListN.{length}
use Prim.Native.Nat.{◌≤◌}
use mathlib.Core.Path.{refl}
use native.Mathlib.Omega.{arith}
use Rattle.weighted.proofs.run.Goals as goal
use Rattle.weighted.proofs.run.Goals.{After-cells_end-at, After-rows_at-words, In_ok-element_refusal}

judged : (c : In_ok-element_refusal) → let a = c.args in
    Known a.w a.h a.source.now a.element.now (length a.target.now)
    (told c.element_refusal.result)
judged c = let a = c.args in
    known a.w a.h a.source.now a.element.now _ _ _ _ refl
    c.well_weighted-made.ensures c.element_refusal.ensures
    (ok_done _ _ c.in_ok-element_refusal.was)

-- the element, read in its two parts
found : (c : After-rows_at-words)
    → ◌≡◌ {A = Element} (record { outline = c.outline_at-o.result; rows = c.rows_at-words.result })
    (element_of c.args.element.now)
found c = parts_read c.args.element.now _ _
    c.outline_at-o.ensures c.rows_at-words.ensures

-- the heights begin within the descriptor
start_of : (c : After-cells_end-at)
    → c.cells_end-at.result ≤ length c.args.element.now
start_of c = let q = found (goal.at.After-cells_end-at c).After-rows_at-words in
    heights_start (judged (goal.at.After-cells_end-at c).In_ok-element_refusal) _ q _ c.cells_end-at.ensures

pub outline_at-o-requires : goal.outline_at-o-requires
outline_at-o-requires c = (judged c).cells

pub rows_at-words-requires : goal.rows_at-words-requires
rows_at-words-requires c = (judged (goal.at.rows_at-words-requires c).In_ok-element_refusal).cells

pub cells_end-at-requires : goal.cells_end-at-requires
cells_end-at-requires c =
    small (judged (goal.at.cells_end-at-requires c).In_ok-element_refusal) _
    (found (goal.at.cells_end-at-requires c).After-rows_at-words)

pub slice_bounds-heights-count : goal.slice_bounds-heights-count
slice_bounds-heights-count c = start_of c

pub slice_bounds-heights-start : goal.slice_bounds-heights-start
slice_bounds-heights-start c = start_of c

pub weighted-requires : goal.weighted-requires
weighted-requires c =
    let q = found (goal.at.weighted-requires c).After-rows_at-words in
    record {
      ready = element_ready (judged (goal.at.weighted-requires c).In_ok-element_refusal) _ q;
      holds = room_holds (judged (goal.at.weighted-requires c).In_ok-element_refusal) _ (omega arith);
    }

pub returns-in_err-element_refusal-clause-bytes : goal.returns-in_err-element_refusal-clause-bytes
returns-in_err-element_refusal-clause-bytes c = let a = c.args in
    refused_left a.w a.h a.source.now a.element.now _ _ _ _ refl
    c.well_weighted-made.ensures c.element_refusal.ensures (err_undone _ _ c.in_err-element_refusal.was)
    a.target.now _

pub returns-clause-bytes : goal.returns-clause-bytes
returns-clause-bytes c = let a = c.args in
    once_left (judged (goal.at.returns-clause-bytes c).In_ok-element_refusal) _
    (found (goal.at.returns-clause-bytes c).After-rows_at-words) _ c.cells_end-at.ensures
    (λ i. let l = c.type_inv.element i in omega arith)
    a.target.now _ _ (grows_of a.way) c.is_growing-grows.ensures c.weighted.ensures
