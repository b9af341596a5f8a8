-- Nothing is written before all is judged: a refusal returns with both buffers as they were.
-- Where nothing is refused the picture is admitted and the element is the descriptor's (`judged`),
-- and apply does the rest.
use mathlib.Core.Path.{◌≡◌}
use Rattle.flat.proofs.Known.{Known, known, refused_left, room_holds, element_ready, once_left, twice_left}
use Rattle.apply.proofs.Read.{parts_read}
use Rattle.element.specs.declared.Element.{Element}
use Rattle.element.specs.Record.{element_of}
use Rattle.answer.specs.Answer.{told}
use Rattle.answer.proofs.Variants.{err_undone, ok_done}
use Rattle.rows.specs.Steps.Ways.{grows_of}
use lib.ListN.{length}
use Prim.Native.Nat.{min}
use native.Mathlib.Omega.{arith}
use Rattle.flat.proofs.twice.Goals as goal
use Rattle.flat.proofs.twice.Goals.{After-rows_at-words, In_ok-element_refusal}

judged : (g : _) (c : In_ok-element_refusal g) → let a = c.args in
    Known g.D.Deep.DEPTH a.w a.h a.source.now a.element.now (min (length a.target.now) (length a.scratch.now))
    (told c.element_refusal.result)
judged g c = let a = c.args in
    known g.D.Deep.DEPTH a.w a.h a.source.now a.element.now c.DEPTH.ensures c.min-room.ensures
    c.well_made-made.ensures c.element_refusal.ensures (ok_done _ _ c.in_ok-element_refusal.was)

-- the element, read in its two parts
found : (g : _) (c : After-rows_at-words g)
    → ◌≡◌ {A = Element} (record { outline = c.outline_at-o.result; rows = c.rows_at-words.result })
    (element_of c.args.element.now)
found g c = parts_read c.args.element.now _ _ c.outline_at-o.ensures c.rows_at-words.ensures

pub outline_at-o-requires : goal.outline_at-o-requires
outline_at-o-requires g c = (judged g c).cells

pub rows_at-words-requires : goal.rows_at-words-requires
rows_at-words-requires g c = (judged g (goal.at.rows_at-words-requires g c).In_ok-element_refusal).cells

pub twice-requires : goal.twice-requires
twice-requires g c =
    let k = judged g (goal.at.twice-requires g c).In_ok-element_refusal in
    record {
      ready = element_ready k _ (found g (goal.at.twice-requires g c).After-rows_at-words);
      holds = room_holds k _ (omega arith);
      holds_2 = room_holds k _ (omega arith);
    }

pub returns-in_err-element_refusal-clause-bytes : goal.returns-in_err-element_refusal-clause-bytes
returns-in_err-element_refusal-clause-bytes g c = let a = c.args in
    refused_left g.D.Deep.DEPTH a.w a.h a.source.now a.element.now c.DEPTH.ensures c.min-room.ensures
    c.well_made-made.ensures c.element_refusal.ensures (err_undone _ _ c.in_err-element_refusal.was)
    a.target.now _

pub returns-in_err-element_refusal-clause-middle : goal.returns-in_err-element_refusal-clause-middle
returns-in_err-element_refusal-clause-middle g c = let a = c.args in
    refused_left g.D.Deep.DEPTH a.w a.h a.source.now a.element.now c.DEPTH.ensures c.min-room.ensures
    c.well_made-made.ensures c.element_refusal.ensures (err_undone _ _ c.in_err-element_refusal.was)
    a.scratch.now _

pub returns-clause-bytes : goal.returns-clause-bytes
returns-clause-bytes g c = let a = c.args in
    twice_left (judged g (goal.at.returns-clause-bytes g c).In_ok-element_refusal) _
    (found g (goal.at.returns-clause-bytes g c).After-rows_at-words)
    (λ i. let l = c.type_inv.element i in omega arith)
    a.target.now _ _ (grows_of a.first) c.is_growing-grows.ensures c.twice.ensures.bytes

pub returns-clause-middle : goal.returns-clause-middle
returns-clause-middle g c = let a = c.args in
    once_left (judged g (goal.at.returns-clause-middle g c).In_ok-element_refusal) _
    (found g (goal.at.returns-clause-middle g c).After-rows_at-words)
    (λ i. let l = c.type_inv.element i in omega arith)
    a.scratch.now _ _ (grows_of a.first) c.is_growing-grows.ensures c.twice.ensures.middle
