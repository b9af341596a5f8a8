-- A remark to request (x): no element whose set cells span more than 36 columns, or more than 36 rows,
-- has an accepted chain. Each of five links spans at most 8, and so the sums 5 * 7 + 1.
-- Unset cells beside the set ones do not count.
-- Of every answer that the contract of `chain::check_chain` allows.
use Prim.Native.Nat.{◌+◌, ◌-◌, ◌*◌, ◌≤◌}
use mathlib.Core.Path.{◌≡◌, subst}
use mathlib.Core.List.{List, [], ◌∷◌}
use native.Mathlib.Omega.{arith}
use lib.ListN.{length}
use Rattle.picture.specs.Frame.{Frame}
use Rattle.answer.specs.Answer.{centre, told, plain}
use Rattle.element.specs.Shape.{Shape}
use Rattle.element.specs.Descriptor.{shape_in}
use Rattle.chain.specs.Reading.{links_in}
use Rattle.chain.proofs.check_chain.Kinds as kinds
use Rattle.chain.proofs.check_chain.Reads as reads
use Rattle.morphology.specs.Step.{Place, Cell, In}
use Rattle.morphology.specs.Chain.{AllFit, Chained, most_link_cells}
use Rattle.morphology.specs.Check.{still, total, back_x, forth_x, back_y, forth_y}
use Rattle.morphology.proofs.Places.{Walk, FaultAt, SaysAt}
use Rattle.morphology.proofs.Scan.{walk_range, check_says_at}
use Rattle.morphology.proofs.Agree.{to_chain}
use Rattle.morphology.proofs.Verdicts.{accepts}
use Rattle.demands.specs.Demands.{Every}
use Rattle.demands.specs.ChainCalls.{check_call}
use Rattle.demands.specs.Spans.{SpansAtMost, most_span}
use Rattle.demands.proofs.Checks.{chained, done_is_same}

-- the sums of links span 7 columns and rows for each, and one more
spans : (Bs : List Shape) → AllFit most_link_cells Bs
    → (back_x Bs + forth_x Bs ≤ 7 * length Bs) × (back_y Bs + forth_y Bs ≤ 7 * length Bs)
unfolding total
spans [] f = (omega arith, omega arith)
spans (B ∷ Bs) f = let g = f.0 in let s = spans Bs f.1 in (omega arith, omega arith)

module _ (E : Shape) (Bs : List Shape) (C : Chained E Bs) (none : (e : Place) → ¬ FaultAt E Bs e) where
  -- the offset of a set cell, as a place; in this frame it and (0, 0) are points
  place_of : Cell E → Place
  place_of k =
      record { x = centre + k.column - E.origin_column; y = centre + k.row - E.origin_row }

  bytes : Frame
  bytes = record { pings = 2 * centre; bins = 2 * centre }

  -- the chain leads to it
  reached : (k : Cell E) → Walk (In bytes) Bs still (place_of k)
  unfolding place_of bytes
  reached k =
      let f = C.element in
      to_chain E Bs C bytes (place_of k) still (place_of k)
      (record { ping = omega arith; bin = omega arith }) (record { ping = omega arith; bin = omega arith })
      (record { across = omega arith; down = omega arith }) (none (place_of k))
      (record { cell = k; across = omega arith; down = omega arith })

  narrow : SpansAtMost most_span E
  unfolding place_of bytes
  narrow =
      let f = C.element in
      let s = spans Bs C.links in
      let n = C.few_links in
      record {
        columns = λ k l.
            let p = walk_range (In bytes) most_link_cells Bs still (place_of k) C.links (reached k) in
            let q = walk_range (In bytes) most_link_cells Bs still (place_of l) C.links (reached l) in
            omega arith;
        rows = λ k l.
            let p = walk_range (In bytes) most_link_cells Bs still (place_of k) C.links (reached k) in
            let q = walk_range (In bytes) most_link_cells Bs still (place_of l) C.links (reached l) in
            omega arith;
      }

-- an element with an accepted chain has its set cells in 36 columns and 36 rows
pub accepted_spans : Every 2 kinds.ps kinds.r reads.Learnt
    (λ κs a r e. let c = check_call κs a in
    told r ≡ plain 0 → SpansAtMost most_span (shape_in c.element))
accepted_spans κs a r e p t =
    let c = check_call κs a in
    let E = shape_in c.element in
    let Bs = links_in c.links c.chain in
    let d = (done_is_same c.element c.chain c.links r p).0 t in
    let C = chained c.element c.chain c.links r p d.0 in
    narrow E Bs C (subst (SaysAt E Bs) ((accepts E Bs C).1 d.1) (check_says_at E Bs C))
