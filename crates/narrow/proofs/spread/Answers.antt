use Prim.Native.Nat.{ℕ, ◌≤◌, ◌<◌}
use native.Mathlib.Omega.{arith}
use mathlib.Core.Path.{◌≡◌, ap, ◌∙◌, subst}
use Rattle.packedline.specs.Steps.Cells.{place_of}
use Rattle.narrow.proofs.Cells.{run_some, Through, through_none, through_more}
use Rattle.narrow.proofs.spread.Goals as goal
use Rattle.narrow.proofs.spread.Goals.{After-next_cell-e}

-- in a turn: the run from the cell c on is not empty
some : (c : After-next_cell-e) → c.loop-c.c < c.next_cell-e.result
some c = let l = c.loop-c in
    run_some c.args.word l.c c.next_cell-e.result c.ranges.word.fits c.loop-c-test.true
    (l.invariant.1.0 c.loop-c-test.true) c.next_cell-e.ensures

pub loop-c-init : goal.loop-c-init
loop-c-init c =
    let n = c.next_cell-c.ensures in
    let a = c.args in (
      n.few,
      (
        n.found,
        through_none a.v a.x a.grows a.word a.o _
            n,
      ),
    )

pub end_cell-requires : goal.end_cell-requires
end_cell-requires c =
    (omega (arith, some c), omega (arith, some c, c.next_cell-e.ensures.few))

pub windows-requires : goal.windows-requires
windows-requires c = (
  omega (arith, some (goal.at.windows-requires c).After-next_cell-e),
  omega (arith, c.next_cell-e.ensures.few),
)

pub loop-c-smaller : goal.loop-c-smaller
loop-c-smaller c =
    omega (
      arith,
      some (goal.at.loop-c-smaller c).After-next_cell-e,
      c.next_cell-c-in-loop-c.ensures.onward,
      c.next_cell-c-in-loop-c.ensures.few,
    )

pub loop-c-preserved : goal.loop-c-preserved
loop-c-preserved c =
    let l = c.loop-c in
    let a = c.args in
    let n = c.next_cell-c-in-loop-c.ensures in
    let t = c.loop-c-test.true in (
      n.few,
      (
        n.found,
        through_more _ a.x a.grows a.word a.o l.c c.next_cell-e.result c.next_cell-c-in-loop-c.result
            c.cell_place-p.result l.r _ _ _ c.ranges.word.fits c.requires t (l.invariant.1.0 t)
            c.next_cell-e.ensures n
            (c.cell_place-p.ensures.0 ∙ ap (place_of a.grows a.o) c.end_cell.ensures.0)
            l.invariant.1.1 c.windows.ensures c.moved_far.ensures c.joined-r.ensures,
      ),
    )

pub returns : goal.returns
returns c =
    let l = c.loop-c in let a = c.args in
    subst (λ n. Through a.v a.x a.grows a.word a.o n l.r)
    (last l.c l.invariant.0 c.loop-c-test.false) l.invariant.1.1
  where
    last : (i : ℕ) → i ≤ 64 → 64 ≤ i → i ≡ 64
    last i h k = omega arith
