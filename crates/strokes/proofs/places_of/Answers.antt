-- Single cells and pairs cover themselves; a run is covered by its windows, in the room where they stand.
-- That a word which wants windows of more than one place is a run is what its level says.
use Rattle.packedline.specs.Steps.Cells.{place_of}
use Rattle.packedline.proofs.Covers.{run_facts, some_cell}
use Rattle.strokes.specs.Steps.Strokes.{Strokes}
use Rattle.strokes.proofs.Strokes.{run_strokes, base_which, kind_cells, kind_runs}
use Rattle.strokes.proofs.Places.{from_cells, from_run}
use Prim.Native.Nat.{◌+◌, ◌<◌}
use mathlib.Core.Path.{sym, ap, ap₂, ◌∙◌, subst}
use native.Mathlib.Omega.{arith}
use Rattle.strokes.proofs.places_of.Goals as goal

pub returns-then-n-le1 : goal.returns-then-n-le1
returns-then-n-le1 c =
    let a = c.args in
    let r = c.cell_places in
    let h = c.if-n-le1.true in record {
      cover = subst (λ k. Strokes a.grows a.word a.o k r.result r.new.at) (kind_cells a.n h)
          r.ensures.cover;
      found = r.ensures.found ∙ sym (from_cells a.grows a.word a.o a.n a.at.now h);
    }

pub first_cell-c-requires : goal.first_cell-c-requires
first_cell-c-requires c = some_cell c.args.word c.args.n (omega arith) c.requires.o_bound.1

pub end_cell-requires : goal.end_cell-requires
end_cell-requires c =
    let q = c.first_cell-c in
    let f = q.ensures in
    let m = c.cell_count-wide in
    let r = run_facts c.args.word c.args.n q.result m.result (omega arith)
    (λ e. omega (arith, e)) c.requires.o_bound.1 c.first_cell-c.ensures.0 c.first_cell-c.ensures.1.1.0
    c.first_cell-c.ensures.1.1.1 m.ensures.0 in
    (omega (arith, r.0), r.1.0)

pub run_places-requires : goal.run_places-requires
run_places-requires c =
    let q = c.first_cell-c in
    let f = q.ensures in
    let m = c.cell_count-wide in
    let r = run_facts c.args.word c.args.n q.result m.result (omega arith)
    (λ e. omega (arith, e)) c.requires.o_bound.1 c.first_cell-c.ensures.0 c.first_cell-c.ensures.1.1.0
    c.first_cell-c.ensures.1.1.1 m.ensures.0 in
    let p = c.cell_place-p.ensures.1 in
    let k = c.base_of.ensures.1 in
    record {
      n_nonzero = (omega arith, (r.0, (m.ensures.1, omega (arith, p, k))));
      at_len = c.requires.at_len;
    }

pub returns : goal.returns
returns c =
    let a = c.args in
    let q = c.first_cell-c in
    let f = q.ensures in
    let m = c.cell_count-wide in
    let some : 1 < a.n = omega arith in
    let r = run_facts a.word a.n q.result m.result (omega arith)
    (λ e. omega (arith, e)) c.requires.o_bound.1 c.first_cell-c.ensures.0 c.first_cell-c.ensures.1.1.0
    c.first_cell-c.ensures.1.1.1 m.ensures.0 in
    let p = c.run_places in
    let base = c.base_of in
    let place = c.cell_place-p.ensures.0
    ∙ ap (place_of a.grows a.o) c.end_cell.ensures.0 in record {
      cover = subst (λ k. Strokes a.grows a.word a.o k p.result p.new.at) (kind_runs a.n some)
          (run_strokes a.word q.result m.result r.1.1 r.1.0 (omega (arith, r.0)) a.grows
          a.o a.n base.result _ p.result p.new.at c.requires.o_bound.0
          (base_which a.word a.n base.result some c.requires.o_bound.1 base.ensures.0)
          (ap (λ n. base.result + n) place) p.ensures.cover);
      found = p.ensures.found ∙ sym (from_run a.grows a.word a.o a.n a.at.now q.result m.result _
          some c.first_cell-c.ensures.1.1.1 m.ensures.0 (ap₂ (λ b n. b + n) base.ensures.0 place));
    }
