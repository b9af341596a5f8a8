-- Single cells cover themselves; a run is covered by the windows of `run_places`.
-- That a word which wants larger windows is a run is what `level_of` promised.
use Rattle.packedline.specs.Steps.Cells.{place_of, Covers}
use Rattle.packedline.proofs.Covers.{run_facts, some_cell, cells_cover, run_covers}
use mathlib.Core.Path.{sym, ap, ◌∙◌, subst}
use native.Mathlib.Omega.{arith}
use Rattle.packedline.proofs.places_of.Goals as goal

pub returns-then-n-eq1 : goal.returns-then-n-eq1
returns-then-n-eq1 c =
    let a = c.args in
    let r = c.cell_places in
    subst (λ n. Covers a.grows a.word a.o n r.result r.new.at)
    (sym c.if-n-eq1.true)
    (cells_cover a.grows a.word a.o _ _ r.ensures)

pub first_cell-c-requires : goal.first_cell-c-requires
first_cell-c-requires c =
    some_cell c.args.word c.args.n c.requires.o_bound.1.0 c.requires.o_bound.1.1

pub end_cell-requires : goal.end_cell-requires
end_cell-requires c =
    let q = c.first_cell-c in
    let f = q.ensures in
    let m = c.cell_count-wide in
    let r = run_facts c.args.word c.args.n q.result m.result c.requires.o_bound.1.0
    c.if-n-eq1.false c.requires.o_bound.1.1 c.first_cell-c.ensures.0 c.first_cell-c.ensures.1.1.0
    c.first_cell-c.ensures.1.1.1
    m.ensures.0 in
    (omega (arith, r.0, c.requires.o_bound.1.0), r.1.0)

pub run_places-requires : goal.run_places-requires
run_places-requires c =
    let q = c.first_cell-c in
    let f = q.ensures in
    let m = c.cell_count-wide in
    let r = run_facts c.args.word c.args.n q.result m.result c.requires.o_bound.1.0
    c.if-n-eq1.false c.requires.o_bound.1.1 c.first_cell-c.ensures.0 c.first_cell-c.ensures.1.1.0
    c.first_cell-c.ensures.1.1.1 m.ensures.0 in
    record {
      n_nonzero = (c.requires.o_bound.1.0, (r.0, (m.ensures.1, c.cell_place.ensures.1)));
      at_len = c.requires.at_len;
    }

pub returns : goal.returns
returns c =
    let q = c.first_cell-c in
    let f = q.ensures in
    let m = c.cell_count-wide in
    let p = c.cell_place in
    let r = run_facts c.args.word c.args.n q.result m.result c.requires.o_bound.1.0
    c.if-n-eq1.false c.requires.o_bound.1.1 c.first_cell-c.ensures.0
    c.first_cell-c.ensures.1.1.0
    c.first_cell-c.ensures.1.1.1 m.ensures.0 in
    run_covers c.args.grows c.args.word c.args.o c.args.n q.result m.result
    p.result _ _ c.requires.o_bound.0 (omega (arith, r.0, c.requires.o_bound.1.0)) r.1.1 r.1.0
    (p.ensures.0 ∙ ap (place_of c.args.grows c.args.o)
    c.end_cell.ensures.0)
    c.run_places.ensures
