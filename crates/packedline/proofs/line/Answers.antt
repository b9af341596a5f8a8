-- Stands on the padded row, its windows and the places that cover the cells: `line_some` puts them together.
-- A word with no cell leaves the row as it is: `line_none`.
use Rattle.windows.specs.Steps.Widened.{windows_of}
use lib.Seq.{get_or-take, length-take-le}
use Rattle.packedline.proofs.Covers.{level_zero, level_values, reach}
use Rattle.packedline.proofs.Folded.{line_none, line_some}
use lib.ListN.{length, replicate}
use Prim.Native.Nat.{◌+◌, ◌/◌, ◌<◌}
use mathlib.Core.Path.{◌≡◌, refl, sym, ap, ◌∙◌, subst}
use native.Mathlib.Omega.{arith}
use borrow.Author.Rules.{rules}
use Rattle.packedline.proofs.line.Goals as goal

pub returns-then-n-eq0 : goal.returns-then-n-eq0
returns-then-n-eq0 c =
    let a = c.args in
    line_none a.over a.grows a.t.now a.s.now a.w a.word a.o
    (λ i. let f = c.type_inv.t i in omega arith)
    (level_zero a.word (sym c.level_of-n.ensures ∙ c.if-n-eq0.true))

pub pad-requires : goal.pad-requires
pad-requires c =
    record {
      in_bounds = (search rules, (search rules, ap (λ v. replicate 194 v) c.beyond-b.ensures));
      b_len = refl;
    }

pub slice_bounds-join_row-end-2 : goal.slice_bounds-join_row-end-2
slice_bounds-join_row-end-2 c =
    let p = c.places_of-m in
    sym (length-take-le p.result p.new.at (omega (arith, p.ensures.few, p.ensures.long)))

pub join_row-requires : goal.join_row-requires
join_row-requires c =
    let p = c.places_of-m in
    let l = c.level_of-n in
    let left = c.if-n-eq0.false in
    let z : length c.windows.new.b
    ≡ 194 = search rules in record {
      reached = λ j h.
          let q : j < p.result = subst (λ n. j < n)
          (length-take-le p.result p.new.at (omega (arith, p.ensures.few, p.ensures.long))) h in
          let g = get_or-take p.result p.new.at j 0 q in
          let r = reach c.args.grows c.args.word c.args.o l.result p.result p.new.at
          c.requires.origin_in (omega (arith, left)) p.ensures j q in
          omega (arith, g, r, z, c.requires.target, c.requires.few_points);
      t_in_bounds = omega (arith, z, c.requires.target, c.requires.few_points);
    }

pub returns : goal.returns
returns c =
    let a = c.args in
    let p = c.places_of-m in
    let w = c.windows in
    let d = c.pad in
    let l = c.level_of-n in
    let left = c.if-n-eq0.false in
    line_some a.over a.grows a.t.now a.s.now a.w a.word a.o l.result p.result
    p.new.at w.new.b c.join_row.new.t
    (λ i. let f = c.type_inv.s i in omega arith)
    (λ i. let f = c.type_inv.t i in omega arith)
    c.requires.some_points c.requires.few_points c.requires.source c.requires.target c.requires.origin_in
    (level_values a.word l.result (omega (arith, left)) l.ensures) p.ensures
    (w.ensures ∙ ap (windows_of a.grows ((length a.t.now + 81) / 64) l.result) d.ensures)
    c.join_row.ensures.t_after
