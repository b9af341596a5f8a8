-- A row that leads to no row of the result joins nothing, nor does one of another kind. Else the places found
-- make up its cells, and what stands there is joined into the row that sees row v by it: `rows_join`.
use Rattle.sourceparts.proofs.Part.{part_other, part_out}
use Rattle.strokes.proofs.RowKinds.{kind_is, word_masked, reach}
use Rattle.strokes.specs.Steps.Strokes.{Strokes}
use Rattle.bysource.proofs.Joined.{rows_join_at}
use Rattle.picture.proofs.Sizes.{row_room}
use Rattle.basics.proofs.Lists.{part_length}
use lib.Bits.{bit_and}
use lib.ListN.{get_or}
use lib.Seq.{length-take-le}
use Prim.Native.Nat.{ℕ, ◌<◌, ◌+◌, ◌*◌, ◌≤◌}
use mathlib.Core.Path.{◌≡◌, sym, ◌∙◌, subst}
use native.Mathlib.Omega.{arith}
use Rattle.bysource.proofs.add_row.Goals as goal

-- a row of the result
room : (m n y h l : ℕ) → n ≡ m → y < h → l ≡ h * m → y * n + n ≤ l
room m n y h l en hy el =
    subst (λ n. y * n + n ≤ l) (sym en) (omega (arith, row_room m {y = y} {n = h} hy, el))

pub returns-then-h-y : goal.returns-then-h-y
returns-then-h-y g c =
    let a = c.args in
    part_out a.grows _ _ a.w a.h a.o a.words.now a.k a.v.0 a.row.0 _ _
    c.source_row-y.ensures c.if-h-y.true c.requires.part_of

pub returns-then-kind_of-k : goal.returns-then-kind_of-k
returns-then-kind_of-k g c =
    let a = c.args in
    part_other a.grows _ _ a.w a.h a.o a.words.now a.k a.v.0 a.row.0 _
    (λ z. c.if-kind_of-k.true (kind_is a.o a.words.now a.row.0 _ _ _
    (word_masked (get_or a.words.now a.row.0 0) a.o.w _ c.run_word.ensures) c.level_of-m.ensures
    c.kind_of.ensures ∙ z))
    c.requires.part_of

pub overflow_mul-a : goal.overflow_mul-a
overflow_mul-a g c =
    omega (arith, room _ _ _ c.args.h _ c.row_size-n.ensures c.if-h-y.false c.requires.t_len.0)

pub overflow_add-z : goal.overflow_add-z
overflow_add-z g c =
    omega (arith, room _ _ _ c.args.h _ c.row_size-n.ensures c.if-h-y.false c.requires.t_len.0)

pub slice_bounds-join_row-end : goal.slice_bounds-join_row-end
slice_bounds-join_row-end g c = room _ _ _ c.args.h _ c.row_size-n.ensures c.if-h-y.false c.requires.t_len.0

pub slice_bounds-join_row-end-2 : goal.slice_bounds-join_row-end-2
slice_bounds-join_row-end-2 g c =
    let p = c.places_of-count in
    sym (length-take-le p.result p.new.at (omega (arith, p.ensures.cover.few, p.ensures.cover.long)))

pub join_row-requires : goal.join_row-requires
join_row-requires g c =
    let a = c.args in
    let p = c.places_of-count in
    let n = c.row_size-n in
    let l = part_length a.t.now (c.source_row-y.result * n.result) n.result
    (room _ _ _ a.h _ n.ensures c.if-h-y.false c.requires.t_len.0) in
    λ j h. omega (
      arith,
      g.met.D.Scan.scans.holds a.w _ c.requires.ready.few_pings
          (reach _ _ _ _ p.result p.new.at p.ensures.cover j h),
      l,
      n.ensures,
      c.requires.t_len.1.1.1,
    )

pub returns : goal.returns
returns g c =
    let a = c.args in
    let p = c.places_of-count in
    let j = c.join_row in
    let k = c.kind_of.ensures in
    let y = c.source_row-y in
    let masked = word_masked (get_or a.words.now a.row.0 0) a.o.w _ c.run_word.ensures in
    rows_join_at g.D.Scan.depth a.grows a.s.now a.w a.h a.o a.words.now g.D.Lane.way g.D.Scan.rooms
    g.D.Scan.far g.met.D.Scan.scans c.row_size-n.result a.k a.v.0 a.row.0
    y.result a.t.now c.row_size-n.ensures c.requires.ready.few_pings
    c.requires.t_len.1.0 (omega (arith, c.if-h-y.false)) c.requires.t_len.1.1.0
    c.requires.ready.few_wide c.requires.ready.column c.requires.t_len.0 c.requires.ready.source y.ensures
    (sym (kind_is a.o a.words.now a.row.0 _ _ _ masked c.level_of-m.ensures k)
    ∙ c.if-kind_of-k.false)
    p.result _ a.b.now p.new.at j.new.t
    (λ i. let g = c.type_inv.b i in omega arith)
    c.requires.rooms_of masked
    (subst (λ i. Strokes a.grows (bit_and (get_or a.words.now a.row.0 0)
    c.run_word.result) a.o.origin.ping.0 i
    p.result p.new.at)
    (sym k ∙ c.if-kind_of-k.false) p.ensures.cover)
    j.ensures c.requires.part_of
