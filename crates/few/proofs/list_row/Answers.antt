use lib.Bits.{bit_and}
use lib.Pow.{pow_pos}
use mathlib.Core.Path.{ap₂, ◌≡◌, sym, ◌∙◌, subst}
use Rattle.few.proofs.Listed.{rowed_long, inner_long, word_masked, row_begins, row_ends, first_cell}
use Rattle.few.proofs.Listed.{sub_more, cell_more, count_row, count_more, count_end}
use Rattle.cellwise.proofs.Spots.{base_few}
use mathlib.Core.Bool.{true}
use Rattle.packedline.specs.Steps.Cells.{cell_on64}
use Rattle.few.specs.Steps.Listed.{cells_in, Counted, Inner}
use lib.Count.{ones}
use Prim.Native.Nat.{ℕ, ◌+◌, ◌-◌, ◌*◌, ◌<◌}
use native.Mathlib.Omega.{arith}
use lib.ListN.{get_or}
use Rattle.few.proofs.list_row.Goals as goal

pub overflow_mul-base : goal.overflow_mul-base
overflow_mul-base c =
    omega (
      arith,
      base_few c.side.result c.args.o.h c.args.w c.side.ensures.1
          c.requires.sized.few_high c.requires.sized.few_pings,
    )

pub loop-m-init : goal.loop-m-init
loop-m-init c =
    let a = c.args in
    let is = word_masked (get_or a.words.now a.r 0) a.o.w _ c.run_word.ensures in (
      λ d h q. q,
      (
        row_begins a.grows a.w a.o a.words.now c.requires.sized.few_wide a.r _ is a.n
            a.at.now c.requires.rowed,
        count_row a.words.now a.o.w a.r a.n _ is c.requires.counted,
      ),
    )

pub side-requires-in-loop-m : goal.side-requires-in-loop-m
side-requires-in-loop-m c =
    let a = c.args in
    let l = c.loop-m in
    let f = c.first_cell-c.ensures in
    (first_cell a.grows a.w a.o a.words.now c.requires.sized.few_wide a.r _
    (word_masked (get_or a.words.now a.r 0) a.o.w _ c.run_word.ensures) c.requires.r_lt_h
    l.m l.count l.at l.invariant.1.0 l.invariant.0 c.first_cell-c.result f.0 f.1.0
    f.1.1.0).column

pub overflow_add-base : goal.overflow_add-base
overflow_add-base c =
    omega (
      arith,
      base_few c.side.result c.args.o.h c.args.w c.side.ensures.1
          c.requires.sized.few_high c.requires.sized.few_pings,
      c.side-in-loop-m.ensures.1,
      c.requires.sized.few_wide,
    )

pub push-count-requires : goal.push-count-requires
push-count-requires c =
    let a = c.args in
    let l = c.loop-m in (
      inner_long a.grows a.w a.o a.words.now a.r l.m l.count l.at l.invariant.1.0,
      omega (
        arith,
        base_few c.side.result a.o.h a.w c.side.ensures.1
            c.requires.sized.few_high c.requires.sized.few_pings,
        c.side-in-loop-m.ensures.1,
        c.requires.sized.few_wide,
      ),
    )

pub overflow_sub-m : goal.overflow_sub-m
overflow_sub-m c =
    omega (
      arith,
      c.cell_bit-m.ensures,
      c.first_cell-c.ensures.1.0,
    )

pub loop-m-smaller : goal.loop-m-smaller
loop-m-smaller c =
    omega (
      arith,
      c.cell_bit-m.ensures,
      c.first_cell-c.ensures.1.0,
      pow_pos (63 - c.first_cell-c.result),
    )

pub loop-m-preserved : goal.loop-m-preserved
loop-m-preserved c =
    let a = c.args in
    let l = c.loop-m in
    let f = c.first_cell-c.ensures in
    let e = sym c.cell_bit-m.ensures in
    let is = word_masked (get_or a.words.now a.r 0) a.o.w _ c.run_word.ensures in (
      subst (λ b. (d : ℕ) → d < 64 → cell_on64 (l.m - b) d ≡ true
          → cell_on64 (bit_and (get_or a.words.now a.r 0) c.run_word.result) d ≡ true) e
          (sub_more a.grows a.w a.o a.words.now c.requires.sized.few_wide a.r _ is c.requires.r_lt_h
          l.m l.count l.at l.invariant.1.0 l.invariant.0 c.first_cell-c.result f.0 f.1.0
          f.1.1.0),
      (
        subst (λ b. Inner a.grows a.w a.o a.words.now a.r (l.m - b) c.push-count.result
            c.push-count.new.at) e
            (cell_more a.grows a.w a.o a.words.now c.requires.sized.few_wide a.r _ is
            c.requires.r_lt_h l.m l.count l.at l.invariant.1.0 l.invariant.0 c.first_cell-c.result
            f.0 f.1.0 f.1.1.0 _ _ _
            (ap₂ (λ q d. q * a.w + d) c.side.ensures.0 c.side-in-loop-m.ensures.0)
            c.push-count.ensures.number c.push-count.ensures.list),
        subst (λ b. Counted c.push-count.result (ones (l.m - b))
            (cells_in a.words.now a.o.w (a.r + 1))) e
            (count_more l.count l.m c.first_cell-c.result _ _ f.1.0 f.1.1.0 f.0 c.push-count.ensures.number
            l.invariant.1.1),
      ),
    )

pub shape_of-at : goal.shape_of-at
shape_of-at c =
    let a = c.args in
    let l = c.loop-m in
    inner_long a.grows a.w a.o a.words.now a.r l.m l.count l.at l.invariant.1.0
    ∙ sym (rowed_long a.grows a.w a.o a.words.now a.r a.n a.at.now c.requires.rowed)

pub returns : goal.returns
returns c =
    let a = c.args in
    let l = c.loop-m in record {
      list = row_ends a.grows a.w a.o a.words.now c.requires.sized.few_wide a.r _
          (word_masked (get_or a.words.now a.r 0) a.o.w _ c.run_word.ensures) l.m
          l.count l.at (omega arith) l.invariant.1.0;
      number = count_end l.count l.m _ (omega arith) l.invariant.1.1;
    }
