-- By cases, as in the definition: no cell, a run, or single cells.
-- A word is a run where it is the run of as many cells, moved to its first cell.
use Rattle.packedline.proofs.Covers.{level_none, level_run, level_1}
use Prim.Native.Nat.{◌/◌, ◌^◌}
use mathlib.Core.Path.{sym, ap, ◌∙◌}
use Rattle.packedline.proofs.level_of.Goals as goal

pub returns-then-word-eq0 : goal.returns-then-word-eq0
returns-then-word-eq0 c = level_none c.args.word c.if-word-eq0.true

pub returns-then-run_word-c : goal.returns-then-run_word-c
returns-then-run_word-c c =
    level_run _ c.first_cell-c.result
    c.cell_count-wide.result c.window.result
    c.if-word-eq0.false
    c.first_cell-c.ensures.1.1.1
    c.cell_count-wide.ensures.0
    (ap (λ n. n / 2 ^ c.first_cell-c.result)
    (sym c.run_word.ensures) ∙ c.if-run_word-c.true) c.window.ensures

pub returns : goal.returns
returns c =
    level_1 _ c.first_cell-c.result c.cell_count-wide.result
    c.if-word-eq0.false c.first_cell-c.ensures.1.1.1
    c.cell_count-wide.ensures.0
    (λ q. c.if-run_word-c.false (ap (λ n. n / 2 ^ c.first_cell-c.result)
    c.run_word.ensures ∙ q))
