-- The row's last word loses its spare bits by a shift down and up again; no bit leaves the word.
-- The other words stay.
use Rattle.settle.proofs.Loops.{cleared_machine, if_so, if_not}
use Rattle.settle.specs.Steps.Cells.{cell_word, mask_of}
use Rattle.picture.proofs.Sizes.{row_room}
use lib.Dec.{eqb}
use Prim.Native.Nat.{◌+◌, ◌*◌, ◌/◌, ◌^◌}
use mathlib.Core.Path.{ap, ◌∙◌}
use borrow.Author.Tests.{eq-eqb, ne_eqb}
use borrow.Author.Rules.{rules}
use native.Mathlib.Omega.{arith}
use Rattle.settlecell.proofs.mask_word.Goals as goal

pub overflow_mul-c : goal.overflow_mul-c
overflow_mul-c c = omega (arith, row_room c.args.c.n c.requires.in_bins)

pub overflow_add-c : goal.overflow_add-c
overflow_add-c c = omega (arith, row_room c.args.c.n c.requires.in_bins)

pub word-v-requires : goal.word-v-requires
word-v-requires c = (search rules, omega (arith, row_room c.args.c.n c.requires.in_bins))

pub returns-then-c : goal.returns-then-c
unfolding mask_of cell_word
returns-then-c c =
    let a = c.args in
    let w = c.word-v in
    if_so (eqb (a.c.j + a.c.k) a.c.n) _ _ _ (eq-eqb _ _ c.if-c.true)
    (cleared_machine w.result a.c.u (omega arith) (omega arith)
    ∙ ap (λ v. v / 2 ^ a.c.u * 2 ^ a.c.u) w.ensures)

pub returns : goal.returns
unfolding mask_of cell_word
returns c =
    let a = c.args in
    if_not (eqb (a.c.j + a.c.k) a.c.n) _ _ _ (ne_eqb _ _ c.if-c.false)
    c.word-v.ensures
