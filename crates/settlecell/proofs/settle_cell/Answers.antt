-- Nothing is stored where the word stays as it is, as one that has all of the mask does.
-- Else its bytes are put at their place, `put_mid`: both are the definition's two cases.
use Rattle.settle.proofs.Loops.{full_stays, stays, changes}
use Rattle.settle.specs.Steps.Cells.{cell_word}
use Rattle.picture.proofs.Sizes.{row_room}
use borrow.Author.Rules.{rules}
use native.Mathlib.Omega.{arith}
use Rattle.settlecell.proofs.settle_cell.Goals as goal

pub overflow_mul-a : goal.overflow_mul-a
overflow_mul-a c = omega (arith, row_room c.args.c.n c.requires.fits_2.in_bins)

pub overflow_add-a : goal.overflow_add-a
overflow_add-a c = omega (arith, row_room c.args.c.n c.requires.fits_2.in_bins)

pub overflow_add-z : goal.overflow_add-z
overflow_add-z c = omega (arith, row_room c.args.c.n c.requires.fits_2.in_bins)

pub word-was-requires : goal.word-was-requires
word-was-requires c =
    (search rules, omega (arith, row_room c.args.c.n c.requires.fits_2.in_bins))

pub returns-then-m-was : goal.returns-then-m-was
unfolding cell_word
returns-then-m-was c =
    let a = c.args in
    let p = full_stays a.c a.mask.now a.t.now _ _ c.mask_word-m.ensures c.word-was.ensures
    (omega arith) (omega arith) c.if-m-was.true in
    record { changed = p.0; bytes = p.1 }

pub returns-then-v-was : goal.returns-then-v-was
unfolding cell_word
returns-then-v-was c =
    let a = c.args in
    let p = stays a.c a.mask.now a.t.now _ _ _ c.flood-v.result
    c.mask_word-m.ensures c.around-o.ensures c.word-was.ensures c.flood-v.ensures c.if-v-was.true in
    record { changed = p.0; bytes = p.1 }

pub slice_bounds-put_word-end : goal.slice_bounds-put_word-end
slice_bounds-put_word-end c = omega (arith, row_room c.args.c.n c.requires.fits_2.in_bins)

pub returns : goal.returns
unfolding cell_word
returns c =
    let a = c.args in
    let p = changes a.c a.mask.now a.t.now _ _ _ c.flood-v.result
    c.mask_word-m.ensures c.around-o.ensures c.word-was.ensures c.flood-v.ensures
    c.put_word.new.t c.if-v-was.false c.put_word.ensures in
    record { changed = p.0; bytes = p.1 }
