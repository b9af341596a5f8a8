-- By cases: no column left, no cell left, or the first cell of the word moved on by c.
-- The digits of the moved word are those of the word: proofs/Next.
use Rattle.words.proofs.Next.{next_none, next_found}
use mathlib.Core.Path.{refl}
use native.Mathlib.Omega.{arith}
use Rattle.words.proofs.next_cell.Goals as goal

pub returns-then-m-eq0 : goal.returns-then-m-eq0
returns-then-m-eq0 c =
    next_none c.args.word c.args.c _ (omega (
      arith,
      c.if-c-ge64.false,
    )) refl c.if-m-eq0.true

pub returns : goal.returns
returns c =
    let f = c.first_cell.ensures in
    next_found c.args.word c.args.c _ (omega (arith, c.if-c-ge64.false)) refl c.first_cell.result
    f.0 f.1.0 f.1.1.0
