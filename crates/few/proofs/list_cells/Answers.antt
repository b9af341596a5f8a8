use Rattle.few.proofs.Listed.{count_none, count_past, rowed_long, none_listed, too_many}
use Rattle.few.specs.Steps.Listed.{cells_in, Counted, Rowed}
use Prim.Native.Nat.{◌+◌}
use mathlib.Core.Path.{◌≡◌, sym, ◌∙◌, subst}
use native.Mathlib.Omega.{arith}
use borrow.Author.Rules.{rules}
use Rattle.few.proofs.list_cells.Goals as goal

pub loop-r-init : goal.loop-r-init
loop-r-init c =
    let a = c.args in
    (omega arith, (none_listed _ _ _ _ _ c.requires.at_len, count_none a.words.now a.o.w))

pub list_row-n-requires : goal.list_row-n-requires
list_row-n-requires c =
    let l = c.loop-r in record {
      sized = c.requires.sized;
      r_lt_h = search rules;
      rowed = l.invariant.1.0;
      counted = l.invariant.1.1;
    }

pub shape_of-at-then-n-gt-FEW : goal.shape_of-at-then-n-gt-FEW
shape_of-at-then-n-gt-FEW c =
    let a = c.args in
    rowed_long a.grows a.w a.o a.words.now _ _ _ c.list_row-n.ensures.list
    ∙ sym c.requires.at_len

pub returns-then-n-gt-FEW : goal.returns-then-n-gt-FEW
returns-then-n-gt-FEW c =
    let a = c.args in
    record {
      list = too_many a.grows a.w a.o a.words.now a.o.h _ _ (omega arith)
          (rowed_long a.grows a.w a.o a.words.now _ _ _ c.list_row-n.ensures.list);
      number = count_past a.words.now a.o.w (c.loop-r.r + 1) a.o.h _ (omega arith) (omega arith)
          c.list_row-n.ensures.number;
    }

pub loop-r-preserved : goal.loop-r-preserved
loop-r-preserved c = (omega arith, (c.list_row-n.ensures.list, c.list_row-n.ensures.number))

pub shape_of-at : goal.shape_of-at
shape_of-at c =
    let a = c.args in
    rowed_long a.grows a.w a.o a.words.now _ _ _ c.loop-r.invariant.1.0 ∙ sym
    c.requires.at_len

pub returns : goal.returns
returns c =
    let a = c.args in
    let l = c.loop-r in
    let e : l.r ≡ a.o.h = omega arith in record {
      list = subst (λ r. Rowed a.grows a.w a.o a.words.now r l.n l.at) e l.invariant.1.0;
      number = subst (λ r. Counted l.n 0 (cells_in a.words.now a.o.w r)) e l.invariant.1.1;
    }
