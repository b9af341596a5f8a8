-- Stands on `pair_blocks`, and on `pair_any_short` for each way.
-- The way that is named is the way that was given.
use Rattle.columns.proofs.Rows.{as_asked}
use mathlib.Core.Bool.{true, false}
use Rattle.columns.proofs.pair.Goals as goal

pub returns-then-grows : goal.returns-then-grows
returns-then-grows c =
    let a = c.args in record {
      one = as_asked a.packed a.grows true a.s.now _ _ a.lo a.count a.first c.if-grows.true
          c.pair_any_short.ensures.one;
      other = as_asked a.packed a.grows true a.s.now _ _ a.lo a.count a.last c.if-grows.true
          c.pair_any_short.ensures.other;
    }

pub returns : goal.returns
returns c =
    let a = c.args in record {
      one = as_asked a.packed a.grows false a.s.now _ _ a.lo a.count a.first c.if-grows.false
          c.pair_any_short-2.ensures.one;
      other = as_asked a.packed a.grows false a.s.now _ _ a.lo a.count a.last c.if-grows.false
          c.pair_any_short-2.ensures.other;
    }
