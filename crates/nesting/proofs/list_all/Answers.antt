-- The first nodes are gathered, and the part of them that is there is handed on with the labels.
-- The outer region is listed as a hole: node 0, at depth 0, before any other.
use native.Mathlib.Omega.{arith}
use Rattle.nesting.proofs.Whole.{gathered, gathered_length, tree_of, next_of, listed_of}
use Rattle.nesting.proofs.list_all.Goals as goal

pub list_region-requires : goal.list_region-requires
list_region-requires c =
    let q = c.requires in
    let holds = gathered _ _ _ _ q.k_value c.gather.ensures in
    let long = gathered_length _ _ _ _ q.k_value c.gather.ensures in
    record {
      tree = tree_of _ _ _ _ q.labelled holds (omega (arith, long, q.k_bound.0));
      next = next_of _ _ _ _ q.labelled holds (omega (arith, long, q.k_bound.0)) _
          (omega (arith, long, q.k_bound.1));
    }

pub returns : goal.returns
returns c =
    let q = c.requires in
    let holds = gathered _ _ _ _ q.k_value c.gather.ensures in
    let long = gathered_length _ _ _ _ q.k_value c.gather.ensures in
    listed_of _ _ _ _ q.labelled holds (omega (arith, long, q.k_bound.0)) c.args.list.now _
    (omega (arith, long, q.k_bound.1)) c.list_region.ensures.list_after
