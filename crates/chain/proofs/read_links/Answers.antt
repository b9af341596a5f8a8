use mathlib.Core.Path.{◌∙◌}
use native.Mathlib.Omega.{arith}
use lib.ListN.{length-replicate}
use Rattle.morphology.specs.Chain.{most_links}
use Rattle.chain.proofs.Reading.{onward_start, end_in_lem}
use Rattle.std.proofs.lemmas.Result.{err_from_is_err_and}
use Rattle.answer.proofs.Variants.{handed_on}
use Rattle.chain.proofs.Reading.{refused_as, link_refused, link_taken, bytes_follow, links_read}
use Rattle.chain.proofs.read_links.Goals as goal

pub loop-i-init : goal.loop-i-init
loop-i-init c =
    (omega arith, onward_start _ _ _ (length-replicate most_links c.no_link-all.result))

pub slice_bounds-descriptor_len-count : goal.slice_bounds-descriptor_len-count
slice_bounds-descriptor_len-count c = c.loop-i.invariant.1.inside

pub slice_bounds-descriptor_len-start : goal.slice_bounds-descriptor_len-start
slice_bounds-descriptor_len-start c = c.loop-i.invariant.1.inside

pub slice_bounds-read_link-end : goal.slice_bounds-read_link-end
slice_bounds-read_link-end c =
    end_in_lem _ _ _ _ _ c.loop-i.invariant.1 c.loop-i-test.true _ c.descriptor_len.ensures

pub overflow_add-end : goal.overflow_add-end
overflow_add-end c =
    let z = end_in_lem _ _ _ _ _ c.loop-i.invariant.1 c.loop-i-test.true _ c.descriptor_len.ensures in
    omega arith

pub returns-in_err-all : goal.returns-in_err-all
returns-in_err-all c =
    let p = err_from_is_err_and c.from_residual.result c.from_residual.ensures.1 in
    refused_as _ _ _ _ p.1
    (handed_on _ _ _ c.in_err-all.was p
    ∙ link_refused _ _ _ _ _ c.loop-i.invariant.1 c.loop-i-test.true _ c.descriptor_len.ensures
    _ c.read_link.ensures _ c.in_err-all.was)

pub loop-i-preserved : goal.loop-i-preserved
loop-i-preserved c = (
  omega arith,
  link_taken _ _ _ _ _ c.loop-i.invariant.1 c.loop-i-test.true _ c.descriptor_len.ensures
      _ c.read_link.ensures _ c.in_ok-all.was c.requires,
)

pub returns-then-at-d : goal.returns-then-at-d
returns-then-at-d c = bytes_follow _ _ _ _ _ c.loop-i.invariant.1 (omega arith) c.if-at-d.true

pub returns : goal.returns
returns c = links_read _ _ _ _ _ c.loop-i.invariant.1 (omega arith) c.if-at-d.false
