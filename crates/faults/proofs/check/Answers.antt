use mathlib.Core.Path.{◌∙◌}
use native.Mathlib.Omega.{arith}
use Rattle.reach.specs.Steps.Links.{Linked}
use Rattle.reach.proofs.Meaning.{board_small}
use Rattle.faults.specs.Steps.Scan.{all_offsets}
use Rattle.faults.proofs.Fault.{linked, seek_start, fault_told, found_told, none_told, element_sized}
use Rattle.faults.proofs.Seek.{seek_found, seek_next, seek_none}
use Rattle.faults.proofs.check.Goals as goal

pub all_sums-sums-requires : goal.all_sums-sums-requires
all_sums-sums-requires c =
    let a = c.args in let q = c.requires in
    linked (record { outline = a.outline; rows = a.cells.now }) a.links a.k q.chained q.k_le_most_links

pub loop-n-init : goal.loop-n-init
loop-n-init c =
    let a = c.args in let q = c.requires in (
      omega arith,
      seek_start (record { outline = a.outline; rows = a.cells.now }) a.links a.k q.chained q.k_le_most_links,
    )

pub at_fault-requires : goal.at_fault-requires
at_fault-requires c =
    let a = c.args in let q = c.requires in
    let l : Linked a.links a.k =
    linked (record { outline = a.outline; rows = a.cells.now }) a.links a.k q.chained q.k_le_most_links in
    record {
      w_le_most_cells =
          element_sized (record { outline = a.outline; rows = a.cells.now }) a.links a.k q.chained
          q.k_le_most_links;
      small = board_small a.links a.k l _ _ c.all_sums-sums.ensures;
      linked = l;
      one_byte = c.offset_no-at.ensures.1;
    }

pub overflow_cast-result : goal.overflow_cast-result
overflow_cast-result c = let o = c.offset_no-at.ensures.1 in omega arith

-- the test of the offset is the definition's
pub returns-then-at_fault : goal.returns-then-at_fault
returns-then-at_fault c =
    let a = c.args in let q = c.requires in let l = c.loop-n in
    found_told (record { outline = a.outline; rows = a.cells.now }) a.links a.k q.chained q.k_le_most_links
    l.n c.offset_no-at.result c.offset_no-at.ensures.0
    (seek_found _ l.n all_offsets _ c.loop-n-test.true l.invariant.1
    (fault_told (record { outline = a.outline; rows = a.cells.now }) a.links a.k q.chained q.k_le_most_links
    c.all_sums-sums.result c.all_sums-sums.ensures l.n c.offset_no-at.result _ c.offset_no-at.ensures.0
    c.at_fault.ensures ∙ c.if-at_fault.true))

pub loop-n-preserved : goal.loop-n-preserved
loop-n-preserved c =
    let a = c.args in let q = c.requires in let l = c.loop-n in (
      omega arith,
      seek_next _ l.n all_offsets _ c.loop-n-test.true l.invariant.1
          (fault_told (record { outline = a.outline; rows = a.cells.now }) a.links a.k q.chained
          q.k_le_most_links c.all_sums-sums.result c.all_sums-sums.ensures l.n c.offset_no-at.result _
          c.offset_no-at.ensures.0 c.at_fault.ensures ∙ c.if-at_fault.false),
    )

pub returns : goal.returns
returns c =
    let a = c.args in let q = c.requires in let l = c.loop-n in
    none_told (record { outline = a.outline; rows = a.cells.now }) a.links a.k q.chained q.k_le_most_links
    (seek_none _ l.n all_offsets _ c.loop-n-test.false l.invariant.1)
