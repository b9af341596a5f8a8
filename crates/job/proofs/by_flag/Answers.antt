-- Stands on carry_out, for either default or for the parts before and after the descriptor's own end.
-- Each is the element and the file of its flag; any other flag is refused, and every work buffer stays.
use Rattle.job.proofs.Jobs.{length_few, flag_default, flag_own, flag_trailing, flag_other}
use Rattle.basics.proofs.Lists.{tail_is}
use lib.ListN.{length}
use lib.Seq.{length-take-le}
use Prim.Native.Nat.{◌≤◌}
use mathlib.Core.Path.{sym}
use native.Mathlib.Omega.{arith}
use Rattle.job.proofs.by_flag.Goals as goal
use Rattle.job.proofs.by_flag.Goals.{After-descriptor_len-n}

within : (c : After-descriptor_len-n) → c.descriptor_len-n.result ≤ length c.args.rest.now
within c = length_few _ _ c.descriptor_len-n.ensures

pub slice_bounds-carry_out-end-in-1 : goal.slice_bounds-carry_out-end-in-1
slice_bounds-carry_out-end-in-1 c =
    sym (length-take-le _ _ (within (goal.at.slice_bounds-carry_out-end-in-1 c).After-descriptor_len-n))

pub slice_bounds-carry_out-count : goal.slice_bounds-carry_out-count
slice_bounds-carry_out-count c = within (goal.at.slice_bounds-carry_out-count c).After-descriptor_len-n

pub slice_bounds-carry_out-start : goal.slice_bounds-carry_out-start
slice_bounds-carry_out-start c = within (goal.at.slice_bounds-carry_out-start c).After-descriptor_len-n

pub returns-in-0 : goal.returns-in-0
returns-in-0 c =
    flag_default _ _ _ _ _ _ _ _ _ _ _ _ _ c.in-0.is c.default_element-descriptor.ensures
    c.carry_out.ensures

pub returns-in-1 : goal.returns-in-1
returns-in-1 c =
    flag_own _ _ _ _ _ _ _ _ _ _ _ _ _ _ c.in-1.is c.descriptor_len-n.ensures
    (tail_is c.args.rest.now _) c.carry_out-in-1.ensures

pub returns-in-2 : goal.returns-in-2
returns-in-2 c =
    flag_trailing _ _ _ _ _ _ _ _ _ _ _ _ _ c.in-2.is c.trailing_element-descriptor.ensures
    c.carry_out-in-2.ensures

pub returns-in_default : goal.returns-in_default
returns-in_default c =
    flag_other _ _ _ _ _ _ _ (omega arith) (omega arith) (omega arith) _ _
    (c.refused.ensures.answer_value, c.refused.ensures.text_after)
