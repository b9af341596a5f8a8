-- The links are counted and written, and the check is asked of just these bytes.
-- Where it accepts them and there is room, they are copied.
use Prim.Native.Nat.{◌*◌}
use mathlib.Core.Path.{refl, sym, ap, ◌∙◌}
use mathlib.Core.Bool.{not}
use native.Mathlib.Omega.{arith}
use lib.ListN.{length}
use Rattle.answer.specs.declared.Refusal.TheVariants.{Room}
use Rattle.answer.specs.Answer.{told_refusal}
use Rattle.chainfor.specs.declared.Unfound.TheVariants.{Refused, GaveUp}
use Rattle.chainfor.specs.Find.{told_found, gives_up}
use Rattle.chainfor.proofs.Sums.{sum_cut, sum_chain_lem, sum_links_lem, sum_bytes_are, sum_copied, sum_fits}
use Rattle.chainfor.proofs.Sums.{sum_none, sum_cramped, sum_done, sum_refused_so, sum_done_so}
use Rattle.chainfor.proofs.find_sum.Goals as goal

pub slice_bounds-check_chain-end : goal.slice_bounds-check_chain-end
slice_bounds-check_chain-end c = sum_cut _ _ _ c.sum_bytes-work.ensures c.min-links.ensures

pub returns-then-is_err : goal.returns-then-is_err
unfolding told_found gives_up told_refusal
returns-then-is_err c =
    let f = sum_fits _ _ _ _ c.sum_bytes-work.ensures c.min-links.ensures refl _ _
    c.check_chain.ensures in
    let no = sym f ∙ c.is_err.ensures.negation ∙ ap not c.if-is_err.true in
    let p = sum_refused_so c.args.element.now c.args.chain.now c.args.way GaveUp 18 (omega arith)
    (sum_none _ _ _ no) refl (sym (ap not no)) in
    record { found = p.0; bytes = p.1 }

pub returns-then-chain-bytes : goal.returns-then-chain-bytes
unfolding told_found gives_up told_refusal
returns-then-chain-bytes c =
    let f = sum_fits _ _ _ _ c.sum_bytes-work.ensures c.min-links.ensures refl _ _
    c.check_chain.ensures in
    let yes = sym f ∙ c.is_err.ensures.negation ∙ ap not c.if-is_err.false in
    let n = sum_bytes_are _ _ _ _ c.sum_bytes-work.ensures c.min-links.ensures refl in
    let p = sum_refused_so c.args.element.now c.args.chain.now c.args.way (Refused Room) 8
    (omega arith) (sum_cramped _ _ _ yes (omega (arith, n))) refl (sym (ap not yes)) in
    record { found = p.0; bytes = p.1 }

pub slice_bounds-copy-end : goal.slice_bounds-copy-end
slice_bounds-copy-end c = sum_cut _ _ _ c.sum_bytes-work.ensures c.min-links.ensures

pub copy-requires : goal.copy-requires
copy-requires c = omega (arith, sum_cut _ _ _ c.sum_bytes-work.ensures c.min-links.ensures)

pub returns : goal.returns
unfolding told_found gives_up told_refusal
returns c =
    let f = sum_fits _ _ _ _ c.sum_bytes-work.ensures c.min-links.ensures refl _ _
    c.check_chain.ensures in
    let yes = sym f ∙ c.is_err.ensures.negation ∙ ap not c.if-is_err.false in
    let eb = c.sum_bytes-work.ensures in
    let n = sum_bytes_are _ _ _ _ eb c.min-links.ensures refl in
    let a = c.args in
    let p = sum_done_so a.element.now a.chain.now a.way c.copy.new.t
    (record { links = c.min-links.result; bytes = c.min-links.result * 12 })
    (sum_done a.element.now a.way (length a.chain.now) yes (omega (arith, n)))
    (sum_links_lem _ _ _ _ eb c.min-links.ensures refl) n (sym (ap not yes))
    (sum_copied a.way _ _ a.chain.now (sum_chain_lem _ _ _ _ eb c.min-links.ensures refl)
    c.copy.ensures.bytes) in
    record { found = p.0; bytes = p.1 }
