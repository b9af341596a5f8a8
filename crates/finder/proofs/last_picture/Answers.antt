-- Where there is no last picture the part is the first buffer's empty start.
-- Where there is one, the number of links alone says whose it is, and either has the picture's bytes.
use lib.ListN.{length}
use lib.Seq.{length-take-le}
use mathlib.Core.Path.{sym, ◌∙◌}
use Rattle.finder.proofs.Finding.{there_bytes, there_long, found_none, in_first_lem, in_second_lem}
use Rattle.finder.proofs.last_picture.Goals as goal

pub returns-then-not-is_there : goal.returns-then-not-is_there
returns-then-not-is_there c =
    let a = c.args in
    let p = found_none a.first.now a.second.now a.depth a.w a.h a.links a.first.ref_ptr a.second.ref_ptr
    (sym c.is_there.ensures ∙ c.if-not-is_there.true) in
    record { bytes = p.0; place = p.1 }

pub slice_bounds-result-end-then-links-eq1 : goal.slice_bounds-result-end-then-links-eq1
slice_bounds-result-end-then-links-eq1 c =
    sym (length-take-le _ _
    (there_long _ _ _ _ _ _ (sym c.is_there.ensures ∙ c.if-not-is_there.false) _ c.picture_bytes-n.ensures).0)

pub slice_bounds-result-end-else-links-eq1 : goal.slice_bounds-result-end-else-links-eq1
slice_bounds-result-end-else-links-eq1 c =
    sym (length-take-le _ _
    (there_long _ _ _ _ _ _ (sym c.is_there.ensures ∙ c.if-not-is_there.false) _ c.picture_bytes-n.ensures).1)

pub returns-then-links-eq1 : goal.returns-then-links-eq1
returns-then-links-eq1 c =
    let a = c.args in
    let t = sym c.is_there.ensures ∙ c.if-not-is_there.false in
    let p = in_first_lem a.first.now a.second.now a.depth a.w a.h a.links a.first.ref_ptr a.second.ref_ptr t
    _ (there_bytes _ _ _ _ _ _ t _ c.picture_bytes-n.ensures) c.if-links-eq1.true in
    record { bytes = p.0; place = p.1 }

pub returns-else-links-eq1 : goal.returns-else-links-eq1
returns-else-links-eq1 c =
    let a = c.args in
    let t = sym c.is_there.ensures ∙ c.if-not-is_there.false in
    let p = in_second_lem a.first.now a.second.now a.depth a.w a.h a.links a.first.ref_ptr a.second.ref_ptr t
    _ (there_bytes _ _ _ _ _ _ t _ c.picture_bytes-n.ensures) c.if-links-eq1.false in
    record { bytes = p.0; place = p.1 }
