-- A split gives its own bytes.
-- Any other refusal has the offset 0, 0, and the byte of 0 is the centre.
use Rattle.answer.specs.declared.Refusal.{Refusal}
use Rattle.answer.specs.Answer.{told_refusal}
use Rattle.answer.proofs.Variants.{plain_offset}
use mathlib.Core.Path.{sym, ap}
use Rattle.answer.proofs.offset_of.Goals as goal

pub returns-in-Split : goal.returns-in-Split
unfolding told_refusal
returns-in-Split c =
    let e = sym c.in-Split.is in
    (ap (λ (r : Refusal). (told_refusal r).dx) e, ap (λ (r : Refusal). (told_refusal r).dy) e)

pub returns-in_default : goal.returns-in_default
returns-in_default c = plain_offset c.args.r c.in_default.not-Split
