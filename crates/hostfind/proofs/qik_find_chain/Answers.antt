-- It passes on what chainfor::find_chain returns: the chain is that call's own.
-- Links and bytes are few, so that they can be packed.
use mathlib.Core.Path.{ap, ◌∙◌}
use native.Mathlib.Omega.{arith}
use Rattle.std.specs.Prelude.{Err}
use Rattle.chainfor.specs.declared.Unfound.{Unfound}
use Rattle.hostfind.proofs.Packed.{find_few, packed_found, packed_refused, packed_given_up}
use Rattle.hostfind.proofs.qik_find_chain.Goals as goal

pub pack_chain-requires : goal.pack_chain-requires
pack_chain-requires c =
    let h = find_few _ _ _ c.find_chain.ensures.found _ c.in-Ok.is in (omega (arith, h.0), omega (arith, h.1))

pub returns-in-Ok-clause-number : goal.returns-in-Ok-clause-number
returns-in-Ok-clause-number c =
    c.pack_chain.ensures ∙ packed_found _ _ _ c.find_chain.ensures.found _ c.in-Ok.is _ c.pack.ensures

pub returns-in-Err-Refused-clause-number : goal.returns-in-Err-Refused-clause-number
returns-in-Err-Refused-clause-number c =
    let o = c.in-Err-Refused in
    c.pack_chain-in-Err-Refused.ensures
    ∙ packed_refused _ _ _ c.find_chain.ensures.found _
    (o.is ∙ ap (λ (u : Unfound). Err u) o.field-0-is) _ c.pack-in-Err-Refused.ensures

pub returns-in-Err-GaveUp-clause-number : goal.returns-in-Err-GaveUp-clause-number
returns-in-Err-GaveUp-clause-number c =
    let o = c.in-Err-GaveUp in
    c.pack_chain-in-Err-GaveUp.ensures
    ∙ packed_given_up _ _ _ c.find_chain.ensures.found
    (o.is ∙ ap (λ (u : Unfound). Err u) o.field-0-is) _ c.pack-in-Err-GaveUp.ensures
