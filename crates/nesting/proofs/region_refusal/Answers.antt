-- Two tests one after another, with the numbers of the definition.
-- The regions are at most one more than the points, so that twice as many fit.
use Rattle.answer.specs.Answer.{told, told_refusal}
use Rattle.nesting.proofs.Refused.{refused_regions, refused_room, regions_pass}
use native.Mathlib.Omega.{arith}
use Rattle.nesting.proofs.region_refusal.Goals as goal

pub returns-then-regions-gt-MOST_REGIONS : goal.returns-then-regions-gt-MOST_REGIONS
unfolding told told_refusal
returns-then-regions-gt-MOST_REGIONS c =
    let a = c.args in refused_regions a.regions a.len (omega (arith, c.if-regions-gt-MOST_REGIONS.true))

pub returns-then-len-regions : goal.returns-then-len-regions
unfolding told told_refusal
returns-then-len-regions c =
    let a = c.args in
    refused_room a.regions a.len (omega (arith, c.if-regions-gt-MOST_REGIONS.false))
    (omega (arith, c.if-len-regions.true))

pub returns : goal.returns
unfolding told told_refusal
returns c =
    let a = c.args in
    regions_pass a.regions a.len (omega (arith, c.if-regions-gt-MOST_REGIONS.false))
    (omega (arith, c.if-len-regions.false))
