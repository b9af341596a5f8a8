-- Request (v) of the contracts: what weighted `open` writes never exceeds the picture,
-- and what `close` writes never falls below it. From demand 2 and the law of the definitions.
use Prim.Native.Nat.{◌≤◌}
use mathlib.Core.Path.{sym, subst}
use Rattle.basics.specs.Bytes.{Bytes}
use Rattle.morphology.proofs.Weights.{weighted_opening_within, within_weighted_closing}
use Rattle.weighted.proofs.open.Kinds as weighted-open-kinds
use Rattle.weighted.proofs.open.Reads as weighted-open-reads
use Rattle.weighted.proofs.close.Kinds as weighted-close-kinds
use Rattle.weighted.proofs.close.Reads as weighted-close-reads
use Rattle.demands.specs.Demands.{Every}
use Rattle.demands.specs.Calls.{within, picture}
use Rattle.demands.specs.WeightedCalls.{weighted_element, weighted_twice, weighted_both}
use Rattle.demands.specs.Louder.{NeverExceeds, NeverBelow}
use Rattle.demands.proofs.Demand2.{weighted_open_shows, weighted_close_shows}
use Rattle.demands.proofs.Sums.{values}

pub weighted_open_within : Every 4 weighted-open-kinds.ps weighted-open-kinds.r weighted-open-reads.Learnt
    (λ κs a r e. let c = (weighted_twice κs a e).to_target in Bytes c.source
    → NeverExceeds (weighted_both (weighted_twice κs a e)) c.w c.h c.after (picture c))
weighted_open_within κs a r e l =
    let c = (weighted_twice κs a e).to_target in
    λ s none p hx hy. subst (λ n. n ≤ picture c p.ping.0 p.bin.0)
    (sym (weighted_open_shows κs a r e l none p hx hy))
    (weighted_opening_within (within c) (weighted_element c) (picture c) (values c.w c.h c.source s)
    (record { x = p.ping.0; y = p.bin.0 }) (record { ping = hx; bin = hy }))

pub weighted_close_contains : Every 4 weighted-close-kinds.ps
    weighted-close-kinds.r weighted-close-reads.Learnt
    (λ κs a r e. let c = (weighted_twice κs a e).to_target in Bytes c.source
    → NeverBelow (weighted_both (weighted_twice κs a e)) c.w c.h c.after (picture c))
weighted_close_contains κs a r e l =
    let c = (weighted_twice κs a e).to_target in
    λ s none p hx hy. subst (λ n. picture c p.ping.0 p.bin.0 ≤ n)
    (sym (weighted_close_shows κs a r e l none p hx hy))
    (within_weighted_closing (within c) (weighted_element c) (picture c) (values c.w c.h c.source s)
    (record { x = p.ping.0; y = p.bin.0 }) (record { ping = hx; bin = hy }))
