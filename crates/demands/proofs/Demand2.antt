-- Demand 2: what an operation writes is, at each point of the frame, what the definition has there.
use mathlib.Core.Bool.{true, false}
use Rattle.picture.specs.declared.Depth.TheVariants.{OneBit, EightBit}
use Rattle.picture.specs.Frame.{top, frame}
use Rattle.picture.specs.Points.{value_at}
use Rattle.element.specs.Descriptor.{shape_in}
use Rattle.morphology.specs.Operations.{erode, dilate, opening, closing, hit_miss}
use Rattle.morphology.specs.Weighted.{erode_weighted, dilate_weighted, open_weighted, close_weighted}
use Rattle.flat.proofs.erode.Kinds as erode-kinds
use Rattle.flat.proofs.erode.Reads as erode-reads
use Rattle.flat.proofs.dilate.Kinds as dilate-kinds
use Rattle.flat.proofs.dilate.Reads as dilate-reads
use Rattle.flat.proofs.open.Kinds as open-kinds
use Rattle.flat.proofs.open.Reads as open-reads
use Rattle.flat.proofs.close.Kinds as close-kinds
use Rattle.flat.proofs.close.Reads as close-reads
use Rattle.hit.proofs.hit_or_miss.Kinds as hit-or-miss-kinds
use Rattle.hit.proofs.hit_or_miss.Reads as hit-or-miss-reads
use Rattle.apply.proofs.Twice.{once_one, twice_one}
use Rattle.weighted.proofs.erode.Kinds as weighted-erode-kinds
use Rattle.weighted.proofs.erode.Reads as weighted-erode-reads
use Rattle.weighted.proofs.dilate.Kinds as weighted-dilate-kinds
use Rattle.weighted.proofs.dilate.Reads as weighted-dilate-reads
use Rattle.weighted.proofs.open.Kinds as weighted-open-kinds
use Rattle.weighted.proofs.open.Reads as weighted-open-reads
use Rattle.weighted.proofs.close.Kinds as weighted-close-kinds
use Rattle.weighted.proofs.close.Reads as weighted-close-reads
use Rattle.demands.specs.Demands.{Every, Shows}
use Rattle.demands.proofs.Laws.{shows_of, hit_one, never_one}
use Rattle.demands.specs.Calls.{within, picture, element, call, tests_once, twice, tests_twice}
use Rattle.demands.specs.WeightedCalls.{weighted_element, weighted_call, weighted_once}
use Rattle.demands.specs.WeightedCalls.{weighted_twice, weighted_both}
use Rattle.demands.specs.HitCalls.{hit_call, tests_hit}

pub erode_shows : Every 3 erode-kinds.ps erode-kinds.r erode-reads.Learnt
    (λ κs a r e. let c = call κs a e in Shows (tests_once c) c.depth c.w
    c.h c.after (erode (top c.depth) (within c) (element c) (picture c)))
erode_shows κs a r e p =
    let c = call κs a e in
    shows_of (tests_once c) c.depth _ c.w
    c.h _ _ (λ o. once_one c.depth c.w c.h (element c) c.source o false) p.1

pub dilate_shows : Every 3 dilate-kinds.ps dilate-kinds.r dilate-reads.Learnt
    (λ κs a r e. let c = call κs a e in
    Shows (tests_once c) c.depth c.w c.h c.after (dilate (within c) (element c) (picture c)))
dilate_shows κs a r e p =
    let c = call κs a e in
    shows_of (tests_once c) c.depth _ c.w
    c.h _ _ (λ o. once_one c.depth c.w c.h (element c) c.source o true) p.1

pub open_shows : Every 4 open-kinds.ps open-kinds.r open-reads.Learnt
    (λ κs a r e. let c = (twice κs a e).to_target in
    Shows (tests_twice (twice κs a e)) c.depth c.w c.h c.after
    (opening (top c.depth) (within c) (element c) (picture c)))
open_shows κs a r e p =
    let c = (twice κs a e).to_target in
    shows_of (tests_twice (twice κs a e)) c.depth _ c.w
    c.h _ _ (λ o. twice_one c.depth c.w c.h (element c) c.source o false true) p.1.0

-- the scratch shows the middle picture
pub open_shows_middle : Every 4 open-kinds.ps open-kinds.r open-reads.Learnt
    (λ κs a r e. let c = (twice κs a e).to_target in
    Shows (tests_twice (twice κs a e)) c.depth c.w c.h (twice κs a e).after
    (erode (top c.depth) (within c) (element c) (picture c)))
open_shows_middle κs a r e p =
    let c = (twice κs a e).to_target in
    shows_of (tests_twice (twice κs a e)) c.depth _ c.w
    c.h _ _ (λ o. once_one c.depth c.w c.h (element c) c.source o false) p.1.1

pub close_shows : Every 4 close-kinds.ps close-kinds.r close-reads.Learnt
    (λ κs a r e. let c = (twice κs a e).to_target in
    Shows (tests_twice (twice κs a e)) c.depth c.w c.h c.after
    (closing (top c.depth) (within c) (element c) (picture c)))
close_shows κs a r e p =
    let c = (twice κs a e).to_target in
    shows_of (tests_twice (twice κs a e)) c.depth _ c.w
    c.h _ _ (λ o. twice_one c.depth c.w c.h (element c) c.source o true false) p.1.0

-- the scratch shows the middle picture
pub close_shows_middle : Every 4 close-kinds.ps close-kinds.r close-reads.Learnt
    (λ κs a r e. let c = (twice κs a e).to_target in
    Shows (tests_twice (twice κs a e)) c.depth c.w c.h
    (twice κs a e).after (dilate (within c) (element c) (picture c)))
close_shows_middle κs a r e p =
    let c = (twice κs a e).to_target in
    shows_of (tests_twice (twice κs a e)) c.depth _ c.w
    c.h _ _ (λ o. once_one c.depth c.w c.h (element c) c.source o true) p.1.1

pub hit_or_miss_shows : Every 4 hit-or-miss-kinds.ps hit-or-miss-kinds.r hit-or-miss-reads.Learnt
    (λ κs a r e. let c = hit_call κs a e in
    Shows (tests_hit c) OneBit c.w c.h c.after (hit_miss (frame c.w c.h)
    (shape_in c.hit) (shape_in c.miss) (value_at OneBit c.source c.w)))
hit_or_miss_shows κs a r e p =
    let c = hit_call κs a e in
    shows_of (tests_hit c) OneBit _ c.w c.h _ _ (λ o x y lx ly. hit_one c.w c.h
    (shape_in c.hit) (shape_in c.miss) (value_at OneBit c.source c.w) x y) p.1

-- the weighted operations
pub weighted_erode_shows : Every 3 weighted-erode-kinds.ps weighted-erode-kinds.r weighted-erode-reads.Learnt
    (λ κs a r e. let c = weighted_call κs a e in Shows (weighted_once c) EightBit c.w
    c.h c.after (erode_weighted (within c) (weighted_element c) (picture c)))
weighted_erode_shows κs a r e p =
    let c = weighted_call κs a e in
    shows_of (weighted_once c) EightBit _ c.w c.h _ _ (λ o. never_one o) p.1

pub weighted_dilate_shows : Every 3 weighted-dilate-kinds.ps
    weighted-dilate-kinds.r weighted-dilate-reads.Learnt
    (λ κs a r e. let c = weighted_call κs a e in Shows (weighted_once c) EightBit c.w
    c.h c.after (dilate_weighted (within c) (weighted_element c) (picture c)))
weighted_dilate_shows κs a r e p =
    let c = weighted_call κs a e in
    shows_of (weighted_once c) EightBit _ c.w c.h _ _ (λ o. never_one o) p.1

pub weighted_open_shows : Every 4 weighted-open-kinds.ps weighted-open-kinds.r weighted-open-reads.Learnt
    (λ κs a r e. let c = (weighted_twice κs a e).to_target in
    Shows (weighted_both (weighted_twice κs a e)) EightBit c.w c.h
    c.after (open_weighted (within c) (weighted_element c) (picture c)))
weighted_open_shows κs a r e p =
    let c = (weighted_twice κs a e).to_target in
    shows_of (weighted_both (weighted_twice κs a e)) EightBit _ c.w c.h _ _ (λ o. never_one o) p.1.0

-- the scratch shows the middle picture
pub weighted_open_shows_middle : Every 4 weighted-open-kinds.ps
    weighted-open-kinds.r weighted-open-reads.Learnt
    (λ κs a r e. let c = (weighted_twice κs a e).to_target in
    Shows (weighted_both (weighted_twice κs a e)) EightBit c.w c.h
    (weighted_twice κs a e).after (erode_weighted (within c) (weighted_element c) (picture c)))
weighted_open_shows_middle κs a r e p =
    let c = (weighted_twice κs a e).to_target in
    shows_of (weighted_both (weighted_twice κs a e)) EightBit _ c.w c.h _ _ (λ o. never_one o) p.1.1

pub weighted_close_shows : Every 4 weighted-close-kinds.ps weighted-close-kinds.r weighted-close-reads.Learnt
    (λ κs a r e. let c = (weighted_twice κs a e).to_target in
    Shows (weighted_both (weighted_twice κs a e)) EightBit c.w c.h
    c.after (close_weighted (within c) (weighted_element c) (picture c)))
weighted_close_shows κs a r e p =
    let c = (weighted_twice κs a e).to_target in
    shows_of (weighted_both (weighted_twice κs a e)) EightBit _ c.w c.h _ _ (λ o. never_one o) p.1.0

-- the scratch shows the middle picture
pub weighted_close_shows_middle : Every 4 weighted-close-kinds.ps
    weighted-close-kinds.r weighted-close-reads.Learnt
    (λ κs a r e. let c = (weighted_twice κs a e).to_target in
    Shows (weighted_both (weighted_twice κs a e)) EightBit c.w c.h
    (weighted_twice κs a e).after (dilate_weighted (within c) (weighted_element c) (picture c)))
weighted_close_shows_middle κs a r e p =
    let c = (weighted_twice κs a e).to_target in
    shows_of (weighted_both (weighted_twice κs a e)) EightBit _ c.w c.h _ _ (λ o. never_one o) p.1.1
