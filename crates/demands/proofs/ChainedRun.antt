-- Chained runs. Demand 1: each number is given exactly where its test is the first to hold,
-- and a refusal changes no byte of either buffer. Demand 3: SPLIT names the first offset
-- at which a lone echo, of any strength, is dilated differently; and where nothing is refused,
-- what `finder::last_picture` hands back of the two buffers that a run left is,
-- at each point, the element's own erosion or dilation.
use Prim.Native.Nat.{ℕ}
use mathlib.Core.Path.{◌≡◌, ap, ◌∙◌}
use mathlib.Core.Logic.{◌↔◌}
use mathlib.Core.Bool.{true, false}
use mathlib.Core.List.{List}
use Rattle.answer.specs.Answer.{told}
use Rattle.answer.specs.Refuse.{NoneHolds}
use Rattle.picture.specs.Frame.{top, frame}
use Rattle.picture.specs.Points.{value_at}
use Rattle.picture.specs.Bytes.{Picture}
use Rattle.element.specs.Shape.{Offset}
use Rattle.element.specs.Descriptor.{shape_in}
use Rattle.morphology.specs.Operations.{erode, dilate}
use Rattle.morphology.specs.Chain.{First}
use Rattle.morphology.specs.Demand.{Differs}
use Rattle.judge.specs.declared.Padding.TheVariants.{Free}
use Rattle.judge.specs.Tests.{picture_tests}
use Rattle.chain.specs.Reading.{links_in}
use Rattle.finder.specs.Finder.{found_at}
use Rattle.chained.proofs.erode.Kinds as erode-kinds
use Rattle.chained.proofs.erode.Reads as erode-reads
use Rattle.chained.proofs.dilate.Kinds as dilate-kinds
use Rattle.chained.proofs.dilate.Reads as dilate-reads
use Rattle.demands.specs.Demands.{Every, ExactlyNumbered, Kept, Shows}
use Rattle.demands.specs.RunCalls.{RunCall, run_call, room_run, tests_run, FindCall, find_call}
use Rattle.demands.specs.Runs.{Searched, RunThenFound}
use Rattle.demands.proofs.Runs.{run_exactly, run_kept, run_split, run_shows}
use Rattle.demands.specs.Chains.{WellMade, Strength, split_at}

pub chained_erode_exactly : Every 5 erode-kinds.ps erode-kinds.r erode-reads.Learnt
    (λ κs a r e. let c = run_call κs a e in ExactlyNumbered (tests_run c) (told r))
chained_erode_exactly κs a r e p = run_exactly (run_call κs a e) (told r) p.0

pub chained_erode_kept_first : Every 5 erode-kinds.ps erode-kinds.r erode-reads.Learnt
    (λ κs a r e. let c = run_call κs a e in Kept (tests_run c) c.first c.first_after)
chained_erode_kept_first κs a r e p = run_kept (run_call κs a e) (told r) p.0 _ _ _ p.1.0

pub chained_erode_kept_second : Every 5 erode-kinds.ps erode-kinds.r erode-reads.Learnt
    (λ κs a r e. let c = run_call κs a e in Kept (tests_run c) c.second c.second_after)
chained_erode_kept_second κs a r e p = run_kept (run_call κs a e) (told r) p.0 _ _ _ p.1.1

pub chained_erode_split : Every 5 erode-kinds.ps erode-kinds.r erode-reads.Learnt
    (λ κs a r e. let c = run_call κs a e in
    (strength : ℕ) → Strength c.depth strength → (o : Offset)
    → (told r ≡ split_at o)
    ↔ (NoneHolds (picture_tests Free c.depth c.w c.h c.source)
    × (WellMade c.element c.links c.chain
    × First (Differs strength (shape_in c.element) (links_in c.links c.chain)) o)))
chained_erode_split κs a r e p strength heard o =
    let c = run_call κs a e in
    run_split c.depth c.w c.h c.source c.element
    c.links c.chain (room_run c) r p.0 o strength heard

pub chained_erode_shows : Every 5 erode-kinds.ps erode-kinds.r erode-reads.Learnt
    (λ κs a r e. let c = run_call κs a e in
    Shows (tests_run c) c.depth c.w c.h
    (found_at c.first_after c.second_after c.depth c.w c.h c.links)
    (erode (top c.depth) (frame c.w c.h)
    (shape_in c.element) (value_at c.depth c.source c.w)))
chained_erode_shows κs a r e p = run_shows false (run_call κs a e) (told r) p.0 p.1.0 p.1.1

pub chained_dilate_exactly : Every 5 dilate-kinds.ps dilate-kinds.r dilate-reads.Learnt
    (λ κs a r e. let c = run_call κs a e in ExactlyNumbered (tests_run c) (told r))
chained_dilate_exactly κs a r e p = run_exactly (run_call κs a e) (told r) p.0

pub chained_dilate_kept_first : Every 5 dilate-kinds.ps dilate-kinds.r dilate-reads.Learnt
    (λ κs a r e. let c = run_call κs a e in Kept (tests_run c) c.first c.first_after)
chained_dilate_kept_first κs a r e p = run_kept (run_call κs a e) (told r) p.0 _ _ _ p.1.0

pub chained_dilate_kept_second : Every 5 dilate-kinds.ps dilate-kinds.r dilate-reads.Learnt
    (λ κs a r e. let c = run_call κs a e in Kept (tests_run c) c.second c.second_after)
chained_dilate_kept_second κs a r e p = run_kept (run_call κs a e) (told r) p.0 _ _ _ p.1.1

pub chained_dilate_split : Every 5 dilate-kinds.ps dilate-kinds.r dilate-reads.Learnt
    (λ κs a r e. let c = run_call κs a e in
    (strength : ℕ) → Strength c.depth strength → (o : Offset)
    → (told r ≡ split_at o)
    ↔ (NoneHolds (picture_tests Free c.depth c.w c.h c.source)
    × (WellMade c.element c.links c.chain
    × First (Differs strength (shape_in c.element) (links_in c.links c.chain)) o)))
chained_dilate_split κs a r e p strength heard o =
    let c = run_call κs a e in
    run_split c.depth c.w c.h c.source c.element
    c.links c.chain (room_run c) r p.0 o strength heard

pub chained_dilate_shows : Every 5 dilate-kinds.ps dilate-kinds.r dilate-reads.Learnt
    (λ κs a r e. let c = run_call κs a e in
    Shows (tests_run c) c.depth c.w c.h
    (found_at c.first_after c.second_after c.depth c.w c.h c.links)
    (dilate (frame c.w c.h) (shape_in c.element) (value_at c.depth c.source c.w)))
chained_dilate_shows κs a r e p = run_shows true (run_call κs a e) (told r) p.0 p.1.0 p.1.1

-- and what `last_picture` hands back of the buffers that a run left is,
-- at each point, the element's own erosion or dilation
found_shows : (c : RunCall) (f : FindCall) (part : List ℕ) (A : Picture) → Searched c f
    → part ≡ found_at f.first f.second f.depth f.w f.h f.links
    → Shows (tests_run c) c.depth c.w c.h
    (found_at c.first_after c.second_after c.depth c.w c.h c.links) A
    → Shows (tests_run c) c.depth c.w c.h part A
found_shows c f part A s q shows none p hx hy =
    ap (λ l. value_at c.depth l c.w p.ping.0 p.bin.0) (q ∙ same) ∙ shows none p hx hy
  where
    same : found_at f.first f.second f.depth f.w f.h f.links
        ≡ found_at c.first_after c.second_after c.depth c.w c.h c.links
    same i = found_at (s.first i) (s.second i) (s.depth i) (s.pings i) (s.bins i) (s.links i)

pub chained_erode_found : RunThenFound erode-reads.Learnt
    (λ c. erode (top c.depth) (frame c.w c.h)
    (shape_in c.element) (value_at c.depth c.source c.w))
chained_erode_found κs a r e p κs' a' part e' q s =
    found_shows (run_call κs a e) (find_call κs' a') part.now _ s q.0 (chained_erode_shows κs a r e p)

pub chained_dilate_found : RunThenFound dilate-reads.Learnt
    (λ c. dilate (frame c.w c.h) (shape_in c.element) (value_at c.depth c.source c.w))
chained_dilate_found κs a r e p κs' a' part e' q s =
    found_shows (run_call κs a e) (find_call κs' a') part.now _ s q.0 (chained_dilate_shows κs a r e p)
