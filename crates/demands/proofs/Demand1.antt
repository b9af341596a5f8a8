-- Demand 1: every input gets exactly one answer, and which; and a refusal changes no lent byte.
-- That there is an answer at all, the prover has it: no function here asks anything of its caller.
-- That there are not two: proofs/Settled.antt of crates flat, hit and weighted.
use Prim.Native.Nat.{ℕ}
use mathlib.Core.Path.{◌≡◌, ap, ◌∙◌}
use mathlib.Core.Bool.{cond}
use mathlib.Core.Logic.{◌↔◌}
use lib.Dec.{T}
use lib.ListN.{length}
use Rattle.answer.specs.Answer.{told}
use Rattle.answer.specs.Refuse.{FirstHolds}
use Rattle.element.specs.Shape.{Shape, Offset}
use Rattle.morphology.specs.Step.{Has}
use Rattle.morphology.specs.Overlap.{shared}
use Rattle.morphology.proofs.Overlap.{shared_sound, shared_complete}
use Rattle.flat.proofs.erode.Kinds as erode-kinds
use Rattle.flat.proofs.erode.Reads as erode-reads
use Rattle.flat.proofs.dilate.Kinds as dilate-kinds
use Rattle.flat.proofs.dilate.Reads as dilate-reads
use Rattle.flat.proofs.open.Kinds as open-kinds
use Rattle.flat.proofs.open.Reads as open-reads
use Rattle.flat.proofs.close.Kinds as close-kinds
use Rattle.flat.proofs.close.Reads as close-reads
use Rattle.hit.proofs.hit_or_miss.Kinds as hit-or-miss-kinds
use Rattle.hit.proofs.hit_or_miss.Reads as hit-or-miss-reads
use Rattle.weighted.proofs.erode.Kinds as weighted-erode-kinds
use Rattle.weighted.proofs.erode.Reads as weighted-erode-reads
use Rattle.weighted.proofs.dilate.Kinds as weighted-dilate-kinds
use Rattle.weighted.proofs.dilate.Reads as weighted-dilate-reads
use Rattle.weighted.proofs.open.Kinds as weighted-open-kinds
use Rattle.weighted.proofs.open.Reads as weighted-open-reads
use Rattle.weighted.proofs.close.Kinds as weighted-close-kinds
use Rattle.weighted.proofs.close.Reads as weighted-close-reads
use Rattle.ech.specs.File.{reported_kind, pings_of, bins_of}
use Rattle.ech.specs.ReadWrite.{read_answer, read_target, write_answer, write_target}
use Rattle.ech.proofs.read_ech.Kinds as read-kinds
use Rattle.ech.proofs.read_ech.Reads as read-reads
use Rattle.echwrite.proofs.write_ech.Kinds as write-kinds
use Rattle.echwrite.proofs.write_ech.Reads as write-reads
use Rattle.demands.specs.Demands.{Every, Exactly, Kept}
use Rattle.demands.specs.Files.{kind_given, pings_given, bins_given}
use Rattle.demands.proofs.Files.{kind_is, pings_is, bins_is}
use Rattle.demands.proofs.Laws.{refused_not, exactly_of, kept_of}
use Rattle.demands.specs.Calls.{call, tests_once, twice, room_twice, tests_twice}
use Rattle.demands.specs.WeightedCalls.{weighted_call, weighted_once, weighted_twice, weighted_both}
use Rattle.demands.specs.HitCalls.{hit_call, tests_hit}
use Rattle.demands.specs.FileCalls.{read_call, tests_read, write_call, tests_write}
use Rattle.demands.proofs.Numbered.{tests_numbered_lem, weighted_tests_numbered, hit_tests_numbered}
use Rattle.demands.proofs.Numbered.{read_tests_numbered, write_tests_numbered}

pub erode_exactly : Every 3 erode-kinds.ps erode-kinds.r erode-reads.Learnt
    (λ κs a r e. let c = call κs a e in Exactly (tests_once c) (told r))
erode_exactly κs a r e p = let c = call κs a e in
    exactly_of (tests_once c) (told r) (tests_numbered_lem c (length c.before)) p.0

pub erode_kept : Every 3 erode-kinds.ps erode-kinds.r erode-reads.Learnt
    (λ κs a r e. let c = call κs a e in Kept (tests_once c) c.before c.after)
erode_kept κs a r e p =
    kept_of (tests_once (call κs a e)) _ _ _
    (let c = call κs a e in tests_numbered_lem c (length c.before)) p.1

pub dilate_exactly : Every 3 dilate-kinds.ps dilate-kinds.r dilate-reads.Learnt
    (λ κs a r e. let c = call κs a e in Exactly (tests_once c) (told r))
dilate_exactly κs a r e p = let c = call κs a e in
    exactly_of (tests_once c) (told r) (tests_numbered_lem c (length c.before)) p.0

pub dilate_kept : Every 3 dilate-kinds.ps dilate-kinds.r dilate-reads.Learnt
    (λ κs a r e. let c = call κs a e in Kept (tests_once c) c.before c.after)
dilate_kept κs a r e p =
    kept_of (tests_once (call κs a e)) _ _ _
    (let c = call κs a e in tests_numbered_lem c (length c.before)) p.1

pub open_exactly : Every 4 open-kinds.ps open-kinds.r open-reads.Learnt
    (λ κs a r e. let c = twice κs a e in Exactly (tests_twice c) (told r))
open_exactly κs a r e p = let c = twice κs a e in
    exactly_of (tests_twice c) (told r)
    (tests_numbered_lem c.to_target (room_twice c)) p.0

pub open_kept : Every 4 open-kinds.ps open-kinds.r open-reads.Learnt
    (λ κs a r e. let c = twice κs a e in Kept (tests_twice c) c.to_target.before c.to_target.after)
open_kept κs a r e p =
    kept_of (tests_twice (twice κs a e)) _ _ _
    (let c = twice κs a e in
    tests_numbered_lem c.to_target (room_twice c)) p.1.0

pub open_kept_scratch : Every 4 open-kinds.ps open-kinds.r open-reads.Learnt
    (λ κs a r e. let c = twice κs a e in Kept (tests_twice c) c.before c.after)
open_kept_scratch κs a r e p =
    kept_of (tests_twice (twice κs a e)) _ _ _
    (let c = twice κs a e in
    tests_numbered_lem c.to_target (room_twice c)) p.1.1

pub close_exactly : Every 4 close-kinds.ps close-kinds.r close-reads.Learnt
    (λ κs a r e. let c = twice κs a e in Exactly (tests_twice c) (told r))
close_exactly κs a r e p = let c = twice κs a e in
    exactly_of (tests_twice c) (told r)
    (tests_numbered_lem c.to_target (room_twice c)) p.0

pub close_kept : Every 4 close-kinds.ps close-kinds.r close-reads.Learnt
    (λ κs a r e. let c = twice κs a e in Kept (tests_twice c) c.to_target.before c.to_target.after)
close_kept κs a r e p =
    kept_of (tests_twice (twice κs a e)) _ _ _
    (let c = twice κs a e in
    tests_numbered_lem c.to_target (room_twice c)) p.1.0

pub close_kept_scratch : Every 4 close-kinds.ps close-kinds.r close-reads.Learnt
    (λ κs a r e. let c = twice κs a e in Kept (tests_twice c) c.before c.after)
close_kept_scratch κs a r e p =
    kept_of (tests_twice (twice κs a e)) _ _ _
    (let c = twice κs a e in
    tests_numbered_lem c.to_target (room_twice c)) p.1.1

pub hit_or_miss_exactly : Every 4 hit-or-miss-kinds.ps hit-or-miss-kinds.r
    hit-or-miss-reads.Learnt (λ κs a r e. let c = hit_call κs a e in Exactly (tests_hit c) (told r))
hit_or_miss_exactly κs a r e p =
    let c = hit_call κs a e in
    exactly_of (tests_hit c) (told r) (hit_tests_numbered c) p.0

pub hit_or_miss_kept : Every 4 hit-or-miss-kinds.ps hit-or-miss-kinds.r hit-or-miss-reads.Learnt
    (λ κs a r e. let c = hit_call κs a e in Kept (tests_hit c) c.before c.after)
hit_or_miss_kept κs a r e p =
    kept_of (tests_hit (hit_call κs a e)) _ _ _
    (let c = hit_call κs a e in hit_tests_numbered c) p.1

-- the weighted operations
pub weighted_erode_exactly : Every 3 weighted-erode-kinds.ps weighted-erode-kinds.r
    weighted-erode-reads.Learnt
    (λ κs a r e. let c = weighted_call κs a e in Exactly (weighted_once c) (told r))
weighted_erode_exactly κs a r e p = let c = weighted_call κs a e in
    exactly_of (weighted_once c) (told r) (weighted_tests_numbered c (length c.before)) p.0

pub weighted_erode_kept : Every 3 weighted-erode-kinds.ps weighted-erode-kinds.r weighted-erode-reads.Learnt
    (λ κs a r e. let c = weighted_call κs a e in Kept (weighted_once c) c.before c.after)
weighted_erode_kept κs a r e p =
    kept_of (weighted_once (weighted_call κs a e)) _ _ _
    (let c = weighted_call κs a e in weighted_tests_numbered c (length c.before)) p.1

pub weighted_dilate_exactly : Every 3 weighted-dilate-kinds.ps
    weighted-dilate-kinds.r weighted-dilate-reads.Learnt
    (λ κs a r e. let c = weighted_call κs a e in Exactly (weighted_once c) (told r))
weighted_dilate_exactly κs a r e p = let c = weighted_call κs a e in
    exactly_of (weighted_once c) (told r) (weighted_tests_numbered c (length c.before)) p.0

pub weighted_dilate_kept : Every 3 weighted-dilate-kinds.ps
    weighted-dilate-kinds.r weighted-dilate-reads.Learnt
    (λ κs a r e. let c = weighted_call κs a e in Kept (weighted_once c) c.before c.after)
weighted_dilate_kept κs a r e p =
    kept_of (weighted_once (weighted_call κs a e)) _ _ _
    (let c = weighted_call κs a e in weighted_tests_numbered c (length c.before)) p.1

pub weighted_open_exactly : Every 4 weighted-open-kinds.ps weighted-open-kinds.r weighted-open-reads.Learnt
    (λ κs a r e. let c = weighted_twice κs a e in Exactly (weighted_both c) (told r))
weighted_open_exactly κs a r e p =
    let c = weighted_twice κs a e in
    exactly_of (weighted_both c) (told r)
    (weighted_tests_numbered c.to_target (room_twice c)) p.0

pub weighted_open_kept : Every 4 weighted-open-kinds.ps weighted-open-kinds.r weighted-open-reads.Learnt
    (λ κs a r e. let c = weighted_twice κs a e in
    Kept (weighted_both c) c.to_target.before c.to_target.after)
weighted_open_kept κs a r e p =
    kept_of (weighted_both (weighted_twice κs a e)) _ _ _
    (let c = weighted_twice κs a e in weighted_tests_numbered c.to_target
    (room_twice c)) p.1.0

pub weighted_open_kept_scratch : Every 4 weighted-open-kinds.ps
    weighted-open-kinds.r weighted-open-reads.Learnt
    (λ κs a r e. let c = weighted_twice κs a e in Kept (weighted_both c) c.before c.after)
weighted_open_kept_scratch κs a r e p =
    kept_of (weighted_both (weighted_twice κs a e)) _ _ _
    (let c = weighted_twice κs a e in weighted_tests_numbered c.to_target
    (room_twice c)) p.1.1

pub weighted_close_exactly : Every 4 weighted-close-kinds.ps
    weighted-close-kinds.r weighted-close-reads.Learnt
    (λ κs a r e. let c = weighted_twice κs a e in Exactly (weighted_both c) (told r))
weighted_close_exactly κs a r e p =
    let c = weighted_twice κs a e in
    exactly_of (weighted_both c) (told r)
    (weighted_tests_numbered c.to_target (room_twice c)) p.0

pub weighted_close_kept : Every 4 weighted-close-kinds.ps weighted-close-kinds.r weighted-close-reads.Learnt
    (λ κs a r e. let c = weighted_twice κs a e in
    Kept (weighted_both c) c.to_target.before c.to_target.after)
weighted_close_kept κs a r e p =
    kept_of (weighted_both (weighted_twice κs a e)) _ _ _
    (let c = weighted_twice κs a e in weighted_tests_numbered c.to_target
    (room_twice c)) p.1.0

pub weighted_close_kept_scratch : Every 4 weighted-close-kinds.ps
    weighted-close-kinds.r weighted-close-reads.Learnt
    (λ κs a r e. let c = weighted_twice κs a e in Kept (weighted_both c) c.before c.after)
weighted_close_kept_scratch κs a r e p =
    kept_of (weighted_both (weighted_twice κs a e)) _ _ _
    (let c = weighted_twice κs a e in weighted_tests_numbered c.to_target
    (room_twice c)) p.1.1

-- files
pub read_exactly : Every 2 read-kinds.ps read-kinds.r read-reads.Learnt
    (λ κs a r e. let d = read_call κs a e in Exactly (tests_read d) (told r))
unfolding read_answer
read_exactly κs a r e p = let d = read_call κs a e in
    exactly_of (tests_read d) (told r) (read_tests_numbered d) p.0.answer

pub read_kept : Every 2 read-kinds.ps read-kinds.r read-reads.Learnt
    (λ κs a r e. let d = read_call κs a e in Kept (tests_read d) d.before d.after)
unfolding read_answer read_target
read_kept κs a r e p =
    kept_of (tests_read (read_call κs a e)) _ _ _ (read_tests_numbered (read_call κs a e)) p.1

-- a refused read gives 0 for kind, W and H
pub read_gives_none : Every 2 read-kinds.ps read-kinds.r read-reads.Learnt
    (λ κs a r e. (n : ℕ) → FirstHolds (tests_read (read_call κs a e)) n
    → (kind_given r ≡ 0) × ((pings_given r ≡ 0) × (bins_given r ≡ 0)))
unfolding read_answer
read_gives_none κs a r e p n f =
    let d = read_call κs a e in
    let no = refused_not (tests_read d) n (read_tests_numbered d) f in (
      kind_is d r p.0 ∙ ap (λ b. cond b (reported_kind d.file) 0) no,
      (
        pings_is d r p.0 ∙ ap (λ b. cond b (pings_of d.file) 0) no,
        bins_is d r p.0 ∙ ap (λ b. cond b (bins_of d.file) 0) no,
      ),
    )

pub write_exactly : Every 2 write-kinds.ps write-kinds.r write-reads.Learnt
    (λ κs a r e. let c = write_call κs a e in Exactly (tests_write c) (told r))
unfolding write_answer
write_exactly κs a r e p = let c = write_call κs a e in
    exactly_of (tests_write c) (told r) (write_tests_numbered c) p.0

pub write_kept : Every 2 write-kinds.ps write-kinds.r write-reads.Learnt
    (λ κs a r e. let c = write_call κs a e in Kept (tests_write c) c.before c.after)
unfolding write_answer write_target
write_kept κs a r e p =
    kept_of (tests_write (write_call κs a e)) _ _ _ (write_tests_numbered (write_call κs a e)) p.1

-- OVERLAP is given where some offset is one of both elements: the test holds exactly there
pub overlap_exactly : (B C : Shape) → T (shared B C) ↔ ((o : Offset) × (Has B o × Has C o))
overlap_exactly B C = (shared_sound B C, λ k. shared_complete B C k.0 k.1.0 k.1.1)
