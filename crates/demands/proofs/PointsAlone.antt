-- Request (iii), of every contract that took PAD away: what stands in the padding of a source
-- changes neither the answer nor a byte. Each theorem speaks of two outcomes that the contract allows.
use Prim.Native.Nat.{ℕ, min, ◌+◌}
use mathlib.Core.Path.{◌≡◌, sym, ap, ap₂, ◌∙◌}
use mathlib.Core.Bool.{not, cond}
use mathlib.Core.List.{List, ◌++◌}
use lib.ListN.{length, drop}
use Rattle.answer.specs.declared.Told.{Told}
use Rattle.answer.specs.Answer.{told, plain}
use Rattle.answer.specs.Lent.{unless_refused}
use Rattle.picture.specs.declared.Depth.{Depth}
use Rattle.picture.specs.declared.Depth.TheVariants.{OneBit}
use Rattle.picture.specs.Frame.{Frame, frame, top, picture_bytes}
use Rattle.picture.specs.Bytes.{Picture}
use Rattle.picture.proofs.Points.{bytes_same}
use Rattle.element.specs.Shape.{Shape}
use Rattle.element.specs.Descriptor.{well_made, shape_in}
use Rattle.morphology.specs.Operations.{erode, dilate, opening, closing, hit_miss}
use Rattle.morphology.specs.TopHats.{white_top_hat, black_top_hat, gradient}
use Rattle.morphology.specs.Order.{Alike}
use Rattle.flat.specs.Flat.{flat_answer, flat_left}
use Rattle.hit.specs.Hit.{pair_tests, hit_answer, hit_left}
use Rattle.morphology.specs.Overlap.{shared}
use Rattle.chain.specs.Reading.{links_in}
use Rattle.judge.specs.Tests.{shape_tests, room_tests}
use Rattle.chained.specs.Run.{run_answer, eroded, dilated, first_after, second_after}
use Rattle.chained.proofs.Buffers.{first_alike, second_alike}
use Rattle.ech.specs.File.{head_bytes, known_kind, depth_of, head_of, file_of}
use Rattle.ech.specs.ReadWrite.{retired_tests, write_answer, write_target}
use Rattle.netpbm.specs.File as pnm-file
use Rattle.netpbm.specs.ReadWrite as pnm
use Rattle.pnmwrite.proofs.write_pbm.Kinds as pbm-kinds
use Rattle.pnmwrite.proofs.write_pbm.Reads as pbm-reads
use Rattle.flat.proofs.erode.Kinds as erode-kinds
use Rattle.flat.proofs.erode.Reads as erode-reads
use Rattle.flat.proofs.dilate.Kinds as dilate-kinds
use Rattle.flat.proofs.dilate.Reads as dilate-reads
use Rattle.flat.proofs.open.Kinds as open-kinds
use Rattle.flat.proofs.open.Reads as open-reads
use Rattle.flat.proofs.close.Kinds as close-kinds
use Rattle.flat.proofs.close.Reads as close-reads
use Rattle.differences.proofs.white_tophat.Kinds as white-kinds
use Rattle.differences.proofs.white_tophat.Reads as white-reads
use Rattle.differences.proofs.black_tophat.Kinds as black-kinds
use Rattle.differences.proofs.black_tophat.Reads as black-reads
use Rattle.differences.proofs.gradient.Kinds as gradient-kinds
use Rattle.differences.proofs.gradient.Reads as gradient-reads
use Rattle.hit.proofs.hit_or_miss.Kinds as hit-kinds
use Rattle.hit.proofs.hit_or_miss.Reads as hit-reads
use Rattle.chained.proofs.erode.Kinds as run-erode-kinds
use Rattle.chained.proofs.erode.Reads as run-erode-reads
use Rattle.chained.proofs.dilate.Kinds as run-dilate-kinds
use Rattle.chained.proofs.dilate.Reads as run-dilate-reads
use Rattle.echwrite.proofs.write_ech.Kinds as write-kinds
use Rattle.echwrite.proofs.write_ech.Reads as write-reads
use Rattle.demands.specs.Demands.{Every}
use Rattle.demands.specs.Calls.{Call, call, Twice, twice, room_twice}
use Rattle.demands.specs.HitCalls.{hit_call}
use Rattle.demands.specs.RunCalls.{RunCall, run_call, room_run}
use Rattle.demands.specs.FileCalls.{WriteCall, write_call}
use Rattle.demands.specs.PointsAlone.{Repadded, RepaddedTwice, RepaddedHit, RepaddedRun, RepaddedWrite}
use Rattle.demands.specs.PnmCalls.{PnmWrite, pnm_write}
use Rattle.demands.specs.PointsAlone.{RepaddedPnm, SameOnce, SameTwice, SameRun}
use Rattle.demands.proofs.Alike.{Respects, erode_respects, dilate_respects, opening_respects}
use Rattle.demands.proofs.Alike.{closing_respects, hit_respects}
use Rattle.demands.proofs.Alike.{erode_all_respects, dilate_all_respects}
use Rattle.demands.proofs.Alike.{white_respects, black_respects, gradient_respects}
use Rattle.demands.proofs.Alike.{same_alike, same_tests, same_told, same_written}

-- ---- calls by one element
-- an operation, over the depth
abbrev Operation : Type 0
Operation = Depth → Frame → Shape → Picture → Picture

module _ (c d : Call) (q : Repadded c d) (m n : ℕ) (e : m ≡ n) where
  flat_answer_same : flat_answer c.depth c.w c.h c.source c.descriptor m
      ≡ flat_answer d.depth d.w d.h d.source d.descriptor n
  flat_answer_same =
      same_tests c.depth c.w c.h c.source d.source q.source
      (shape_tests (well_made c.descriptor) ++ room_tests c.depth c.w c.h 0 m) (plain 0)
      ∙ (λ i. flat_answer (q.depth i) (q.pings i) (q.bins i) d.source (q.descriptor i) (e i))

  flat_left_same : (operation : Operation) → ((depth : Depth) (F : Frame) (B : Shape)
      → Respects (operation depth F B) F) → (b b' : List ℕ) → b ≡ b'
      → flat_left c.depth (operation c.depth) c.w c.h c.source c.descriptor m b
      ≡ flat_left d.depth (operation d.depth) d.w d.h d.source d.descriptor n b'
  flat_left_same operation respects b b' eb =
      ap₂ (λ a l. unless_refused a b l)
      (same_tests c.depth c.w c.h c.source d.source q.source
      (shape_tests (well_made c.descriptor) ++ room_tests c.depth c.w c.h 0 m) (plain 0))
      (same_written c.depth c.w c.h c.source d.source q.source
      (operation c.depth (frame c.w c.h) (shape_in c.descriptor))
      (respects c.depth (frame c.w c.h) (shape_in c.descriptor)) b)
      ∙ (λ i. flat_left (q.depth i) (operation (q.depth i)) (q.pings i) (q.bins i)
      d.source (q.descriptor i) (e i) (eb i))

-- what a call answers and leaves in a buffer, by its operation and the shortest buffer's length
abbrev answered : Call → ℕ → Told
answered c room = flat_answer c.depth c.w c.h c.source c.descriptor room

abbrev left : Operation → Call → ℕ → List ℕ → List ℕ
left operation c room b =
    flat_left c.depth (operation c.depth) c.w c.h c.source c.descriptor room b

abbrev Respectful : Operation → Type 0
Respectful operation = (depth : Depth) (F : Frame) (B : Shape) → Respects (operation depth F B) F

once_alone : (operation : Operation) → Respectful operation → (c d : Call) (t u : Told) → Repadded c d
    → (t ≡ answered c (length c.before))
    × (c.after ≡ left operation c (length c.before) c.before)
    → (u ≡ answered d (length d.before))
    × (d.after ≡ left operation d (length d.before) d.before)
    → SameOnce c d t u
once_alone operation respects c d t u q p p' =
    let room = ap length q.target in (
      p.0 ∙ flat_answer_same c d q _ _ room ∙ sym p'.0,
      p.1 ∙ flat_left_same c d q _ _ room operation respects _ _ q.target ∙ sym p'.1,
    )

-- with a scratch, in which the middle picture stays
twice_alone : (operation : Operation) → Respectful operation → (middle : Operation) → Respectful middle
    → (c d : Twice) (t u : Told) → RepaddedTwice c d
    → (t ≡ answered c.to_target (room_twice c))
    × ((c.to_target.after ≡ left operation c.to_target (room_twice c) c.to_target.before)
    × (c.after ≡ left middle c.to_target (room_twice c) c.before))
    → (u ≡ answered d.to_target (room_twice d))
    × ((d.to_target.after ≡ left operation d.to_target (room_twice d) d.to_target.before)
    × (d.after ≡ left middle d.to_target (room_twice d) d.before))
    → SameTwice c d t u
twice_alone operation respects middle respects-middle c d t u q p p' =
    let one = c.to_target in
    let other = d.to_target in
    let room = ap₂ (λ b s. min (length b) (length s)) q.once.target q.scratch in (
      (
        p.0 ∙ flat_answer_same one other q.once _ _ room ∙ sym p'.0,
        p.1.0 ∙ flat_left_same one other q.once _ _ room operation respects _ _ q.once.target
            ∙ sym p'.1.0,
      ),
      p.1.1 ∙ flat_left_same one other q.once _ _ room middle respects-middle _ _ q.scratch
          ∙ sym p'.1.1,
    )

pub erode_alone : Every 3 erode-kinds.ps erode-kinds.r erode-reads.Learnt (λ κs a x e.
    Every 3 erode-kinds.ps erode-kinds.r erode-reads.Learnt (λ κs' a' x' e'.
    Repadded (call κs a e) (call κs' a' e')
    → SameOnce (call κs a e) (call κs' a' e') (told x) (told x')))
erode_alone κs a x e p κs' a' x' e' p' q =
    once_alone (λ depth. erode (top depth)) (λ depth F B. erode_respects F B (top depth))
    (call κs a e) (call κs' a' e') (told x) (told x') q p p'

pub dilate_alone : Every 3 dilate-kinds.ps dilate-kinds.r dilate-reads.Learnt (λ κs a x e.
    Every 3 dilate-kinds.ps dilate-kinds.r dilate-reads.Learnt (λ κs' a' x' e'.
    Repadded (call κs a e) (call κs' a' e')
    → SameOnce (call κs a e) (call κs' a' e') (told x) (told x')))
dilate_alone κs a x e p κs' a' x' e' p' q =
    once_alone (λ depth. dilate) (λ depth F B. dilate_respects F B)
    (call κs a e) (call κs' a' e') (told x) (told x') q p p'

pub open_alone : Every 4 open-kinds.ps open-kinds.r open-reads.Learnt (λ κs a x e.
    Every 4 open-kinds.ps open-kinds.r open-reads.Learnt (λ κs' a' x' e'.
    RepaddedTwice (twice κs a e) (twice κs' a' e')
    → SameTwice (twice κs a e) (twice κs' a' e') (told x) (told x')))
open_alone κs a x e p κs' a' x' e' p' q =
    twice_alone (λ depth. opening (top depth)) (λ depth F B. opening_respects F B (top depth))
    (λ depth. erode (top depth)) (λ depth F B. erode_respects F B (top depth))
    (twice κs a e) (twice κs' a' e') (told x) (told x') q p p'

pub close_alone : Every 4 close-kinds.ps close-kinds.r close-reads.Learnt (λ κs a x e.
    Every 4 close-kinds.ps close-kinds.r close-reads.Learnt (λ κs' a' x' e'.
    RepaddedTwice (twice κs a e) (twice κs' a' e')
    → SameTwice (twice κs a e) (twice κs' a' e') (told x) (told x')))
close_alone κs a x e p κs' a' x' e' p' q =
    twice_alone (λ depth. closing (top depth)) (λ depth F B. closing_respects F B (top depth))
    (λ depth. dilate) (λ depth F B. dilate_respects F B)
    (twice κs a e) (twice κs' a' e') (told x) (told x') q p p'

-- ---- top-hats and the gradient
pub white_tophat_alone : Every 4 white-kinds.ps white-kinds.r white-reads.Learnt (λ κs a x e.
    Every 4 white-kinds.ps white-kinds.r white-reads.Learnt (λ κs' a' x' e'.
    RepaddedTwice (twice κs a e) (twice κs' a' e')
    → SameTwice (twice κs a e) (twice κs' a' e') (told x) (told x')))
white_tophat_alone κs a x e p κs' a' x' e' p' q =
    twice_alone (λ depth. white_top_hat (top depth)) (λ depth F B. white_respects F B (top depth))
    (λ depth. erode (top depth)) (λ depth F B. erode_respects F B (top depth))
    (twice κs a e) (twice κs' a' e') (told x) (told x') q p p'

pub black_tophat_alone : Every 4 black-kinds.ps black-kinds.r black-reads.Learnt (λ κs a x e.
    Every 4 black-kinds.ps black-kinds.r black-reads.Learnt (λ κs' a' x' e'.
    RepaddedTwice (twice κs a e) (twice κs' a' e')
    → SameTwice (twice κs a e) (twice κs' a' e') (told x) (told x')))
black_tophat_alone κs a x e p κs' a' x' e' p' q =
    twice_alone (λ depth. black_top_hat (top depth)) (λ depth F B. black_respects F B (top depth))
    (λ depth. dilate) (λ depth F B. dilate_respects F B)
    (twice κs a e) (twice κs' a' e') (told x) (told x') q p p'

pub gradient_alone : Every 4 gradient-kinds.ps gradient-kinds.r gradient-reads.Learnt (λ κs a x e.
    Every 4 gradient-kinds.ps gradient-kinds.r gradient-reads.Learnt (λ κs' a' x' e'.
    RepaddedTwice (twice κs a e) (twice κs' a' e')
    → SameTwice (twice κs a e) (twice κs' a' e') (told x) (told x')))
gradient_alone κs a x e p κs' a' x' e' p' q =
    twice_alone (λ depth. gradient (top depth)) (λ depth F B. gradient_respects F B (top depth))
    (λ depth. erode (top depth)) (λ depth F B. erode_respects F B (top depth))
    (twice κs a e) (twice κs' a' e') (told x) (told x') q p p'

-- ---- hit-or-miss
pub hit_or_miss_alone : Every 4 hit-kinds.ps hit-kinds.r hit-reads.Learnt (λ κs a x e.
    Every 4 hit-kinds.ps hit-kinds.r hit-reads.Learnt (λ κs' a' x' e'.
    RepaddedHit (hit_call κs a e) (hit_call κs' a' e')
    → (told x ≡ told x') × ((hit_call κs a e).after ≡ (hit_call κs' a' e').after)))
hit_or_miss_alone κs a x e p κs' a' x' e' p' q =
    let c = hit_call κs a e in
    let d = hit_call κs' a' e' in
    let answer = same_tests OneBit c.w c.h c.source d.source q.source
    (pair_tests (well_made c.hit) (well_made c.miss) (shared (shape_in c.hit) (shape_in c.miss))
    ++ room_tests OneBit c.w c.h 0 (length c.before)) (plain 0) in (
      p.0 ∙ answer
          ∙ (λ i. hit_answer (q.pings i) (q.bins i) d.source
          (q.hit i) (q.miss i) (length (q.target i)))
          ∙ sym p'.0,
      p.1 ∙ ap₂ (λ t l. unless_refused t c.before l) answer
          (same_written OneBit c.w c.h c.source d.source q.source
          (hit_miss (frame c.w c.h) (shape_in c.hit) (shape_in c.miss))
          (hit_respects (frame c.w c.h) (shape_in c.hit) (shape_in c.miss)) c.before)
          ∙ (λ i. hit_left (q.pings i) (q.bins i) d.source (q.hit i) (q.miss i)
          (length (q.target i)) (q.target i)) ∙ sym p'.1,
    )

-- ---- chained runs
module _ (c d : RunCall) (q : RepaddedRun c d) where
  run_answer_same : run_answer c.depth c.w c.h c.source
      c.element c.links c.chain (room_run c)
      ≡ run_answer d.depth d.w d.h d.source d.element d.links d.chain (room_run d)
  unfolding run_answer
  run_answer_same =
      same_told c.depth c.w c.h c.source d.source q.source _
      ∙ (λ i. run_answer (q.depth i) (q.pings i) (q.bins i) d.source (q.element i) (q.links i)
      (q.chain i) (min (length (q.first i)) (length (q.second i))))

  -- the results of the links, by their number
  abbrev Results : Type 0
  Results = Depth → ℕ → ℕ → List ℕ → List ℕ → ℕ → Picture

  abbrev Same : Results → Type 0
  Same results =
      (i : ℕ) → Alike (frame c.w c.h) (results c.depth c.w c.h c.source c.chain i)
      (results c.depth c.w c.h d.source c.chain i)

  eroded_same : Same eroded
  unfolding eroded
  eroded_same i =
      erode_all_respects (top c.depth) (frame c.w c.h) (links_in i c.chain) _ _
      (same_alike c.depth c.w c.h c.source d.source q.source)

  dilated_same : Same dilated
  unfolding dilated
  dilated_same i =
      dilate_all_respects (frame c.w c.h) (links_in i c.chain) _ _
      (same_alike c.depth c.w c.h c.source d.source q.source)

  module _ (results : Results) (same : Same results) (t u : Told) (et : t ≡ u) where
    firsts_same : unless_refused t c.first (first_after c.depth c.w c.h
        (results c.depth c.w c.h c.source c.chain) c.links c.first)
        ≡ unless_refused u d.first (first_after d.depth d.w d.h
        (results d.depth d.w d.h d.source d.chain) d.links d.first)
    firsts_same =
        ap (unless_refused t c.first) (first_alike c.depth c.w c.h _ _ c.links c.first
        (λ i l. same i))
        ∙ (λ i. unless_refused (et i) (q.first i) (first_after (q.depth i) (q.pings i) (q.bins i)
        (results (q.depth i) (q.pings i) (q.bins i) d.source (q.chain i)) (q.links i) (q.first i)))

    seconds_same : unless_refused t c.second (second_after c.depth c.w c.h
        (results c.depth c.w c.h c.source c.chain) c.links c.second)
        ≡ unless_refused u d.second (second_after d.depth d.w d.h
        (results d.depth d.w d.h d.source d.chain) d.links d.second)
    seconds_same =
        ap (unless_refused t c.second) (second_alike c.depth c.w c.h _ _ c.links c.second
        (λ i l. same i))
        ∙ (λ i. unless_refused (et i) (q.second i) (second_after (q.depth i) (q.pings i) (q.bins i)
        (results (q.depth i) (q.pings i) (q.bins i) d.source (q.chain i)) (q.links i) (q.second i)))

pub chained_erode_alone : Every 5 run-erode-kinds.ps run-erode-kinds.r run-erode-reads.Learnt (λ κs a x e.
    Every 5 run-erode-kinds.ps run-erode-kinds.r run-erode-reads.Learnt (λ κs' a' x' e'.
    RepaddedRun (run_call κs a e) (run_call κs' a' e')
    → SameRun (run_call κs a e) (run_call κs' a' e') (told x) (told x')))
chained_erode_alone κs a x e p κs' a' x' e' p' q =
    let c = run_call κs a e in
    let d = run_call κs' a' e' in
    let answer : told x ≡ told x' = p.0 ∙ run_answer_same c d q ∙ sym p'.0 in (
      answer,
      (
        p.1.0 ∙ firsts_same c d q eroded (eroded_same c d q) (told x) (told x') answer ∙ sym p'.1.0,
        p.1.1 ∙ seconds_same c d q eroded (eroded_same c d q) (told x) (told x') answer ∙ sym p'.1.1,
      ),
    )

pub chained_dilate_alone : Every 5 run-dilate-kinds.ps run-dilate-kinds.r run-dilate-reads.Learnt (λ κs a x e.
    Every 5 run-dilate-kinds.ps run-dilate-kinds.r run-dilate-reads.Learnt (λ κs' a' x' e'.
    RepaddedRun (run_call κs a e) (run_call κs' a' e')
    → SameRun (run_call κs a e) (run_call κs' a' e') (told x) (told x')))
chained_dilate_alone κs a x e p κs' a' x' e' p' q =
    let c = run_call κs a e in
    let d = run_call κs' a' e' in
    let answer : told x ≡ told x' = p.0 ∙ run_answer_same c d q ∙ sym p'.0 in (
      answer,
      (
        p.1.0 ∙ firsts_same c d q dilated (dilated_same c d q) (told x) (told x') answer ∙ sym p'.1.0,
        p.1.1 ∙ seconds_same c d q dilated (dilated_same c d q) (told x) (told x') answer ∙ sym p'.1.1,
      ),
    )

-- ---- the writers of files
module _ (c d : WriteCall) (q : RepaddedWrite c d) where
  write_answer_same : write_answer c.kind c.w c.h c.source c.before
      ≡ write_answer c.kind c.w c.h d.source c.before
  unfolding write_answer
  write_answer_same =
      ap (cond (not (known_kind c.kind)) (plain 9))
      (same_tests (depth_of c.kind) c.w c.h c.source d.source q.source
      (retired_tests c.kind
      ++ room_tests (depth_of c.kind) c.w c.h head_bytes (length c.before)) (plain 0))

  file_same : file_of c.kind c.w c.h c.source ≡ file_of c.kind c.w c.h d.source
  unfolding file_of
  file_same =
      ap (λ l. head_of c.kind c.w c.h ++ l)
      (bytes_same (depth_of c.kind) _ _ c.w c.h
      (λ x y hx hy. q.source.points x y hx hy))

  write_same : write_target c.kind c.w c.h c.source c.before
      ≡ write_target c.kind c.w c.h d.source c.before
  unfolding write_target
  write_same =
      ap₂ (λ t f. unless_refused t c.before
      (f ++ drop (head_bytes + picture_bytes (depth_of c.kind) c.w c.h) c.before))
      write_answer_same file_same

pub write_alone : Every 2 write-kinds.ps write-kinds.r write-reads.Learnt (λ κs a x e.
    Every 2 write-kinds.ps write-kinds.r write-reads.Learnt (λ κs' a' x' e'.
    RepaddedWrite (write_call κs a e) (write_call κs' a' e')
    → (told x ≡ told x') × ((write_call κs a e).after ≡ (write_call κs' a' e').after)))
write_alone κs a x e p κs' a' x' e' p' q =
    let c = write_call κs a e in
    let d = write_call κs' a' e' in (
      p.0 ∙ write_answer_same c d q
          ∙ (λ i. write_answer (q.kind i) (q.pings i) (q.bins i) d.source (q.target i)) ∙ sym p'.0,
      p.1 ∙ write_same c d q
          ∙ (λ i. write_target (q.kind i) (q.pings i) (q.bins i) d.source (q.target i)) ∙ sym p'.1,
    )

-- PBM's; of PGM there is no padding
module _ (depth : Depth) (c d : PnmWrite) (q : RepaddedPnm depth c d) where
  pnm_answer_same : pnm.write_answer depth c.w c.h c.source c.before
      ≡ pnm.write_answer depth c.w c.h d.source c.before
  unfolding pnm.write_answer
  pnm_answer_same =
      same_tests depth c.w c.h c.source d.source q.source
      (room_tests depth c.w c.h
      (length (pnm-file.head_of depth c.w c.h)) (length c.before)) (plain 0)

  pnm_file_same : pnm-file.file_of depth c.w c.h c.source
      ≡ pnm-file.file_of depth c.w c.h d.source
  unfolding pnm-file.file_of
  pnm_file_same =
      ap (λ l. pnm-file.head_of depth c.w c.h ++ l)
      (bytes_same depth _ _ c.w c.h q.source.points)

  pnm_same : pnm.write_target depth c.w c.h c.source c.before
      ≡ pnm.write_target depth c.w c.h d.source c.before
  unfolding pnm.write_target
  pnm_same =
      ap₂ (λ t f. unless_refused t c.before (f ++ drop (length f) c.before))
      pnm_answer_same pnm_file_same

pub write_pbm_alone : Every 2 pbm-kinds.ps pbm-kinds.r pbm-reads.Learnt (λ κs a x e.
    Every 2 pbm-kinds.ps pbm-kinds.r pbm-reads.Learnt (λ κs' a' x' e'.
    RepaddedPnm OneBit (pnm_write κs a e) (pnm_write κs' a' e')
    → (told x ≡ told x') × ((pnm_write κs a e).after ≡ (pnm_write κs' a' e').after)))
write_pbm_alone κs a x e p κs' a' x' e' p' q =
    let c = pnm_write κs a e in
    let d = pnm_write κs' a' e' in (
      p.0 ∙ pnm_answer_same OneBit c d q
          ∙ (λ i. pnm.write_answer OneBit (q.pings i) (q.bins i) d.source (q.target i)) ∙ sym p'.0,
      p.1 ∙ pnm_same OneBit c d q
          ∙ (λ i. pnm.write_target OneBit (q.pings i) (q.bins i) d.source (q.target i)) ∙ sym p'.1,
    )
