-- One place for each test: what an earlier test has settled is one lemma,
-- typed by the place at which it is known.
-- Nothing is written, so that nothing else falls: MARKER is seen where the frame and both lengths are right.
use Rattle.marker.proofs.Judged.{not_seen, seen, no_size, no_marker, no_mask, all_fits}
use Rattle.marker.specs.Steps.Bytes.{fits}
use Rattle.picture.specs.declared.Depth.TheVariants.{OneBit}
use Rattle.picture.specs.Frame.{sized_frame, picture_bytes}
use Rattle.judge.proofs.Admitted.{bytes_are, holds}
use Rattle.judge.specs.declared.Padding.TheVariants.{Free}
use Rattle.answer.specs.Answer.{told, told_refusal}
use mathlib.Core.Bool.{true}
use mathlib.Core.Path.{◌≡◌, sym, ◌∙◌}
use native.Mathlib.Nat.{le_of_eq}
use lib.ListN.{length}
use Rattle.marker.proofs.marker_answer.Goals as goal
use Rattle.marker.proofs.marker_answer.Goals.{Else-marker-n, Else-mask-n, Else-not-sized}

size_known : (c : Else-not-sized) → let a = c.args in sized_frame a.w a.h ≡ true
size_known c = sym c.sized.ensures ∙ c.if-not-sized.false

bytes_known : (c : Else-marker-n) → let a = c.args in
    c.picture_bytes-n.result ≡ picture_bytes OneBit a.w a.h
bytes_known c = let a = c.args in
    bytes_are Free OneBit a.w a.h a.marker.now _ c.picture_bytes-n.ensures
    (size_known (goal.at.Else-marker-n c).Else-not-sized)

-- the marker has them
marker_known : (c : Else-marker-n) → let a = c.args in
    length a.marker.now ≡ picture_bytes OneBit a.w a.h
marker_known c = c.if-marker-n.false ∙ bytes_known c

-- and the mask
mask_known : (c : Else-mask-n) → let a = c.args in
    length a.mask.now ≡ picture_bytes OneBit a.w a.h
mask_known c = c.if-mask-n.false ∙ bytes_known (goal.at.Else-mask-n c).Else-marker-n

fits_known : (c : Else-mask-n) → let a = c.args in
    fits a.w a.h a.marker.now a.mask.now ≡ true
fits_known c = let a = c.args in
    all_fits a.w a.h a.marker.now a.mask.now (size_known (goal.at.Else-mask-n c).Else-not-sized)
    (marker_known (goal.at.Else-mask-n c).Else-marker-n) (mask_known c)

pub returns-then-not-sized : goal.returns-then-not-sized
unfolding told told_refusal
returns-then-not-sized c =
    let a = c.args in
    not_seen _ _ (no_size a.w a.h a.marker.now a.mask.now
    (sym c.sized.ensures ∙ c.if-not-sized.true))

pub returns-then-marker-n : goal.returns-then-marker-n
unfolding told told_refusal
returns-then-marker-n c =
    let z = size_known (goal.at.returns-then-marker-n c).Else-not-sized in
    let a = c.args in
    let n = bytes_are Free OneBit a.w a.h a.marker.now _ c.picture_bytes-n.ensures z in
    not_seen _ _ (no_marker a.w a.h a.marker.now a.mask.now z (λ e. c.if-marker-n.true (e ∙ sym n)))

pub returns-then-mask-n : goal.returns-then-mask-n
unfolding told told_refusal
returns-then-mask-n c =
    let a = c.args in
    not_seen _ _ (no_mask a.w a.h a.marker.now a.mask.now
    (size_known (goal.at.returns-then-mask-n c).Else-not-sized)
    (marker_known (goal.at.returns-then-mask-n c).Else-marker-n)
    (λ e. c.if-mask-n.true (e ∙ sym (bytes_known (goal.at.returns-then-mask-n c).Else-marker-n))))

pub lies_within-requires : goal.lies_within-requires
lies_within-requires c =
    let a = c.args in
    let z = size_known (goal.at.lies_within-requires c).Else-not-sized in record {
      holds = holds Free OneBit a.w a.h a.marker.now _ z
          (le_of_eq (sym (marker_known (goal.at.lies_within-requires c).Else-marker-n)));
      holds_2 = holds Free OneBit a.w a.h a.mask.now _ z (le_of_eq (sym (mask_known c)));
    }

pub returns-then-lies_within : goal.returns-then-lies_within
unfolding told told_refusal
returns-then-lies_within c =
    (seen _ _ _ (fits_known (goal.at.returns-then-lies_within c).Else-mask-n) c.lies_within.ensures).0
    c.if-lies_within.true

pub returns : goal.returns
unfolding told told_refusal
returns c =
    (seen _ _ _ (fits_known (goal.at.returns c).Else-mask-n) c.lies_within.ensures).1 c.if-lies_within.false
