-- Request (iv), of every outcome that the contract of reconstruction allows.
use mathlib.Core.Path.{◌≡◌, sym, ap, ◌∙◌}
use lib.ListN.{length, take}
use Rattle.answer.specs.Answer.{told, plain}
use Rattle.answer.specs.Refuse.{NoneHolds}
use Rattle.picture.specs.declared.Depth.TheVariants.{OneBit}
use Rattle.answer.proofs.Lent.{lent_made}
use Rattle.picture.specs.Frame.{frame, top, picture_bytes}
use Rattle.picture.specs.Points.{value_at}
use Rattle.picture.specs.Bytes.{written}
use Rattle.element.specs.Descriptor.{shape_in}
use Rattle.morphology.specs.Operations.{opening}
use Rattle.morphology.specs.Order.{Alike}
use Rattle.grown.specs.Marker.{outside}
use Rattle.grown.specs.Grown.{Grown, grown}
use Rattle.grown.specs.Reached.{Reached}
use Rattle.grown.proofs.Growing.{grown_one_bit, grown_reached, alike_grown}
use Rattle.reconstruct.specs.Reconstruct.{reconstruct_answer, reconstruct_left}
use Rattle.reconstruct.proofs.reconstruct.Kinds as grow-kinds
use Rattle.reconstruct.proofs.reconstruct.Reads as grow-reads
use Rattle.flat.proofs.open.Kinds as open-kinds
use Rattle.flat.proofs.open.Reads as open-reads
use Rattle.demands.specs.Demands.{Every, Exactly, Kept, Shows, ShowsSet}
use Rattle.demands.specs.Calls.{twice, tests_twice}
use Rattle.demands.specs.GrowCalls.{grow_call, tests_grow, grow_frame, marker_of, mask_of, result_of}
use Rattle.demands.specs.Grows.{Again, GrownBack, RepaddedGrow}
use Rattle.demands.proofs.Laws.{exactly_of, kept_of, shows_of}
use Rattle.demands.proofs.Grow.{packed_bits, grow_numbered, lies_inside, not_marker, again_done}
use Rattle.demands.proofs.Grow.{again_same, opened_inside, answers_alike, leaves_alike}

pub reconstruct_exactly : Every 3 grow-kinds.ps grow-kinds.r grow-reads.Learnt
    (λ κs a r e. let c = grow_call κs a e in Exactly (tests_grow c) (told r))
reconstruct_exactly κs a r e p =
    let c = grow_call κs a e in
    exactly_of (tests_grow c) (told r)
    (grow_numbered c.w c.h c.marker c.mask (length c.before)) p.0

pub reconstruct_kept : Every 3 grow-kinds.ps grow-kinds.r grow-reads.Learnt
    (λ κs a r e. let c = grow_call κs a e in Kept (tests_grow c) c.before c.after)
reconstruct_kept κs a r e p =
    let c = grow_call κs a e in
    kept_of (tests_grow c) _ _ _
    (grow_numbered c.w c.h c.marker c.mask (length c.before)) p.1

-- what the marker grows to, at each point of the frame
pub reconstruct_shows : Every 3 grow-kinds.ps grow-kinds.r grow-reads.Learnt
    (λ κs a r e. let c = grow_call κs a e in
    Shows (tests_grow c) OneBit c.w c.h c.after
    (grown c.neighbours (grow_frame c) (mask_of c) (marker_of c)))
reconstruct_shows κs a r e p none =
    let c = grow_call κs a e in
    shows_of (tests_grow c) OneBit _ c.w c.h _ _
    (λ o x y lx ly. grown_one_bit c.neighbours (grow_frame c) (mask_of c)
    (packed_bits c.mask c.w (grow_frame c)) (marker_of c)
    (lies_inside c.w c.h c.marker c.mask (length c.before) none)
    (record { x = x; y = y }) (record { ping = lx; bin = ly }))
    p.1 none

-- exactly the points of the mask that neighbouring steps inside it join to a point of the marker
pub reconstruct_reached : Every 3 grow-kinds.ps grow-kinds.r grow-reads.Learnt
    (λ κs a r e. let c = grow_call κs a e in
    ShowsSet (tests_grow c) c.w c.h c.after
    (Reached c.neighbours (grow_frame c) (mask_of c) (marker_of c)))
reconstruct_reached κs a r e p none q lx ly =
    let c = grow_call κs a e in
    let v = reconstruct_shows κs a r e p none q lx ly in
    let g = grown_reached c.neighbours (grow_frame c) (mask_of c)
    (packed_bits c.mask c.w (grow_frame c)) (marker_of c)
    (lies_inside c.w c.h c.marker c.mask (length c.before) none)
    (record { x = q.ping.0; y = q.bin.0 }) (record { ping = lx; bin = ly }) in
    (λ s. g.0 (sym v ∙ s), λ s. v ∙ g.1 s)

-- the marker grown again and again, until nothing changes
pub reconstruct_grown : Every 3 grow-kinds.ps grow-kinds.r grow-reads.Learnt
    (λ κs a r e. let c = grow_call κs a e in NoneHolds (tests_grow c)
    → Grown c.neighbours (grow_frame c) (mask_of c) (marker_of c) (result_of c))
reconstruct_grown κs a r e p none =
    let c = grow_call κs a e in
    alike_grown c.neighbours (grow_frame c) (mask_of c) (marker_of c)
    (packed_bits c.mask c.w (grow_frame c))
    (lies_inside c.w c.h c.marker c.mask (length c.before) none) (result_of c)
    (λ q i. reconstruct_shows κs a r e p none
    (record { ping = record { 0 = q.x }; bin = record { 0 = q.y } }) i.ping i.bin)

-- a second run is not refused, and changes nothing
pub reconstruct_twice : Every 3 grow-kinds.ps grow-kinds.r grow-reads.Learnt (λ κs a x e.
    Every 3 grow-kinds.ps grow-kinds.r grow-reads.Learnt (λ κs' a' x' e'.
    let c = grow_call κs a e in
    let d = grow_call κs' a' e' in
    Again c d → NoneHolds (tests_grow c)
    → (told x' ≡ plain 0) × Alike (grow_frame c) (result_of d) (result_of c)))
reconstruct_twice κs a x e p κs' a' x' e' p' q none =
    let c = grow_call κs a e in
    let d = grow_call κs' a' e' in
    let m = q.marker ∙ ap (take (picture_bytes OneBit c.w c.h)) p.1 in
    let after = p'.1 ∙ (λ i. reconstruct_left (q.neighbours i) (q.pings i) (q.bins i) (m i) (q.mask i)
    d.before) in (
      p'.0 ∙ (λ i. reconstruct_answer (q.pings i) (q.bins i) (m i) (q.mask i) (length d.before))
          ∙ again_done c.neighbours c.w c.h c.marker c.mask c.before
          d.before none q.room,
      λ r j. (λ i. value_at OneBit (after i) (q.pings i) r.x r.y)
          ∙ again_same c.neighbours c.w c.h c.marker c.mask c.before
          d.before none q.room r j
          ∙ sym (ap (λ l. value_at OneBit l c.w r.x r.y) p.1),
    )

-- an opening is a marker inside its own picture: MARKER is never answered
pub opened_never_marker : Every 4 open-kinds.ps open-kinds.r open-reads.Learnt (λ κs a x e.
    Every 3 grow-kinds.ps grow-kinds.r grow-reads.Learnt (λ κs' a' x' e'.
    GrownBack (twice κs a e).to_target (grow_call κs' a' e') → NoneHolds (tests_twice (twice κs a e))
    → told x' ≡ plain 12 → ⊥))
opened_never_marker κs a x e p κs' a' x' e' p' q none answered =
    let c = (twice κs a e).to_target in
    let d = grow_call κs' a' e' in
    let after : c.after ≡ written OneBit (opening 1 (frame c.w c.h) (shape_in c.descriptor)
    (value_at OneBit c.source c.w)) c.w c.h c.before =
    p.1.0 ∙ lent_made c.before _ none
    ∙ (λ i. written (q.one_bit i) (opening (top (q.one_bit i)) (frame c.w c.h)
    (shape_in c.descriptor) (value_at (q.one_bit i) c.source c.w)) c.w c.h c.before) in
    let m = q.marker ∙ ap (take (picture_bytes OneBit c.w c.h)) after in
    not_marker d.w d.h d.marker d.mask (length d.before)
    ((λ i. outside (frame (q.pings i) (q.bins i)) (value_at OneBit (q.mask i) (q.pings i))
    (value_at OneBit (m i) (q.pings i)))
    ∙ opened_inside c.w c.h (shape_in c.descriptor) c.source c.before)
    (sym p'.0 ∙ answered)

-- what stands in the padding of marker and mask changes neither the answer nor a byte
pub reconstruct_alone : Every 3 grow-kinds.ps grow-kinds.r grow-reads.Learnt (λ κs a x e.
    Every 3 grow-kinds.ps grow-kinds.r grow-reads.Learnt (λ κs' a' x' e'.
    RepaddedGrow (grow_call κs a e) (grow_call κs' a' e')
    → (told x ≡ told x') × ((grow_call κs a e).after ≡ (grow_call κs' a' e').after)))
reconstruct_alone κs a x e p κs' a' x' e' p' q =
    let c = grow_call κs a e in
    let d = grow_call κs' a' e' in (
      p.0 ∙ answers_alike c.neighbours c.w c.h c.marker d.marker c.mask d.mask
          q.marker q.mask (length c.before)
          ∙ (λ i. reconstruct_answer (q.pings i) (q.bins i) d.marker d.mask (length (q.target i)))
          ∙ sym p'.0,
      p.1 ∙ leaves_alike c.neighbours c.w c.h c.marker d.marker c.mask d.mask
          q.marker q.mask c.before
          ∙ (λ i. reconstruct_left (q.neighbours i) (q.pings i) (q.bins i) d.marker d.mask
          (q.target i))
          ∙ sym p'.1,
    )
