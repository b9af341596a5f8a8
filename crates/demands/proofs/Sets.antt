-- Demand 2 of one-bit pictures in document 01's own words: which points are set, by the sets of points.
use Prim.Native.Nat.{ℕ}
use mathlib.Core.Path.{◌≡◌, refl, sym, ap, ◌∙◌}
use mathlib.Core.Logic.{◌↔◌}
use mathlib.Core.List.{List}
use Rattle.answer.specs.Refuse.{Test}
use Rattle.picture.specs.declared.Depth.{Depth}
use Rattle.picture.specs.declared.Depth.TheVariants.{OneBit}
use Rattle.picture.specs.Frame.{top, frame}
use Rattle.picture.specs.Points.{value_at}
use Rattle.picture.specs.Bytes.{Picture}
use Rattle.element.specs.Descriptor.{shape_in}
use Rattle.morphology.specs.Step.{Place}
use Rattle.morphology.specs.Order.{Bounded}
use Rattle.morphology.specs.Operations.{erode, dilate, opening, closing, hit_miss}
use Rattle.morphology.specs.Sets.{Points, SetAt, Eroded, Dilated, Opened, Closed, Hit}
use Rattle.morphology.proofs.Sets.{eroded_set, dilated_set, opened_set, closed_set, hit_set}
use Rattle.apply.proofs.Twice.{bit_value}
use Rattle.flat.proofs.erode.Kinds as erode-kinds
use Rattle.flat.proofs.erode.Reads as erode-reads
use Rattle.flat.proofs.dilate.Kinds as dilate-kinds
use Rattle.flat.proofs.dilate.Reads as dilate-reads
use Rattle.flat.proofs.open.Kinds as open-kinds
use Rattle.flat.proofs.open.Reads as open-reads
use Rattle.flat.proofs.close.Kinds as close-kinds
use Rattle.flat.proofs.close.Reads as close-reads
use Rattle.hit.proofs.hit_or_miss.Kinds as hit-or-miss-kinds
use Rattle.hit.proofs.hit_or_miss.Reads as hit-or-miss-reads
use Rattle.demands.specs.Demands.{Every, Shows, ShowsSet}
use Rattle.demands.specs.Calls.{within, picture, element, call, tests_once, twice, tests_twice}
use Rattle.demands.specs.HitCalls.{hit_call, tests_hit}
use Rattle.demands.proofs.Demand2.{erode_shows, dilate_shows, open_shows, close_shows}
use Rattle.demands.proofs.Demand2.{hit_or_miss_shows}

module _ (depth : Depth) (one : depth ≡ OneBit) (w h : ℕ) where
  bits : (s : List ℕ) → Bounded 1 (frame w h) (value_at depth s w)
  bits s p i = bit_value depth one s w p.x p.y

  -- a picture that shows a definition at the depth's greatest value, which is 1, shows its set
  set_of : (ts : List Test) (bytes : List ℕ) (R : ℕ → Picture) (A : Points)
      → Shows ts depth w h bytes (R (top depth)) → ((p : Place) → (R 1 p.x p.y ≡ 1) ↔ A p)
      → ShowsSet ts w h bytes A
  set_of ts bytes R A shows is none p hx hy =
      let x = p.ping.0 in
      let y = p.bin.0 in
      let v : value_at OneBit bytes w x y ≡ R 1 x y =
      ap (λ d. value_at d bytes w x y) (sym one)
      ∙ shows none p hx hy ∙ ap (λ d. R (top d) x y) one in
      let q = is (record { x = x; y = y }) in
      (λ e. q.0 (sym v ∙ e), λ s. v ∙ q.1 s)

pub erode_set : Every 3 erode-kinds.ps erode-kinds.r erode-reads.Learnt
    (λ κs a r e. let c = call κs a e in c.depth ≡ OneBit
    → ShowsSet (tests_once c) c.w c.h c.after (Eroded (within c) (element c) (SetAt (picture c))))
erode_set κs a r e p one = let c = call κs a e in
    set_of c.depth one c.w c.h (tests_once c) c.after
    (λ most. erode most (within c) (element c) (picture c)) _ (erode_shows κs a r e p)
    (eroded_set (within c) (element c) (picture c) (bits c.depth one c.w c.h c.source))

pub dilate_set : Every 3 dilate-kinds.ps dilate-kinds.r dilate-reads.Learnt
    (λ κs a r e. let c = call κs a e in c.depth ≡ OneBit
    → ShowsSet (tests_once c) c.w c.h c.after (Dilated (within c) (element c) (SetAt (picture c))))
dilate_set κs a r e p one = let c = call κs a e in
    set_of c.depth one c.w c.h (tests_once c) c.after
    (λ most. dilate (within c) (element c) (picture c)) _ (dilate_shows κs a r e p)
    (dilated_set (within c) (element c) (picture c) (bits c.depth one c.w c.h c.source))

pub open_set : Every 4 open-kinds.ps open-kinds.r open-reads.Learnt
    (λ κs a r e. let c = (twice κs a e).to_target in c.depth ≡ OneBit
    → ShowsSet (tests_twice (twice κs a e)) c.w c.h c.after
    (Opened (within c) (element c) (SetAt (picture c))))
open_set κs a r e p one = let c = (twice κs a e).to_target in
    set_of c.depth one c.w c.h (tests_twice (twice κs a e)) c.after
    (λ most. opening most (within c) (element c) (picture c)) _ (open_shows κs a r e p)
    (opened_set (within c) (element c) (picture c) (bits c.depth one c.w c.h c.source))

pub close_set : Every 4 close-kinds.ps close-kinds.r close-reads.Learnt
    (λ κs a r e. let c = (twice κs a e).to_target in c.depth ≡ OneBit
    → ShowsSet (tests_twice (twice κs a e)) c.w c.h c.after
    (Closed (within c) (element c) (SetAt (picture c))))
close_set κs a r e p one = let c = (twice κs a e).to_target in
    set_of c.depth one c.w c.h (tests_twice (twice κs a e)) c.after
    (λ most. closing most (within c) (element c) (picture c)) _ (close_shows κs a r e p)
    (closed_set (within c) (element c) (picture c) (bits c.depth one c.w c.h c.source))

pub hit_or_miss_set : Every 4 hit-or-miss-kinds.ps hit-or-miss-kinds.r hit-or-miss-reads.Learnt
    (λ κs a r e. let c = hit_call κs a e in
    ShowsSet (tests_hit c) c.w c.h c.after (Hit (frame c.w c.h)
    (shape_in c.hit) (shape_in c.miss) (SetAt (value_at OneBit c.source c.w))))
hit_or_miss_set κs a r e p = let c = hit_call κs a e in
    set_of OneBit refl c.w c.h (tests_hit c) c.after
    (λ most. hit_miss (frame c.w c.h) (shape_in c.hit) (shape_in c.miss)
    (value_at OneBit c.source c.w)) _ (hit_or_miss_shows κs a r e p)
    (hit_set (frame c.w c.h) (shape_in c.hit) (shape_in c.miss)
    (value_at OneBit c.source c.w) (bits OneBit refl c.w c.h c.source))
