-- Demand 2 of the weighted operations in document 01's own order: the least,
-- or the greatest, of the integer sums, which is then held to 0..255; the ends as request (v) has them.
use Prim.Native.Nat.{ℕ, ◌+◌, ◌*◌, ◌≤◌}
use mathlib.Core.Path.{◌≡◌, sym, ◌∙◌, subst}
use mathlib.Core.List.{List}
use native.Mathlib.Omega.{arith}
use lib.Seq.{get_or-drop}
use Rattle.answer.specs.Refuse.{Test}
use Rattle.picture.specs.declared.Depth.TheVariants.{EightBit}
use Rattle.picture.specs.Points.{value_at, value_in}
use Rattle.picture.specs.Bytes.{Picture}
use Rattle.element.specs.Shape.{Shape}
use Rattle.element.specs.Descriptor.{wide_of, high_of, cells_end, weighted_in}
use Rattle.basics.specs.Bytes.{Bytes}
use Rattle.morphology.specs.Step.{Place}
use Rattle.morphology.specs.Weighted.{erode_weighted, dilate_weighted, open_weighted, close_weighted}
use Rattle.morphology.specs.Sums.{erode_sums, dilate_sums, open_sums, close_sums}
use Rattle.morphology.specs.Order.{Bounded}
use Rattle.picture.specs.Frame.{Frame, frame}
use Rattle.morphology.proofs.Sums.{erode_sums_lem, dilate_sums_lem, open_sums_lem, close_sums_lem}
use Rattle.weighted.proofs.erode.Kinds as weighted-erode-kinds
use Rattle.weighted.proofs.erode.Reads as weighted-erode-reads
use Rattle.weighted.proofs.dilate.Kinds as weighted-dilate-kinds
use Rattle.weighted.proofs.dilate.Reads as weighted-dilate-reads
use Rattle.weighted.proofs.open.Kinds as weighted-open-kinds
use Rattle.weighted.proofs.open.Reads as weighted-open-reads
use Rattle.weighted.proofs.close.Kinds as weighted-close-kinds
use Rattle.weighted.proofs.close.Reads as weighted-close-reads
use Rattle.demands.specs.Demands.{Every, Shows}
use Rattle.demands.specs.Calls.{within, picture}
use Rattle.demands.specs.WeightedCalls.{weighted_element, weighted_call, weighted_once, weighted_twice}
use Rattle.demands.specs.WeightedCalls.{weighted_both}
use Rattle.demands.proofs.Demand2.{weighted_erode_shows, weighted_dilate_shows, weighted_open_shows}
use Rattle.demands.proofs.Demand2.{weighted_close_shows}

-- the values of bytes are within the depth, and so are heights
pub values : (w h : ℕ) (s : List ℕ) → Bytes s → Bounded 255 (frame w h) (value_at EightBit s w)
unfolding value_at value_in
values w h s bytes q i = let l = bytes (q.y * w + q.x) in omega arith

heights : (d : List ℕ) → Bytes d → (c r : ℕ) → (weighted_in d).height c r ≤ 255
unfolding weighted_in value_at value_in
heights d bytes c r =
    subst (λ v. v ≤ 255) (sym (get_or-drop (cells_end (wide_of d) (high_of d)) d (r * wide_of d + c) 0))
    (let l = bytes (cells_end (wide_of d) (high_of d) + (r * wide_of d + c)) in omega arith)

-- two operations that give the same of bytes
abbrev Agrees : (Frame → Shape → Picture → Picture) → (Frame → Shape → Picture → Picture) → Type 0
Agrees sums operation =
    (F : Frame) (B : Shape) → ((c r : ℕ) → B.height c r ≤ 255) → (A : Picture) → Bounded 255 F A
    → (p : Place) → sums F B A p.x p.y ≡ operation F B A p.x p.y

-- bytes that show the one show the other
shows_sums : (tests : List Test) (sums operation : Frame → Shape → Picture → Picture)
    → Agrees sums operation → (w h : ℕ) (s d after : List ℕ) → Bytes s → Bytes d
    → Shows tests EightBit w h after (operation (frame w h) (weighted_in d) (value_at EightBit s w))
    → Shows tests EightBit w h after (sums (frame w h) (weighted_in d) (value_at EightBit s w))
shows_sums tests sums operation agrees w h s d after source descriptor shown none p hx hy =
    shown none p hx hy
    ∙ sym (agrees (frame w h) (weighted_in d) (heights d descriptor)
    (value_at EightBit s w) (values w h s source) (record { x = p.ping.0; y = p.bin.0 }))

pub weighted_erode_sums : Every 3 weighted-erode-kinds.ps weighted-erode-kinds.r weighted-erode-reads.Learnt
    (λ κs a r e. let c = weighted_call κs a e in Bytes c.source → Bytes c.descriptor
    → Shows (weighted_once c) EightBit c.w c.h c.after
    (erode_sums (within c) (weighted_element c) (picture c)))
weighted_erode_sums κs a r e l =
    let c = weighted_call κs a e in
    λ s d. shows_sums (weighted_once c) erode_sums erode_weighted erode_sums_lem c.w c.h
    c.source c.descriptor c.after s d (weighted_erode_shows κs a r e l)

pub weighted_dilate_sums : Every 3 weighted-dilate-kinds.ps
    weighted-dilate-kinds.r weighted-dilate-reads.Learnt
    (λ κs a r e. let c = weighted_call κs a e in Bytes c.source → Bytes c.descriptor
    → Shows (weighted_once c) EightBit c.w c.h c.after
    (dilate_sums (within c) (weighted_element c) (picture c)))
weighted_dilate_sums κs a r e l =
    let c = weighted_call κs a e in
    λ s d. shows_sums (weighted_once c) dilate_sums dilate_weighted dilate_sums_lem c.w c.h
    c.source c.descriptor c.after s d (weighted_dilate_shows κs a r e l)

pub weighted_open_sums : Every 4 weighted-open-kinds.ps weighted-open-kinds.r weighted-open-reads.Learnt
    (λ κs a r e. let c = (weighted_twice κs a e).to_target in Bytes c.source → Bytes c.descriptor
    → Shows (weighted_both (weighted_twice κs a e)) EightBit c.w c.h c.after
    (open_sums (within c) (weighted_element c) (picture c)))
weighted_open_sums κs a r e l =
    let c = (weighted_twice κs a e).to_target in
    λ s d. shows_sums (weighted_both (weighted_twice κs a e)) open_sums open_weighted open_sums_lem c.w c.h
    c.source c.descriptor c.after s d (weighted_open_shows κs a r e l)

pub weighted_close_sums : Every 4 weighted-close-kinds.ps weighted-close-kinds.r weighted-close-reads.Learnt
    (λ κs a r e. let c = (weighted_twice κs a e).to_target in Bytes c.source → Bytes c.descriptor
    → Shows (weighted_both (weighted_twice κs a e)) EightBit c.w c.h c.after
    (close_sums (within c) (weighted_element c) (picture c)))
weighted_close_sums κs a r e l =
    let c = (weighted_twice κs a e).to_target in
    λ s d. shows_sums (weighted_both (weighted_twice κs a e)) close_sums close_weighted close_sums_lem c.w c.h
    c.source c.descriptor c.after s d (weighted_close_shows κs a r e l)
