-- Request (ix): what opening writes, opened again, is the same bytes, at both depths and weighted;
-- likewise closing. Of every two outcomes that the contracts allow.
use Prim.Native.Nat.{ℕ}
use mathlib.Core.Path.{◌≡◌, sym, ap, ◌∙◌}
use mathlib.Core.List.{List}
use native.Mathlib.Nat.{le_trans}
use lib.ListN.{take, drop}
use lib.Seq.{take_at}
use Rattle.basics.specs.Bytes.{Bytes}
use Rattle.answer.proofs.Lent.{lent_made}
use Rattle.picture.specs.declared.Depth.{Depth}
use Rattle.picture.specs.declared.Depth.TheVariants.{EightBit}
use Rattle.picture.specs.Frame.{Frame, frame, top, picture_bytes}
use Rattle.picture.specs.Points.{value_at}
use Rattle.picture.specs.Bytes.{Picture, bytes_of, written}
use Rattle.picture.proofs.Bytes.{bytes_long, bytes_value, value_small}
use Rattle.picture.proofs.Points.{bytes_same}
use Rattle.element.specs.Shape.{Shape}
use Rattle.element.specs.Descriptor.{shape_in, weighted_in}
use Rattle.morphology.specs.Operations.{Change, flat, erode_by, dilate_by, open_by, close_by, opening}
use Rattle.morphology.specs.Operations.{closing}
use Rattle.morphology.specs.Weighted.{lower, raise, open_weighted, close_weighted}
use Rattle.morphology.specs.Order.{Alike, Bounded, Paired}
use Rattle.morphology.proofs.Order.{flat_paired, opening_within, erode_bounded, erode_alike, dilate_alike}
use Rattle.morphology.proofs.Weights.{weights_paired}
use Rattle.law.proofs.Law.{lawful}
use Rattle.flat.proofs.open.Kinds as open-kinds
use Rattle.flat.proofs.open.Reads as open-reads
use Rattle.flat.proofs.close.Kinds as close-kinds
use Rattle.flat.proofs.close.Reads as close-reads
use Rattle.weighted.proofs.open.Kinds as weighted-open-kinds
use Rattle.weighted.proofs.open.Reads as weighted-open-reads
use Rattle.weighted.proofs.close.Kinds as weighted-close-kinds
use Rattle.weighted.proofs.close.Reads as weighted-close-reads
use Rattle.demands.specs.Demands.{Every}
use Rattle.demands.specs.Calls.{Call, picture, twice, tests_twice}
use Rattle.demands.specs.WeightedCalls.{weighted_twice, weighted_both}
use Rattle.demands.specs.Again.{made_bytes, OnItsResult, MadeAgain}
use Rattle.demands.proofs.Alike.{Respects}

-- the picture's own bytes, of a buffer to which it was written
own_bytes : (depth : Depth) (R : Picture) (w h : ℕ) (t : List ℕ)
    → take (picture_bytes depth w h) (written depth R w h t) ≡ bytes_of depth R w h
unfolding written
own_bytes depth R w h t =
    take_at (bytes_of depth R w h) (drop (picture_bytes depth w h) t)
    (picture_bytes depth w h) (bytes_long depth R w h)

-- what an operation makes of the bytes that it has made of A is the same bytes
abbrev Remade : Depth → ℕ → ℕ → (Picture → Picture) → Picture → Type 0
Remade depth w h operation A =
    (s t u : List ℕ) → s ≡ take (picture_bytes depth w h) (written depth (operation A) w h t)
    → take (picture_bytes depth w h) (written depth (operation (value_at depth s w)) w h u)
    ≡ take (picture_bytes depth w h) (written depth (operation A) w h t)

-- so it is where doing it twice changes nothing
module _ (depth : Depth) (w h : ℕ) (operation : Picture → Picture)
    (respects : Respects operation (frame w h)) (A : Picture)
    (bounded : Bounded (top depth) (frame w h) (operation A))
    (idle : Alike (frame w h) (operation (operation A)) (operation A)) where
  made_again : Remade depth w h operation A
  made_again s t u e =
      own_bytes depth _ w h u
      ∙ bytes_same depth _ _ w h
      (λ x y hx hy. same (record { x = x; y = y }) (record { ping = hx; bin = hy }))
      ∙ sym (own_bytes depth (operation A) w h t)
    where
      shown : Alike (frame w h) (value_at depth s w) (operation A)
      shown p i =
          ap (λ l. value_at depth l w p.x p.y) (e ∙ own_bytes depth (operation A) w h t)
          ∙ bytes_value depth (operation A) w h
          (λ x y hx hy. bounded (record { x = x; y = y }) (record { ping = hx; bin = hy }))
          p.x p.y i.ping i.bin

      same : Alike (frame w h) (operation (value_at depth s w)) (operation A)
      same p i = respects (value_at depth s w) (operation A) shown p i ∙ idle p i

-- opening and closing, for a pair of functions on values that belongs together
module _ (lower raise : Change) (depth : Depth) (P : Paired (top depth) lower raise)
    (w h : ℕ) (B : Shape) (source : List ℕ) (bytes : Bytes source) where
  abbrev F : Frame
  F = frame w h

  abbrev A : Picture
  A = value_at depth source w

  source_bounded : Bounded (top depth) F A
  source_bounded p i = value_small depth source bytes w p.x p.y

  erode_respects : Respects (erode_by lower (top depth) F B) F
  erode_respects X Y same p i = erode_alike lower F B X Y same p (top depth)

  dilate_respects : Respects (dilate_by raise F B) F
  dilate_respects X Y same p i = dilate_alike raise F B X Y same p

  opened_again : Remade depth w h (open_by lower raise (top depth) F B) A
  opened_again =
      made_again depth w h (open_by lower raise (top depth) F B)
      (λ X Y same. dilate_respects _ _ (erode_respects X Y same)) A
      (λ p i. le_trans (opening_within lower raise (top depth) P F B A source_bounded p i)
      (source_bounded p i))
      ((lawful lower raise (top depth) P F B).opening_twice A source_bounded)

  closed_again : Remade depth w h (close_by lower raise (top depth) F B) A
  closed_again =
      made_again depth w h (close_by lower raise (top depth) F B)
      (λ X Y same. erode_respects _ _ (dilate_respects X Y same)) A
      (erode_bounded lower (top depth) F B _)
      ((lawful lower raise (top depth) P F B).closing_twice A source_bounded)

-- of two calls that have written, over the operation and what is read of the descriptor
module _ (operation : Depth → Frame → Shape → Picture → Picture) (shape : List ℕ → Shape) where
  abbrev does : Call → Picture → Picture
  does c = operation c.depth (frame c.w c.h) (shape c.descriptor)

  abbrev wrote : Call → List ℕ
  wrote c = written c.depth (does c (picture c)) c.w c.h c.before

  both_made : (c d : Call) → Remade c.depth c.w c.h (does c) (picture c)
      → c.after ≡ wrote c → d.after ≡ wrote d → OnItsResult c d → made_bytes d ≡ made_bytes c
  both_made c d remade ec ed q =
      let n = picture_bytes c.depth c.w c.h in
      (λ i. take (picture_bytes (q.depth i) (q.pings i) (q.bins i)) (ed i))
      ∙ (λ i. take n
      (written (q.depth i) (operation (q.depth i) (frame (q.pings i) (q.bins i)) (shape (q.descriptor i))
      (value_at (q.depth i) d.source (q.pings i))) (q.pings i) (q.bins i) d.before))
      ∙ remade d.source c.before d.before (q.source ∙ ap (take n) ec)
      ∙ ap (take n) (sym ec)

-- ---- of the contracts
pub open_again : Every 4 open-kinds.ps open-kinds.r open-reads.Learnt
    (λ κs a r e. Every 4 open-kinds.ps open-kinds.r open-reads.Learnt
    (λ κs' a' r' e'. MadeAgain tests_twice (twice κs a e) (twice κs' a' e')))
open_again κs a r e p κs' a' r' e' p' bytes none none' q =
    let c = (twice κs a e).to_target in
    both_made (λ depth. opening (top depth)) shape_in c (twice κs' a' e').to_target
    (opened_again flat flat c.depth (flat_paired (top c.depth)) c.w c.h
    (shape_in c.descriptor) c.source bytes)
    (p.1.0 ∙ lent_made _ _ none) (p'.1.0 ∙ lent_made _ _ none') q

pub close_again : Every 4 close-kinds.ps close-kinds.r close-reads.Learnt
    (λ κs a r e. Every 4 close-kinds.ps close-kinds.r close-reads.Learnt
    (λ κs' a' r' e'. MadeAgain tests_twice (twice κs a e) (twice κs' a' e')))
close_again κs a r e p κs' a' r' e' p' bytes none none' q =
    let c = (twice κs a e).to_target in
    both_made (λ depth. closing (top depth)) shape_in c (twice κs' a' e').to_target
    (closed_again flat flat c.depth (flat_paired (top c.depth)) c.w c.h
    (shape_in c.descriptor) c.source bytes)
    (p.1.0 ∙ lent_made _ _ none) (p'.1.0 ∙ lent_made _ _ none') q

pub weighted_open_again : Every 4 weighted-open-kinds.ps weighted-open-kinds.r weighted-open-reads.Learnt
    (λ κs a r e. Every 4 weighted-open-kinds.ps weighted-open-kinds.r weighted-open-reads.Learnt
    (λ κs' a' r' e'. MadeAgain weighted_both (weighted_twice κs a e) (weighted_twice κs' a' e')))
weighted_open_again κs a r e p κs' a' r' e' p' bytes none none' q =
    let c = (weighted_twice κs a e).to_target in
    both_made (λ depth. open_weighted) weighted_in c (weighted_twice κs' a' e').to_target
    (opened_again lower raise EightBit weights_paired c.w c.h
    (weighted_in c.descriptor) c.source bytes)
    (p.1.0 ∙ lent_made _ _ none) (p'.1.0 ∙ lent_made _ _ none') q

pub weighted_close_again : Every 4 weighted-close-kinds.ps weighted-close-kinds.r weighted-close-reads.Learnt
    (λ κs a r e. Every 4 weighted-close-kinds.ps weighted-close-kinds.r weighted-close-reads.Learnt
    (λ κs' a' r' e'. MadeAgain weighted_both (weighted_twice κs a e) (weighted_twice κs' a' e')))
weighted_close_again κs a r e p κs' a' r' e' p' bytes none none' q =
    let c = (weighted_twice κs a e).to_target in
    both_made (λ depth. close_weighted) weighted_in c (weighted_twice κs' a' e').to_target
    (closed_again lower raise EightBit weights_paired c.w c.h
    (weighted_in c.descriptor) c.source bytes)
    (p.1.0 ∙ lent_made _ _ none) (p'.1.0 ∙ lent_made _ _ none') q
