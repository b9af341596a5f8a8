-- Request (xiii), of every outcome that the contract of the size spectrum allows.
use Prim.Native.Nat.{ℕ, ◌+◌, ◌*◌, ◌<◌}
use mathlib.Core.Path.{◌≡◌, sym, ap, ◌∙◌, subst}
use mathlib.Core.List.{List, ◌++◌}
use native.Mathlib.Omega.{arith}
use lib.ListN.{length, get_or, drop, get_or-append}
use Rattle.basics.specs.Lists.{firsts}
use Rattle.basics.proofs.Lists.{length_firsts, get_d_firsts}
use Rattle.answer.specs.Answer.{told}
use Rattle.answer.specs.Refuse.{NoneHolds}
use Rattle.answer.proofs.Lent.{lent_made}
use Rattle.answer.proofs.Order.{Numbered}
use Rattle.picture.specs.declared.Depth.TheVariants.{OneBit}
use Rattle.picture.specs.Frame.{Frame, picture_bytes}
use Rattle.picture.specs.Bytes.{Picture}
use Rattle.judge.specs.declared.Padding.TheVariants.{Free}
use Rattle.judge.proofs.Admitted.{picture_numbered}
use Rattle.morphology.specs.Operations.{fold}
use Rattle.morphology.specs.Order.{Alike, Bounded}
use Rattle.morphology.proofs.Cells.{fold_same}
use Rattle.sizes.specs.Spectrum.{points, count_at, spectrum, sides}
use Rattle.sizes.proofs.Counts.{counts_sum, spectrum_alike}
use Rattle.spectrum.specs.Calls.{spectrum_room, spectrum_tests}
use Rattle.spectrum.proofs.spectrum.Kinds as size-kinds
use Rattle.spectrum.proofs.spectrum.Reads as size-reads
use Rattle.demands.specs.Demands.{Every, Exactly, Kept}
use Rattle.demands.specs.SizeCalls.{SizeCall, size_call, tests_size, size_frame, size_picture}
use Rattle.demands.proofs.Laws.{exactly_of, kept_of}
use Rattle.demands.proofs.Grow.{packed_bits}

size_numbered : (w h : ℕ) (s : List ℕ) (m n : ℕ) → Numbered (spectrum_tests w h s m n)
size_numbered w h s m n =
    picture_numbered Free OneBit w h s (spectrum_room w h m n) (omega arith, (omega arith, tt))

numbered : (c : SizeCall) → Numbered (tests_size c)
numbered c = size_numbered c.w c.h c.source (length c.counts) (length c.scratch)

pub spectrum_exactly : Every 3 size-kinds.ps size-kinds.r size-reads.Learnt
    (λ κs a r e. let c = size_call κs a e in Exactly (tests_size c) (told r))
spectrum_exactly κs a r e p =
    let c = size_call κs a e in
    exactly_of (tests_size c) (told r) (numbered c) p.0

-- a refusal changes nothing in either
pub spectrum_kept : Every 3 size-kinds.ps size-kinds.r size-reads.Learnt
    (λ κs a r e. let c = size_call κs a e in
    Kept (tests_size c) c.counts c.counted × Kept (tests_size c) c.scratch c.left)
spectrum_kept κs a r e p =
    let c = size_call κs a e in (
      kept_of (tests_size c) _ _ _ (numbered c) p.1.0,
      kept_of (tests_size c) _ _ _ (numbered c) p.1.1,
    )

-- the 32 counts of any picture that has the source's points in the frame, and the further places:
-- what stands in the padding counts for nothing
pub spectrum_counts : Every 3 size-kinds.ps size-kinds.r size-reads.Learnt
    (λ κs a r e. let c = size_call κs a e in NoneHolds (tests_size c)
    → (A : Picture) → Alike (size_frame c) (size_picture c) A
    → c.counted ≡ spectrum (size_frame c) A ++ drop sides c.counts)
spectrum_counts κs a r e p none A same =
    let c = size_call κs a e in
    p.1.0 ∙ lent_made c.counts _ none
    ∙ ap (λ l. l ++ drop sides c.counts) (spectrum_alike (size_frame c) (size_picture c) A same)

-- a count by its side
at_side : (F : Frame) (A : Picture) (rest l : List ℕ) → l ≡ spectrum F A ++ rest → (i : ℕ) → i < sides
    → get_or l i 0 ≡ count_at F A (i + 1)
unfolding spectrum
at_side F A rest l e i h =
    ap (λ l. get_or l i 0) e
    ∙ get_or-append (firsts (λ i. count_at F A (i + 1)) sides) rest 0 i
    (subst (λ n. i < n) (sym (length_firsts (λ i. count_at F A (i + 1)) sides)) h)
    ∙ get_d_firsts (λ i. count_at F A (i + 1)) sides i h

pub spectrum_at : Every 3 size-kinds.ps size-kinds.r size-reads.Learnt
    (λ κs a r e. let c = size_call κs a e in NoneHolds (tests_size c) → (i : ℕ) → i < sides
    → get_or c.counted i 0 ≡ count_at (size_frame c) (size_picture c) (i + 1))
spectrum_at κs a r e p none i h =
    let c = size_call κs a e in
    at_side (size_frame c) (size_picture c) (drop sides c.counts) c.counted
    (spectrum_counts κs a r e p none (size_picture c) (λ q j k. size_picture c q.x q.y)) i h

-- the 32 counts sum to the picture's set points
pub spectrum_sums : Every 3 size-kinds.ps size-kinds.r size-reads.Learnt
    (λ κs a r e. let c = size_call κs a e in NoneHolds (tests_size c)
    → fold ◌+◌ 0 (λ i. get_or c.counted i 0) sides ≡ points (size_frame c) (size_picture c))
spectrum_sums κs a r e p none =
    let c = size_call κs a e in
    fold_same ◌+◌ 0 _ _ sides (λ i l. spectrum_at κs a r e p none i l)
    ∙ counts_sum (size_frame c) (size_picture c) (packed_bits c.source c.w (size_frame c))

-- the two pictures of the scratch are left all 0
pub spectrum_cleared : Every 3 size-kinds.ps size-kinds.r size-reads.Learnt
    (λ κs a r e. let c = size_call κs a e in NoneHolds (tests_size c)
    → (i : ℕ) → i < 2 * picture_bytes OneBit c.w c.h → get_or c.left i 0 ≡ 0)
spectrum_cleared κs a r e p none i h =
    let c = size_call κs a e in
    let n = 2 * picture_bytes OneBit c.w c.h in
    ap (λ l. get_or l i 0) (p.1.1 ∙ lent_made c.scratch _ none)
    ∙ get_or-append (firsts (λ i. 0) n) (drop n c.scratch) 0 i
    (subst (λ m. i < m) (sym (length_firsts (λ i. 0) n)) h)
    ∙ get_d_firsts (λ i. 0) n i h
