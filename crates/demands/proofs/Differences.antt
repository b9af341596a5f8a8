-- Demands 1 and 2 of the top-hats and the gradient.
-- Their tests are opening's; what they write is, at each point, what the definition has there.
use Prim.Native.Nat.{ℕ, ◌-◌, ◌≤◌, min}
use mathlib.Core.Bool.{true, false}
use lib.ListN.{length}
use native.Mathlib.Omega.{arith}
use Rattle.answer.specs.Answer.{told}
use Rattle.answer.proofs.Order.{Numbered}
use Rattle.picture.specs.Frame.{top}
use Rattle.morphology.specs.Operations.{erode, dilate}
use Rattle.morphology.specs.TopHats.{white_top_hat, black_top_hat, gradient}
use Rattle.apply.proofs.Twice.{bit_value, once_one, twice_one}
use Rattle.differences.proofs.white_tophat.Kinds as white-kinds
use Rattle.differences.proofs.white_tophat.Reads as white-reads
use Rattle.differences.proofs.black_tophat.Kinds as black-kinds
use Rattle.differences.proofs.black_tophat.Reads as black-reads
use Rattle.differences.proofs.gradient.Kinds as gradient-kinds
use Rattle.differences.proofs.gradient.Reads as gradient-reads
use Rattle.demands.specs.Demands.{Every, Exactly, Kept, Shows}
use Rattle.demands.proofs.Laws.{exactly_of, kept_of, shows_of}
use Rattle.demands.specs.Calls.{Twice, within, picture, element, twice, tests_twice}
use Rattle.demands.proofs.Numbered.{tests_numbered_lem}

-- of one bit, what is left of 0 or 1 is 0 or 1
less_one : (m n : ℕ) → m ≤ 1 → m - n ≤ 1
less_one m n h = omega arith

pub tests_numbered : (c : Twice) → Numbered (tests_twice c)
tests_numbered c = tests_numbered_lem c.to_target (min (length c.to_target.before) (length c.before))

pub white_tophat_exactly : Every 4 white-kinds.ps white-kinds.r white-reads.Learnt
    (λ κs a r e. let c = twice κs a e in Exactly (tests_twice c) (told r))
white_tophat_exactly κs a r e p =
    let c = twice κs a e in exactly_of (tests_twice c) (told r) (tests_numbered c) p.0

pub white_tophat_kept : Every 4 white-kinds.ps white-kinds.r white-reads.Learnt
    (λ κs a r e. let c = twice κs a e in Kept (tests_twice c) c.to_target.before c.to_target.after)
white_tophat_kept κs a r e p =
    let c = twice κs a e in kept_of (tests_twice c) _ _ _ (tests_numbered c) p.1.0

pub white_tophat_kept_scratch : Every 4 white-kinds.ps white-kinds.r white-reads.Learnt
    (λ κs a r e. let c = twice κs a e in Kept (tests_twice c) c.before c.after)
white_tophat_kept_scratch κs a r e p =
    let c = twice κs a e in kept_of (tests_twice c) _ _ _ (tests_numbered c) p.1.1

pub white_tophat_shows : Every 4 white-kinds.ps white-kinds.r white-reads.Learnt
    (λ κs a r e. let c = (twice κs a e).to_target in
    Shows (tests_twice (twice κs a e)) c.depth c.w c.h c.after
    (white_top_hat (top c.depth) (within c) (element c) (picture c)))
white_tophat_shows κs a r e p =
    let c = (twice κs a e).to_target in
    shows_of (tests_twice (twice κs a e)) c.depth _ c.w c.h _ _
    (λ o x y lx ly. less_one _ _ (bit_value c.depth o c.source c.w x y)) p.1.0

-- the scratch shows the middle picture
pub white_tophat_shows_middle : Every 4 white-kinds.ps white-kinds.r white-reads.Learnt
    (λ κs a r e. let c = (twice κs a e).to_target in
    Shows (tests_twice (twice κs a e)) c.depth c.w c.h (twice κs a e).after
    (erode (top c.depth) (within c) (element c) (picture c)))
white_tophat_shows_middle κs a r e p =
    let c = (twice κs a e).to_target in
    shows_of (tests_twice (twice κs a e)) c.depth _ c.w c.h _ _
    (λ o. once_one c.depth c.w c.h (element c) c.source o false) p.1.1

pub black_tophat_exactly : Every 4 black-kinds.ps black-kinds.r black-reads.Learnt
    (λ κs a r e. let c = twice κs a e in Exactly (tests_twice c) (told r))
black_tophat_exactly κs a r e p =
    let c = twice κs a e in exactly_of (tests_twice c) (told r) (tests_numbered c) p.0

pub black_tophat_kept : Every 4 black-kinds.ps black-kinds.r black-reads.Learnt
    (λ κs a r e. let c = twice κs a e in Kept (tests_twice c) c.to_target.before c.to_target.after)
black_tophat_kept κs a r e p =
    let c = twice κs a e in kept_of (tests_twice c) _ _ _ (tests_numbered c) p.1.0

pub black_tophat_kept_scratch : Every 4 black-kinds.ps black-kinds.r black-reads.Learnt
    (λ κs a r e. let c = twice κs a e in Kept (tests_twice c) c.before c.after)
black_tophat_kept_scratch κs a r e p =
    let c = twice κs a e in kept_of (tests_twice c) _ _ _ (tests_numbered c) p.1.1

pub black_tophat_shows : Every 4 black-kinds.ps black-kinds.r black-reads.Learnt
    (λ κs a r e. let c = (twice κs a e).to_target in
    Shows (tests_twice (twice κs a e)) c.depth c.w c.h c.after
    (black_top_hat (top c.depth) (within c) (element c) (picture c)))
black_tophat_shows κs a r e p =
    let c = (twice κs a e).to_target in
    shows_of (tests_twice (twice κs a e)) c.depth _ c.w c.h _ _
    (λ o x y lx ly. less_one _ _
    (twice_one c.depth c.w c.h (element c) c.source o true false x y lx ly)) p.1.0

-- the scratch shows the middle picture
pub black_tophat_shows_middle : Every 4 black-kinds.ps black-kinds.r black-reads.Learnt
    (λ κs a r e. let c = (twice κs a e).to_target in
    Shows (tests_twice (twice κs a e)) c.depth c.w c.h (twice κs a e).after
    (dilate (within c) (element c) (picture c)))
black_tophat_shows_middle κs a r e p =
    let c = (twice κs a e).to_target in
    shows_of (tests_twice (twice κs a e)) c.depth _ c.w c.h _ _
    (λ o. once_one c.depth c.w c.h (element c) c.source o true) p.1.1

pub gradient_exactly : Every 4 gradient-kinds.ps gradient-kinds.r gradient-reads.Learnt
    (λ κs a r e. let c = twice κs a e in Exactly (tests_twice c) (told r))
gradient_exactly κs a r e p =
    let c = twice κs a e in exactly_of (tests_twice c) (told r) (tests_numbered c) p.0

pub gradient_kept : Every 4 gradient-kinds.ps gradient-kinds.r gradient-reads.Learnt
    (λ κs a r e. let c = twice κs a e in Kept (tests_twice c) c.to_target.before c.to_target.after)
gradient_kept κs a r e p =
    let c = twice κs a e in kept_of (tests_twice c) _ _ _ (tests_numbered c) p.1.0

pub gradient_kept_scratch : Every 4 gradient-kinds.ps gradient-kinds.r gradient-reads.Learnt
    (λ κs a r e. let c = twice κs a e in Kept (tests_twice c) c.before c.after)
gradient_kept_scratch κs a r e p =
    let c = twice κs a e in kept_of (tests_twice c) _ _ _ (tests_numbered c) p.1.1

pub gradient_shows : Every 4 gradient-kinds.ps gradient-kinds.r gradient-reads.Learnt
    (λ κs a r e. let c = (twice κs a e).to_target in
    Shows (tests_twice (twice κs a e)) c.depth c.w c.h c.after
    (gradient (top c.depth) (within c) (element c) (picture c)))
gradient_shows κs a r e p =
    let c = (twice κs a e).to_target in
    shows_of (tests_twice (twice κs a e)) c.depth _ c.w c.h _ _
    (λ o x y lx ly. less_one _ _
    (once_one c.depth c.w c.h (element c) c.source o true x y lx ly)) p.1.0

-- the scratch shows the middle picture
pub gradient_shows_middle : Every 4 gradient-kinds.ps gradient-kinds.r gradient-reads.Learnt
    (λ κs a r e. let c = (twice κs a e).to_target in
    Shows (tests_twice (twice κs a e)) c.depth c.w c.h (twice κs a e).after
    (erode (top c.depth) (within c) (element c) (picture c)))
gradient_shows_middle κs a r e p =
    let c = (twice κs a e).to_target in
    shows_of (tests_twice (twice κs a e)) c.depth _ c.w c.h _ _
    (λ o. once_one c.depth c.w c.h (element c) c.source o false) p.1.1
