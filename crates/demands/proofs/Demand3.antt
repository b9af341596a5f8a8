-- Demand 3: for any well-made element and chain, the check accepts exactly when chained dilation and chained
-- erosion equal the element's own on every picture, at both depths, in every frame within the limits;
-- and when it answers SPLIT dx, dy, that offset is the first, in row order,
-- at which a lone echo, of any strength, in some frame within the limits is dilated differently.
-- Of every answer that the contract of `chain::check_chain` allows.
use Prim.Native.Nat.{ℕ}
use mathlib.Core.Path.{◌≡◌}
use mathlib.Core.Logic.{◌↔◌}
use Rattle.picture.specs.declared.Depth.{Depth}
use Rattle.picture.specs.Frame.{top}
use Rattle.answer.specs.Answer.{told, plain}
use Rattle.element.specs.Shape.{Offset}
use Rattle.element.specs.Descriptor.{shape_in}
use Rattle.chain.specs.Reading.{links_in}
use Rattle.chain.proofs.check_chain.Kinds as kinds
use Rattle.chain.proofs.check_chain.Reads as reads
use Rattle.morphology.specs.Chain.{First}
use Rattle.morphology.specs.Demand.{Same, Differs}
use Rattle.demands.specs.Demands.{Every, ExactlyNumbered}
use Rattle.demands.specs.Chains.{WellMade, Strength, split_at, split_tests}
use Rattle.demands.specs.ChainCalls.{check_call}
use Rattle.demands.proofs.Checks.{done_is_same, split_is_first, split_is_not_same, check_is_exact}

-- each number is given exactly where its test is the first to hold; SPLIT is the last of them
pub check_exactly : Every 2 kinds.ps kinds.r reads.Learnt
    (λ κs a r e. let c = check_call κs a in
    ExactlyNumbered (split_tests c.element c.links c.chain) (told r))
check_exactly κs a r e p = let c = check_call κs a in check_is_exact c.element c.chain c.links r p

-- done exactly when element and chain are well made and do the same
pub check_done : Every 2 kinds.ps kinds.r reads.Learnt
    (λ κs a r e. let c = check_call κs a in
    (told r ≡ plain 0)
    ↔ (WellMade c.element c.links c.chain
    × ((depth : Depth) → Same (top depth) (shape_in c.element) (links_in c.links c.chain))))
check_done κs a r e p = let c = check_call κs a in done_is_same c.element c.chain c.links r p

-- SPLIT at some offset exactly when they are well made and do not do the same
pub check_not_same : Every 2 kinds.ps kinds.r reads.Learnt
    (λ κs a r e. let c = check_call κs a in
    ((o : Offset) × (told r ≡ split_at o))
    ↔ (WellMade c.element c.links c.chain
    × (¬ ((depth : Depth) → Same (top depth) (shape_in c.element) (links_in c.links c.chain)))))
check_not_same κs a r e p = let c = check_call κs a in split_is_not_same c.element c.chain c.links r p

-- and the offset is the first at which a lone echo is dilated differently
pub check_split : Every 2 kinds.ps kinds.r reads.Learnt
    (λ κs a r e. let c = check_call κs a in
    (depth : Depth) (strength : ℕ) → Strength depth strength → (o : Offset)
    → (told r ≡ split_at o)
    ↔ (WellMade c.element c.links c.chain
    × First (Differs strength (shape_in c.element) (links_in c.links c.chain)) o))
check_split κs a r e p = let c = check_call κs a in split_is_first c.element c.chain c.links r p
