-- No test of a call has the number 0, which is that of no refusal.
use Prim.Native.Nat.{ℕ}
use mathlib.Core.List.{◌++◌}
use lib.ListN.{length}
use native.Mathlib.Omega.{arith}
use Rattle.answer.proofs.Order.{Numbered}
use Rattle.picture.specs.declared.Depth.TheVariants.{OneBit, EightBit}
use Rattle.element.specs.Descriptor.{well_made, well_weighted, shape_in}
use Rattle.morphology.specs.Overlap.{shared}
use Rattle.judge.specs.declared.Padding.TheVariants.{Free}
use Rattle.judge.specs.Tests.{room_tests}
use Rattle.judge.proofs.Admitted.{picture_numbered, element_numbered}
use Rattle.hit.specs.Hit.{pair_tests}
use Rattle.demands.specs.Calls.{Call, tests}
use Rattle.demands.specs.WeightedCalls.{tests_weighted}
use Rattle.demands.specs.HitCalls.{HitCall, tests_hit}
use Rattle.demands.specs.FileCalls.{ReadCall, tests_read, WriteCall, tests_write}

pub tests_numbered_lem : (c : Call) (room : ℕ) → Numbered (tests c room)
tests_numbered_lem c room =
    element_numbered Free c.depth c.w c.h c.source (well_made c.descriptor) room

pub weighted_tests_numbered : (c : Call) (room : ℕ) → Numbered (tests_weighted c room)
weighted_tests_numbered c room =
    element_numbered Free EightBit c.w c.h c.source (well_weighted c.descriptor) room

pub hit_tests_numbered : (c : HitCall) → Numbered (tests_hit c)
hit_tests_numbered c =
    picture_numbered Free OneBit c.w c.h c.source
    (pair_tests (well_made c.hit) (well_made c.miss) (shared (shape_in c.hit) (shape_in c.miss))
    ++ room_tests OneBit c.w c.h 0 (length c.before))
    (omega arith, (omega arith, (omega arith, (omega arith, tt))))

pub read_tests_numbered : (d : ReadCall) → Numbered (tests_read d)
read_tests_numbered d = (omega arith, (omega arith, (omega arith, (omega arith, (omega arith, tt)))))

pub write_tests_numbered : (c : WriteCall) → Numbered (tests_write c)
write_tests_numbered c = (omega arith, (omega arith, (omega arith, (omega arith, (omega arith, tt)))))
