-- A call of a weighted operation, which is of 8 bits, as the prover reads the contracts of crate weighted.
use Rattle.std.specs.Prelude.{ℕ, List, length}
use borrow.Fn.Kinds.{Dens, ended_of}
use denote.Triple.Clauses.{AtExit}
use contract.Lifetimes.{Lfts}
use Rattle.answer.specs.Refuse.{Test}
use Rattle.picture.specs.declared.Depth.TheVariants.{EightBit}
use Rattle.element.specs.Shape.{Shape}
use Rattle.element.specs.Descriptor.{weighted_in}
use Rattle.weighted.specs.Weighted.{weighted_tests}
use Rattle.weighted.proofs.erode.Kinds as one
use Rattle.weighted.proofs.open.Kinds as two
use Rattle.demands.specs.Calls.{Call, Twice, room_twice}

abbrev pub weighted_element : Call → Shape
weighted_element c = weighted_in c.descriptor

-- of erosion and dilation
abbrev pub weighted_call : (κs : Lfts 3) → Dens κs one.ps → AtExit (ended_of 3 one.ps one.r) κs → Call
weighted_call κs a e =
    record {
      depth = EightBit;
      w = a.0;
      h = a.1.0;
      source = a.1.1.0.now;
      descriptor = a.1.1.1.0.now;
      before = a.1.1.1.1.0.now;
      after = e.1.1.1.1.0.now;
    }

-- of opening and closing
abbrev pub weighted_twice : (κs : Lfts 4) → Dens κs two.ps → AtExit (ended_of 4 two.ps two.r) κs → Twice
weighted_twice κs a e =
    record {
      to_target = record {
        depth = EightBit;
        w = a.0;
        h = a.1.0;
        source = a.1.1.0.now;
        descriptor = a.1.1.1.0.now;
        before = a.1.1.1.1.0.now;
        after = e.1.1.1.1.0.now;
      };
      before = a.1.1.1.1.1.0.now;
      after = e.1.1.1.1.1.0.now;
    }

-- the tests, given the length of the shortest buffer
abbrev pub tests_weighted : Call → ℕ → List Test
tests_weighted c room = weighted_tests c.w c.h c.source c.descriptor room

abbrev pub weighted_once : Call → List Test
weighted_once c = tests_weighted c (length c.before)

abbrev pub weighted_both : Twice → List Test
weighted_both c = tests_weighted c.to_target (room_twice c)
