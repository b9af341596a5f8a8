-- A call by one element, as the prover reads the contracts of crates flat and differences:
-- its arguments, and its buffers before and after, by name.
use Rattle.std.specs.Prelude.{ℕ, min, List, length}
use borrow.Fn.Kinds.{Dens, ended_of}
use denote.Triple.Clauses.{AtExit}
use contract.Lifetimes.{Lfts}
use Rattle.answer.specs.Refuse.{Test}
use Rattle.picture.specs.declared.Depth.{Depth}
use Rattle.picture.specs.Frame.{Frame, frame}
use Rattle.picture.specs.Points.{value_at}
use Rattle.picture.specs.Bytes.{Picture}
use Rattle.element.specs.Shape.{Shape}
use Rattle.element.specs.Descriptor.{shape_in}
use Rattle.flat.specs.Flat.{flat_tests}
use Rattle.flat.proofs.erode.Kinds as one
use Rattle.flat.proofs.open.Kinds as two

-- the arguments, and the bytes of the target before and after
pub record Call : Type 0 where
  pub depth : Depth
  pub w : ℕ
  pub h : ℕ
  pub source : List ℕ
  pub descriptor : List ℕ
  pub before : List ℕ
  pub after : List ℕ

abbrev pub within : Call → Frame
within c = frame c.w c.h

abbrev pub picture : Call → Picture
picture c = value_at c.depth c.source c.w

abbrev pub element : Call → Shape
element c = shape_in c.descriptor

-- its tests, given the length of the shortest buffer
abbrev pub tests : Call → ℕ → List Test
tests c room = flat_tests c.depth c.w c.h c.source c.descriptor room

-- of erosion and dilation
abbrev pub call : (κs : Lfts 3) → Dens κs one.ps → AtExit (ended_of 3 one.ps one.r) κs → Call
call κs a e =
    record {
      depth = a.0;
      w = a.1.0;
      h = a.1.1.0;
      source = a.1.1.1.0.now;
      descriptor = a.1.1.1.1.0.now;
      before = a.1.1.1.1.1.0.now;
      after = e.1.1.1.1.1.0.now;
    }

abbrev pub tests_once : Call → List Test
tests_once c = tests c (length c.before)

-- of opening, closing, top-hats and gradient, and their scratch before and after
pub record Twice : Type 0 where
  pub to_target : Call
  pub before : List ℕ
  pub after : List ℕ

abbrev pub twice : (κs : Lfts 4) → Dens κs two.ps → AtExit (ended_of 4 two.ps two.r) κs → Twice
twice κs a e =
    record {
      to_target = record {
        depth = a.0;
        w = a.1.0;
        h = a.1.1.0;
        source = a.1.1.1.0.now;
        descriptor = a.1.1.1.1.0.now;
        before = a.1.1.1.1.1.0.now;
        after = e.1.1.1.1.1.0.now;
      };
      before = a.1.1.1.1.1.1.0.now;
      after = e.1.1.1.1.1.1.0.now;
    }

-- the shorter of the two buffers
abbrev pub room_twice : Twice → ℕ
room_twice c = min (length c.to_target.before) (length c.before)

abbrev pub tests_twice : Twice → List Test
tests_twice c = tests c.to_target (room_twice c)
