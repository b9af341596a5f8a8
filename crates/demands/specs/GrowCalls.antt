-- A call of reconstruction, as the prover reads its contract.
use Rattle.std.specs.Prelude.{ℕ, List, length}
use borrow.Fn.Kinds.{Dens, ended_of}
use denote.Triple.Clauses.{AtExit}
use contract.Lifetimes.{Lfts}
use Rattle.answer.specs.Refuse.{Test}
use Rattle.picture.specs.declared.Depth.TheVariants.{OneBit}
use Rattle.picture.specs.Frame.{Frame, frame}
use Rattle.picture.specs.Points.{value_at}
use Rattle.picture.specs.Bytes.{Picture}
use Rattle.grown.specs.declared.Neighbours.{Neighbours}
use Rattle.reconstruct.specs.Reconstruct.{reconstruct_tests}
use Rattle.reconstruct.proofs.reconstruct.Kinds as grow

-- its arguments, and the bytes of its target before and after
pub record GrowCall : Type 0 where
  pub neighbours : Neighbours
  pub w : ℕ
  pub h : ℕ
  pub marker : List ℕ
  pub mask : List ℕ
  pub before : List ℕ
  pub after : List ℕ

abbrev pub grow_call : (κs : Lfts 3) → Dens κs grow.ps → AtExit (ended_of 3 grow.ps grow.r) κs → GrowCall
grow_call κs a e =
    record {
      neighbours = a.0;
      w = a.1.0;
      h = a.1.1.0;
      marker = a.1.1.1.0.now;
      mask = a.1.1.1.1.0.now;
      before = a.1.1.1.1.1.0.now;
      after = e.1.1.1.1.1.0.now;
    }

abbrev pub tests_grow : GrowCall → List Test
tests_grow c = reconstruct_tests c.w c.h c.marker c.mask (length c.before)

-- its frame, and marker, mask and target afterwards as pictures
abbrev pub grow_frame : GrowCall → Frame
grow_frame c = frame c.w c.h

abbrev pub marker_of : GrowCall → Picture
marker_of c = value_at OneBit c.marker c.w

abbrev pub mask_of : GrowCall → Picture
mask_of c = value_at OneBit c.mask c.w

abbrev pub result_of : GrowCall → Picture
result_of c = value_at OneBit c.after c.w
