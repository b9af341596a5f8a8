-- A call of the size spectrum, as the prover reads its contract.
use Rattle.std.specs.Prelude.{ℕ, List, length}
use borrow.Fn.Kinds.{Dens, ended_of}
use denote.Triple.Clauses.{AtExit}
use contract.Lifetimes.{Lfts}
use Rattle.answer.specs.Refuse.{Test}
use Rattle.picture.specs.declared.Depth.TheVariants.{OneBit}
use Rattle.picture.specs.Frame.{Frame, frame}
use Rattle.picture.specs.Points.{value_at}
use Rattle.picture.specs.Bytes.{Picture}
use Rattle.spectrum.specs.Calls.{spectrum_tests}
use Rattle.spectrum.proofs.spectrum.Kinds as size

-- its arguments, and its list and its scratch before and after
pub record SizeCall : Type 0 where
  pub w : ℕ
  pub h : ℕ
  pub source : List ℕ
  pub counts : List ℕ
  pub counted : List ℕ
  pub scratch : List ℕ
  pub left : List ℕ

abbrev pub size_call : (κs : Lfts 3) → Dens κs size.ps → AtExit (ended_of 3 size.ps size.r) κs → SizeCall
size_call κs a e =
    record {
      w = a.0;
      h = a.1.0;
      source = a.1.1.0.now;
      counts = a.1.1.1.0.now;
      counted = e.1.1.1.0.now;
      scratch = a.1.1.1.1.0.now;
      left = e.1.1.1.1.0.now;
    }

abbrev pub tests_size : SizeCall → List Test
tests_size c = spectrum_tests c.w c.h c.source (length c.counts) (length c.scratch)

-- its frame, and its source as a picture
abbrev pub size_frame : SizeCall → Frame
size_frame c = frame c.w c.h

abbrev pub size_picture : SizeCall → Picture
size_picture c = value_at OneBit c.source c.w
