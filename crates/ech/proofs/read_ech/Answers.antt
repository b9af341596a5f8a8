-- Stands on judge_ech, then on the copy, by the face of the file's own byte: such a file holds its picture.
-- A refusal writes nothing.
use Rattle.ech.proofs.Reading.{back_refused, file_long, source_held, target_held, read_done, read_refused}
use Rattle.ech.specs.File.{head_bytes, face_of}
use Rattle.basics.proofs.Lists.{tail_is}
use lib.ListN.{length}
use Prim.Native.Nat.{◌≤◌}
use mathlib.Core.Path.{refl, ap, ◌∙◌}
use native.Mathlib.Omega.{arith}
use Rattle.answer.proofs.Variants.{handed_on}
use Rattle.std.proofs.lemmas.Result.{err_from_is_err_and}
use Rattle.ech.proofs.read_ech.Goals as goal
use Rattle.ech.proofs.read_ech.Goals.{In_ok-head}

-- an accepted file has its ten bytes
long : (c : In_ok-head) → head_bytes ≤ length c.args.file.now
long c = file_long _ c.args.target.now _ _ c.in_ok-head.ensures

pub returns-in_err-head : goal.returns-in_err-head
returns-in_err-head c =
    let a = c.args in
    let w = c.in_err-head.was in
    let p = err_from_is_err_and c.from_residual.result c.from_residual.ensures.1 in
    let e = handed_on c.judge_ech.result c.from_residual.result _ w p ∙ c.judge_ech.ensures.answer in
    record {
      given_back = back_refused _ _ _ _ _ p.0 p.1 e;
      target_after = read_refused a.file.now a.target.now _ _ _ w c.judge_ech.ensures.answer refl;
    }

pub bounds-file-5 : goal.bounds-file-5
bounds-file-5 c = omega (arith, long (goal.at.bounds-file-5 c).In_ok-head)

pub slice_bounds-copy_picture-count : goal.slice_bounds-copy_picture-count
slice_bounds-copy_picture-count c = omega (arith, long (goal.at.slice_bounds-copy_picture-count c).In_ok-head)

pub slice_bounds-copy_picture-start : goal.slice_bounds-copy_picture-start
slice_bounds-copy_picture-start c = omega (arith, long (goal.at.slice_bounds-copy_picture-start c).In_ok-head)

pub copy_picture-requires : goal.copy_picture-requires
copy_picture-requires c =
    let a = c.args in
    let g = c.in_ok-head.ensures in
    let d = c.depth_of-depth.ensures in record {
      holds = source_held a.file.now a.target.now _ _ g _ _ d (tail_is a.file.now 10);
      holds_2 = target_held a.file.now a.target.now _ _ g _ d;
    }

pub returns : goal.returns
returns c =
    let a = c.args in
    let g = c.in_ok-head.ensures in
    record {
      given_back = g;
      target_after = read_done a.file.now a.target.now _ _ g refl _ _ _ _ c.depth_of-depth.ensures
          (c.face_of-face.ensures ∙ ap face_of c.from.ensures)
          (tail_is a.file.now 10) c.copy_picture.ensures;
    }
