-- Stands on is_formed, then on judge_body: a formed file has ten bytes, and is judged as its body is.
-- An unformed file is refused by its form.
use Rattle.ech.proofs.Judging.{formed_tells}
use Rattle.ech.proofs.Reading.{formed_judged, unformed}
use Rattle.ech.specs.File.{head_bytes, formed}
use Rattle.basics.proofs.Lists.{tail_is}
use lib.ListN.{length}
use Prim.Native.Nat.{◌≤◌}
use mathlib.Core.Bool.{true}
use mathlib.Core.Path.{◌≡◌, sym, ◌∙◌}
use native.Mathlib.Omega.{arith}
use Rattle.ech.proofs.judge_ech.Goals as goal
use Rattle.ech.proofs.judge_ech.Goals.{Else-not-is_formed}

-- where the file is formed
formed_file : (c : Else-not-is_formed) → formed c.args.file.now ≡ true
formed_file c = sym c.is_formed.ensures ∙ c.if-not-is_formed.false

long : (c : Else-not-is_formed) → head_bytes ≤ length c.args.file.now
long c = (formed_tells _ (formed_file c)).long

pub returns-then-not-is_formed : goal.returns-then-not-is_formed
returns-then-not-is_formed c = unformed _ _ (sym c.is_formed.ensures ∙ c.if-not-is_formed.true)

pub bounds-file-5 : goal.bounds-file-5
bounds-file-5 c = omega (arith, long (goal.at.bounds-file-5 c).Else-not-is_formed)

pub bounds-file-6 : goal.bounds-file-6
bounds-file-6 c = omega (arith, long (goal.at.bounds-file-6 c).Else-not-is_formed)

pub bounds-file-7 : goal.bounds-file-7
bounds-file-7 c = omega (arith, long (goal.at.bounds-file-7 c).Else-not-is_formed)

pub bounds-file-8 : goal.bounds-file-8
bounds-file-8 c = omega (arith, long (goal.at.bounds-file-8 c).Else-not-is_formed)

pub bounds-file-9 : goal.bounds-file-9
bounds-file-9 c = omega (arith, long (goal.at.bounds-file-9 c).Else-not-is_formed)

pub slice_bounds-judge_body-count : goal.slice_bounds-judge_body-count
slice_bounds-judge_body-count c =
    omega (arith, long (goal.at.slice_bounds-judge_body-count c).Else-not-is_formed)

pub slice_bounds-judge_body-start : goal.slice_bounds-judge_body-start
slice_bounds-judge_body-start c =
    omega (arith, long (goal.at.slice_bounds-judge_body-start c).Else-not-is_formed)

pub returns : goal.returns
returns c =
    let a = c.args in
    formed_judged a.file.now a.room (formed_file (goal.at.returns c).Else-not-is_formed) _ _ _ _ _
    c.from-kind.ensures c.two-w.ensures c.two-h.ensures (tail_is a.file.now 10) c.judge_body.ensures
