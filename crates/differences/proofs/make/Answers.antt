-- The middle picture goes to the scratch, the other to the target, and then the difference is made there.
-- A picture that was written reads back at each point: it is the definitions' difference, `less_read`.
use Rattle.differences.proofs.Made.{itself, less_read, once_read, twice_read, made_found}
use Rattle.differences.specs.declared.Which.TheVariants.{White, Black, Gradient}
use Rattle.element.specs.Record.{shape_by}
use mathlib.Core.Bool.{true, false}
use Rattle.differences.proofs.make.Goals as goal

pub returns-in-White-clause-bytes : goal.returns-in-White-clause-bytes
returns-in-White-clause-bytes g c =
    let a = c.args in
    let D = g.D.Deep.DEPTH in
    let B = shape_by a.o a.words.now in
    let u = c.twice.ensures.bytes in
    made_found a.which White c.in-White.is D a.w a.h B _ a.target.now _
    (less_read D a.w a.h _ _ _ a.source.now _ a.target.now _ _
    (itself D a.w a.h a.source.now) (twice_read D a.w a.h B a.source.now false _ a.target.now u)
    u (rw c.DEPTH.ensures at c.subtract.ensures))

pub returns-in-Black-clause-bytes : goal.returns-in-Black-clause-bytes
returns-in-Black-clause-bytes g c =
    let a = c.args in
    let D = g.D.Deep.DEPTH in
    let B = shape_by a.o a.words.now in
    let u = c.twice-in-Black.ensures.bytes in
    made_found a.which Black c.in-Black.is D a.w a.h B _ a.target.now _
    (less_read D a.w a.h _ _ _ _ a.source.now a.target.now _ _
    (twice_read D a.w a.h B a.source.now true _ a.target.now u) (itself D a.w a.h a.source.now)
    u (rw c.DEPTH-in-Black.ensures at c.subtract-in-Black.ensures))

pub returns-in-Gradient-clause-bytes : goal.returns-in-Gradient-clause-bytes
returns-in-Gradient-clause-bytes g c =
    let a = c.args in
    let D = g.D.Deep.DEPTH in
    let B = shape_by a.o a.words.now in
    let u = c.flat-in-Gradient.ensures in
    made_found a.which Gradient c.in-Gradient.is D a.w a.h B _ a.target.now _
    (less_read D a.w a.h _ _ _ _ _ a.target.now _ _
    (once_read D a.w a.h B a.source.now true _ a.target.now u)
    (once_read D a.w a.h B a.source.now false _ a.scratch.now c.flat.ensures)
    u (rw c.DEPTH-in-Gradient.ensures at c.subtract-in-Gradient.ensures))
