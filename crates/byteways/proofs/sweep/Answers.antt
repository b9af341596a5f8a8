-- A rectangle does what its row words do, the way that was asked for: `as_box`.
-- Any other element, or a single cell, goes its own way.
use Rattle.rectangle.proofs.Boxes.{as_box}
use mathlib.Core.Bool.{true, false}
use mathlib.Core.Path.{sym, ◌∙◌}
use Rattle.byteways.proofs.sweep.Goals as goal

pub returns-then-grows : goal.returns-then-grows
returns-then-grows c =
    let a = c.args in
    as_box a.words.now a.o c.requires.ready.few_wide
    (sym c.is_box.ensures
    ∙ c.if-is_box.true) false a.grows true a.s.now a.t.now _
    a.w a.h c.if-grows.true c.bytes.ensures

pub returns-then-is_box : goal.returns-then-is_box
returns-then-is_box c =
    let a = c.args in
    as_box a.words.now a.o c.requires.ready.few_wide
    (sym c.is_box.ensures
    ∙ c.if-is_box.true) false a.grows false a.s.now a.t.now _
    a.w a.h c.if-grows.false c.bytes-then-is_box.ensures
