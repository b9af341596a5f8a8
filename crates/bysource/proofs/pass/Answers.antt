use Rattle.sourceparts.proofs.Part.{part_kind, part_none}
use Rattle.strokes.proofs.RowKinds.{lacks_none}
use mathlib.Core.Path.{refl, sym, ◌∙◌}
use native.Mathlib.Omega.{arith}
use borrow.Author.Rules.{rules}
use Rattle.bysource.proofs.pass.Goals as goal

pub returns-then-lacks_kind : goal.returns-then-lacks_kind
returns-then-lacks_kind g c =
    let a = c.args in
    part_none a.grows _ _ a.w a.h a.o a.words.now a.k _
    (lacks_none a.o a.words.now a.k (sym c.lacks_kind.ensures ∙ c.if-lacks_kind.true))
    c.requires.part_of

pub loop-v-init : goal.loop-v-init
loop-v-init g c = (search rules, refl, c.requires.part_of)

pub source_row-requires : goal.source_row-requires
source_row-requires g c =
    let l = c.loop-v in
    record {
      rooms = c.requires.rooms;
      ready = c.requires.ready;
      t_len = (l.invariant.1 ∙ c.requires.t_len.0, (search rules, c.requires.t_len.1));
      part_of = l.invariant.2;
    }

pub loop-v-preserved : goal.loop-v-preserved
loop-v-preserved g c =
    let l = c.loop-v in
    let r = c.source_row in
    (search rules, r.auto.t ∙ l.invariant.1, r.ensures)

pub shape_of-t : goal.shape_of-t
shape_of-t g c = c.loop-v.invariant.1

pub returns : goal.returns
returns g c =
    let a = c.args in
    let l = c.loop-v in
    part_kind a.grows _ _ a.w a.h a.o a.words.now a.k l.v _ (omega arith)
    l.invariant.2
