use Rattle.sourceparts.proofs.Part.{part_source}
use mathlib.Core.Path.{refl, ◌∙◌}
use native.Mathlib.Omega.{arith}
use borrow.Author.Rules.{rules}
use Rattle.bysource.proofs.spread.Goals as goal

pub loop-r-init : goal.loop-r-init
loop-r-init g c = (search rules, refl, c.requires.part_of)

pub add_row-requires : goal.add_row-requires
add_row-requires g c =
    let l = c.loop-r in record {
      ready = c.requires.ready;
      t_len = (
        l.invariant.1
            ∙ c.requires.t_len.0,
        (c.requires.t_len.1.0, (search rules, c.requires.t_len.1.1)),
      );
      rooms_of = c.requires.rooms_of;
      part_of = l.invariant.2;
    }

pub loop-r-preserved : goal.loop-r-preserved
loop-r-preserved g c =
    let l = c.loop-r in
    let r = c.add_row in
    (search rules, r.auto.t ∙ l.invariant.1, r.ensures)

pub shape_of-t : goal.shape_of-t
shape_of-t g c = c.loop-r.invariant.1

pub returns : goal.returns
returns g c =
    let a = c.args in
    let l = c.loop-r in
    part_source a.grows _ _ a.w a.h a.o a.words.now a.k a.v.0 l.r _
    (omega arith) l.invariant.2
