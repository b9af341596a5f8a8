use Rattle.bitrow.proofs.Row.{made_none, made_more, made_points}
use Rattle.bitrow.proofs.Made.{row_made}
use Rattle.bitrow.specs.Steps.Row.{bit_row}
use mathlib.Core.Path.{refl, ◌∙◌}
use native.Mathlib.Omega.{arith}
use borrow.Author.Rules.{rules}
use Rattle.bitrow.proofs.make_row.Goals as goal

pub loop-r-init : goal.loop-r-init
loop-r-init c =
    let a = c.args in (
      search rules,
      refl,
      made_none a.k a.s.now a.w a.h a.o a.words.now a.y.0 _ _ c.requires.t_len.0
          c.begin.ensures,
    )

pub add_row-requires : goal.add_row-requires
add_row-requires c =
    record {
      ready = c.requires.ready;
      t_len = (
        c.loop-r.invariant.1
            ∙ c.begin.auto.t ∙ c.requires.t_len.0,
        (c.requires.t_len.1, search rules),
      );
    }

pub loop-r-preserved : goal.loop-r-preserved
loop-r-preserved c =
    let a = c.args in
    let l = c.loop-r in
    let r = c.add_row in (
      search rules,
      r.auto.t ∙ l.invariant.1,
      made_more a.k a.s.now a.w a.h a.o a.words.now a.y.0 c.requires.ready.few_wide
          l.r l.t
          (l.invariant.1 ∙ c.begin.auto.t ∙ c.requires.t_len.0) l.invariant.2 _ r.ensures,
    )

pub shape_of-t : goal.shape_of-t
shape_of-t c =
    c.blot.auto.b ∙ c.loop-r.invariant.1
    ∙ c.begin.auto.t

pub returns : goal.returns
unfolding bit_row
returns c =
    let a = c.args in
    let l = c.loop-r in
    row_made _ a.w l.t _ c.requires.ready.some_pings
    (l.invariant.1 ∙ c.begin.auto.t ∙ c.requires.t_len.0)
    (made_points a.k a.s.now a.w a.h a.o a.words.now a.y.0 l.r l.t
    (omega arith) l.invariant.2)
    c.blot.ensures (λ i. let f = c.type_inv.t i in omega arith)
