use Rattle.byterow.proofs.Row.{bytes_none, bytes_more, bytes_all}
use mathlib.Core.Path.{refl, ◌∙◌}
use native.Mathlib.Omega.{arith}
use borrow.Author.Rules.{rules}
use Rattle.byterow.proofs.make_row.Goals as goal

pub loop-r-init : goal.loop-r-init
loop-r-init c =
    let a = c.args in (
      search rules,
      refl,
      bytes_none a.grows a.s.now a.w a.h a.o
          a.words.now a.heights.now a.y.0 _ _ c.requires.t_len.0
          c.begin.ensures,
    )

pub add_row-requires : goal.add_row-requires
add_row-requires c =
    record {
      ready = c.requires.ready;
      t_len = (
        c.loop-r.invariant.1
            ∙ c.begin.auto.t ∙ c.requires.t_len.0,
        (c.requires.t_len.1, search rules),
      );
    }

pub loop-r-preserved : goal.loop-r-preserved
loop-r-preserved c =
    let a = c.args in
    let l = c.loop-r in
    let r = c.add_row in (
      search rules,
      r.auto.t ∙ l.invariant.1,
      bytes_more a.grows a.s.now a.w a.h a.o
          a.words.now a.heights.now a.y.0 l.r _ _ l.invariant.2
          r.ensures,
    )

pub returns : goal.returns
returns c =
    let a = c.args in
    bytes_all a.grows a.s.now a.w a.h a.o a.words.now a.heights.now a.y.0 _ _
    c.loop-r.invariant.2 (omega arith)
