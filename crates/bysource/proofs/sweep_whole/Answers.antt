-- It starts from 0 or 255 alone; then come the rows of single cells, and the runs.
-- What is then done is all, and the padding goes to 0: `rows_all`.
use Rattle.bysource.proofs.Joined.{rows_start, rows_all}
use Rattle.picture.specs.Frame.{Holds}
use Rattle.picture.specs.Points.{value_at}
use Rattle.picture.specs.Bytes.{written}
use lib.ListN.{length}
use mathlib.Core.Path.{sym, ap, subst, ◌∙◌}
use native.Mathlib.Omega.{arith}
use Rattle.bysource.proofs.sweep_whole.Goals as goal

pub pass_kinds-requires : goal.pass_kinds-requires
pass_kinds-requires g c =
    let a = c.args in
    let b = c.begin in record {
      rooms = c.requires.rooms;
      ready = c.requires.ready;
      t_len = b.auto.t ∙ c.requires.t_len;
      part_of = rows_start g.D.Scan.depth a.grows a.s.now a.w a.h a.o a.words.now _ _ c.requires.t_len
          b.ensures;
    }

pub clear_padding-requires : goal.clear_padding-requires
clear_padding-requires g c =
    let b = c.begin in
    let q = c.pass_kinds in
    let long = q.auto.t ∙ b.auto.t ∙ c.requires.t_len in
    subst (λ d. Holds d (length q.new.t) c.args.w c.args.h) (sym c.depth.ensures)
    (record {
      some_pings = c.requires.ready.some_pings;
      few_pings = c.requires.ready.few_pings;
      few_bins = c.requires.ready.few_bins;
      long = omega (arith, long);
    })

pub returns : goal.returns
returns g c =
    let a = c.args in
    let b = c.begin in
    let q = c.pass_kinds in
    rows_all g.D.Scan.depth a.grows a.s.now a.w a.h a.o a.words.now q.new.t _
    (λ i. let f = c.type_inv.s i in omega arith)
    (λ i. let f = c.slice_known-3-1.given i in omega arith) q.ensures
    (q.auto.t ∙ b.auto.t ∙ c.requires.t_len)
    (c.clear_padding.ensures
    ∙ ap (λ d. written d (value_at d q.new.t a.w) a.w a.h q.new.t) c.depth.ensures)
