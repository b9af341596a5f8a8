-- The first n bytes of the block are copied over a part of t as long.
-- All else of t stays.
use Rattle.basics.proofs.Lists.{part_length}
use Rattle.blocks.proofs.Laid.{laid_part}
use lib.ListN.{get_or}
use lib.Seq.{get_or-take}
use mathlib.Core.Path.{ap, ◌∙◌}
use native.Mathlib.Omega.{arith}
use Rattle.blocks.proofs.put_some.Goals as goal

pub returns : goal.returns
returns c =
    let a = c.args in
    let e = c.copy_from_slice.ensures in
    laid_part a.at a.n _ (λ i. get_or a.c i 0) a.t.now _ (omega arith) c.requires.1
    (e.len ∙ part_length a.t.now a.at a.n c.requires.1)
    (λ i h. ap (λ l. get_or l i 0) e.after ∙ get_or-take a.n a.c i 0 h)
