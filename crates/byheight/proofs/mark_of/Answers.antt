-- A row that was sure is; one that was looked at is what the look says: `sure_is`.
-- No other is marked.
use Rattle.freeblocks.proofs.Blocks.{sure_is}
use mathlib.Core.Path.{sym, ◌∙◌}
use Rattle.byheight.proofs.mark_of.Goals as goal

pub returns-then-sure : goal.returns-then-sure
returns-then-sure c = λ e. c.requires c.if-sure.true

pub returns-then-is_sure : goal.returns-then-is_sure
returns-then-is_sure c =
    let a = c.args in
    λ e. sure_is a.grows a.t.now (sym c.is_sure.ensures ∙ c.if-is_sure.true)
