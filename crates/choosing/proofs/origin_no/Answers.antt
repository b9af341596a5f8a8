-- One case of the definition for each return:
-- the link does not fit, it does not divide the board, or the first origin that suits.
use mathlib.Core.Path.{sym, ap, ◌∙◌}
use mathlib.Core.Bool.{not}
use Rattle.choosing.proofs.Choices.{origin_unfit, origin_bare, origin_whole}
use Rattle.choosing.proofs.origin_no.Goals as goal

pub returns-then-not-fits : goal.returns-then-not-fits
returns-then-not-fits c =
    origin_unfit _ _ _ _ _ _ _ _ c.link_no-link.ensures c.fits.ensures c.if-not-fits.true

pub returns-then-is_some : goal.returns-then-is_some
returns-then-is_some c =
    origin_bare _ _ _ _ _ _ _ _ c.link_no-link.ensures c.fits.ensures _ _
    c.if-not-fits.false c.rest_of-rest.ensures c.first_bare.ensures
    (ap not (sym c.is_some.ensures ∙ c.if-is_some.true))

pub returns : goal.returns
returns c =
    origin_whole _ _ _ _ _ _ _ _ c.link_no-link.ensures c.fits.ensures _ _
    c.if-not-fits.false c.rest_of-rest.ensures
    c.first_bare.ensures _ (ap not (sym c.is_some.ensures ∙ c.if-is_some.false)) c.origin_for.ensures
