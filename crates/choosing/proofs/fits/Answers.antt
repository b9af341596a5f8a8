-- One case of the definition for each return.
-- Each test is known from the calls before it.
use mathlib.Core.Bool.{true}
use Rattle.choosing.proofs.Choices.{fits_not, fits_none, fits_single, fits_point, fits_wide}
use Rattle.choosing.proofs.fits.Goals as goal

pub returns-then-not-is_set : goal.returns-then-not-is_set
returns-then-not-is_set c = fits_not _ _ _ _ true c.is_set.ensures c.if-not-is_set.true

pub returns-then-not-is_set-2 : goal.returns-then-not-is_set-2
returns-then-not-is_set-2 c =
    fits_none _ _ _ _ _ c.is_set.ensures c.is_set-2.ensures
    c.if-not-is_set.false c.if-not-is_set-2.true

pub returns-then-single : goal.returns-then-single
returns-then-single c =
    fits_single _ _ _ _ _ c.is_set.ensures c.is_set-2.ensures
    c.if-not-is_set.false
    c.if-not-is_set-2.false c.if-single.true

pub returns-then-j : goal.returns-then-j
returns-then-j c =
    fits_point _ _ _ _ _ c.is_set.ensures c.is_set-2.ensures
    c.if-not-is_set.false
    c.if-not-is_set-2.false c.if-single.false c.if-j.true

pub returns : goal.returns
returns c =
    fits_wide _ _ _ _ _ c.is_set.ensures c.is_set-2.ensures
    c.if-not-is_set.false
    c.if-not-is_set-2.false c.if-single.false c.if-j.false
