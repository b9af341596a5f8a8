-- One case of the definition for each return.
-- Each quarter is known from the calls before it.
use mathlib.Core.Bool.{true}
use Rattle.choosing.proofs.Choices.{suits_not, suits_second, suits_third, suits_last}
use Rattle.choosing.proofs.suits.Goals as goal

pub returns-then-not-quarter_suits : goal.returns-then-not-quarter_suits
returns-then-not-quarter_suits c =
    suits_not _ _ _ _ _ _ _ _ true true c.quarter_suits.ensures
    c.if-not-quarter_suits.true

pub returns-then-not-quarter_suits-2 : goal.returns-then-not-quarter_suits-2
returns-then-not-quarter_suits-2 c =
    suits_second _ _ _ _ _ _ _ _ _ true c.quarter_suits.ensures c.quarter_suits-2.ensures
    c.if-not-quarter_suits.false
    c.if-not-quarter_suits-2.true

pub returns-then-not-quarter_suits-3 : goal.returns-then-not-quarter_suits-3
returns-then-not-quarter_suits-3 c =
    suits_third _ _ _ _ _ _ _ _ _ _ c.quarter_suits.ensures c.quarter_suits-2.ensures
    c.if-not-quarter_suits.false c.quarter_suits-3.ensures
    c.if-not-quarter_suits-2.false
    c.if-not-quarter_suits-3.true

pub returns : goal.returns
returns c =
    suits_last _ _ _ _ _ _ _ _ _ _ c.quarter_suits.ensures c.quarter_suits-2.ensures
    c.if-not-quarter_suits.false c.quarter_suits-3.ensures
    c.if-not-quarter_suits-2.false _
    c.if-not-quarter_suits-3.false c.quarter_suits-4.ensures
