-- Stands on tell and put_refused: ROOM prints nothing,
-- and neither does a text with no room for the longest line.
-- Every number has at most two digits, so that the longest line holds each.
use Rattle.work.proofs.Lines.{says_room, says_short, says_line, line_fits}
use Rattle.work.proofs.say.Goals as goal

pub returns-then-number-eq8 : goal.returns-then-number-eq8
returns-then-number-eq8 c =
    let a = c.args in
    let p = says_room a.no a.text.now _ c.tell-t.ensures c.if-number-eq8.true in
    record { value = p.0; text_after = p.1 }

pub returns-then-text-lt-MOST_REFUSED : goal.returns-then-text-lt-MOST_REFUSED
returns-then-text-lt-MOST_REFUSED c =
    let a = c.args in
    let p = says_short a.no a.text.now _ c.tell-t.ensures
    c.if-number-eq8.false c.if-text-lt-MOST_REFUSED.true in
    record { value = p.0; text_after = p.1 }

pub put_refused-requires : goal.put_refused-requires
put_refused-requires c =
    let a = c.args in
    line_fits a.no a.text.now _ c.tell-t.ensures
    c.if-text-lt-MOST_REFUSED.false

pub returns : goal.returns
returns c =
    let a = c.args in
    let p = says_line a.no
    a.text.now _ c.tell-t.ensures
    c.if-number-eq8.false c.if-text-lt-MOST_REFUSED.false _ _
    c.put_refused.ensures.value c.put_refused.ensures.t_after in
    record { value = p.0; text_after = p.1 }
