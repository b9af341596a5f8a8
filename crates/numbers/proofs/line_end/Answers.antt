use Rattle.std.proofs.Common.{◌≡◌, length, ◌∙◌, arith}
use Rattle.numbers.specs.Numbers.{line_end}
use Rattle.numbers.proofs.Reading.{line_ends, line_goes_on, line_last}
use Rattle.numbers.proofs.line_end.Goals as goal

pub returns-then-input-i-eq-LINE_FEED-clause-value : goal.returns-then-input-i-eq-LINE_FEED-clause-value
unfolding line_end
returns-then-input-i-eq-LINE_FEED-clause-value c =
    line_ends c.args.input.now c.loop-i.i c.loop-i-test.true c.if-input-i-eq-LINE_FEED.true
    ∙ c.loop-i.invariant

pub loop-i-preserved : goal.loop-i-preserved
loop-i-preserved c =
    line_goes_on c.args.input.now c.loop-i.i c.loop-i-test.true c.if-input-i-eq-LINE_FEED.false
    ∙ c.loop-i.invariant

pub returns-clause-value : goal.returns-clause-value
unfolding line_end
returns-clause-value c =
    let e : length c.args.input.now ≡ c.loop-i.i = omega arith in
    e ∙ line_last c.args.input.now c.loop-i.i c.loop-i-test.false ∙ c.loop-i.invariant
