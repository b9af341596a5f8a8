use Rattle.std.proofs.Common.{◌≡◌, ◌+◌, drop, ap, ◌∙◌, arith}
use Rattle.numbers.specs.Numbers.{number_in, number_at}
use Rattle.numbers.proofs.Reading.{number_ends, number_goes_on, number_last}
use Rattle.numbers.proofs.number_at.Goals as goal

pub returns-then-b-lt-FIRST_DIGIT : goal.returns-then-b-lt-FIRST_DIGIT
unfolding number_at
returns-then-b-lt-FIRST_DIGIT c =
    number_ends c.args.line.now c.loop-i.v c.loop-i.i c.loop-i-test.true c.if-b-lt-FIRST_DIGIT.true
    ∙ c.loop-i.invariant.0

pub loop-i-preserved : goal.loop-i-preserved
loop-i-preserved c =
    let line = c.args.line.now in
    let i = c.loop-i.i in (
      ap (λ v. number_in (drop (i + 1) line) v (i + 1)) c.with_digit-v.ensures
          ∙ number_goes_on line c.loop-i.v i c.loop-i-test.true c.if-b-lt-FIRST_DIGIT.false
          ∙ c.loop-i.invariant.0,
      omega arith,
    )

pub returns : goal.returns
unfolding number_at
returns c =
    let e : c.max.result ≡ c.loop-i.i = omega (arith, c.max.ensures) in
    ap (λ n. record { value = c.loop-i.v; next = n }) e
    ∙ number_last c.args.line.now c.loop-i.v c.loop-i.i c.loop-i-test.false
    ∙ c.loop-i.invariant.0
