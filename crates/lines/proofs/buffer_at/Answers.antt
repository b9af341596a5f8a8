use Rattle.std.proofs.Common.{◌≡◌, ◌∙◌, arith, rules}
use lib.ListN.{length-set}
use Rattle.basics.proofs.Lists.{over_none, over_more}
use Rattle.lines.specs.Buffers.{byte_of}
use Rattle.lines.proofs.Reading.{last_none, last_more, byte_is, read_is, filled_is}
use Rattle.lines.proofs.buffer_at.Goals as goal

pub loop-i-init : goal.loop-i-init
loop-i-init c = (search rules, (search rules, (over_none _ _, last_none _ _ _)))

pub loop-i-preserved : goal.loop-i-preserved
loop-i-preserved c =
    let line = c.args.line.now in
    let next = last_more line _ _ c.loop-i.i c.loop-i.last _
    c.loop-i.invariant.1.1.1 c.last_with-last.ensures in (
      search rules,
      (
        length-set c.loop-i.b c.loop-i.i _ ∙ c.loop-i.invariant.1.0,
        (
          over_more (byte_of line _ _) c.args.b.now c.loop-i.b c.loop-i.i _
              (omega arith) c.loop-i.invariant.1.1.0
              (byte_is line _ _ c.loop-i.i _ next),
          next,
        ),
      ),
    )

pub returns-clause-read : goal.returns-clause-read
returns-clause-read c =
    let all : c.loop-i.i ≡ c.lesser-k.result = omega arith in
    read_is c.args.line.now c.args.at c.args.b.now c.number_at-n.result
    c.number_at-m.result c.lesser-k.result c.number_at-n.ensures
    c.number_at-m.ensures c.lesser-k.ensures c.loop-i.i all
    c.loop-i.last c.loop-i.invariant.1.1.1

pub returns-clause-bytes : goal.returns-clause-bytes
returns-clause-bytes c =
    let all : c.loop-i.i ≡ c.lesser-k.result = omega arith in
    filled_is c.args.line.now c.args.at c.args.b.now c.number_at-n.result
    c.number_at-m.result c.lesser-k.result c.number_at-n.ensures
    c.number_at-m.ensures c.lesser-k.ensures c.loop-i.i all
    c.loop-i.b c.loop-i.invariant.1.1.0
