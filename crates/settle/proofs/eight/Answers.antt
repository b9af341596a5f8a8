-- Eight bytes in pairs, pairs in pairs, and the two fours in one: each byte is a digit of the word.
-- p, q, r, s are the places of the four pairs of bytes.
use Rattle.settle.proofs.Loops.{eight_is}
use Rattle.settle.proofs.eight.Goals as goal

pub returns : goal.returns
returns c =
    let a = c.args in
    eight_is a.s.now a.at _ _ _ _ _ _ _ _ _ _ _ _ _ _ _ (
      c.from.ensures,
      c.from-2.ensures,
      c.from-3.ensures,
      c.from-4.ensures,
    ) (
      c.from-5.ensures,
      c.from-6.ensures,
      c.from-7.ensures,
      c.from-8.ensures,
    )
    (c.pair-a.ensures.0, c.pair-b.ensures.0, c.pair-c.ensures.0, c.pair-d.ensures.0)
    (c.pair.ensures.0, c.pair-2.ensures.0, c.pair-3.ensures.0)
