-- Two halves of four bytes make the word: `halves_made`.
-- Near the end `few` reads it byte by byte.
use native.Mathlib.Omega.{arith}
use Rattle.words.proofs.Points.{halves_made}
use Rattle.words.proofs.word_at.Goals as goal

pub returns-then-at-s : goal.returns-then-at-s
returns-then-at-s c =
    halves_made c.args.s.now (λ i. let f = c.type_inv.s i in
    omega arith) c.args.at _ _
    c.four.ensures c.four-then-at-s.ensures
