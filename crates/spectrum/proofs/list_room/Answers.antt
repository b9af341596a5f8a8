-- By the arm that was taken.
-- ROOM is number 8.
use borrow.Author.Tests.{lt-ltb, le-ltb}
use mathlib.Core.Path.{sym, ap}
use mathlib.Core.Bool.{cond}
use Rattle.answer.specs.Answer.{told, told_refusal, plain}
use native.Mathlib.Omega.{arith}
use Rattle.spectrum.proofs.list_room.Goals as goal

pub returns-then-n-lt-SIDES : goal.returns-then-n-lt-SIDES
unfolding told told_refusal plain
returns-then-n-lt-SIDES c =
    ap (λ b. cond b (plain 8) (plain 0)) (sym (lt-ltb c.args.n 32 c.if-n-lt-SIDES.true))

pub returns : goal.returns
unfolding told told_refusal plain
returns c =
    ap (λ b. cond b (plain 8) (plain 0)) (sym (le-ltb c.args.n 32 (omega (
      arith,
      c.if-n-lt-SIDES.false,
    ))))
