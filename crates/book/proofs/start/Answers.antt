-- All bytes of the shares are cleared, then the mark is set: the fresh book.
-- A buffer that is too short is left as it was.
use native.Mathlib.Omega.{arith}
use Rattle.answer.specs.Answer.{told}
use Rattle.book.proofs.Calls.{start_answer_short, start_answer_lem, start_short, start_is}
use Rattle.book.proofs.start.Goals as goal

pub returns-then-book-lt-BOOK : goal.returns-then-book-lt-BOOK
unfolding told
returns-then-book-lt-BOOK c =
    let b = c.args.book.now in record {
      answer = start_answer_short b c.if-book-lt-BOOK.true;
      bytes = start_short b c.if-book-lt-BOOK.true;
    }

pub returns : goal.returns
unfolding told
returns c =
    let b = c.args.book.now in record {
      answer = start_answer_lem b (omega arith);
      bytes = start_is b _ _ (omega arith) (c.fill.ensures.after (λ y q. q)) c.copy_from_slice.ensures.after;
    }
