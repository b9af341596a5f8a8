-- Stands on share_in and share's put: the party's share is a part of the bytes that keep the layout.
-- Bytes that break it are left as they were.
use Rattle.std.proofs.lemmas.Result.{err_from_is_err_and}
use Rattle.share.specs.Maps.{Put}
use Rattle.book.proofs.Calls.{part_whole, part_end, call_answer, call_after, unplaced_told, unplaced_after}
use Rattle.book.proofs.put.Goals as goal

pub returns-in_err-at : goal.returns-in_err-at
returns-in_err-at c =
    let a = c.args in record {
      answer = unplaced_told a.book.now a.party _ c.share_in.ensures _ c.in_err-at.was _
          (err_from_is_err_and c.from_residual.result c.from_residual.ensures.1) (Put a.n a.d.now);
      bytes = unplaced_after a.book.now a.party _ c.share_in.ensures _ c.in_err-at.was (Put a.n a.d.now);
    }

pub slice_bounds-put-end : goal.slice_bounds-put-end
slice_bounds-put-end c = part_end c.args.book.now c.args.party _ c.share_in.ensures _ c.in_ok-at.was

pub put-requires : goal.put-requires
put-requires c = part_whole c.args.book.now c.args.party _ c.share_in.ensures _ c.in_ok-at.was

pub returns : goal.returns
returns c =
    let a = c.args in record {
      answer = call_answer a.book.now a.party _ c.share_in.ensures _ c.in_ok-at.was (Put a.n a.d.now)
          _ c.put.ensures.answer;
      bytes = call_after a.book.now a.party _ c.share_in.ensures _ c.in_ok-at.was (Put a.n a.d.now)
          _ c.put.ensures.bytes;
    }
