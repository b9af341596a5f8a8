-- Stands on share_in and share's remove: the party's share is a part of the bytes that keep the layout.
-- Bytes that break it are left as they were.
use Rattle.std.proofs.lemmas.Result.{err_from_is_err_and}
use Rattle.share.specs.Maps.{Remove}
use Rattle.book.proofs.Calls.{part_whole, part_end, call_answer, call_after, unplaced_told, unplaced_after}
use Rattle.book.proofs.remove.Goals as goal

pub returns-in_err-at : goal.returns-in_err-at
returns-in_err-at c =
    let a = c.args in record {
      answer = unplaced_told a.book.now a.party _ c.share_in.ensures _ c.in_err-at.was _
          (err_from_is_err_and c.from_residual.result c.from_residual.ensures.1) (Remove a.n);
      bytes = unplaced_after a.book.now a.party _ c.share_in.ensures _ c.in_err-at.was (Remove a.n);
    }

pub slice_bounds-remove-end : goal.slice_bounds-remove-end
slice_bounds-remove-end c = part_end c.args.book.now c.args.party _ c.share_in.ensures _ c.in_ok-at.was

pub remove-requires : goal.remove-requires
remove-requires c = part_whole c.args.book.now c.args.party _ c.share_in.ensures _ c.in_ok-at.was

pub returns : goal.returns
returns c =
    let a = c.args in record {
      answer = call_answer a.book.now a.party _ c.share_in.ensures _ c.in_ok-at.was (Remove a.n)
          _ c.remove.ensures.answer;
      bytes = call_after a.book.now a.party _ c.share_in.ensures _ c.in_ok-at.was (Remove a.n)
          _ c.remove.ensures.bytes;
    }
