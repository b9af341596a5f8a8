-- Stands on share_in and share's own functions: what is not refused is held, within the share.
-- A refusal gives neither place nor length.
use Prim.Native.Nat.{◌+◌, ◌-◌}
use borrow.Rule.Slice.PartMut.{mid_of}
use mathlib.Core.Path.{◌≡◌, sym, ap, ◌∙◌}
use mathlib.Core.Bool.{true}
use native.Mathlib.Omega.{arith}
use Rattle.std.proofs.lemmas.Result.{err_from_is_err_and}
use Rattle.answer.specs.Answer.{told, is_done}
use Rattle.answer.proofs.Variants.{handed_on, ok_done}
use Rattle.share.specs.Maps.{Get}
use Rattle.share.specs.Steps.Moves.{Within}
use Rattle.book.specs.Book.{numbers, share_long, book_answer}
use Rattle.book.proofs.Calls.{part_whole, part_end, call_answer, placed_at, unplaced_told}
use Rattle.book.proofs.Calls.{got_within, found_held, found_refused}
use Rattle.book.proofs.find.Goals as goal
use Rattle.book.proofs.find.Goals.{In_ok-absent_refusal, After-absent_refusal}

-- the share's answer is the book's
said : (c : After-absent_refusal) → told c.absent_refusal.result
    ≡ book_answer c.args.book.now c.args.party (Get c.args.n)
said c =
    call_answer c.args.book.now c.args.party _ c.share_in.ensures _ c.in_ok-at.was (Get c.args.n) _
    c.absent_refusal.ensures

done : (c : In_ok-absent_refusal) → is_done (book_answer c.args.book.now c.args.party (Get c.args.n)) ≡ true
done c =
    sym (ap is_done (said (goal.at.In_ok-absent_refusal c).After-absent_refusal))
    ∙ ok_done _ _ c.in_ok-absent_refusal.was

within : (c : In_ok-absent_refusal) → let at = c.in_ok-at.at in
    Within numbers c.args.n (mid_of at (at + share_long - at) c.args.book.now)
within c =
    got_within c.args.book.now c.args.party c.args.n (done c) _
    (placed_at c.args.book.now c.args.party _ c.share_in.ensures _ c.in_ok-at.was)

pub returns-in_err-at : goal.returns-in_err-at
returns-in_err-at c =
    let a = c.args in
    let h = err_from_is_err_and c.from_residual.result c.from_residual.ensures.1 in
    found_refused a.book.now a.party a.n _ _ h.1
    (unplaced_told a.book.now a.party _ c.share_in.ensures _ c.in_err-at.was _ h (Get a.n))

pub slice_bounds-share-end : goal.slice_bounds-share-end
slice_bounds-share-end c = part_end c.args.book.now c.args.party _ c.share_in.ensures _ c.in_ok-at.was

pub absent_refusal-requires : goal.absent_refusal-requires
absent_refusal-requires c =
    part_whole c.args.book.now c.args.party _ c.share_in.ensures _ c.in_ok-at.was

pub returns-in_err-absent_refusal : goal.returns-in_err-absent_refusal
returns-in_err-absent_refusal c =
    let a = c.args in
    let r = c.from_residual-in_err-absent_refusal in
    let h = err_from_is_err_and r.result r.ensures.1 in
    found_refused a.book.now a.party a.n _ _ h.1
    (handed_on _ _ _ c.in_err-absent_refusal.was h
    ∙ said (goal.at.returns-in_err-absent_refusal c).After-absent_refusal)

pub place_of-requires : goal.place_of-requires
place_of-requires c = within c

pub length_at-length-requires : goal.length_at-length-requires
length_at-length-requires c =
    let w = within (goal.at.length_at-length-requires c).In_ok-absent_refusal in
    omega (arith, w.below, w.fits)

pub returns : goal.returns
unfolding told
returns c =
    let a = c.args in
    let i = (goal.at.returns c).In_ok-absent_refusal in
    found_held a.book.now a.party a.n (done i) _
    (placed_at a.book.now a.party _ c.share_in.ensures _ c.in_ok-at.was)
    (sym (ap told c.in_ok-absent_refusal.was) ∙ said (goal.at.returns c).After-absent_refusal) _
    (ap (λ i. c.in_ok-at.at + i) c.place_of.ensures.0) c.length_at-length.ensures.0
