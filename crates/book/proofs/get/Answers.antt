-- Stands on find: what is found lies in the buffer, and is what is handed back; what is refused is nothing.
-- The part begins that many bytes after the buffer, as the place says.
use mathlib.Core.Path.{ap}
use Prim.Native.Nat.{ℕ, ◌+◌}
use Rattle.book.proofs.Calls.{found_part, found_nothing}
use borrow.Author.Rules.{rules}
use Rattle.book.proofs.get.Goals as goal

pub overflow_add-result : goal.overflow_add-result
overflow_add-result c = let h = (found_part _ _ _ _ c.find.ensures _ c.in-Ok.is).1 in search rules

pub slice_bounds-result-end : goal.slice_bounds-result-end
slice_bounds-result-end c = (found_part _ _ _ _ c.find.ensures _ c.in-Ok.is).1

pub returns-in-Ok : goal.returns-in-Ok
returns-in-Ok c =
    let s = c.args.book in
    let h = found_part _ _ _ _ c.find.ensures _ c.in-Ok.is in record {
      bytes = h.2;
      place = ap (λ (n : ℕ). (s.ref_ptr.0, n + s.ref_ptr.1)) h.0;
    }

pub returns-in-Err : goal.returns-in-Err
returns-in-Err c =
    let s = c.args.book in
    let h = found_nothing _ _ _ _ c.find.ensures _ c.in-Err.is in record {
      bytes = h.1;
      place = ap (λ (n : ℕ). (s.ref_ptr.0, n)) (h.0 s.ref_ptr.1);
    }
