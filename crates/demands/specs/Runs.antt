-- Demand 3 of chained runs: the last picture is the element's own.
use Rattle.std.specs.Prelude.{◌≡◌}
use borrow.Fn.Kinds.{Out}
use Rattle.picture.specs.Bytes.{Picture}
use Rattle.chained.proofs.erode.Kinds as run
use Rattle.finder.proofs.last_picture.Kinds as find-kinds
use Rattle.finder.proofs.last_picture.Reads as find
use Rattle.demands.specs.Demands.{Every, Shows}
use Rattle.demands.specs.RunCalls.{RunCall, run_call, tests_run, FindCall, find_call}

-- the search is in the two buffers as the run left them, with its depth, size and number of links
pub record Searched (c : RunCall) (f : FindCall) : Type 0 where
  pub first : f.first ≡ c.first_after
  pub second : f.second ≡ c.second_after
  pub depth : f.depth ≡ c.depth
  pub pings : f.w ≡ c.w
  pub bins : f.h ≡ c.h
  pub links : f.links ≡ c.links

-- of a run that is allowed, and a search in what it left: where nothing is refused,
-- the bytes that are handed back show this picture at each point of the frame
abbrev pub RunThenFound : Out 5 run.ps run.r → (RunCall → Picture) → Type 0
RunThenFound Allowed result =
    Every 5 run.ps run.r Allowed (λ κs a r e.
    Every 1 find-kinds.ps find-kinds.r find.Learnt (λ κs' a' part e'.
    let c = run_call κs a e in
    Searched c (find_call κs' a')
    → Shows (tests_run c) c.depth c.w c.h part.now (result c)))
