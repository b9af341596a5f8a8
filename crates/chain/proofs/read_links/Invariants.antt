-- Invariant: link i begins at `at`, the refusals from there on are those of the chain,
-- and the links so far are the first i of the chain's. What falls: the links that are left.
use Prim.Native.Nat.{◌≤◌}
use Rattle.chain.proofs.Reading.{Onward}
use Rattle.chain.proofs.read_links.Given as goal

abbrev pub invariant-loop-i : goal.invariant-loop-i
invariant-loop-i l = (l.i ≤ l.k) × Onward l.d l.k l.all l.i l.at
