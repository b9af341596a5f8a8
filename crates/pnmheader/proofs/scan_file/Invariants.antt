-- Invariant: the header has not come to its end, and says what is left to be said from the byte i on.
-- Each byte is one step of the definition; the first that ends the header, or breaks it, is answered at once.
use Rattle.pnmheader.specs.Header.{begun, scan}
use Rattle.pnmheader.proofs.Scans.{Remains}
use Prim.Native.Nat.{◌<◌}
use lib.ListN.{drop}
use Rattle.pnmheader.proofs.scan_file.Given as goal

abbrev pub invariant-loop-i : goal.invariant-loop-i
invariant-loop-i l =
    (l.s.part < l.fn.single) × Remains l.fn.f l.fn.single (scan l.fn.single begun (drop 2 l.fn.f)) l.s l.i
