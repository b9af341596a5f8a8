use Prim.Native.Nat.{ℕ, ◌+◌, ◌<◌}
use mathlib.Core.Path.{◌≡◌}
use mathlib.Core.List.{List}
use native.Mathlib.Omega.{arith}
use lib.ListN.{length, get_or, take}
use lib.Seq.{length-take-le}
use Rattle.morphology.specs.Chain.{most_links}
use Rattle.reach.specs.declared.Link.{Link}
use Rattle.reach.specs.declared.Bounds.{Bounds}
use Rattle.reach.specs.Steps.Links.{empty_link, Linked}
use Rattle.reach.specs.Steps.Boards.{Small}
use Rattle.reach.proofs.Loops.{Rest, rest_start, rest_more, rest_all, rest_small, narrow_here}
use Rattle.board.proofs.reach.Goals as goal

module _ (links : List Link) (k : ℕ) (m : Bounds) (long : length links ≡ most_links) (l : Linked links k)
    (words : List ℕ) (column row i : ℕ) (more : i < k) (r : Rest m (take k links) words column row i) where
  -- the origins so far, with that of link i
  little : let o = (get_or links i empty_link).outline.origin in
      Small (record { column = column + o.ping.0; row = row + o.bin.0 })
  little = rest_small links k i (omega (arith, l.few)) more m words words column row r l.small l.few

pub loop-i-init : goal.loop-i-init
loop-i-init c = (omega arith, rest_start _ _ _ c.start-words.ensures)

pub overflow_cast-column : goal.overflow_cast-column
overflow_cast-column c =
    let l = c.loop-i in
    let z = little c.args.links c.args.k c.args.m (omega arith) c.requires.linked l.words l.column l.row l.i
    c.loop-i-test.true l.invariant.1 in omega arith

pub overflow_add-column : goal.overflow_add-column
overflow_add-column c =
    let l = c.loop-i in
    let z = little c.args.links c.args.k c.args.m (omega arith) c.requires.linked l.words l.column l.row l.i
    c.loop-i-test.true l.invariant.1 in omega arith

pub overflow_cast-row : goal.overflow_cast-row
overflow_cast-row c =
    let l = c.loop-i in
    let z = little c.args.links c.args.k c.args.m (omega arith) c.requires.linked l.words l.column l.row l.i
    c.loop-i-test.true l.invariant.1 in omega arith

pub overflow_add-row : goal.overflow_add-row
overflow_add-row c =
    let l = c.loop-i in
    let z = little c.args.links c.args.k c.args.m (omega arith) c.requires.linked l.words l.column l.row l.i
    c.loop-i-test.true l.invariant.1 in omega arith

pub onward-words-requires : goal.onward-words-requires
onward-words-requires c =
    let l = c.loop-i in
    let z = little c.args.links c.args.k c.args.m (omega arith) c.requires.linked l.words l.column l.row l.i
    c.loop-i-test.true l.invariant.1 in
    record {
      w_le_most_cells =
          narrow_here c.args.links c.args.k l.i (omega arith) c.loop-i-test.true c.requires.linked.small;
      in_bytes = c.requires.in_bytes;
      small = z;
    }

pub loop-i-preserved : goal.loop-i-preserved
loop-i-preserved c =
    let l = c.loop-i in (
      omega arith,
      rest_more c.args.links c.args.k l.i (omega arith) c.loop-i-test.true c.args.m l.words
          c.onward-words.result l.column l.row l.invariant.1 c.onward-words.ensures,
    )

pub returns : goal.returns
returns c =
    let l = c.loop-i in
    rest_all c.args.m (take c.args.k c.args.links) l.words l.column l.row l.i l.invariant.1
    (omega (arith, length-take-le c.args.k c.args.links (omega arith)))
