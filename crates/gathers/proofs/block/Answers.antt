use Rattle.rooms.proofs.Blocks.{places_at, places_more, places_length}
use Rattle.gathers.proofs.Gathered.{block_first, block_all}
use Prim.Native.Nat.{◌+◌}
use mathlib.Core.Path.{◌≡◌, refl, ap, ◌∙◌}
use native.Mathlib.Omega.{arith}
use borrow.Author.Rules.{rules}
use lib.ListN.{length}
use Rattle.gathers.proofs.block.Goals as goal

pub overflow_add-i : goal.overflow_add-i
overflow_add-i c =
    omega (
      arith,
      c.requires.reached 0 c.requires.at_nonzero,
    )

pub block_at-acc-requires : goal.block_at-acc-requires
block_at-acc-requires c =
    omega (
      arith,
      c.requires.reached 0 c.requires.at_nonzero,
    )

pub loop-j-init : goal.loop-j-init
loop-j-init c =
    let a = c.args in (
      omega arith,
      (
        search rules,
        (
          search rules,
          block_first a.grows a.s.now a.at.now c.block_at-acc.result a.i _
              refl c.block_at-acc.ensures (search rules),
        ),
      ),
    )

pub overflow_add-i-in-loop-j : goal.overflow_add-i-in-loop-j
overflow_add-i-in-loop-j c =
    omega (
      arith,
      c.requires.reached c.loop-j.j (omega arith),
    )

pub join_block-next-requires : goal.join_block-next-requires
join_block-next-requires c =
    omega (
      arith,
      c.requires.reached c.loop-j.j (omega arith),
    )

pub loop-j-preserved : goal.loop-j-preserved
loop-j-preserved c =
    let l = c.loop-j in
    let a = c.args in
    let e = places_more a.grows c.block_at-acc.result a.s.now a.i a.at.now l.acc
    c.join_block-next.result _ l.j l.invariant.1.1.1 refl c.join_block-next.ensures in (
      omega arith,
      (
        search rules,
        (
          places_length a.grows c.block_at-acc.result a.s.now a.i a.at.now _ (l.j + 1) e,
          e,
        ),
      ),
    )

pub returns : goal.returns
returns c =
    let a = c.args in
    let e : c.loop-j.j ≡ length a.at.now = omega arith in
    block_all a.grows a.s.now a.at.now c.block_at-acc.result a.i _
    refl c.block_at-acc.ensures _
    (c.loop-j.invariant.1.1.1
    ∙ ap (places_at a.grows c.block_at-acc.result a.s.now a.i a.at.now) e)
