-- The row, as the first bytes of a block, which is joined as a row of its own: `short_joined`.
-- Past it nothing is put.
use Rattle.rooms.proofs.Row.{row_at, short_joined}
use Rattle.rooms.proofs.Lanes.{joined_all}
use Rattle.rooms.specs.Steps.Lanes.{row_joined}
use Rattle.blocks.proofs.Laid.{length_laid, laid_whole}
use Rattle.blocks.specs.Steps.Laid.{laid}
use Rattle.basics.specs.Lists.{firsts}
use Rattle.basics.proofs.Lists.{firsts_same}
use lib.ListN.{length, get_or, replicate, length-replicate}
use Prim.Native.Nat.{ℕ, ◌+◌}
use mathlib.Core.List.{List}
use mathlib.Core.Path.{◌≡◌, ap, ◌∙◌}
use native.Mathlib.Omega.{arith}
use Rattle.rooms.proofs.join_short.Goals as goal

-- the room is one block
block_long : (n : ℕ) (f : ℕ → ℕ) (c : List ℕ) → c ≡ laid 0 n f (replicate 64 0) → length c ≡ 64
block_long n f c e = ap length e ∙ length_laid 0 n f (replicate 64 0) ∙ length-replicate {A = ℕ} 64 0

-- and joined as a row it is joined byte by byte
block_joined : (F : ℕ → ℕ → ℕ) (c e : List ℕ) → length c ≡ 64 → e ≡ laid 0 (length c) (row_at F c) c
    → e ≡ firsts (λ m. F (get_or c m 0) (0 + m)) 64
block_joined F c e long eq =
    laid_whole 64 (row_at F c) c e long (eq ∙ ap (λ n. laid 0 n (row_at F c) c) long)
    ∙ firsts_same _ _ 64 (λ m h. ap (F (get_or c m 0)) (none m))
  where
    none : (m : ℕ) → m ≡ 0 + m
    none m = omega arith

pub join_blocks-requires : goal.join_blocks-requires
join_blocks-requires g c =
    let long = block_long _ _ _ c.some_at-a.ensures in
    record {
      in_bounds = omega (arith, long);
      reached = λ j h. omega (arith, c.requires.reached j h, long);
    }

pub returns : goal.returns
unfolding row_joined
returns g c =
    let a = c.args in
    let F = joined_all g.L.Lane.way a.grows a.b.now a.at.now in
    let made = c.some_at-a in
    short_joined F a.t.now made.result _ _ c.requires.t_len_bound made.ensures
    (block_joined F made.result _ (block_long _ _ _ made.ensures)
    c.join_blocks.ensures)
    c.put_some.ensures
