-- Both descriptors are well made, by what is required, so that both elements are within their limits.
-- They share an offset as the descriptors' own elements do: `overlap_is`.
use Rattle.hit.proofs.Pairs.{whole, small_outline, overlap_is}
use native.Mathlib.Omega.{arith}
use Rattle.hit.proofs.is_shared.Goals as goal

pub outline_at-first-requires : goal.outline_at-first-requires
outline_at-first-requires c = c.requires.hit_value

pub rows_at-hits-requires : goal.rows_at-hits-requires
rows_at-hits-requires c = c.requires.hit_value

pub outline_at-second-requires : goal.outline_at-second-requires
outline_at-second-requires c = c.requires.miss_value

pub rows_at-misses-requires : goal.rows_at-misses-requires
rows_at-misses-requires c = c.requires.miss_value

pub offset_shared-requires : goal.offset_shared-requires
offset_shared-requires c =
    record {
      w_le_most_cells = small_outline c.args.hit.now c.requires.hit_value _
          (whole _ _ _ c.outline_at-first.ensures c.rows_at-hits.ensures);
      w_le_most_cells_2 = small_outline c.args.miss.now c.requires.miss_value _
          (whole _ _ _ c.outline_at-second.ensures c.rows_at-misses.ensures);
    }

pub returns : goal.returns
returns c =
    overlap_is c.args.hit.now c.args.miss.now
    (λ i. let l = c.type_inv.hit i in omega arith)
    (λ i. let l = c.type_inv.miss i in omega arith)
    c.requires.hit_value c.requires.miss_value _ _
    (whole _ _ _ c.outline_at-first.ensures c.rows_at-hits.ensures)
    (whole _ _ _ c.outline_at-second.ensures c.rows_at-misses.ensures)
    _ c.offset_shared.ensures
