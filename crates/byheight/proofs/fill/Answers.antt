-- The row goes between what counts beyond the frame:
-- `row_padded` says so of the list.
use Rattle.blocks.specs.Steps.Laid.{laid}
use Rattle.rows.specs.Steps.Fold.{start_by}
use Rattle.packedline.specs.Steps.Padded.{faced_byte}
use Rattle.heightsigns.proofs.Line.{row_padded}
use lib.ListN.{length, get_or, length-replicate}
use Prim.Native.Nat.{ℕ}
use mathlib.Core.Bool.{false}
use mathlib.Core.Path.{◌≡◌, ap, ◌∙◌}
use native.Mathlib.Omega.{arith}
use Rattle.byheight.proofs.fill.Goals as goal
use Rattle.byheight.proofs.fill.Goals.{Start}

long : (s : Start) → length s.args.b.now ≡ 1152
long s = ap length s.requires.b_value ∙ length-replicate {A = ℕ} 1152 (start_by s.args.grows 255)

pub copy_over-requires : goal.copy_over-requires
copy_over-requires c =
    omega (
      arith,
      long c.before.before.before.before,
      c.requires.s_len_bound,
    )

pub returns : goal.returns
returns c =
    let a = c.args in
    let p = c.copy_over in
    row_padded a.grows a.s.now p.new.b c.requires.s_len_bound
    (p.ensures ∙ ap (laid 64 (length a.s.now) (λ i. faced_byte false (get_or a.s.now i 0)))
    c.requires.b_value)
