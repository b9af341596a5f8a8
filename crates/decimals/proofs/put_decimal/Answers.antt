-- Stands on put_bytes: what it puts is the end of the four digits, and so the number in decimal.
-- As many digits are left out as a number of four digits has more.
use Rattle.digits.proofs.Decimals.{last_digits}
use Rattle.digits.specs.Put.{put}
use lib.ListN.{length}
use Prim.Native.Nat.{◌+◌}
use mathlib.Core.Path.{ap, ◌∙◌}
use Rattle.decimals.proofs.put_decimal.Goals as goal

pub returns : goal.returns
returns c =
    let a = c.args in
    let l = last_digits a.n _ _ _ _ _
    c.decimal_len-zeros.ensures.0
    c.digit_of.ensures
    c.digit_of-2.ensures c.digit_of-3.ensures c.digit_of-4.ensures in
    record {
      value = c.put_bytes.ensures.value ∙ ap (λ k. a.at + length k) l;
      t_after = c.put_bytes.ensures.t_after ∙ ap (λ k. put a.at k a.t.now) l;
    }
