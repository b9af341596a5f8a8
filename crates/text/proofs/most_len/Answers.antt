-- Stands on the length of the first line: twelve letters and three numbers.
-- H lines of at most 4,096 do not wrap.
use Rattle.text.proofs.Longest.{lines_fit, most_is}
use Rattle.picture.specs.Frame.{most_bins}
use Prim.Native.Nat.{◌*◌, ◌≤◌}
use native.Mathlib.Omega.{arith}
use Rattle.text.proofs.most_len.Goals as goal
use Rattle.text.proofs.most_len.Goals.{After-most_line}

few : (c : After-most_line) → c.args.h * c.most_line.result ≤ most_bins * 4096
few c = lines_fit _ _ c.most_line.ensures.1 c.requires.1

pub overflow_mul-n : goal.overflow_mul-n
overflow_mul-n c = omega (arith, few c)

pub overflow_add-result-4 : goal.overflow_add-result-4
overflow_add-result-4 c = omega (arith, few (goal.at.overflow_add-result-4 c).After-most_line)

pub returns : goal.returns
returns c =
    let a = c.args in
    most_is a.depth a.w a.h a.kind _ _ _ _ c.decimal_len.ensures.0
    c.decimal_len-2.ensures.0
    c.decimal_len-3.ensures.0 c.most_line.ensures.0
