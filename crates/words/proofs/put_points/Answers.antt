-- Stands on `cut`, and on `lay_eight` where there are 8 bytes, else on `lay`.
-- Both lay the same bytes.
use Rattle.words.specs.Steps.Words.{byte_of}
use Rattle.blocks.specs.Steps.Laid.{laid}
use mathlib.Core.Path.{sym, ap, ap₂, ◌∙◌}
use Prim.Native.Nat.{◌-◌}
use Rattle.words.proofs.put_points.Goals as goal

pub returns-then-end-from-eq8 : goal.returns-then-end-from-eq8
returns-then-end-from-eq8 c =
    let a = c.args in
    let r = c.cut-r.ensures in record {
      bytes = c.lay_eight.ensures
          ∙ ap₂ (λ n v. laid a.from n (byte_of v) a.t.now) (sym c.if-end-from-eq8.true) r.0;
      known = r.1;
    }

pub returns : goal.returns
returns c =
    let a = c.args in
    let r = c.cut-r.ensures in record {
      bytes = c.lay.ensures ∙ ap (λ v. laid a.from (a.end - a.from) (byte_of v) a.t.now) r.0;
      known = r.1;
    }
