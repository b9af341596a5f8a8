use Prim.Native.Nat.{ℕ, ◌+◌}
use lib.ListN.{length, length-set, set, get_or}
use mathlib.Core.Path.{◌≡◌, ap, sym, ◌∙◌}
use mathlib.Core.List.{List}
use native.Mathlib.Omega.{arith}
use native.Mathlib.Numerals.{add-one}
use borrow.Author.Rules.{rules}
use lib.Seq.{paste, paste-zero, paste-suc}
use Rattle.sharework.proofs.copy_in.Goals as goal

pub loop-i-init : goal.loop-i-init
loop-i-init c = (search rules, search rules, paste-zero _ c.args.at c.args.d.now)

pub loop-i-preserved : goal.loop-i-preserved
loop-i-preserved c =
    let a = c.args in
    let l = c.loop-i in (
      omega arith,
      simp length-set l.invariant.1,
      ap (λ (r : List ℕ). set r (a.at + l.i) (get_or a.d.now l.i 0)) l.invariant.2
          ∙ paste-suc a.s.now a.at a.d.now l.i 0 (omega arith) (omega arith)
          ∙ ap (paste a.s.now a.at a.d.now) (sym (add-one l.i)),
    )

pub returns : goal.returns
returns c =
    let a = c.args in
    let e : c.loop-i.i ≡ length a.d.now = omega arith in
    c.loop-i.invariant.2 ∙ ap (paste a.s.now a.at a.d.now) e
