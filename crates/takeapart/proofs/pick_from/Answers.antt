-- The links are asked in order: what is found first is the definition's first, below the end.
-- Whether a link divides is what `divides` promises.
use Prim.Native.Nat.{ℕ, ◌-◌}
use mathlib.Core.Path.{◌≡◌, ap₂, ◌∙◌}
use mathlib.Core.Bool.{Bool, true, false}
use lib.Dec.{ltb}
use borrow.Author.Rules.{rules}
use Rattle.std.proofs.lemmas.Iterator.{first_from_Range, serves_from_Range}
use Rattle.dividing.specs.Least.{least_from, below}
use Rattle.dividing.proofs.Least.{found_least}
use Rattle.choosing.specs.Link.{origin_no}
use Rattle.takeapart.specs.Walk.{pick_from}
use Rattle.takeapart.proofs.pick_from.Goals as goal

pub find-requires : goal.find-requires
find-requires c =
    record {
      can = tt;
      finite = tt;
      callable = serves_from_Range (λ x q k. search rules) (λ x low high y e. c.first_cell-first.ensures.1);
    }

pub returns : goal.returns
unfolding pick_from
returns c =
    let b = c.args.b in
    let p : ℕ → ℕ → ℕ → Bool = λ first last j. ltb (origin_no b.rows b.column b.row first last j) 64 in
    let o = p c.first_cell-first.result c.last_cell-last.result in
    found_least o c.args.from 512 _
    (first_from_Range _ _ _ _ (λ k. o k ≡ true) (λ k. o k ≡ false) c.find.ensures.ran
    (λ x q k. search rules) (λ x q k. (search rules, search rules)))
    ∙ ap₂ (λ first last. below 512 (least_from (p first last) c.args.from (512 - c.args.from)))
    c.first_cell-first.ensures.0 c.last_cell-last.ensures
