-- The candidates are asked in order: what is found first is the definition's first, below the end.
-- Whether a candidate passes is what `accepted` promises.
use mathlib.Core.Path.{◌≡◌}
use mathlib.Core.Bool.{true, false}
use borrow.Author.Rules.{rules}
use Rattle.std.proofs.lemmas.Iterator.{first_from_Range, serves_from_Range}
use Rattle.dividing.proofs.Least.{found_least}
use Rattle.chainfor.specs.Find.{tries, accepts, first_try}
use Rattle.chainfor.proofs.first_try.Goals as goal

pub find-requires : goal.find-requires
find-requires c =
    record {
      can = tt;
      finite = tt;
      callable = serves_from_Range (λ x q k. search rules) (λ x low high. search rules);
    }

pub returns : goal.returns
unfolding first_try
returns c =
    let p = accepts c.args.element.now c.args.hull in
    found_least p 0 tries _
    (first_from_Range _ _ _ _ (λ k. p k ≡ true) (λ k. p k ≡ false) c.find.ensures.ran
    (λ x q k. search rules) (λ x q k. (search rules, search rules)))
