-- The cells are asked in order: what is found first is the definition's first, below the end.
-- Whether a cell suits is what `suits` promises.
use mathlib.Core.Path.{◌≡◌}
use mathlib.Core.Bool.{true, false}
use borrow.Author.Rules.{rules}
use Rattle.std.proofs.lemmas.Iterator.{first_from_Range, serves_from_Range}
use Rattle.dividing.proofs.Least.{found_least}
use Rattle.choosing.specs.Link.{suits, origin_for}
use Rattle.choosing.proofs.origin_for.Goals as goal

pub find-requires : goal.find-requires
find-requires c =
    record {
      can = tt;
      finite = tt;
      callable = serves_from_Range (λ x q k. search rules) (λ x low high. search rules);
    }

pub returns : goal.returns
unfolding origin_for
returns c =
    let a = c.args in
    let p = suits a.rows.now a.column a.row a.link a.a a.rest.now in
    found_least p 0 64 _
    (first_from_Range _ _ _ _ (λ k. p k ≡ true) (λ k. p k ≡ false) c.find.ensures.ran
    (λ x q k. search rules) (λ x q k. (search rules, search rules)))
