-- The places are asked in order: what is found first is the definition's first, and PLACES where none is.
-- Whether a place is set is what `cell_of` promises.
use mathlib.Core.Path.{◌≡◌, ◌∙◌}
use mathlib.Core.Bool.{true, false}
use native.Mathlib.Omega.{arith}
use borrow.Author.Rules.{rules}
use Rattle.std.proofs.lemmas.Iterator.{first_from_Range, serves_from_Range}
use Rattle.dividing.specs.Board.{cell_of, first_cell}
use Rattle.dividing.proofs.Least.{found_least, or_end, least_few}
use Rattle.dividing.proofs.first_cell.Goals as goal

pub find-requires : goal.find-requires
find-requires c =
    record {
      can = tt;
      finite = tt;
      callable = serves_from_Range (λ x q k. search rules) (λ x low high. search rules);
    }

pub returns : goal.returns
unfolding first_cell
returns c =
    let p = cell_of c.args.rows.now in
    let n = least_few p 4096 0 in
    let e = c.unwrap_or.ensures
    ∙ or_end 4096 _ c.find.result (found_least p 0 4096 c.find.result
    (first_from_Range _ _ _ _ (λ k. p k ≡ true) (λ k. p k ≡ false) c.find.ensures.ran
    (λ x q k. search rules) (λ x q k. (search rules, search rules)))) n in
    (e, omega (arith, e, n))
