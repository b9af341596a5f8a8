-- The places are asked in order, from the last on: the first that is set is as far back as the definition's.
-- Whether a place is set is what `cell_of` promises; no difference wraps, since the count is at most PLACES.
use Prim.Native.Nat.{ℕ, ◌-◌}
use mathlib.Core.Path.{◌≡◌, ap, ◌∙◌}
use mathlib.Core.Bool.{Bool, true, false}
use native.Mathlib.Omega.{arith}
use borrow.Author.Rules.{rules}
use Rattle.std.proofs.lemmas.Iterator.{first_from_Range, serves_from_Range}
use Rattle.dividing.specs.Board.{cell_of, last_cell}
use Rattle.dividing.specs.Least.{least_from}
use Rattle.dividing.proofs.Least.{found_least, or_end, least_few}
use Rattle.dividing.proofs.last_cell.Goals as goal
use Rattle.dividing.proofs.last_cell.Goals.{After-unwrap_or}

pub find-back-requires : goal.find-back-requires
find-back-requires c =
    record {
      can = tt;
      finite = tt;
      callable = serves_from_Range (λ x q k. search rules) (λ x low high. search rules);
    }

counted : (c : After-unwrap_or)
    → c.unwrap_or.result ≡ least_from (λ (k : ℕ). cell_of c.args.rows.now (8191 - k)) 0 4096
counted c =
    let p : ℕ → Bool = λ k. cell_of c.args.rows.now (8191 - k) in
    c.unwrap_or.ensures
    ∙ or_end 4096 _ c.find-back.result (found_least p 0 4096 c.find-back.result
    (first_from_Range _ _ _ _ (λ k. p k ≡ true) (λ k. p k ≡ false) c.find-back.ensures.ran
    (λ x q k. search rules) (λ x q k. (search rules, search rules)))) (least_few p 4096 0)

pub overflow_sub-result-2 : goal.overflow_sub-result-2
overflow_sub-result-2 c =
    omega (arith, counted c, least_few (λ (k : ℕ). cell_of c.args.rows.now (8191 - k)) 4096 0)

pub returns : goal.returns
unfolding last_cell
returns c = ap (λ n. 8191 - n) (counted c)
