-- Nothing is written before all is judged: a refusal returns with the list as it was.
-- Where nothing is refused (`known`) there are few regions and places for them, and `list_all` does the rest.
use Prim.Native.Nat.{◌+◌, ◌*◌, ◌≤◌}
use mathlib.Core.Path.{◌≡◌, sym, ap, ◌∙◌}
use native.Mathlib.Omega.{arith}
use lib.ListN.{length}
use Rattle.answer.specs.Answer.{told, plain, is_done}
use Rattle.answer.specs.Refuse.{refuse}
use Rattle.answer.proofs.Lent.{kept_by, made_by_lem}
use Rattle.answer.proofs.Variants.{err_undone, ok_done, handed_on}
use Rattle.std.proofs.lemmas.Result.{err_from_is_err_and}
use Rattle.regions.specs.Limits.{most_regions}
use Rattle.regions.specs.Listing.{regions_of}
use Rattle.regions.proofs.Counts.{inner_le}
use Rattle.nesting.specs.Nesting.{region_tests}
use Rattle.nesting.specs.Steps.Tree.{at}
use Rattle.nesting.proofs.Refused.{roomy, back_refused, back_done}
use Rattle.nesting.proofs.Whole.{regions_count}
use Rattle.nesting.proofs.list_labels.Goals as goal
use Rattle.nesting.proofs.list_labels.Goals.{After-inner_regions-k, After-region_refusal}
use Rattle.nesting.proofs.list_labels.Goals.{In_ok-region_refusal}

-- the regions are as many as there are
few : (c : After-inner_regions-k) → c.inner_regions-k.result + 1 ≤ 65536
few c = omega (
  arith,
  c.inner_regions-k.ensures,
  inner_le (at c.args.labels.now) c.args.n,
  c.requires.few_points,
)

as_many : (c : After-inner_regions-k) → let a = c.args in
    c.inner_regions-k.result + 1 ≡ regions_of (at a.labels.now) a.n
as_many c = regions_count _ _ _ c.inner_regions-k.ensures

-- where nothing is refused
known : (c : In_ok-region_refusal) → let k = c.inner_regions-k.result + 1 in
    (k ≤ most_regions) × (2 * k ≤ length c.args.list.now)
known c = roomy (c.inner_regions-k.result + 1)
    (length c.args.list.now)
    (ap is_done (sym c.region_refusal.ensures) ∙ ok_done _ _ c.in_ok-region_refusal.was)

-- the answer, of as many regions as there are
answered : (c : After-region_refusal) → let a = c.args in
    told c.region_refusal.result
    ≡ refuse (region_tests (regions_of (at a.labels.now) a.n) (length a.list.now)) (plain 0)
answered c = c.region_refusal.ensures
    ∙ ap (λ k. refuse (region_tests k (length c.args.list.now)) (plain 0))
    (as_many (goal.at.After-region_refusal c).After-inner_regions-k)

pub overflow_add-k : goal.overflow_add-k
overflow_add-k c = omega (arith, few c)

pub region_refusal-requires : goal.region_refusal-requires
region_refusal-requires c = few c

pub list_all-requires : goal.list_all-requires
list_all-requires c =
    record {
      labelled = c.requires;
      k_value = c.inner_regions-k.ensures;
      k_bound = known (goal.at.list_all-requires c).In_ok-region_refusal;
    }

pub overflow_add-result : goal.overflow_add-result
overflow_add-result c = omega (arith, (known (goal.at.overflow_add-result c).In_ok-region_refusal).0)

pub overflow_cast-result : goal.overflow_cast-result
overflow_cast-result c =
    omega (arith, (known (goal.at.overflow_cast-result c).In_ok-region_refusal).0)

pub returns : goal.returns
returns c =
    let g = goal.at.returns c in
    let w = c.in_ok-region_refusal.was in
    let e = answered g.After-region_refusal in
    record {
      given_back = back_done _ _ _ _ _ w e (as_many g.After-inner_regions-k);
      list_after = made_by_lem c.args.list.now _ _ _ e _ (ok_done _ _ w) c.list_all.ensures;
    }

pub returns-in_err-region_refusal : goal.returns-in_err-region_refusal
returns-in_err-region_refusal c =
    let g = goal.at.returns-in_err-region_refusal c in
    let w = c.in_err-region_refusal.was in
    let e = answered g.After-region_refusal in
    let p = err_from_is_err_and c.from_residual.result c.from_residual.ensures.1 in
    record {
      given_back = back_refused _ _ _ _ p.1 (handed_on _ _ _ w p ∙ e);
      list_after = kept_by c.args.list.now _ _ _ e (err_undone _ _ w);
    }
