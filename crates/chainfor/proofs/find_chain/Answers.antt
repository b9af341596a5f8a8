-- The tests in the order of the refusals, each settled by the call before it.
-- Where all pass, the candidate that was accepted is written once more, into the lent bytes.
use Prim.Native.Nat.{◌≤◌, ◌*◌}
use mathlib.Core.Path.{◌≡◌, refl, sym, ap, ap₂, ◌∙◌, subst}
use mathlib.Core.Bool.{true}
use mathlib.Core.List.{◌++◌}
use native.Mathlib.Omega.{arith}
use lib.ListN.{length, drop}
use Rattle.std.specs.Prelude.{Result, Err}
use Rattle.std.proofs.lemmas.Result.{err_from_is_err_and}
use Rattle.answer.specs.declared.Refusal.TheVariants.{Shape, NoChain, Room}
use Rattle.answer.specs.Answer.{told_refusal}
use Rattle.element.specs.declared.Element.{Element}
use Rattle.element.specs.Descriptor.{well_made, most_cells}
use Rattle.element.specs.Record.{element_of}
use Rattle.element.proofs.WellMade.{cells_tell, made_cells}
use Rattle.chainfor.proofs.Descriptors.{read_made, read_unmade}
use Rattle.hulls.specs.Hull.{hull_in}
use Rattle.chainfor.specs.declared.Found.{Found}
use Rattle.chainfor.specs.declared.Unfound.{Unfound}
use Rattle.chainfor.specs.declared.Unfound.TheVariants.{Refused}
use Rattle.chainfor.specs.Find.{within, first_try, is_tried, told_found, gives_up, FoundAs}
use Rattle.hulls.proofs.Hulls.{hull_in_lem}
use Rattle.takeapart.specs.Sum.{walked}
use Rattle.chainfor.proofs.Search.{sixty}
use Rattle.chainfor.proofs.Finding.{find_unmade, find_none, find_short, find_done, unmade_tried}
use Rattle.chainfor.proofs.Finding.{far_within, tried_none, tried_some, near_found}
use Rattle.chainfor.proofs.Finding.{far, way_is, summed_so}
use Rattle.chainfor.proofs.Finding.{links_found, chain_found, length_found, refused_so, done_so}
use Rattle.chainfor.proofs.find_chain.Goals as goal
use Rattle.chainfor.proofs.find_chain.Goals.{After-hull_of-hull, In_ok-e, Else-not-is_near, In-Some}

-- the element was read
made : (c : In_ok-e)
    → (well_made c.args.element.now ≡ true) × (c.in_ok-e.e ≡ element_of c.args.element.now)
made c = read_made _ _ _ (sym c.read_element.ensures ∙ c.in_ok-e.was)

-- what was measured
hulled : (c : After-hull_of-hull) → c.hull_of-hull.result ≡ hull_in c.args.element.now
hulled c = c.hull_of-hull.ensures ∙ hull_in_lem _ _ (made (goal.at.After-hull_of-hull c).In_ok-e).1

pub hull_of-hull-requires : goal.hull_of-hull-requires
unfolding element_of
hull_of-hull-requires c =
    let m = made c in
    let t = cells_tell _ (made_cells _ m.0) in (
      subst (λ (x : Element). x.outline.w ≤ most_cells) (sym m.1) t.few_wide,
      subst (λ (x : Element). x.outline.h ≤ most_cells) (sym m.1) t.few_high,
    )

near : (c : Else-not-is_near) → within c.hull_of-hull.result ≡ true
near c = sym c.is_near.ensures ∙ c.if-not-is_near.false

pub returns-in_err-e : goal.returns-in_err-e
unfolding told_found gives_up told_refusal
returns-in_err-e c =
    let a = c.args in
    let u = read_unmade _ _ _ (sym c.read_element.ensures ∙ c.in_err-e.was) in
    let q = err_from_is_err_and c.from_residual.result c.from_residual.ensures.1 in
    let is = q.1 ∙ ap (λ (x : Unfound). Err x) (q.2 ∙ ap Refused u.1) in
    let p = refused_so a.element.now a.chain.now (Refused Shape) 4 (omega arith) (find_unmade _ _ u.0) refl
    (unmade_tried _ 0 u.0) in
    record {
      found = subst (λ (r : Result Found Unfound). FoundAs a.element.now (length a.chain.now) r) (sym is) p.0;
      bytes = p.1;
    }

pub returns-then-not-is_near : goal.returns-then-not-is_near
unfolding told_found gives_up told_refusal
returns-then-not-is_near c =
    let q = goal.at.returns-then-not-is_near c in
    let f = far_within _ _ (hulled q.After-hull_of-hull) (sym c.is_near.ensures ∙ c.if-not-is_near.true) in
    let p = refused_so c.args.element.now c.args.chain.now (Refused NoChain) 18
    (omega arith) (find_none _ _ (made q.In_ok-e).0 f.0) refl f.1 in
    record { found = p.0; bytes = p.1 }

pub returns-in_default : goal.returns-in_default
returns-in_default c =
    let q = goal.at.returns-in_default c in
    let h = hulled q.After-hull_of-hull in
    let m = made q.In_ok-e in
    let p = summed_so c.args.element.now m.0 (far _ _ h true (near q.Else-not-is_near))
    (tried_none _ _ h (sym c.in_default.is ∙ c.first_try.ensures)) c.args.chain.now
    c.find_sum.new.chain _ c.find_sum.result
    (c.walk-way.ensures ∙ ap₂ (λ x y. walked c.in_ok-e.e.rows x y) c.from.ensures c.from-in_default.ensures
    ∙ way_is _ _ m.1) c.find_sum.ensures.found c.find_sum.ensures.bytes in
    record { found = p.0; bytes = p.1 }

pub overflow_mul-bytes : goal.overflow_mul-bytes
overflow_mul-bytes c =
    omega (arith, sixty c.links_of-links.result c.length_of-m.result (omega arith) (omega arith))

-- the candidate that the search found
tried : (c : In-Some)
    → (c.in-Some.t ≡ first_try c.args.element.now c.hull_of-hull.result)
    × (is_tried c.args.element.now ≡ true)
tried c =
    tried_some _ _ (hulled (goal.at.In-Some c).After-hull_of-hull) _ (sym c.in-Some.is ∙ c.first_try.ensures)

pub returns-then-chain-bytes : goal.returns-then-chain-bytes
unfolding told_found gives_up told_refusal
returns-then-chain-bytes c =
    let q = goal.at.returns-then-chain-bytes c in
    let h = hulled q.After-hull_of-hull in
    let t = tried q.In-Some in
    let f = near_found _ _ h (near q.Else-not-is_near) t.1 in
    let n = length_found _ _ h _ _ t.0 c.try_no-c.ensures.0 t.1
    c.links_of-links.result c.length_of-m.result
    c.links_of-links.ensures.0 c.length_of-m.ensures.0 in
    let p = refused_so c.args.element.now c.args.chain.now (Refused Room) 8 (omega arith)
    (find_short _ _ (made q.In_ok-e).0 f.0 (omega (arith, n))) refl f.1 in
    record { found = p.0; bytes = p.1 }

pub returns : goal.returns
returns c =
    let q = goal.at.returns c in
    let h = hulled q.After-hull_of-hull in
    let t = tried q.In-Some in
    let f = near_found _ _ h (near q.Else-not-is_near) t.1 in
    let k = c.links_of-links.ensures.0 in
    let m = c.length_of-m.ensures.0 in
    let y = c.try_no-c.ensures.0 in
    let a = c.args in
    let n = length_found _ _ h _ _ t.0 y t.1 c.links_of-links.result c.length_of-m.result k m in
    let p = done_so a.element.now a.chain.now c.put_links.new.t
    (record {
      links = c.links_of-links.result;
      bytes = c.links_of-links.result * c.length_of-m.result;
    })
    (find_done a.element.now (length a.chain.now) (made q.In_ok-e).0 f.0 (omega (arith, n)))
    (links_found _ _ h _ _ t.0 y t.1 _ k) n f.1
    (c.put_links.ensures
    ∙ ap₂ (λ x b. x ++ drop b a.chain.now) (chain_found _ _ h _ _ t.0 y t.1 _ _ k m) n) in
    record { found = p.0; bytes = p.1 }
