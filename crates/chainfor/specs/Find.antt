-- A chain for an element: the first candidate that the check accepts, or else a sum; and the refusals.
use Rattle.std.specs.Prelude.{ℕ, ◌-◌, ◌*◌, min, ◌≡◌, Bool, true, cond, not, ◌&&◌, List, [], ◌∷◌, ◌++◌}
use Rattle.std.specs.Prelude.{false, leb, ltb, length, take, drop, Result, Ok, Err, IfOk}
use Rattle.answer.specs.declared.Told.{Told}
use Rattle.answer.specs.declared.Refusal.TheVariants.{NoChain}
use Rattle.answer.specs.Answer.{told_refusal, plain, is_done}
use Rattle.answer.specs.Refuse.{Test, refuse}
use Rattle.answer.specs.Lent.{unless_refused}
use Rattle.element.specs.Descriptor.{well_made, origin_column_of, origin_row_of}
use Rattle.morphology.specs.Chain.{most_link_cells, most_links}
use Rattle.chain.specs.Reading.{checked}
use Rattle.hulls.specs.declared.Hull.{Hull}
use Rattle.dividing.specs.Least.{least_from}
use Rattle.takeapart.specs.declared.Way.{Way}
use Rattle.takeapart.specs.Sum.{sum_bytes, walked}
use Rattle.chainfor.specs.declared.Found.{Found}
use Rattle.chainfor.specs.declared.Unfound.{Unfound}
use Rattle.chainfor.specs.declared.Unfound.TheVariants.{Refused, GaveUp}
use Rattle.hulls.specs.Hull.{hull_in, rows_in}
use Rattle.candidates.specs.Candidates.{try_no, links_of, chain_by}

-- how many candidates there are
abbrev pub tries : ℕ
tries = 51

-- the check accepts candidate t
unfoldable pub accepts : List ℕ → Hull → ℕ → Bool
accepts d H t = is_done (checked d (links_of H (try_no t)) (chain_by H (try_no t)))

unfoldable pub first_try : List ℕ → Hull → ℕ
first_try d H = least_from (accepts d H) 0 tries

-- the set cells and the origin lie in as many columns, and rows, as the sums of a chain span at the most
unfoldable pub within : Hull → Bool
within H =
    leb H.across.span (most_links * (most_link_cells - 1)) && leb H.down.span (most_links *
    (most_link_cells - 1))

-- a candidate was accepted
unfoldable pub is_tried : List ℕ → Bool
is_tried d = ltb (first_try d (hull_in d)) tries

-- where the search for a sum leads; its links, at most five, of 12 bytes each; the check accepts them
unfoldable pub sum_way : List ℕ → Way
sum_way d = walked (rows_in d) (origin_column_of d) (origin_row_of d)

unfoldable pub sum_links : Way → ℕ
sum_links w = min w.depth most_links

unfoldable pub sum_chain : Way → List ℕ
sum_chain w = take (sum_links w * 12) (sum_bytes w)

unfoldable pub sums : List ℕ → Way → Bool
sums d w = is_done (checked d (sum_links w) (sum_chain w))

-- a candidate was accepted, or else a sum
unfoldable pub is_searched : List ℕ → Bool
is_searched d = cond (is_tried d) true (sums d (sum_way d))

unfoldable pub is_found : List ℕ → Bool
is_found d = within (hull_in d) && is_searched d

-- the chain, and its number of links
unfoldable pub chain_for : List ℕ → List ℕ
chain_for d =
    cond (is_tried d) (chain_by (hull_in d) (try_no (first_try d (hull_in d)))) (sum_chain (sum_way d))

unfoldable pub links_for : List ℕ → ℕ
links_for d =
    cond (is_tried d) (links_of (hull_in d) (try_no (first_try d (hull_in d)))) (sum_links (sum_way d))

-- the refusals in order: 4 SHAPE, 18 NOCHAIN, 8 ROOM
unfoldable pub find_tests : List ℕ → ℕ → List Test
find_tests d room =
    (not (well_made d), 4) ∷ (not (is_found d), 18) ∷ (ltb room (length (chain_for d)), 8) ∷ []

unfoldable pub find_answer : List ℕ → ℕ → Told
find_answer d room = refuse (find_tests d room) (plain 0)

-- the search gave up: every candidate was tried in vain, and the search for a sum too
unfoldable pub gave_up : List ℕ → Bool
gave_up d = well_made d && (within (hull_in d) && not (is_searched d))

-- what is told of an outcome: to give up is a NOCHAIN
unfoldable pub told_found : Result Found Unfound → Told
told_found (Ok f) = plain 0
told_found (Err (Refused r)) = told_refusal r
told_found (Err GaveUp) = told_refusal NoChain

unfoldable pub gives_up : Result Found Unfound → Bool
gives_up (Ok f) = false
gives_up (Err (Refused r)) = false
gives_up (Err GaveUp) = true

-- what find_chain answers
pub record FoundAs (d : List ℕ) (room : ℕ) (r : Result Found Unfound) : Type 0 where
  pub answered : told_found r ≡ find_answer d room
  pub found : IfOk r (λ f. (f.links ≡ links_for d) × (f.bytes ≡ length (chain_for d)))
  pub tried : gives_up r ≡ gave_up d

-- the lent bytes afterwards: the chain, and the further bytes stay
unfoldable pub chain_left : List ℕ → List ℕ → List ℕ
chain_left d t = unless_refused (find_answer d (length t)) t (chain_for d ++ drop (length (chain_for d)) t)
