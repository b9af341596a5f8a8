-- What is answered where no candidate was accepted.
use Rattle.std.specs.Prelude.{ℕ, ◌≡◌, not, List, [], ◌∷◌, ◌++◌, ltb, length, drop, Result, IfOk}
use Rattle.answer.specs.declared.Told.{Told}
use Rattle.answer.specs.Answer.{plain}
use Rattle.answer.specs.Refuse.{refuse}
use Rattle.answer.specs.Lent.{unless_refused}
use Rattle.takeapart.specs.declared.Way.{Way}
use Rattle.chainfor.specs.declared.Found.{Found}
use Rattle.chainfor.specs.declared.Unfound.{Unfound}
use Rattle.chainfor.specs.Find.{sum_links, sum_chain, sums, told_found, gives_up}

-- the refusals in order where no candidate was accepted: 18 NOCHAIN, 8 ROOM
unfoldable pub sum_answer : List ℕ → Way → ℕ → Told
sum_answer d w room =
    refuse ((not (sums d w), 18) ∷ (ltb room (length (sum_chain w)), 8) ∷ []) (plain 0)

-- what is answered, and the lent bytes afterwards, where no candidate was accepted
pub record SumAs (d : List ℕ) (w : Way) (room : ℕ) (r : Result Found Unfound) : Type 0 where
  pub answered : told_found r ≡ sum_answer d w room
  pub found : IfOk r (λ f. (f.links ≡ sum_links w) × (f.bytes ≡ length (sum_chain w)))
  pub tried : gives_up r ≡ not (sums d w)

unfoldable pub sum_left : List ℕ → Way → List ℕ → List ℕ
sum_left d w t = unless_refused (sum_answer d w (length t)) t (sum_chain w ++ drop (length (sum_chain w)) t)
