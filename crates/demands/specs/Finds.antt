-- What a search for a chain owes, of the element's bytes, of the lent bytes before and after it, and
-- of its answer.
use Rattle.std.specs.Prelude.{ℕ, ◌≤◌, ◌≡◌, true, List, length, take, Result, Err, IfOk}
use borrow.Fn.Kinds.{Dens}
use contract.Lifetimes.{Lfts}
use Rattle.basics.specs.Bytes.{Bytes}
use Rattle.picture.specs.declared.Depth.{Depth}
use Rattle.picture.specs.Frame.{top}
use Rattle.answer.specs.Answer.{plain}
use Rattle.element.specs.Descriptor.{well_made, shape_in}
use Rattle.morphology.specs.Demand.{Same}
use Rattle.chain.specs.Reading.{links_in, checked}
use Rattle.answer.specs.declared.Refusal.TheVariants.{NoChain}
use Rattle.chainfor.specs.declared.Found.{Found}
use Rattle.chainfor.specs.declared.Unfound.{Unfound}
use Rattle.chainfor.specs.declared.Unfound.TheVariants.{Refused}
use Rattle.chainfor.specs.Find.{told_found}
use Rattle.chainlaw.specs.Boxes.{Filled, InReach}
use Rattle.chainfor.proofs.find_chain.Kinds as find

pub record FindCall : Type 0 where
  pub element : List ℕ
  pub chain : List ℕ

abbrev pub find_call : (κs : Lfts 2) → Dens κs find.ps → FindCall
find_call κs a = record { element = a.0.now; chain = a.1.0.now }

-- what is written is a chain that the check accepts, so that it does the element's work
-- on every picture, at both depths, in every frame within the limits
pub record WritesAccepted (d after : List ℕ) (r : Result Found Unfound) : Type 0 where
  pub accepted : IfOk r (λ f. checked d f.links (take f.bytes after) ≡ plain 0)
  pub same : IfOk r (λ f. (depth : Depth)
      → Same (top depth) (shape_in d) (links_in f.links (take f.bytes after)))

-- NOCHAIN of a search that did not give up: the check accepts no chain, of any number of links
abbrev pub NoneExists : List ℕ → Result Found Unfound → Type 0
NoneExists d r =
    Bytes d → r ≡ Err (Refused NoChain)
    → (k : ℕ) (chain : List ℕ) → checked d k chain ≡ plain 0 → ⊥

-- a rectangle that five links can reach, wherever the origin lies: done, given 60 bytes
abbrev pub FindsRectangles : List ℕ → List ℕ → Result Found Unfound → Type 0
FindsRectangles d before r =
    Bytes d → well_made d ≡ true → (left right upper lower : ℕ) → Filled (shape_in d) left right upper lower
    → InReach (shape_in d) left right upper lower → 60 ≤ length before → told_found r ≡ plain 0
