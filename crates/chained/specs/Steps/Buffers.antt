-- How the loop over links goes:
-- one link from what is before it into the other buffer, by the links that were read.
use Rattle.std.specs.Prelude.{ℕ, zero, suc, ◌%◌, ◌≤◌, ◌<◌, ◌≡◌, Bool, true, false, cond, List, eqb}
use Rattle.std.specs.Prelude.{length, get_or}
use Rattle.answer.specs.Answer.{plain}
use Rattle.answer.specs.Refuse.{refuse}
use Rattle.picture.specs.declared.Depth.{Depth}
use Rattle.picture.specs.Frame.{Holds}
use Rattle.picture.specs.Points.{value_at}
use Rattle.picture.specs.Bytes.{Picture, written}
use Rattle.morphology.specs.Chain.{most_links}
use Rattle.apply.specs.Steps.Applied.{Fitting, flat_by}
use Rattle.reach.specs.declared.Link.{Link}
use Rattle.reach.specs.Steps.Links.{empty_link}
use Rattle.chain.specs.Reading.{link_tests}
use Rattle.chained.specs.Run.{eroded, dilated}

-- a link within its limits, and the operation by it
abbrev pub Fit : Link → Type 0
Fit l = Fitting l.outline (length l.rows)

abbrev pub by_link : Bool → Depth → ℕ → ℕ → Link → Picture → Picture
by_link grows depth w h l A = flat_by grows depth w h l.outline l.rows A

-- the results, by the way
abbrev pub results_by : Bool → Depth → ℕ → ℕ → List ℕ → List ℕ → ℕ → Picture
results_by true = dilated
results_by false = eroded

-- the same by the links that were read: each of the first i in order, from the source
unfoldable pub made_by : Bool → Depth → ℕ → ℕ → List ℕ → List Link → ℕ → Picture
made_by grows depth w h source links zero = value_at depth source w
made_by grows depth w h source links (suc i) =
    by_link grows depth w h (get_or links i empty_link) (made_by grows depth w h source links i)

-- one link, from s into t
unfoldable pub applied_to : Bool → Depth → ℕ → ℕ → Link → List ℕ → List ℕ → List ℕ
applied_to grows depth w h e s t = written depth (by_link grows depth w h e (value_at depth s w)) w h t

-- the link after i others: from the source into the first buffer, from there into the second, and back
unfoldable pub first_by : Bool → Depth → ℕ → ℕ → ℕ → Link → List ℕ → List ℕ → List ℕ → List ℕ
first_by grows depth w h i e source first second =
    cond (eqb i 0) (applied_to grows depth w h e source first)
    (cond (eqb (i % 2) 1) first (applied_to grows depth w h e second first))

unfoldable pub second_by : Bool → Depth → ℕ → ℕ → ℕ → Link → List ℕ → List ℕ → List ℕ
second_by grows depth w h i e first second =
    cond (eqb i 0) second (cond (eqb (i % 2) 1) (applied_to grows depth w h e first second) second)

-- what the links need: few of them, each within its limits,
-- and a picture's bytes in the source and in both buffers
pub record Going (depth : Depth) (w h source : ℕ) (links : List Link) (k one two : ℕ) : Type 0 where
  pub few : k ≤ most_links
  pub fitting : (i : ℕ) → i < k → Fit (get_or links i empty_link)
  pub source_holds : Holds depth source w h
  pub first_holds : Holds depth one w h
  pub second_holds : Holds depth two w h

-- the same before they are read: few descriptors, none of them refused
pub record Linked (depth : Depth) (w h source k : ℕ) (chain : List ℕ) (one two : ℕ) : Type 0 where
  pub few : k ≤ most_links
  pub made : refuse (link_tests k chain) (plain 0) ≡ plain 0
  pub source_holds : Holds depth source w h
  pub first_holds : Holds depth one w h
  pub second_holds : Holds depth two w h
