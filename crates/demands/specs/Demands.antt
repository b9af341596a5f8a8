-- What is demanded of a call, in the words of document 01.
use Rattle.std.specs.Prelude.{ℕ, ◌<◌, ◌≡◌, List, ◌↔◌}
use borrow.Fn.Kinds.{ParamKind, ResultKind, Out, Dens, res_t, ended_of}
use denote.Triple.Clauses.{AtExit}
use contract.Lifetimes.{Lfts}
use Rattle.answer.specs.declared.Told.{Told}
use Rattle.answer.specs.Answer.{plain}
use Rattle.answer.specs.Refuse.{Test, FirstHolds, NoneHolds}
use Rattle.picture.specs.declared.Depth.{Depth}
use Rattle.picture.specs.declared.Depth.TheVariants.{OneBit}
use Rattle.picture.specs.declared.Point.{Point}
use Rattle.picture.specs.Points.{value_at}
use Rattle.picture.specs.Bytes.{Picture}
use Rattle.morphology.specs.Sets.{Points}

-- demand 1: each refusal is given exactly where its test is the first to hold, and 0 exactly where none does
pub record Exactly (tests : List Test) (answer : Told) : Type 0 where
  pub refused : (n : ℕ) → 0 < n → (answer ≡ plain n) ↔ FirstHolds tests n
  pub done : (answer ≡ plain 0) ↔ NoneHolds tests

-- of a call that may answer SPLIT: the same of the answer's number; dx and dy are 0 but for SPLIT
pub record ExactlyNumbered (tests : List Test) (answer : Told) : Type 0 where
  pub refused : (n : ℕ) → 0 < n → (answer.number ≡ n) ↔ FirstHolds tests n
  pub done : (answer ≡ plain 0) ↔ NoneHolds tests
  pub offset : (answer.number ≡ 7 → ⊥) → answer ≡ plain answer.number

-- and no refusal changes a lent byte
abbrev pub Kept : List Test → List ℕ → List ℕ → Type 0
Kept tests before after = (n : ℕ) → FirstHolds tests n → after ≡ before

-- demand 2: where nothing is refused, the bytes are, at each point of the W x H frame, the picture A
abbrev pub Shows : List Test → Depth → ℕ → ℕ → List ℕ → Picture → Type 0
Shows tests depth w h bytes A =
    NoneHolds tests → (p : Point) → p.ping.0 < w → p.bin.0 < h
    → value_at depth bytes w p.ping.0 p.bin.0 ≡ A p.ping.0 p.bin.0

-- and of one bit: they have exactly the points of the set
abbrev pub ShowsSet : List Test → ℕ → ℕ → List ℕ → Points → Type 0
ShowsSet tests w h bytes A =
    NoneHolds tests → (p : Point) → p.ping.0 < w → p.bin.0 < h
    → (value_at OneBit bytes w p.ping.0 p.bin.0 ≡ 1) ↔ A (record { x = p.ping.0; y = p.bin.0 })

-- of every outcome that a function's contract allows, as the prover reads it:
-- the answer x and the state e at exit of the call a
abbrev pub Every : (n : ℕ) (ps : List (ParamKind n)) (r : ResultKind n) → Out n ps r
    → ((κs : Lfts n) → Dens κs ps → (res_t r κs).Denot → AtExit (ended_of n ps r) κs → Type 0) → Type 0
Every n ps r Allowed P =
    (κs : Lfts n) (a : Dens κs ps) (x : (res_t r κs).Denot) (e : AtExit (ended_of n ps r) κs)
    → Allowed κs a x e
    → P κs a x e
