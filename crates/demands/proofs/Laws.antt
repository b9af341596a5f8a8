-- The demands follow from a contract's equations.
use Prim.Native.Nat.{ℕ, ◌≤◌, ◌<◌}
use mathlib.Core.Path.{◌≡◌, sym, ap, ◌∙◌}
use mathlib.Core.Bool.{false}
use mathlib.Core.List.{List, [], ◌∷◌}
use native.Mathlib.Omega.{arith}
use Rattle.answer.specs.declared.Told.{Told}
use Rattle.answer.specs.Answer.{plain, is_done}
use Rattle.answer.specs.Refuse.{Test, refuse, FirstHolds, here, later}
use Rattle.answer.specs.Lent.{unless_refused}
use Rattle.answer.proofs.Order.{Numbered, exactly, done_exactly}
use Rattle.answer.proofs.Lent.{not_done, lent_kept, lent_made}
use Rattle.picture.specs.declared.Depth.{Depth}
use Rattle.picture.specs.declared.Depth.TheVariants.{OneBit, EightBit}
use Rattle.picture.specs.Points.{value_at}
use Rattle.picture.specs.Bytes.{Picture, written}
use Rattle.picture.proofs.Shown.{written_shown}
use Rattle.element.specs.Shape.{Shape}
use Rattle.morphology.specs.Operations.{flat, hit_miss}
use Rattle.morphology.proofs.Reach.{erode_top}
use Rattle.picture.specs.Frame.{frame}
use Rattle.demands.specs.Demands.{Exactly, Kept, Shows}

-- the first test that holds has a number
pub first_some : (ts : List Test) (n : ℕ) → Numbered ts → FirstHolds ts n → 0 < n
first_some [] n some f = elim f [ ]
first_some (t ∷ ts) n some here = some.0
first_some (t ∷ ts) n some (later f) = first_some ts n some.1 f

-- and the answer is then a refusal
pub refused_not : (ts : List Test) (n : ℕ) → Numbered ts → FirstHolds ts n
    → is_done (refuse ts (plain 0)) ≡ false
refused_not ts n some f = let s = first_some ts n some f in ap is_done ((exactly ts n s).1 f) ∙ not_done n s

pub exactly_of : (ts : List Test) (answer : Told) → Numbered ts → answer ≡ refuse ts (plain 0)
    → Exactly ts answer
exactly_of ts answer some p =
    record {
      refused = λ n h. (λ e. (exactly ts n h).0 (sym p ∙ e), λ f. p ∙ (exactly ts n h).1 f);
      done = (λ e. (done_exactly ts some).0 (sym p ∙ e), λ f. p ∙ (done_exactly ts some).1 f);
    }

pub kept_of : (ts : List Test) (before after made : List ℕ) → Numbered ts
    → after ≡ unless_refused (refuse ts (plain 0)) before made
    → Kept ts before after
kept_of ts before after made some p n f = p ∙ lent_kept before made some f

pub shows_of : (ts : List Test) (depth : Depth) (A : Picture) (w h : ℕ) (before after : List ℕ)
    → (depth ≡ OneBit → (x y : ℕ) → x < w → y < h → A x y ≤ 1)
    → after ≡ unless_refused (refuse ts (plain 0)) before (written depth A w h before)
    → Shows ts depth w h after A
shows_of ts depth A w h before after small p none q hx hy =
    ap (λ l. value_at depth l w q.ping.0 q.bin.0) (p ∙ lent_made before _ none)
    ∙ written_shown depth A w h before small q.ping.0 q.bin.0 hx hy

-- ---- a one-bit result is 0 or 1
pub hit_one : (w h : ℕ) (B C : Shape) (A : Picture) (x y : ℕ) → hit_miss (frame w h) B C A x y ≤ 1
unfolding hit_miss
hit_one w h B C A x y = omega (arith, erode_top flat 1 (frame w h) B A (record { x = x; y = y }))

-- and an 8-bit one is of another depth
pub never_one : {P : Type 0} → EightBit ≡ OneBit → P
never_one e = let z : ◌≡◌ {A = ℕ} 0 1 = cc in absurd (omega arith)
