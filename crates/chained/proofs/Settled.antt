-- Any two outcomes that a contract allows of one call are the same:
-- for each public function, of its contract itself, as the prover reads it.
use mathlib.Core.Path.{◌≡◌, sym, ap, ◌∙◌}
use mathlib.Core.List.{List}
use Prim.Native.Nat.{ℕ}
use Rattle.answer.specs.declared.Told.{Told}
use Rattle.answer.proofs.OneToOne.{same_answer}
use Rattle.basics.specs.Settles.{Settles, SettlesBytes}
use Rattle.basics.proofs.Settled.{settled}
use Rattle.answer.specs.Lent.{unless_refused}
use Rattle.chained.proofs.erode.Kinds as erode-kinds
use Rattle.chained.proofs.erode.Reads as erode
use Rattle.chained.proofs.dilate.Kinds as dilate-kinds
use Rattle.chained.proofs.dilate.Reads as dilate

-- a buffer by its answer
settled_by : (x y : Told) (was made a b : List ℕ) → x ≡ y
    → a ≡ unless_refused x was made → b ≡ unless_refused y was made → a ≡ b
settled_by x y was made a b e p q = p ∙ ap (λ t. unless_refused t was made) e ∙ sym q

pub erode_settled : Settles 5 erode-kinds.ps erode-kinds.r erode.Learnt
erode_settled κs a x y s t p q = same_answer x y _ p.0 q.0

pub erode_settled_first : SettlesBytes 5 erode-kinds.ps erode-kinds.r
    erode.Learnt (λ κs e. e.1.1.1.1.1.1.1.0.now)
erode_settled_first κs a x y s t p q = settled_by _ _ _ _ _ _ (settled p.0 q.0) p.1.0 q.1.0

pub erode_settled_second : SettlesBytes 5 erode-kinds.ps erode-kinds.r
    erode.Learnt (λ κs e. e.1.1.1.1.1.1.1.1.0.now)
erode_settled_second κs a x y s t p q = settled_by _ _ _ _ _ _ (settled p.0 q.0) p.1.1 q.1.1

pub dilate_settled : Settles 5 dilate-kinds.ps dilate-kinds.r dilate.Learnt
dilate_settled κs a x y s t p q = same_answer x y _ p.0 q.0

pub dilate_settled_first : SettlesBytes 5 dilate-kinds.ps dilate-kinds.r
    dilate.Learnt (λ κs e. e.1.1.1.1.1.1.1.0.now)
dilate_settled_first κs a x y s t p q = settled_by _ _ _ _ _ _ (settled p.0 q.0) p.1.0 q.1.0

pub dilate_settled_second : SettlesBytes 5 dilate-kinds.ps dilate-kinds.r
    dilate.Learnt (λ κs e. e.1.1.1.1.1.1.1.1.0.now)
dilate_settled_second κs a x y s t p q = settled_by _ _ _ _ _ _ (settled p.0 q.0) p.1.1 q.1.1
