-- Any two outcomes that a contract allows of one call are the same:
-- for each public function, of its contract itself, as the prover reads it.
use Prim.Native.Nat.{ℕ}
use mathlib.Core.Path.{◌≡◌, refl, sym, ap₂, ◌∙◌}
use Rattle.std.specs.Prelude.{Result, Ok, Err}
use Rattle.answer.specs.declared.Refusal.{Refusal}
use Rattle.answer.specs.Answer.{Answer, told}
use Rattle.answer.proofs.OneToOne.{same_answer}
use Rattle.nesting.specs.Nesting.{regions_in}
use Rattle.basics.specs.Settles.{Settles, SettlesBytes}
use Rattle.basics.proofs.Settled.{settled}
use Rattle.regions.proofs.Firsts.{firsts_exist}
use Rattle.nesting.proofs.nest.Kinds as nest-kinds
use Rattle.nesting.proofs.nest.Reads as nest

-- the answer of a result, and the result again of its answer and its regions
answered : Result ℕ Refusal → Answer
answered (Ok n) = Ok tt
answered (Err r) = Err r

answered_told : (x : Result ℕ Refusal) → told (answered x) ≡ told x
unfolding answered told
answered_told (Ok n) = refl
answered_told (Err r) = refl

with_regions : Answer → ℕ → Result ℕ Refusal
with_regions (Ok x) n = Ok n
with_regions (Err r) n = Err r

put_back : (x : Result ℕ Refusal) → with_regions (answered x) (regions_in x) ≡ x
unfolding answered with_regions
put_back (Ok n) = refl
put_back (Err r) = refl

-- the picture has its regions: so much is said of the R that there is
pub nest_settled : Settles 2 nest-kinds.ps nest-kinds.r nest.Learnt
nest_settled κs a x y s t p q =
    let R = firsts_exist a.1.1.0.now a.0 a.1.0 in
    let m = p.0 R.0 R.1 in
    let n = q.0 R.0 R.1 in
    sym (put_back x)
    ∙ ap₂ with_regions (same_answer (answered x) (answered y) _ (answered_told x ∙ m.answer)
    (answered_told y ∙ n.answer)) (settled m.regions n.regions)
    ∙ put_back y

pub nest_settled_list : SettlesBytes 2 nest-kinds.ps nest-kinds.r nest.Learnt (λ κs e. e.1.1.1.0.now)
nest_settled_list κs a x y s t p q =
    let R = firsts_exist a.1.1.0.now a.0 a.1.0 in
    settled (p.1 R.0 R.1) (q.1 R.0 R.1)
