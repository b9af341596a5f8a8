-- Any two outcomes that a contract allows of one call are the same:
-- for each public function, of its contract itself, as the prover reads it.
use Prim.Native.Nat.{ℕ}
use mathlib.Core.Path.{◌≡◌, refl, sym, ap, ◌∙◌}
use mathlib.Core.Bool.{Bool, false≢true}
use Rattle.std.specs.Prelude.{Result, Ok, Err, IfOk}
use Rattle.std.proofs.lemmas.Result.{IfErr-at_err}
use Rattle.answer.specs.declared.Refusal.{Refusal}
use Rattle.answer.specs.Answer.{told, is_done}
use Rattle.answer.proofs.Variants.{refused_undone}
use Rattle.answer.proofs.Lent.{all_done}
use Rattle.answer.proofs.OneToOne.{told_one_to_one}
use Rattle.chainfor.specs.declared.Found.{Found}
use Rattle.chainfor.specs.declared.Unfound.{Unfound}
use Rattle.chainfor.specs.declared.Unfound.TheVariants.{Refused, GaveUp}
use Rattle.chainfor.specs.Find.{told_found, gives_up}
use Rattle.basics.specs.Settles.{Settles, SettlesBytes}
use Rattle.basics.proofs.Settled.{settled}
use Rattle.chainfor.proofs.find_chain.Kinds as find-chain-kinds
use Rattle.chainfor.proofs.find_chain.Reads as find-chain

-- two outcomes that are told alike are the same where what they give up on, and what they found, is
alike : (links bytes : ℕ) (b : Bool) (x y : Result Found Unfound) → told_found x ≡ told_found y
    → gives_up x ≡ b → gives_up y ≡ b
    → IfOk x (λ f. (f.links ≡ links) × (f.bytes ≡ bytes))
    → IfOk y (λ f. (f.links ≡ links) × (f.bytes ≡ bytes))
    → x ≡ y
unfolding told_found gives_up told
alike links bytes b (Ok f) (Ok g) e p q m n =
    ap (λ (f : Found). Ok f) (λ i. record { links = settled m.0 n.0 i; bytes = settled m.1 n.1 i })
alike links bytes b (Ok f) (Err (Refused r)) e p q m n =
    absurd (false≢true (sym (refused_undone r) ∙ ap is_done (sym e) ∙ all_done))
alike links bytes b (Ok f) (Err GaveUp) e p q m n = absurd (false≢true (p ∙ sym q))
alike links bytes b (Err (Refused r)) (Ok g) e p q m n =
    absurd (false≢true (sym (refused_undone r) ∙ ap is_done e ∙ all_done))
alike links bytes b (Err (Refused r)) (Err (Refused s)) e p q m n =
    ap (λ (r : Refusal). Err (Refused r))
    (IfErr-at_err (λ (t : Refusal). r ≡ t) (told_one_to_one (Err r) (Err s) e) refl)
alike links bytes b (Err (Refused r)) (Err GaveUp) e p q m n = absurd (false≢true (p ∙ sym q))
alike links bytes b (Err GaveUp) (Ok g) e p q m n = absurd (false≢true (q ∙ sym p))
alike links bytes b (Err GaveUp) (Err (Refused s)) e p q m n = absurd (false≢true (q ∙ sym p))
alike links bytes b (Err GaveUp) (Err GaveUp) e p q m n = refl

pub find_chain_settled : Settles 2 find-chain-kinds.ps find-chain-kinds.r find-chain.Learnt
find_chain_settled κs a x y s t p q =
    alike _ _ _ x y (p.0.answered ∙ sym q.0.answered) p.0.tried q.0.tried p.0.found q.0.found

pub find_chain_settled_chain : SettlesBytes 2 find-chain-kinds.ps find-chain-kinds.r find-chain.Learnt
    (λ κs e. e.1.0.now)
find_chain_settled_chain κs a x y s t p q = settled p.1 q.1
