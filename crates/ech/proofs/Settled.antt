-- Any two outcomes that a contract allows of one call are the same:
-- for each public function, of its contract itself, as the prover reads it.
use Rattle.answer.proofs.OneToOne.{told_one_to_one}
use Rattle.answer.proofs.Variants.{refused_undone}
use Prim.Native.Nat.{ℕ}
use mathlib.Core.Path.{◌≡◌, refl, sym, ap, ◌∙◌}
use Rattle.std.specs.Prelude.{Result, Ok, Err}
use Rattle.std.proofs.lemmas.Result.{IfOk-at_ok}
use Rattle.answer.specs.declared.Refusal.{Refusal}
use Rattle.answer.specs.declared.Told.{Told}
use Rattle.answer.specs.Answer.{told, is_done, plain}
use Rattle.ech.specs.declared.Header.{Header}
use Rattle.ech.specs.ReadWrite.{GivenBack}
use Rattle.basics.specs.Settles.{Settles, SettlesBytes}
use Rattle.basics.proofs.Settled.{settled}
use Rattle.ech.proofs.depth_of.Kinds as depth-of-kinds
use Rattle.ech.proofs.depth_of.Reads as depth-of
use Rattle.ech.proofs.judge_ech.Kinds as judge-ech-kinds
use Rattle.ech.proofs.judge_ech.Reads as judge-ech
use Rattle.ech.proofs.read_ech.Kinds as read-ech-kinds
use Rattle.ech.proofs.read_ech.Reads as read-ech
use Rattle.ech.proofs.is_known.Kinds as is-known-kinds
use Rattle.ech.proofs.is_known.Reads as is_Known

-- two results that are told alike, and give the same where they are done, are the same
same_result : {A : Type 0} (x y : Result A Refusal) → told x ≡ told y
    → ((a b : A) → x ≡ Ok a → y ≡ Ok b → a ≡ b) → x ≡ y
unfolding told plain
same_result (Ok a) (Ok b) e k = ap Ok (k a b refl refl)
same_result (Ok a) (Err s) e k = let z = ap is_done e ∙ refused_undone s in cc
same_result (Err r) (Ok b) e k = let z = ap is_done (sym e) ∙ refused_undone r in cc
same_result (Err r) (Err s) e k = let z = told_one_to_one (Err r) (Err s) e in cc

-- what is given back is settled by its answer
same_header : (t : Told) (kind w h : ℕ) (x y : Result Header Refusal)
    → GivenBack t kind w h x → GivenBack t kind w h y → x ≡ y
same_header t kind w h x y p q =
    same_result x y (p.answer ∙ sym q.answer) (λ a b d e. λ i. record {
      kind = settled (IfOk-at_ok (λ (u : Header). u.kind ≡ kind) d p.kind)
          (IfOk-at_ok (λ (u : Header). u.kind ≡ kind) e q.kind) i;
      w = settled (IfOk-at_ok (λ (u : Header). u.w ≡ w) d p.pings)
          (IfOk-at_ok (λ (u : Header). u.w ≡ w) e q.pings) i;
      h = settled (IfOk-at_ok (λ (u : Header). u.h ≡ h) d p.bins)
          (IfOk-at_ok (λ (u : Header). u.h ≡ h) e q.bins) i;
    })

pub depth_of_settled : Settles 0 depth-of-kinds.ps depth-of-kinds.r depth-of.Learnt
depth_of_settled κs a x y s t p q = settled p q

pub judge_ech_settled : Settles 1 judge-ech-kinds.ps judge-ech-kinds.r judge-ech.Learnt
judge_ech_settled κs a x y s t p q = same_header _ _ _ _ x y p q

pub read_ech_settled : Settles 2 read-ech-kinds.ps read-ech-kinds.r read-ech.Learnt
read_ech_settled κs a x y s t p q = same_header _ _ _ _ x y p.0 q.0

pub read_ech_settled_target : SettlesBytes 2 read-ech-kinds.ps
    read-ech-kinds.r read-ech.Learnt (λ κs e. e.1.0.now)
read_ech_settled_target κs a x y s t p q = settled p.1 q.1

pub is_known_settled : Settles 0 is-known-kinds.ps is-known-kinds.r is_Known.Learnt
is_known_settled κs a x y s t p q = settled p q
