-- Any two outcomes that a contract allows of one call are the same:
-- for each public function, of its contract itself, as the prover reads it.
use Rattle.answer.proofs.OneToOne.{told_one_to_one}
use Rattle.answer.proofs.Variants.{refused_undone}
use Prim.Native.Nat.{ℕ}
use mathlib.Core.Path.{◌≡◌, refl, sym, ap, ◌∙◌}
use Rattle.std.specs.Prelude.{Result, Ok, Err}
use Rattle.std.proofs.lemmas.Result.{IfOk-at_ok}
use Rattle.answer.specs.declared.Refusal.{Refusal}
use Rattle.answer.specs.declared.Told.{Told}
use Rattle.answer.specs.Answer.{told, is_done, plain}
use Rattle.netpbm.specs.declared.Header.{Header}
use Rattle.netpbm.specs.ReadWrite.{GivenBack}
use Rattle.basics.specs.Settles.{Settles, SettlesBytes}
use Rattle.basics.proofs.Settled.{settled}
use Rattle.netpbm.proofs.read_pbm.Kinds as read-pbm-kinds
use Rattle.netpbm.proofs.read_pbm.Reads as read-pbm
use Rattle.netpbm.proofs.read_pgm.Kinds as read-pgm-kinds
use Rattle.netpbm.proofs.read_pgm.Reads as read-pgm

-- two results that are told alike, and give the same where they are done, are the same
same_result : {A : Type 0} (x y : Result A Refusal) → told x ≡ told y
    → ((a b : A) → x ≡ Ok a → y ≡ Ok b → a ≡ b) → x ≡ y
unfolding told plain
same_result (Ok a) (Ok b) e k = ap Ok (k a b refl refl)
same_result (Ok a) (Err s) e k = let z = ap is_done e ∙ refused_undone s in cc
same_result (Err r) (Ok b) e k = let z = ap is_done (sym e) ∙ refused_undone r in cc
same_result (Err r) (Err s) e k = let z = told_one_to_one (Err r) (Err s) e in cc

-- what is given back is settled by its answer
same_header : (t : Told) (w h : ℕ) (x y : Result Header Refusal)
    → GivenBack t w h x → GivenBack t w h y → x ≡ y
same_header t w h x y p q =
    same_result x y (p.answer ∙ sym q.answer) (λ a b d e. λ i. record {
      w = settled (IfOk-at_ok (λ (u : Header). u.w ≡ w) d p.pings)
          (IfOk-at_ok (λ (u : Header). u.w ≡ w) e q.pings) i;
      h = settled (IfOk-at_ok (λ (u : Header). u.h ≡ h) d p.bins)
          (IfOk-at_ok (λ (u : Header). u.h ≡ h) e q.bins) i;
    })

pub read_pbm_settled : Settles 2 read-pbm-kinds.ps read-pbm-kinds.r read-pbm.Learnt
read_pbm_settled κs a x y s t p q = same_header _ _ _ x y p.0 q.0

pub read_pbm_settled_target : SettlesBytes 2 read-pbm-kinds.ps
    read-pbm-kinds.r read-pbm.Learnt (λ κs e. e.1.0.now)
read_pbm_settled_target κs a x y s t p q = settled p.1 q.1

pub read_pgm_settled : Settles 2 read-pgm-kinds.ps read-pgm-kinds.r read-pgm.Learnt
read_pgm_settled κs a x y s t p q = same_header _ _ _ x y p.0 q.0

pub read_pgm_settled_target : SettlesBytes 2 read-pgm-kinds.ps
    read-pgm-kinds.r read-pgm.Learnt (λ κs e. e.1.0.now)
read_pgm_settled_target κs a x y s t p q = settled p.1 q.1
