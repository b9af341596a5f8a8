-- Any two outcomes that a contract allows of one call are the same:
-- for each public function, of its contract itself, as the prover reads it.
use Prim.Native.Nat.{ℕ}
use mathlib.Core.Path.{◌≡◌, refl, sym, ap, ◌∙◌}
use mathlib.Core.Bool.{false≢true}
use mathlib.Core.List.{List}
use borrow.Fn.Kinds.{Dens, res_t, ended_of}
use denote.Triple.Clauses.{AtExit}
use contract.Lifetimes.{Lfts}
use lib.ListN.{take}
use Rattle.std.specs.Prelude.{Result, Ok, Err, MatchResult, IfOk}
use Rattle.std.proofs.lemmas.Result.{IfErr-at_err}
use Rattle.answer.specs.declared.Refusal.{Refusal}
use Rattle.answer.specs.Answer.{told, is_done}
use Rattle.answer.proofs.Variants.{refused_undone, ok_done}
use Rattle.answer.proofs.OneToOne.{told_one_to_one, same_answer}
use Rattle.reach.specs.declared.Link.{Link}
use Rattle.basics.specs.Settles.{Settles}
use Rattle.basics.proofs.Settled.{settled}
use Rattle.chain.proofs.is_counted.Kinds as is-counted-kinds
use Rattle.chain.proofs.is_counted.Reads as is-counted
use Rattle.chain.proofs.read_links.Kinds as read-links-kinds
use Rattle.chain.proofs.read_links.Reads as read-links
use Rattle.chain.proofs.check_chain.Kinds as check-chain-kinds
use Rattle.chain.proofs.check_chain.Reads as check-chain

pub is_counted_settled : Settles 0 is-counted-kinds.ps is-counted-kinds.r is-counted.Learnt
is_counted_settled κs a x y s t p q = settled p q

-- two readings of k links: both refused alike, or both done with the same links
abbrev Alike : ℕ → Result (List Link) Refusal → Result (List Link) Refusal → Type 0
Alike k x y =
    MatchResult x (λ all. MatchResult y (λ held. take k all ≡ take k held) (λ _. ⊥)) (λ r. y ≡ Err r)

alike : (k : ℕ) (links : List Link) (x y : Result (List Link) Refusal) → told x ≡ told y
    → IfOk x (λ all. take k all ≡ links) → IfOk y (λ all. take k all ≡ links) → Alike k x y
unfolding told
alike k links (Ok a) (Ok b) e p q = p ∙ sym q
alike k links (Ok a) (Err s) e p q =
    absurd (false≢true (sym (refused_undone s) ∙ sym (ap is_done e) ∙ ok_done {A = List Link} (Ok a) a refl))
alike k links (Err r) (Ok b) e p q =
    absurd (false≢true (sym (refused_undone r) ∙ ap is_done e ∙ ok_done {A = List Link} (Ok b) b refl))
alike k links (Err r) (Err s) e p q =
    ap (λ (t : Refusal). Err t) (IfErr-at_err (λ (t : Refusal). t ≡ r)
    (told_one_to_one (Err r) (Err s) e) refl)

pub read_links_settled : (κs : Lfts 1) (a : Dens κs read-links-kinds.ps)
    (x y : (res_t read-links-kinds.r κs).Denot)
    (s t : AtExit (ended_of 1 read-links-kinds.ps read-links-kinds.r) κs)
    → read-links.Learnt κs a x s → read-links.Learnt κs a y t
    → Alike a.1.0 x y
read_links_settled κs a x y s t p q =
    alike a.1.0 _ x y (p.answered ∙ sym q.answered) p.links q.links

pub check_chain_settled : Settles 2 check-chain-kinds.ps check-chain-kinds.r check-chain.Learnt
check_chain_settled κs a x y s t p q = same_answer x y _ p q
