-- Any two outcomes that a contract allows of one call are the same: for each public function, of its
-- contract itself, as the prover reads it.
use mathlib.Core.Path.{◌≡◌, sym, ap, ◌∙◌}
use Rattle.std.specs.Prelude.{Result, Ok, Err}
use borrow.Fn.Kinds.{Dens, res_t, ended_of}
use denote.Triple.Clauses.{AtExit}
use contract.Lifetimes.{Lfts}
use Rattle.answer.specs.declared.Refusal.{Refusal}
use Rattle.answer.specs.Answer.{Answer, plain, told, told_refusal, is_done}
use Rattle.answer.proofs.Variants.{refused_undone}
use Rattle.answer.proofs.OneToOne.{same_answer, told_one_to_one}
use Rattle.basics.specs.Settles.{Settles, SettlesBytes}
use Rattle.basics.proofs.Settled.{settled}
use Rattle.book.specs.declared.Found.{Found}
use Rattle.book.specs.Book.{place_found, length_found}
use Rattle.book.proofs.start.Kinds as start-kinds
use Rattle.book.proofs.start.Reads as start
use Rattle.book.proofs.put.Kinds as put-kinds
use Rattle.book.proofs.put.Reads as put
use Rattle.book.proofs.remove.Kinds as remove-kinds
use Rattle.book.proofs.remove.Reads as remove
use Rattle.book.proofs.tidy.Kinds as tidy-kinds
use Rattle.book.proofs.tidy.Reads as tidy
use Rattle.book.proofs.find.Kinds as find-kinds
use Rattle.book.proofs.find.Reads as find
use Rattle.book.proofs.get.Kinds as get-kinds
use Rattle.book.proofs.get.Reads as get

pub start_settled : Settles 1 start-kinds.ps start-kinds.r start.Learnt
start_settled κs a x y s t p q = same_answer x y _ p.0 q.0

pub start_settled_bytes : SettlesBytes 1 start-kinds.ps start-kinds.r start.Learnt (λ κs e. e.0.now)
start_settled_bytes κs a x y s t p q = settled p.1 q.1

pub put_settled : Settles 2 put-kinds.ps put-kinds.r put.Learnt
put_settled κs a x y s t p q = same_answer x y _ p.0 q.0

pub put_settled_bytes : SettlesBytes 2 put-kinds.ps put-kinds.r put.Learnt (λ κs e. e.0.now)
put_settled_bytes κs a x y s t p q = settled p.1 q.1

pub remove_settled : Settles 1 remove-kinds.ps remove-kinds.r remove.Learnt
remove_settled κs a x y s t p q = same_answer x y _ p.0 q.0

pub remove_settled_bytes : SettlesBytes 1 remove-kinds.ps remove-kinds.r remove.Learnt (λ κs e. e.0.now)
remove_settled_bytes κs a x y s t p q = settled p.1 q.1

pub tidy_settled : Settles 1 tidy-kinds.ps tidy-kinds.r tidy.Learnt
tidy_settled κs a x y s t p q = same_answer x y _ p.0 q.0

pub tidy_settled_bytes : SettlesBytes 1 tidy-kinds.ps tidy-kinds.r tidy.Learnt (λ κs e. e.0.now)
tidy_settled_bytes κs a x y s t p q = settled p.1 q.1

-- two outcomes of a find that are told alike, with the same place and the same length
undone : (r : Refusal) → is_done (told_refusal r) ≡ is_done (plain 0) → ⊥
unfolding plain
undone r e = let z = sym (refused_undone r) ∙ e in cc

same_found : (x y : Result Found Refusal) → told x ≡ told y → place_found x ≡ place_found y
    → length_found x ≡ length_found y → x ≡ y
unfolding told place_found length_found
same_found (Ok f) (Ok g) a q l = λ i. Ok (record { place = q i; length = l i })
same_found (Ok f) (Err r) a q l = absurd (undone r (sym (ap is_done a)))
same_found (Err r) (Ok f) a q l = absurd (undone r (ap is_done a))
same_found (Err r) (Err s) a q l =
    let e : ◌≡◌ {A = Answer} (Err r) (Err s) = told_one_to_one (Err r) (Err s) a in
    cc

pub find_settled : Settles 1 find-kinds.ps find-kinds.r find.Learnt
find_settled κs a x y s t p q =
    same_found x y (settled p.answer q.answer) (settled p.place q.place) (settled p.long q.long)

-- the bytes of the part that is given back, and where it begins
pub get_settled : (κs : Lfts 1) (a : Dens κs get-kinds.ps) (x y : (res_t get-kinds.r κs).Denot)
    (s t : AtExit (ended_of 1 get-kinds.ps get-kinds.r) κs) → get.Learnt κs a x s → get.Learnt κs a y t
    → (x.now ≡ y.now) × (x.ref_ptr ≡ y.ref_ptr)
get_settled κs a x y s t p q = (settled p.0 q.0, settled p.1 q.1)
