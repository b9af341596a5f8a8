-- Calls of the element book, as the prover reads their contracts; and histories, calls one after another,
-- each by an outcome that its contract allows.
use Rattle.std.specs.Prelude.{ℕ, ◌≡◌, List, [], ◌∷◌}
use borrow.Fn.Kinds.{Dens, res_t, ended_of}
use denote.Triple.Clauses.{AtExit}
use contract.Lifetimes.{Lfts}
use Rattle.answer.specs.Answer.{told}
use Rattle.share.specs.Maps.{Put, Get, Remove, Tidy, Reply}
use Rattle.book.specs.History.{Asked}
use Rattle.book.proofs.put.Kinds as put
use Rattle.book.proofs.put.Reads as put_reads
use Rattle.book.proofs.remove.Kinds as remove
use Rattle.book.proofs.remove.Reads as remove-reads
use Rattle.book.proofs.tidy.Kinds as tidy
use Rattle.book.proofs.tidy.Reads as tidy-reads
use Rattle.book.proofs.find.Kinds as find
use Rattle.book.proofs.find.Reads as find-reads
use Rattle.book.proofs.get.Kinds as get
use Rattle.book.proofs.get.Reads as get-reads

-- the bytes of a book, a call and whose it is, the reply to it, and the bytes afterwards.
-- A get is the two calls on the same bytes, party and number: `find` gives the answer, `get` the bytes
pub data Step : List ℕ → Asked → Reply → List ℕ → Type 0 where
  puts : (κs : Lfts 2) (a : Dens κs put.ps) (x : (res_t put.r κs).Denot)
      (e : AtExit (ended_of 2 put.ps put.r) κs) → put_reads.Learnt κs a x e
      → Step a.0.now (a.1.0, Put a.1.1.0 a.1.1.1.0.now) (told x, []) e.0.now
  removes : (κs : Lfts 1) (a : Dens κs remove.ps) (x : (res_t remove.r κs).Denot)
      (e : AtExit (ended_of 1 remove.ps remove.r) κs) → remove-reads.Learnt κs a x e
      → Step a.0.now (a.1.0, Remove a.1.1.0) (told x, []) e.0.now
  tidies : (κs : Lfts 1) (a : Dens κs tidy.ps) (x : (res_t tidy.r κs).Denot)
      (e : AtExit (ended_of 1 tidy.ps tidy.r) κs) → tidy-reads.Learnt κs a x e
      → Step a.0.now (a.1.0, Tidy) (told x, []) e.0.now
  gets : (κs : Lfts 1) (a : Dens κs find.ps) (x : (res_t find.r κs).Denot)
      (e : AtExit (ended_of 1 find.ps find.r) κs) → find-reads.Learnt κs a x e
      → (κs' : Lfts 1) (a' : Dens κs' get.ps) (part : (res_t get.r κs').Denot)
      (e' : AtExit (ended_of 1 get.ps get.r) κs') → get-reads.Learnt κs' a' part e'
      → a'.0.now ≡ a.0.now → a'.1.0 ≡ a.1.0 → a'.1.1.0 ≡ a.1.1.0
      → Step a.0.now (a.1.0, Get a.1.1.0) (told x, part.now) a.0.now

-- the bytes at first, the calls, the replies, and the bytes that are left
pub data History : List ℕ → List Asked → List Reply → List ℕ → Type 0 where
  none : {b : List ℕ} → History b [] [] b
  next : {b b' b'' : List ℕ} {c : Asked} {r : Reply} {cs : List Asked} {rs : List Reply} → Step b c r b'
      → History b' cs rs b'' → History b (c ∷ cs) (r ∷ rs) b''
