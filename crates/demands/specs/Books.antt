-- Document 02, (vi) and (vii): what is demanded of the element book,
-- over any sequence of calls on a fresh book.
use Rattle.std.specs.Prelude.{ℕ, ◌≡◌, true, List}
use Rattle.answer.specs.Answer.{told, plain, is_done}
use Rattle.share.specs.Maps.{Call, Tidy, Reply}
use Rattle.book.specs.declared.Party.{Party}
use Rattle.book.specs.Book.{share_of, with_share, book_made}
use Rattle.book.specs.History.{Asked, no_maps, maps_replies, calls_of, replies_to}
use Rattle.book.proofs.start.Kinds as start
use Rattle.book.proofs.start.Reads as start-reads
use Rattle.demands.specs.Demands.{Every}
use Rattle.demands.specs.BookCalls.{Step, History}

-- of the bytes b that a start which is done has left
abbrev pub Fresh : (List ℕ → Type 0) → Type 0
Fresh P = Every 1 start.ps start.r start-reads.Learnt (λ κs a x e. is_done (told x) ≡ true → P e.0.now)

-- "get answers as a plain map of numbers to descriptors does", every refusal of put and remove too;
-- "The map of (vi) becomes two maps"
abbrev pub AsMaps : Type 0
AsMaps =
    Fresh (λ b. (calls : List Asked) (replies : List Reply) (left : List ℕ) → History b calls replies left
    → replies ≡ maps_replies no_maps calls)

-- "and tidy changes no answer": calls after it, of either party, get the replies that they get without it
abbrev pub TidyChangesNone : Type 0
TidyChangesNone =
    Fresh (λ b. (before : List Asked) (said : List Reply) (left : List ℕ) → History b before said left
    → (p : Party) (r : Reply) (tidied : List ℕ) → Step left (p, Tidy) r tidied
    → (calls : List Asked) (replies replies' : List Reply) (end end' : List ℕ)
    → History left calls replies end → History tidied calls replies' end' → replies' ≡ replies)

-- 17 BOOK "never for bytes that a start and these calls have left": they keep the layout
abbrev pub NeverBook : Type 0
NeverBook =
    Fresh (λ b. (calls : List Asked) (replies : List Reply) (left : List ℕ) → History b calls replies left
    → (book_made left ≡ true)
    × ((c : Asked) (r : Reply) (after : List ℕ) → Step left c r after → r.0 ≡ plain 17 → ⊥))

-- "What one puts, removes or tidies must alter no refusal or bytes the other gets, their place aside":
-- two histories that begin with a start of the same answer, "hold no later start,
-- and agree on one party's calls"
abbrev pub Isolated : Type 0
Isolated =
    Every 1 start.ps start.r start-reads.Learnt (λ κs a x e.
    Every 1 start.ps start.r start-reads.Learnt (λ κs' a' x' e'.
    told x ≡ told x' → (p : Party) (calls calls' : List Asked) (replies replies' : List Reply)
    (end end' : List ℕ)
    → History e.0.now calls replies end → History e'.0.now calls' replies' end'
    → calls_of p calls ≡ calls_of p calls' → replies_to p calls replies ≡ replies_to p calls' replies'))

-- a call writes only its own share's bytes: afterwards the bytes are those before, with that share put anew
abbrev pub OwnShare : Type 0
OwnShare =
    (b : List ℕ) (p : Party) (c : Call) (r : Reply) (after : List ℕ) → Step b (p, c) r after
    → after ≡ with_share b p (share_of after p)
