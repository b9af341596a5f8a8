-- What a call leaves as it was: all but its own share, and every byte at a get.
use Prim.Native.Nat.{ℕ}
use mathlib.Core.Path.{◌≡◌, refl, sym, ap, ◌∙◌}
use mathlib.Core.Bool.{Bool, true, false, cond}
use mathlib.Core.List.{List, []}
use borrow.Rule.Slice.PartMut.{mid_of, put_mid, put_same}
use Rattle.answer.specs.Answer.{is_done}
use Rattle.answer.specs.Lent.{unless_refused}
use Rattle.share.specs.Maps.{Call, Put, Get, Remove, Tidy}
use Rattle.share.specs.Work.{worked, share_after}
use Rattle.share.proofs.Shares.{made_holds}
use Rattle.share.proofs.Steps.{after_holds}
use Rattle.book.specs.declared.Party.{Party}
use Rattle.book.specs.Book.{numbers, room, share_at, share_long, share_of, with_share, book_made}
use Rattle.book.specs.Book.{map_in, book_answer, book_handed, book_after}
use Rattle.book.proofs.Books.{share_long_lem, with_same, after_made}
use Rattle.book.proofs.Calls.{made_long, made_share, broken_after}

share_same : (b : List ℕ) (p : Party) → with_share b p (share_of b p) ≡ b
unfolding with_share share_of
share_same b p = put_same (share_at p) share_long b

-- for all bytes: the book afterwards is the book before with the party's own share put anew
pub own_share : (b : List ℕ) (p : Party) (c : Call)
    → book_after b p c ≡ with_share b p (share_of (book_after b p c) p)
own_share b p c = by (book_made b) refl
  where
    by : (t : Bool) → book_made b ≡ t → book_after b p c ≡ with_share b p (share_of (book_after b p c) p)
    by true e =
        let s = share_after numbers room (share_of b p) c in
        let h = made_holds numbers room (share_of b p) (share_long_lem p b (made_long b e))
        (made_share b e p) in
        let l = (after_holds numbers room (share_of b p) (map_in b p) c h).long in
        let q = after_made b e p c in
        q ∙ ap (with_share b p) (sym (ap (λ l. share_of l p) q ∙ with_same b (made_long b e) p s l))
    by false e =
        let q = broken_after b p c e in
        sym q ∙ sym (share_same b p) ∙ ap (λ (l : List ℕ). with_share b p (share_of l p)) q

-- a get writes nothing, and nothing else hands back bytes
pub get_stays : (b : List ℕ) (p : Party) (n : ℕ) → book_after b p (Get n) ≡ b
unfolding book_after unless_refused worked with_share share_of
get_stays b p n = by (is_done (book_answer b p (Get n)))
  where
    by : (t : Bool) → cond t (put_mid (share_at p) share_long b (mid_of (share_at p) share_long b)) b ≡ b
    by true = put_same (share_at p) share_long b
    by false = refl

either_none : (t : Bool) → ◌≡◌ {A = List ℕ} (cond t [] []) []
either_none true = refl
either_none false = refl

pub put_hands_none : (b : List ℕ) (p : Party) (n : ℕ) (d : List ℕ) → book_handed b p (Put n d) ≡ []
unfolding book_handed unless_refused
put_hands_none b p n d = either_none (is_done (book_answer b p (Put n d)))

pub remove_hands_none : (b : List ℕ) (p : Party) (n : ℕ) → book_handed b p (Remove n) ≡ []
unfolding book_handed unless_refused
remove_hands_none b p n = either_none (is_done (book_answer b p (Remove n)))

pub tidy_hands_none : (b : List ℕ) (p : Party) → book_handed b p Tidy ≡ []
unfolding book_handed unless_refused
tidy_hands_none b p = either_none (is_done (book_answer b p Tidy))
