-- The book of two parties: a call changes one share alone, and the layout is kept.
use Prim.Native.Nat.{ℕ, ◌+◌, ◌*◌, ◌≤◌, ◌<◌}
use mathlib.Core.Path.{◌≡◌, refl, sym, ap, ap₂, ◌∙◌, subst}
use mathlib.Core.Bool.{Bool, true, false, cond, not, ◌&&◌}
use mathlib.Core.List.{List, [], ◌∷◌, ◌++◌}
use native.Mathlib.Omega.{arith}
use borrow.Author.Tests.{le-leb, le-ltb}
use borrow.Rule.Slice.PartMut.{mid_of, put_mid, put_same}
use lib.Dec.{eqb}
use lib.ListN.{length, get_or, drop, replicate, length-drop}
use lib.Seq.{ext_get_or}
use Rattle.std.proofs.lemmas.Grind.{common_steps}
use Rattle.basics.proofs.SliceParts.{put_before, put_after, put_length, get_mid, length_mid}
use Rattle.answer.specs.Answer.{plain, is_done}
use Rattle.answer.specs.Refuse.{refuse}
use Rattle.answer.specs.Lent.{unless_refused}
use Rattle.share.specs.Maps.{Map, Call, map_answer, found, Reply, map_reply, map_after}
use Rattle.book.specs.declared.Party.{Party}
use Rattle.book.specs.declared.Party.TheVariants.{Display, Export}
use Rattle.book.specs.History.{Maps, no_maps, maps_after}
use Rattle.share.specs.Work.{worked, share_after}
use Rattle.book.specs.Book.{numbers, room, version, share_long, book_long, share_at, share_of}
use Rattle.book.specs.Book.{with_share, marked, book_made, start_answer, fresh, started}
use Rattle.book.specs.Book.{map_in, book_answer, book_handed, book_after}
use Rattle.share.proofs.Shares.{Holds, holds_as, holds_made}
use Rattle.share.proofs.Empty.{zero_holds}
use Rattle.share.proofs.Steps.{same_reply, after_holds}

-- ---- parts of a list of which another part is put anew
mid_same : (c j : ℕ) (l k : List ℕ) → length l ≡ length k → c + j ≤ length l
    → ((i : ℕ) → i < j → get_or l (c + i) 0 ≡ get_or k (c + i) 0) → mid_of c j l ≡ mid_of c j k
mid_same c j l k e h each =
    ext_get_or 0 (mid_of c j l) (mid_of c j k) (length_mid c j l h ∙ sym (length_mid c j k (omega arith)))
    (λ i q.
    let r : i < j = subst (λ n. i < n) (length_mid c j l h) q in
    get_mid c j l i r ∙ each i r ∙ sym (get_mid c j k i r))

module _ (a k : ℕ) (b s : List ℕ) (fits : a + k ≤ length b) (e : length s ≡ k) where
  mid_put : mid_of a k (put_mid a k b s) ≡ s
  mid_put = grind (arith, common_steps)

  mid_put_before : (c j : ℕ) → c + j ≤ a → mid_of c j (put_mid a k b s) ≡ mid_of c j b
  mid_put_before c j h =
      let l = put_length a k b s fits e in
      mid_same c j (put_mid a k b s) b l (omega arith)
      (λ i q. put_before a k b s fits e (c + i) (omega arith))

  mid_put_after : (c j : ℕ) → a + k ≤ c → c + j ≤ length b → mid_of c j (put_mid a k b s) ≡ mid_of c j b
  mid_put_after c j h g =
      let l = put_length a k b s fits e in
      mid_same c j (put_mid a k b s) b l (omega arith) (λ i q. put_after a k b s fits e (c + i) (omega arith))

-- ---- one share put anew
pub share_fits : (p : Party) (b : List ℕ) → book_long ≤ length b → share_at p + share_long ≤ length b
share_fits Display b h = omega arith
share_fits Export b h = omega arith

pub share_long_lem : (p : Party) (b : List ℕ) → book_long ≤ length b → length (share_of b p) ≡ share_long
unfolding share_of
share_long_lem p b h = length_mid (share_at p) share_long b (share_fits p b h)

module _ (b : List ℕ) (long : book_long ≤ length b) (p : Party) (s : List ℕ) (e : length s ≡ share_long) where
  with_long : length (with_share b p s) ≡ length b
  unfolding with_share
  with_long = put_length (share_at p) share_long b s (share_fits p b long) e

  pub with_same : share_of (with_share b p s) p ≡ s
  unfolding with_share share_of
  with_same = mid_put (share_at p) share_long b s (share_fits p b long) e

  with_marked : marked (with_share b p s) ≡ marked b
  unfolding with_share marked
  with_marked =
      ap₂ ◌&&◌
      (ap₂ ◌&&◌ (ap₂ ◌&&◌ (at 0 69 (four p 0 (omega arith))) (at 1 66 (four p 1 (omega arith))))
      (at 2 75 (four p 2 (omega arith))))
      (at 3 version (four p 3 (omega arith)))
    where
      at : (i v : ℕ) → i < share_at p
          → eqb (get_or (put_mid (share_at p) share_long b s) i 0) v ≡ eqb (get_or b i 0) v
      at i v h = ap (λ x. eqb x v) (put_before (share_at p) share_long b s (share_fits p b long) e i h)

      four : (q : Party) (i : ℕ) → i < 4 → i < share_at q
      four Display i h = h
      four Export i h = omega arith

-- and the other share stays
with_export : (b : List ℕ) → book_long ≤ length b → (s : List ℕ) → length s ≡ share_long
    → share_of (with_share b Display s) Export ≡ share_of b Export
unfolding with_share share_of
with_export b long s e =
    mid_put_after 4 share_long b s (omega arith) e (4 + share_long) share_long (omega arith) (omega arith)

with_display : (b : List ℕ) → book_long ≤ length b → (s : List ℕ) → length s ≡ share_long
    → share_of (with_share b Export s) Display ≡ share_of b Display
unfolding with_share share_of
with_display b long s e =
    mid_put_before (4 + share_long) share_long b s (omega arith) e 4 share_long (omega arith)

-- ---- a book and the two maps that it holds
pub record Kept (b : List ℕ) (ms : Maps) : Type 0 where
  pub long : book_long ≤ length b
  pub mark : marked b ≡ true
  pub each : (p : Party) → Holds numbers room (share_of b p) (ms p)

pub kept_made : (b : List ℕ) (ms : Maps) → Kept b ms → book_made b ≡ true
unfolding book_made
kept_made b ms k =
    ap₂ ◌&&◌
    (ap₂ ◌&&◌ (ap₂ ◌&&◌ (le-leb book_long (length b) k.long) k.mark)
    (holds_made numbers room (share_of b Display) (ms Display) (k.each Display)))
    (holds_made numbers room (share_of b Export) (ms Export) (k.each Export))

pub kept_as : (b : List ℕ) (ms ks : Maps) → ((p : Party) (n : ℕ) → ms p n ≡ ks p n) → Kept b ms → Kept b ks
kept_as b ms ks each k =
    record {
      long = k.long;
      mark = k.mark;
      each = λ p. holds_as numbers room (share_of b p) (ms p) (ks p) (λ i h. each p i) (k.each p);
    }

-- the answer is that of the party's map
pub answer_made : (b : List ℕ) → book_made b ≡ true → (p : Party) (c : Call)
    → book_answer b p c ≡ map_answer numbers room (map_in b p) c
unfolding book_answer
answer_made b made p c =
    ap (λ (t : Bool). cond (not t) (plain 17) (map_answer numbers room (map_in b p) c)) made

reply_made : (b : List ℕ) → book_made b ≡ true → (p : Party) (c : Call)
    → ◌≡◌ {A = Reply} (book_answer b p c, book_handed b p c) (map_reply numbers room (map_in b p) c)
unfolding book_handed map_reply
reply_made b made p c =
    ap (λ t. (t, unless_refused t [] (found (map_in b p) c))) (answer_made b made p c)

pub kept_reply : (b : List ℕ) (ms : Maps) → Kept b ms → (p : Party) (c : Call)
    → ◌≡◌ {A = Reply} (book_answer b p c, book_handed b p c) (map_reply numbers room (ms p) c)
kept_reply b ms k p c =
    reply_made b (kept_made b ms k) p c ∙ same_reply numbers room (map_in b p) (ms p) (k.each p).held c

put_either : (b : List ℕ) (p : Party) (t : List ℕ) (done : Bool)
    → cond done (with_share b p t) b ≡ with_share b p (cond done t (share_of b p))
unfolding with_share share_of
put_either b p t true = refl
put_either b p t false = sym (put_same (share_at p) share_long b)

-- the book afterwards is the same with the party's share put anew
pub after_made : (b : List ℕ) → book_made b ≡ true → (p : Party) (c : Call)
    → book_after b p c ≡ with_share b p (share_after numbers room (share_of b p) c)
unfolding book_after share_after unless_refused
after_made b made p c =
    ap (λ t. cond (is_done t) (with_share b p (worked numbers (share_of b p) c)) b) (answer_made b made p c)
    ∙ put_either b p (worked numbers (share_of b p) c) (is_done (map_answer numbers room (map_in b p) c))

with_kept : (b : List ℕ) (ms : Maps) → Kept b ms → (p : Party) (c : Call) (s : List ℕ)
    → Holds numbers room s (map_after numbers room (ms p) c) → Kept (with_share b p s) (maps_after ms (p, c))
with_kept b ms k p c s h =
    record {
      long = subst (λ n. book_long ≤ n) (sym (with_long b k.long p s h.long)) k.long;
      mark = with_marked b k.long p s h.long ∙ k.mark;
      each = λ q. by p q h;
    }
  where
    own : (q : Party) (m : Map) → Holds numbers room s m
        → Holds numbers room (share_of (with_share b q s) q) m
    own q m g =
        subst (λ (l : List ℕ). Holds numbers room l m) (sym (with_same b k.long q s g.long)) g

    by : (p q : Party) → Holds numbers room s (map_after numbers room (ms p) c)
        → Holds numbers room (share_of (with_share b p s) q) (maps_after ms (p, c) q)
    by Display Display g = own Display _ g
    by Display Export g =
        subst (λ (l : List ℕ). Holds numbers room l (ms Export))
        (sym (with_export b k.long s g.long)) (k.each Export)
    by Export Display g =
        subst (λ (l : List ℕ). Holds numbers room l (ms Display))
        (sym (with_display b k.long s g.long)) (k.each Display)
    by Export Export g = own Export _ g

pub kept_after : (b : List ℕ) (ms : Maps) → Kept b ms → (p : Party) (c : Call)
    → Kept (book_after b p c) (maps_after ms (p, c))
kept_after b ms k p c =
    subst (λ (l : List ℕ). Kept l (maps_after ms (p, c))) (sym (after_made b (kept_made b ms k) p c))
    (with_kept b ms k p c _ (after_holds numbers room (share_of b p) (ms p) c (k.each p)))

-- ---- a fresh book holds nothing
-- the mark, n zeros, and what follows
marked_head : (l : List ℕ) → marked ((69 ∷ 66 ∷ 75 ∷ version ∷ []) ++ l) ≡ true
unfolding marked
marked_head l = refl

zero_in : (n : ℕ) (l : List ℕ) (i : ℕ) → i < n
    → get_or ((69 ∷ 66 ∷ 75 ∷ version ∷ []) ++ (replicate n 0 ++ l)) (4 + i) 0 ≡ 0
zero_in n l i h = grind (arith, common_steps)

long_in : (n : ℕ) (l : List ℕ)
    → length ((69 ∷ 66 ∷ 75 ∷ version ∷ []) ++ (replicate n 0 ++ l)) ≡ 4 + n + length l
long_in n l = grind (arith, common_steps)

pub fresh_long : (b : List ℕ) → book_long ≤ length b → length (fresh b) ≡ length b
unfolding fresh
fresh_long b h = long_in (2 * share_long) (drop book_long b) ∙ omega (arith, length-drop book_long b)

fresh_zero : (b : List ℕ) (i : ℕ) → i < 2 * share_long → get_or (fresh b) (4 + i) 0 ≡ 0
unfolding fresh
fresh_zero b i h = zero_in (2 * share_long) (drop book_long b) i h

fresh_marked : (b : List ℕ) → marked (fresh b) ≡ true
unfolding fresh
fresh_marked b = marked_head (replicate (2 * share_long) 0 ++ drop book_long b)

of_share : (p : Party) (b : List ℕ) (i : ℕ) → i < share_long
    → get_or (share_of b p) i 0 ≡ get_or b (share_at p + i) 0
unfolding share_of
of_share p b i h = get_mid (share_at p) share_long b i h

pub fresh_kept : (b : List ℕ) → book_long ≤ length b → Kept (fresh b) no_maps
fresh_kept b h =
    let l = fresh_long b h in
    let k : book_long ≤ length (fresh b) = omega arith in
    record {
      long = k;
      mark = fresh_marked b;
      each = λ p. zero_holds numbers room (share_of (fresh b) p) (share_long_lem p (fresh b) k)
          (λ i q. of_share p (fresh b) i (omega arith) ∙ place p i q);
    }
  where
    past : (i : ℕ) → 4 + share_long + i ≡ 4 + (share_long + i)
    past i = omega arith

    place : (p : Party) (i : ℕ) → i < 2 * numbers → get_or (fresh b) (share_at p + i) 0 ≡ 0
    place Display i q = fresh_zero b i (omega arith)
    place Export i q = ap (λ n. get_or (fresh b) n 0) (past i) ∙ fresh_zero b (share_long + i) (omega arith)

pub started_fresh : (b : List ℕ) → book_long ≤ length b → started b ≡ fresh b
unfolding started start_answer unless_refused plain
started_fresh b h =
    ap (λ (t : Bool). cond (is_done (refuse ((t, 8) ∷ []) (plain 0))) (fresh b) b)
    (le-ltb (length b) book_long h)

pub started_kept : (b : List ℕ) → book_long ≤ length b → Kept (started b) no_maps
started_kept b h = subst (λ (l : List ℕ). Kept l no_maps) (sym (started_fresh b h)) (fresh_kept b h)
