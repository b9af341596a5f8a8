-- What the writer leaves: head, body and the further bytes.
use Prim.Native.Nat.{ℕ, ◌+◌, ◌-◌}
use mathlib.Core.Path.{◌≡◌, sym, ap, ap₂, ◌∙◌}
use mathlib.Core.Bool.{true, false}
use mathlib.Core.List.{List, [], ◌∷◌, ◌++◌, flatten, append_assoc, append-nil}
use native.Mathlib.Omega.{arith}
use borrow.Rule.Slice.PartMut.{put_mid}
use lib.ListN.{length, take, drop, length-append, length-drop, drop_of_length-le}
use lib.Seq.{take_at, drop_at, drop-drop}
use Rattle.basics.proofs.Lists.{tail_is}
use Rattle.answer.specs.Answer.{Answer, told, plain, is_done}
use Rattle.answer.specs.Refuse.{refuse}
use Rattle.answer.proofs.Lent.{kept_by, made_by_lem}
use Rattle.digits.specs.Decimal.{decimal}
use Rattle.digits.specs.Put.{put}
use Rattle.digits.proofs.Puts.{put_first}
use Rattle.picture.specs.declared.Depth.{Depth}
use Rattle.picture.specs.declared.Depth.TheVariants.{OneBit, EightBit}
use Rattle.picture.specs.declared.Face.TheVariants.{AsIs}
use Rattle.picture.specs.Frame.{picture_bytes}
use Rattle.picture.specs.Points.{value_at}
use Rattle.picture.specs.Bytes.{bytes_of, written, faced}
use Rattle.picture.proofs.Bytes.{bytes_long}
use Rattle.judge.specs.declared.Padding.TheVariants.{Free}
use Rattle.judge.specs.Tests.{body_tests, Admitted}
use Rattle.judge.proofs.Bodies.{body_admitted}
use Rattle.pnmheader.specs.Header.{magic_digit}
use Rattle.netpbm.specs.File.{space, line_feed, tail_of, head_of, file_of}
use Rattle.netpbm.specs.ReadWrite.{write_answer, write_target}

-- ---- the head in pieces: a label with a number each, and the end
pub head_is : (depth : Depth) (w h : ℕ)
    → flatten
    (((80 ∷ magic_digit depth ∷ line_feed ∷ []) ++ decimal w) ∷ ((space ∷ []) ++ decimal h) ∷ tail_of depth
    ∷ [])
    ≡ head_of depth w h
unfolding head_of flatten
head_is depth w h = simp (append_assoc, append-nil)

pub head_long : (depth : Depth) (w h : ℕ)
    → length (head_of depth w h) ≡ 4 + length (decimal w) + length (decimal h) + length (tail_of depth)
unfolding head_of
head_long depth w h =
    omega (
      arith,
      length-append (decimal w) ((space ∷ []) ++ (decimal h ++ tail_of depth)),
      length-append (decimal h) (tail_of depth),
    )

-- the first bytes of the longer end
pub tail_first : (depth : Depth) (n : ℕ) → n ≡ length (tail_of depth)
    → take n (line_feed ∷ 50 ∷ 53 ∷ 53 ∷ line_feed ∷ []) ≡ tail_of depth
tail_first OneBit n e = ap (λ k. take k (line_feed ∷ 50 ∷ 53 ∷ 53 ∷ line_feed ∷ [])) e
tail_first EightBit n e = ap (λ k. take k (line_feed ∷ 50 ∷ 53 ∷ 53 ∷ line_feed ∷ [])) e

pub file_long : (depth : Depth) (w h : ℕ) (s : List ℕ)
    → length (file_of depth w h s) ≡ length (head_of depth w h) + picture_bytes depth w h
unfolding file_of
file_long depth w h s =
    length-append (head_of depth w h) _ ∙ ap (λ n. length (head_of depth w h) + n) (bytes_long depth _ w h)

-- ---- head, body and what was there past them
pub file_made : (depth : Depth) (w h n : ℕ) (s t u ys : List ℕ) → n ≡ length (head_of depth w h)
    → u ≡ put 0 (head_of depth w h) t
    → ys ≡ written depth (faced depth AsIs s w) w h (take (length u - n) (drop n u))
    → put_mid n (length u - n) u ys ≡ file_of depth w h s ++ drop (length (file_of depth w h s)) t
unfolding written file_of faced
file_made depth w h n s t u ys en eu ey =
    ap₂ (λ a b. a ++ (ys ++ b)) front none
    ∙ ap (λ l. head ++ l) (append-nil ys ∙ made)
    ∙ sym (append_assoc head body (drop (n + m) t))
    ∙ ap (λ k. (head ++ body) ++ drop k t) (ap (λ k. k + m) en ∙ sym (file_long depth w h s))
  where
    m : ℕ
    m = picture_bytes depth w h

    head : List ℕ
    head = head_of depth w h

    body : List ℕ
    body = bytes_of depth (value_at depth s w) w h

    started : u ≡ head ++ drop n t
    started = eu ∙ put_first head t ∙ ap (λ k. head ++ drop k t) (sym en)

    front : take n u ≡ head
    front = ap (take n) started ∙ take_at head (drop n t) n (sym en)

    rest : drop n u ≡ drop n t
    rest = ap (drop n) started ∙ drop_at head (drop n t) n (sym en)

    none : drop (length u - n) (drop n u) ≡ []
    none = drop_of_length-le (drop n u) {i = length u - n} (omega (arith, length-drop n u))

    made : ys ≡ body ++ drop (n + m) t
    made = ey ∙ ap (λ l. body ++ drop m l) (tail_is u n ∙ rest) ∙ ap (λ l. body ++ l) (drop-drop m n t)

-- ---- the writer's answer and target, from what its parts say
module _ (depth : Depth) (w h : ℕ) (s t : List ℕ) (n : ℕ) (en : n ≡ length (head_of depth w h)) (a : Answer)
    (ea : told a ≡ refuse (body_tests Free depth w h s n (length t)) (plain 0)) where
  write_answer_lem : told a ≡ write_answer depth w h s t
  unfolding write_answer
  write_answer_lem = ea ∙ ap (λ k. refuse (body_tests Free depth w h s k (length t)) (plain 0)) en

  pub write_admitted : is_done (told a) ≡ true
      → Admitted Free depth w h s (length (head_of depth w h)) (length t)
  unfolding write_answer
  write_admitted d =
      body_admitted Free depth w h s (length (head_of depth w h)) (length t)
      (ap is_done (sym write_answer_lem) ∙ d)

  pub write_done : (u : List ℕ) → is_done (told a) ≡ true
      → u ≡ file_of depth w h s ++ drop (length (file_of depth w h s)) t
      → (told a ≡ write_answer depth w h s t) × (u ≡ write_target depth w h s t)
  unfolding write_target
  write_done u d e = (
    write_answer_lem,
    made_by_lem t _ (write_answer depth w h s t) (told a) write_answer_lem u d e,
  )

  pub write_refused : is_done (told a) ≡ false
      → (told a ≡ write_answer depth w h s t) × (t ≡ write_target depth w h s t)
  unfolding write_target
  write_refused d = (write_answer_lem, kept_by t _ (write_answer depth w h s t) (told a) write_answer_lem d)
