-- What the writer leaves: head, body and the further bytes.
use Prim.Native.Nat.{ℕ, ◌+◌, ◌-◌, ◌≤◌}
use mathlib.Core.Path.{◌≡◌, refl, sym, ap, ap₂, ◌∙◌}
use mathlib.Core.Bool.{true, false, cond}
use mathlib.Core.List.{List, [], ◌++◌, append_assoc, append-nil}
use native.Mathlib.Omega.{arith}
use borrow.Rule.Slice.PartMut.{put_mid}
use borrow.Author.Tests.{leb-true, eq-eqb, le-ltb}
use lib.Dec.{leb, eqb}
use lib.ListN.{length, take, drop, length-drop, drop_of_length-le}
use lib.Seq.{take_at, drop_at, drop-drop, take-length}
use Rattle.basics.proofs.Lists.{tail_is}
use Rattle.basics.proofs.Tests.{both}
use Rattle.answer.specs.declared.Refusal.TheVariants.{Form}
use Rattle.answer.specs.Answer.{Answer, told, told_refusal, plain, is_done}
use Rattle.answer.specs.declared.Told.{Told}
use Rattle.answer.specs.Refuse.{refuse}
use Rattle.answer.specs.Lent.{if_done, unless_refused}
use Rattle.answer.proofs.Lent.{kept_by, made_by_lem}
use Rattle.picture.specs.declared.Depth.{Depth}
use Rattle.picture.specs.declared.Face.TheVariants.{AsIs}
use Rattle.picture.specs.Frame.{picture_bytes}
use Rattle.picture.specs.Points.{value_at}
use Rattle.picture.specs.Bytes.{bytes_of, written, faced}
use Rattle.judge.specs.declared.Padding.TheVariants.{Free}
use Rattle.judge.specs.Tests.{picture_tests, room_tests, Admitted}
use Rattle.judge.proofs.Admitted.{between_tests}
use Rattle.ech.specs.File.{head_bytes, known_kind, depth_of, head_of, file_of}
use Rattle.ech.specs.ReadWrite.{retired_tests, write_answer, write_target}

pub known_few : (kind : ℕ) → known_kind kind ≡ true → kind ≤ 3
known_few kind e = leb-true kind 3 (both (leb 1 kind) (leb kind 3) e).1

pub head_long : (kind w h : ℕ) → length (head_of kind w h) ≡ head_bytes
unfolding head_of
head_long kind w h = refl

-- the head copied to the start
pub head_copied : (kind w h : ℕ) (l t u : List ℕ) → l ≡ head_of kind w h
    → u ≡ take (length l) l ++ drop (length l) t → u ≡ head_of kind w h ++ drop head_bytes t
head_copied kind w h l t u el eu =
    eu ∙ ap (λ a. a ++ drop (length l) t) (take-length l)
    ∙ ap₂ (λ a n. a ++ drop n t) el (ap length el ∙ head_long kind w h)

-- head, body and what was there past them
pub file_made : (kind w h : ℕ) (depth : Depth) → depth ≡ depth_of kind
    → (s t u ys : List ℕ) → u ≡ head_of kind w h ++ drop head_bytes t
    → ys ≡ written depth (faced depth AsIs s w) w h (take (length u - head_bytes) (drop head_bytes u))
    → put_mid head_bytes (length u - head_bytes) u ys
    ≡ file_of kind w h s ++ drop (head_bytes + picture_bytes (depth_of kind) w h) t
unfolding written file_of faced
file_made kind w h depth ed s t u ys eu ey =
    ap₂ (λ a b. a ++ (ys ++ b)) front none
    ∙ ap (λ l. head_of kind w h ++ l) (append-nil ys ∙ made ∙ ap (λ l. body ++ l) (drop-drop n head_bytes t))
    ∙ sym (append_assoc (head_of kind w h) body (drop (head_bytes + n) t))
  where
    n : ℕ
    n = picture_bytes (depth_of kind) w h

    body : List ℕ
    body = bytes_of (depth_of kind) (value_at (depth_of kind) s w) w h

    front : take head_bytes u ≡ head_of kind w h
    front =
        ap (take head_bytes) eu
        ∙ take_at (head_of kind w h) (drop head_bytes t) head_bytes (head_long kind w h)

    rest : drop head_bytes u ≡ drop head_bytes t
    rest =
        ap (drop head_bytes) eu
        ∙ drop_at (head_of kind w h) (drop head_bytes t) head_bytes (head_long kind w h)

    none : drop (length u - head_bytes) (drop head_bytes u) ≡ []
    none =
        drop_of_length-le (drop head_bytes u) {i = length u - head_bytes}
        (omega (arith, length-drop head_bytes u))

    made : ys ≡ body ++ drop n (drop head_bytes t)
    made =
        ey
        ∙ ap
        (λ d. bytes_of d (value_at d s w) w h
        ++ drop (picture_bytes d w h) (take (length u - head_bytes) (drop head_bytes u)))
        ed
        ∙ ap (λ l. body ++ drop n l) (tail_is u head_bytes ∙ rest)

-- the writer's answer and target, from what its parts say
module _ (kind w h : ℕ) (s t : List ℕ) where
  pub unknown : known_kind kind ≡ false
      → (told_refusal Form ≡ write_answer kind w h s t) × (t ≡ write_target kind w h s t)
  unfolding told_refusal plain write_answer write_target
  unknown e =
      let r : told_refusal Form ≡ write_answer kind w h s t = simp e in
      (r, kept_by t _ (write_answer kind w h s t) (told_refusal Form) r refl)

  -- the picture's answer, for what is found of the kind and for a depth
  abbrev judged_as : Told → Depth → Told
  judged_as b d =
      refuse (picture_tests Free d w h s)
      (if_done b (refuse (room_tests d w h head_bytes (length t)) (plain 0)))

  module _ (known : known_kind kind ≡ true) (depth : Depth) (ed : depth ≡ depth_of kind)
      (between : Told) (eb : between ≡ refuse (retired_tests kind) (plain 0)) (a : Answer)
      (ea : told a ≡ judged_as between depth) where
    pub write_answer_lem : told a ≡ write_answer kind w h s t
    unfolding write_answer
    write_answer_lem =
        ea ∙ ap₂ judged_as eb ed
        ∙ between_tests Free (depth_of kind) w h s (retired_tests kind) head_bytes (length t)
        (omega arith, tt)
        ∙ simp known

    pub write_done : (u : List ℕ) → is_done (told a) ≡ true
        → u ≡ file_of kind w h s ++ drop (head_bytes + picture_bytes (depth_of kind) w h) t
        → (told a ≡ write_answer kind w h s t) × (u ≡ write_target kind w h s t)
    unfolding write_target
    write_done u d e = (
      write_answer_lem,
      made_by_lem t _ (write_answer kind w h s t) (told a) write_answer_lem u d e,
    )

    pub write_refused : is_done (told a) ≡ false
        → (told a ≡ write_answer kind w h s t) × (t ≡ write_target kind w h s t)
    unfolding write_target
    write_refused d = (write_answer_lem, kept_by t _ (write_answer kind w h s t) (told a) write_answer_lem d)

  -- a picture that is admitted is written, by a kind that is still made
  pub write_passes : known_kind kind ≡ true → eqb kind 3 ≡ false
      → Admitted Free (depth_of kind) w h s head_bytes (length t)
      → (is_done (write_answer kind w h s t) ≡ true)
      × (write_target kind w h s t ≡ file_of kind w h s
      ++ drop (head_bytes + picture_bytes (depth_of kind) w h) t)
  unfolding write_answer write_target unless_refused plain
  write_passes known made p =
      let done : is_done (write_answer kind w h s t) ≡ true =
      simp (known, made, p.sized, eq-eqb _ _ p.whole, le-ltb _ _ p.roomy) in (
        done,
        ap (λ b. cond b (file_of kind w h s ++ drop (head_bytes + picture_bytes (depth_of kind) w h) t) t)
            done,
      )
