-- The refusals of an element and a file, part by part; and what an answer that is done tells.
use Prim.Native.Nat.{ℕ, ◌≤◌, ◌<◌, min}
use mathlib.Core.Path.{◌≡◌, refl, sym, ap, ap₂, ◌∙◌, subst}
use mathlib.Core.Bool.{true, false, not, cond}
use mathlib.Core.List.{List, [], ◌++◌}
use native.Mathlib.Omega.{arith}
use borrow.Author.Tests.{lt-ltb, le-ltb, ltb-false, not-false}
use lib.Dec.{ltb, lit<}
use lib.ListN.{length}
use Rattle.std.specs.Prelude.{Ok, Err}
use Rattle.answer.specs.declared.Refusal.TheVariants.{Size, Source, Pad, Shape}
use Rattle.answer.specs.declared.Refusal.TheVariants.{Overlap, Chain, Split, Room, Form, Job, Netpbm}
use Rattle.answer.specs.declared.Refusal.TheVariants.{Marker, Full, Absent, Retired, Nest, Book, NoChain}
use Rattle.answer.specs.declared.Told.{Told}
use Rattle.answer.specs.Answer.{Answer, told, told_refusal, plain, is_done}
use Rattle.answer.specs.Refuse.{refuse}
use Rattle.answer.specs.Lent.{if_done}
use Rattle.answer.proofs.Order.{Numbered, passed_all, none_refuses}
use Rattle.answer.proofs.Lent.{all_done, in_parts, two_parts}
use Rattle.picture.specs.declared.Depth.{Depth}
use Rattle.picture.specs.Bytes.{written}
use Rattle.element.specs.Descriptor.{well_made}
use Rattle.judge.specs.Tests.{shape_tests}
use Rattle.judge.proofs.Admitted.{staged}
use Rattle.ech.specs.declared.Header.{Header}
use Rattle.ech.specs.File.{depth_of, kind_of, reported_kind, pings_of, bins_of, body_of}
use Rattle.ech.specs.ReadWrite.{file_tests, picture_of, read_answer, read_target, GivenBack}
use Rattle.ech.proofs.Judging.{file_admitted}
use Rattle.ech.proofs.Reading.{own_depth}
use Rattle.ech.proofs.RoundTrip.{read_admitted}
use Rattle.text.specs.Text.{most_text}
use Rattle.work.specs.Work.{longest, text_tests, work_tests, shortest, work_answer}
use Rattle.work.specs.Steps.Taken.{Taken}

file_numbered : (f : List ℕ) (room : ℕ) → Numbered (file_tests f room)
file_numbered f room = (lit< tt, (lit< tt, (lit< tt, (lit< tt, (lit< tt, tt)))))

-- ---- element, file, text, as the code meets them
module _ (f : List ℕ) (room n : ℕ) (shape : Answer) where
  -- what is answered
  abbrev all : Told
  all = if_done (told shape) (refuse (file_tests f room ++ text_tests f n) (plain 0))

  pub refused_shape : is_done (told shape) ≡ false → told shape ≡ all
  refused_shape e =
      sym (ap (λ b. cond b (refuse (file_tests f room ++ text_tests f n) (plain 0)) (told shape)) e)

  module _ (made : is_done (told shape) ≡ true) (a : Told) (ea : a ≡ read_answer f room) where
    onward : if_done a (refuse (text_tests f n) (plain 0)) ≡ all
    unfolding read_answer
    onward =
        ap (λ x. if_done x (refuse (text_tests f n) (plain 0))) ea
        ∙ two_parts (file_tests f room) (text_tests f n) (file_numbered f room)
        ∙ sym (ap (λ b. cond b (refuse (file_tests f room ++ text_tests f n) (plain 0)) (told shape)) made)

    pub refused_file : is_done a ≡ false → a ≡ all
    refused_file e = sym (ap (λ b. cond b (refuse (text_tests f n) (plain 0)) a) e) ∙ onward

    module _ (read : is_done a ≡ true) (k : ℕ) (ek : k ≡ longest f) where
      last : refuse (text_tests f n) (plain 0) ≡ all
      last = sym (ap (λ b. cond b (refuse (text_tests f n) (plain 0)) a) read) ∙ onward

      pub refused_room : n < k → told_refusal Room ≡ all
      unfolding told_refusal
      refused_room l =
          sym (ap (λ b. cond b (plain 8) (plain 0)) (lt-ltb n (longest f) (subst (λ m. n < m) ek l))) ∙ last

      pub nothing_refused : k ≤ n → plain 0 ≡ all
      nothing_refused l =
          sym (ap (λ b. cond b (plain 8) (plain 0)) (le-ltb n (longest f) (subst (λ m. m ≤ n) ek l))) ∙ last

-- the longest text by the numbers that were read
pub longest_own : (f : List ℕ) (room : ℕ) (r : Header)
    → GivenBack (read_answer f room) (reported_kind f) (pings_of f) (bins_of f) (Ok r)
    → (depth : Depth) (k : ℕ) → depth ≡ depth_of r.kind → k ≡ most_text depth r.w r.h r.kind
    → k ≡ longest f
longest_own f room r g depth k ed ek =
    ek
    ∙ ap₂ (λ (d : Depth) (w : ℕ). most_text d w r.h r.kind) (own_depth f [] room r g depth ed)
    g.pings
    ∙ ap₂ (λ h kind. most_text (depth_of (kind_of f)) (pings_of f) h kind) g.bins
    g.kind

-- the code's answer is that of the whole list, with the shortest work buffer
pub answer_is : (d f p r m t : List ℕ) (shape said : Told) (k room : ℕ) → k ≡ min (length r) (length m)
    → room ≡ min (length p) k → shape ≡ refuse (shape_tests (well_made d)) (plain 0)
    → said ≡ if_done shape (refuse (file_tests f room ++ text_tests f (length t)) (plain 0))
    → said ≡ work_answer d f p r m t
unfolding work_answer
answer_is d f p r m t shape said k room ek er es e =
    e
    ∙ ap₂ (λ x n. if_done x (refuse (file_tests f n ++ text_tests f (length t)) (plain 0)))
    es (er ∙ ap (min (length p)) ek)
    ∙ two_parts (shape_tests (well_made d))
    (file_tests f (shortest p r m) ++ text_tests f (length t)) (lit< tt, tt)

-- ---- what follows where nothing is refused
taken : (d f : List ℕ) (room n : ℕ) → is_done (refuse (work_tests d f room n) (plain 0)) ≡ true
    → (well_made d ≡ true) × Taken f room n
unfolding read_answer
taken d f room n e =
    let p = staged (not (well_made d)) 4 (refuse (file_tests f room ++ text_tests f n) (plain 0))
    (omega arith) e in
    let q = passed_all (file_tests f room) (refuse (text_tests f n) (plain 0)) (file_numbered f room)
    (ap is_done (in_parts (file_tests f room) (text_tests f n) (plain 0)) ∙ p.1) in
    let r = file_admitted f room
    (ap is_done (none_refuses (file_tests f room) (plain 0) q.0) ∙ all_done) in (
      not-false _ p.0,
      record {
        is_formed = r.0;
        admitted = r.1;
        long = ltb-false _ _ (staged (ltb n (longest f)) 8 (plain 0) (omega arith) q.1).0;
      },
    )

pub work_taken : (d f p r m t : List ℕ) → is_done (work_answer d f p r m t) ≡ true
    → (well_made d ≡ true) × Taken f (shortest p r m) (length t)
unfolding work_answer
work_taken d f p r m t e = taken d f (shortest p r m) (length t) e

-- then the file is read into a buffer of that length or more
pub read_taken : (f : List ℕ) (room n : ℕ) (p : List ℕ) → room ≤ length p → Taken f room n
    → (is_done (read_answer f (length p)) ≡ true)
    × (read_target f p ≡ written (depth_of (kind_of f)) (picture_of f) (pings_of f) (bins_of f) p)
read_taken f room n p l t =
    let a = t.admitted in
    read_admitted f p (kind_of f) (pings_of f) (bins_of f) (body_of f) t.is_formed refl refl refl refl
    (record { sized = a.sized; whole = a.whole; clear = a.clear; roomy = omega (arith, a.roomy) })

-- every answer's number has at most two digits
pub number_few : (a : Answer) → (told a).number ≤ 99
unfolding told told_refusal plain
number_few (Ok x) = omega arith
number_few (Err Size) = omega arith
number_few (Err Source) = omega arith
number_few (Err Pad) = omega arith
number_few (Err Shape) = omega arith
number_few (Err Overlap) = omega arith
number_few (Err Chain) = omega arith
number_few (Err (Split x y)) = omega arith
number_few (Err Room) = omega arith
number_few (Err Form) = omega arith
number_few (Err Job) = omega arith
number_few (Err Netpbm) = omega arith
number_few (Err Marker) = omega arith
number_few (Err Full) = omega arith
number_few (Err Absent) = omega arith
number_few (Err Retired) = omega arith
number_few (Err Nest) = omega arith
number_few (Err Book) = omega arith
number_few (Err NoChain) = omega arith
