-- The first ten bytes of a file, test after test;
-- and what an answer that is done tells of a file and of a picture to be written.
use Prim.Native.Nat.{ℕ, ◌≤◌}
use mathlib.Core.Path.{◌≡◌, refl, sym, ap, ap₂, ◌∙◌}
use mathlib.Core.Bool.{Bool, true, false, not, cond, ◌&&◌}
use mathlib.Core.List.{List, [], ◌∷◌}
use native.Mathlib.Omega.{arith}
use borrow.Author.Tests.{eq-eqb, ne_eqb, eqb-true, eqb-false, leb-true, not-false}
use lib.Dec.{leb, eqb}
use Rattle.std.specs.List.{starts_with}
use lib.ListN.{length}
use Rattle.basics.proofs.Tests.{both}
use Rattle.answer.specs.Answer.{plain, is_done}
use Rattle.answer.specs.Refuse.{refuse}
use Rattle.judge.specs.declared.Padding.TheVariants.{Judged, Free}
use Rattle.judge.specs.Tests.{Admitted}
use Rattle.judge.proofs.Admitted.{staged, admitted, between_tests}
use Rattle.judge.proofs.Bodies.{body_admitted}
use Rattle.ech.specs.File.{head_bytes, mark_of, version_of, kind_of, pings_of}
use Rattle.ech.specs.File.{bins_of, body_of, depth_of, reported, known_kind, formed}
use Rattle.ech.specs.ReadWrite.{read_answer, retired_tests, write_answer}

-- a file that is read, a picture that is written
pub file_admitted : (f : List ℕ) (room : ℕ) → is_done (read_answer f room) ≡ true
    → (formed f ≡ true) × Admitted Judged (depth_of (kind_of f)) (pings_of f) (bins_of f) (body_of f) 0 room
unfolding read_answer
file_admitted f room e =
    let p = staged (not (formed f)) 9 _ (omega arith) e in
    let q = body_admitted Judged (depth_of (kind_of f)) (pings_of f) (bins_of f) (body_of f) 0 room p.1 in
    (not-false _ p.0, q)

pub write_admitted : (kind w h : ℕ) (s t : List ℕ) → is_done (write_answer kind w h s t) ≡ true
    → (known_kind kind ≡ true)
    × (Admitted Free (depth_of kind) w h s head_bytes (length t) × (eqb kind 3 ≡ false))
unfolding write_answer
write_admitted kind w h s t e =
    let p = staged (not (known_kind kind)) 9 _ (omega arith) e in
    let same = between_tests Free (depth_of kind) w h s (retired_tests kind)
    head_bytes (length t) (omega arith, tt) in
    let q = admitted Free (depth_of kind) w h s (refuse (retired_tests kind) (plain 0)) head_bytes (length t)
    (ap is_done same ∙ p.1) in
    (not-false _ p.0, (q.0, (staged (eqb kind 3) 15 (plain 0) (omega arith) q.1).0))

-- the kind that is reported: the depth is the file's, and the writer still makes it
pub reported_depth : (kind : ℕ) → depth_of (reported kind) ≡ depth_of kind
reported_depth kind = by (eqb kind 3) refl
  where
    by : (b : Bool) → eqb kind 3 ≡ b → depth_of (cond b 1 kind) ≡ depth_of kind
    by true e = sym (ap depth_of (eqb-true kind 3 e))
    by false e = refl

pub reported_made : (kind : ℕ) → known_kind kind ≡ true
    → (known_kind (reported kind) ≡ true) × (eqb (reported kind) 3 ≡ false)
reported_made kind known = by (eqb kind 3) refl
  where
    by : (b : Bool) → eqb kind 3 ≡ b
        → (known_kind (cond b 1 kind) ≡ true) × (eqb (cond b 1 kind) 3 ≡ false)
    by true e = (refl, refl)
    by false e = (known, e)

-- ---- the tests of a file's first bytes
-- the mark, as the code looks for it
three : (x y z : Bool) → (x && (y && (z && true))) ≡ (x && y && z)
three true true true = refl
three true true false = refl
three true false z = refl
three false y z = refl

turned : (n a : ℕ) → eqb n a ≡ eqb a n
turned n a = by (eqb n a) refl
  where
    by : (t : Bool) → eqb n a ≡ t → t ≡ eqb a n
    by true e = sym (eq-eqb a n (sym (eqb-true n a e)))
    by false e = sym (ne_eqb a n (λ q. eqb-false n a e (sym q)))

pub marked_is : (f : List ℕ) → starts_with eqb f (69 ∷ 67 ∷ 72 ∷ []) ≡ mark_of f
marked_is [] = refl
marked_is (a ∷ []) = ap (λ x. x && false) (turned 69 a) ∙ three (eqb a 69) false false
marked_is (a ∷ b ∷ []) =
    ap₂ (λ x y. x && (y && false)) (turned 69 a) (turned 67 b) ∙ three (eqb a 69) (eqb b 67) false
marked_is (a ∷ b ∷ d ∷ l) =
    ap₂ (λ x y. x && (y && (eqb 72 d && true))) (turned 69 a) (turned 67 b)
    ∙ ap (λ z. eqb a 69 && (eqb b 67 && (z && true))) (turned 72 d)
    ∙ three (eqb a 69) (eqb b 67) (eqb d 72)

-- and what a file that is formed tells
pub record Formed (f : List ℕ) : Type 0 where
  pub long : head_bytes ≤ length f
  pub marked : mark_of f ≡ true
  pub version : version_of f ≡ 1
  pub known : known_kind (kind_of f) ≡ true

pub formed_tells : (f : List ℕ) → formed f ≡ true → Formed f
unfolding formed
formed_tells f e =
    let p = both (leb head_bytes (length f) && mark_of f && eqb (version_of f) 1) (known_kind (kind_of f))
    e in
    let q = both (leb head_bytes (length f) && mark_of f) (eqb (version_of f) 1) p.0 in
    let r = both (leb head_bytes (length f)) (mark_of f) q.0 in
    record {
      long = leb-true head_bytes (length f) r.0;
      marked = r.1;
      version = eqb-true (version_of f) 1 q.1;
      known = p.1;
    }
