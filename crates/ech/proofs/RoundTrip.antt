-- A file written and read gives the same picture; an accepted file read and written gives the same bytes,
-- and one of kind 3 the file of kind 1 of the same picture.
use Prim.Native.Nat.{ℕ, ◌+◌, ◌-◌, ◌*◌, ◌/◌, ◌%◌, ◌^◌, ◌≤◌, ◌<◌}
use mathlib.Core.Path.{◌≡◌, refl, sym, ap, ap₂, ◌∙◌, subst}
use mathlib.Core.Bool.{Bool, true, not, cond, ◌&&◌}
use mathlib.Core.List.{List, [], ◌∷◌, ◌++◌}
use native.Mathlib.Omega.{arith}
use borrow.Author.Tests.{eqb-true, ne_eqb, le-leb}
use lib.Dec.{eqb}
use lib.ListN.{length, get_or, take, drop, length-append, length-drop, take-append-drop}
use lib.Seq.{take_at, drop_at, length-take-le, get_or-take, get_or-drop}
use Rattle.basics.specs.Lists.{firsts}
use Rattle.basics.proofs.Lists.{list_is}
use Rattle.basics.proofs.Tests.{both}
use Rattle.answer.specs.Answer.{plain, is_done}
use Rattle.answer.specs.Refuse.{refuse}
use Rattle.answer.specs.Lent.{unless_refused}
use Rattle.basics.specs.Bytes.{Bytes}
use Rattle.judge.specs.declared.Padding.TheVariants.{Judged, Free}
use Rattle.judge.specs.Tests.{body_tests, Admitted}
use Rattle.judge.proofs.Bodies.{body_passes}
use Rattle.picture.specs.declared.Face.TheVariants.{AsIs, TurnedOver}
use Rattle.picture.specs.declared.Depth.{Depth}
use Rattle.picture.specs.Frame.{top, sized_frame, picture_bytes}
use Rattle.picture.specs.Bytes.{Picture, bytes_of, written, faced, padding_clear}
use Rattle.picture.proofs.Sizes.{sized_tells}
use Rattle.picture.proofs.Bytes.{bytes_long, bytes_clear, bytes_value, value_small, faced_small}
use Rattle.picture.proofs.Points.{bytes_same}
use Rattle.picture.specs.Points.{value_at}
use Rattle.copies.proofs.ReadBack.{bytes_back}
use Rattle.ech.specs.File.{head_bytes, known_kind, kind_of, reported, reported_kind, pings_of, bins_of}
use Rattle.ech.specs.File.{body_of, depth_of, face_of, formed, head_of, file_of}
use Rattle.ech.specs.ReadWrite.{picture_of, read_answer, read_target, write_answer, write_target}
use Rattle.ech.proofs.Judging.{formed_tells, file_admitted, write_admitted}
use Rattle.ech.proofs.Judging.{reported_depth, reported_made}
use Rattle.ech.proofs.Writing.{head_long, write_passes}

-- ---- what is written is formed, and says what it was written with
module _ (kind w h : ℕ) (known : known_kind kind ≡ true) (rest : List ℕ) where
  file_formed : formed (head_of kind w h ++ rest) ≡ true
  unfolding formed head_of
  file_formed = simp (
    le-leb head_bytes (length (head_of kind w h ++ rest))
        (omega (arith, length-append (head_of kind w h) rest, head_long kind w h)),
    known,
  )

  file_kind : kind_of (head_of kind w h ++ rest) ≡ kind
  unfolding head_of
  file_kind = refl

  file_pings : pings_of (head_of kind w h ++ rest) ≡ w
  unfolding head_of
  file_pings = omega arith

  file_bins : bins_of (head_of kind w h ++ rest) ≡ h
  unfolding head_of
  file_bins = omega arith

  file_body : body_of (head_of kind w h ++ rest) ≡ rest
  file_body = drop_at (head_of kind w h) rest head_bytes (head_long kind w h)

-- ---- a read of a file that is formed and admitted
pub read_admitted : (f u : List ℕ) (kind w h : ℕ) (body : List ℕ) → formed f ≡ true → kind_of f ≡ kind
    → pings_of f ≡ w → bins_of f ≡ h → body_of f ≡ body
    → Admitted Judged (depth_of kind) w h body 0 (length u)
    → (is_done (read_answer f (length u)) ≡ true)
    × (read_target f u ≡ written (depth_of kind) (faced (depth_of kind) (face_of kind) body w) w h u)
unfolding read_answer read_target unless_refused
read_admitted f u kind w h body ef ek ew eh eb p =
    (done, ap (λ b. cond b (picture (kind_of f) (pings_of f) (bins_of f) (body_of f)) u) done ∙ same)
  where
    answer : Bool → ℕ → ℕ → ℕ → List ℕ → Bool
    answer b k x y l =
        is_done (refuse ((not b, 9) ∷ body_tests Judged (depth_of k) x y l 0 (length u)) (plain 0))

    picture : ℕ → ℕ → ℕ → List ℕ → List ℕ
    picture k x y l = written (depth_of k) (faced (depth_of k) (face_of k) l x) x y u

    done : answer (formed f) (kind_of f) (pings_of f) (bins_of f) (body_of f) ≡ true
    done =
        ap₂ (λ b k. answer b k (pings_of f) (bins_of f) (body_of f)) ef ek
        ∙ ap₂ (λ x y. answer true kind x y (body_of f)) ew eh ∙ ap (answer true kind w h) eb
        ∙ body_passes Judged (depth_of kind) w h body 0 (length u) p

    same : picture (kind_of f) (pings_of f) (bins_of f) (body_of f) ≡ picture kind w h body
    same =
        ap (λ k. picture k (pings_of f) (bins_of f) (body_of f)) ek
        ∙ ap₂ (λ x y. picture kind x y (body_of f)) ew eh ∙ ap (picture kind w h) eb

-- a picture's bytes show it
bytes_again : (depth : Depth) (P : Picture) (w h : ℕ) → ((x y : ℕ) → x < w → y < h → P x y ≤ top depth)
    → bytes_of depth (value_at depth (bytes_of depth P w h) w) w h ≡ bytes_of depth P w h
bytes_again depth P w h small =
    bytes_same depth _ P w h (λ x y hx hy. bytes_value depth P w h small x y hx hy)

-- ---- written, then read:
-- the file's own bytes read into any buffer with room give the picture's points, its kind and its size
pub record SamePicture (kind w h : ℕ) (s f u : List ℕ) : Type 0 where
  pub done : is_done (read_answer f (length u)) ≡ true
  pub kind_same : reported_kind f ≡ kind
  pub pings_same : pings_of f ≡ w
  pub bins_same : bins_of f ≡ h
  pub bytes_same : read_target f u ≡ written (depth_of kind) (λ x y. value_at (depth_of kind) s w x y) w h u

pub written_then_read : (kind w h : ℕ) (s t u : List ℕ) → Bytes s → is_done (write_answer kind w h s t) ≡ true
    → picture_bytes (depth_of kind) w h ≤ length u
    → SamePicture kind w h s (file_of kind w h s) u
unfolding file_of written faced
written_then_read kind w h s t u bytes e room =
    let depth = depth_of kind in
    let body = bytes_of depth (value_at depth s w) w h in
    let p = write_admitted kind w h s t e in
    let known = p.0 in
    let made = p.1.1 in
    let some = (sized_tells w h p.1.0.sized).some_pings in
    let small : (x y : ℕ) → x < w → y < h → value_at depth s w x y ≤ top depth =
    λ x y k l. value_small depth s bytes w x y in
    let r = read_admitted (head_of kind w h ++ body) u kind w h body (file_formed kind w h known body)
    (file_kind kind w h known body) (file_pings kind w h known body) (file_bins kind w h known body)
    (file_body kind w h known body)
    (record {
      sized = p.1.0.sized;
      whole = bytes_long depth (value_at depth s w) w h;
      clear = bytes_clear depth (value_at depth s w) w h some small;
      roomy = omega arith;
    }) in
    record {
      done = r.0;
      kind_same = ap reported (file_kind kind w h known body) ∙ ap (λ b. cond b 1 kind) made;
      pings_same = file_pings kind w h known body;
      bins_same = file_bins kind w h known body;
      bytes_same =
          r.1
          ∙ ap (λ b. written depth (faced depth (cond b TurnedOver AsIs) body w) w h u) made
          ∙ ap (λ l. l ++ drop (picture_bytes depth w h) u)
          (bytes_again depth (value_at depth s w) w h small);
    }

-- ---- read, then written: the picture's bytes written with the kind and the size that were given back
-- make the file that is rewritten, which has the file's own bytes unless its kind is 3
-- the first ten bytes of a file that is formed are those that are written
ten : (f : List ℕ) → head_bytes ≤ length f
    → take head_bytes f
    ≡ get_or f 0 0 ∷ get_or f 1 0 ∷ get_or f 2 0 ∷ get_or f 3 0 ∷ get_or f 4 0
    ∷ get_or f 5 0 ∷ get_or f 6 0 ∷ get_or f 7 0 ∷ get_or f 8 0 ∷ get_or f 9 0 ∷ []
unfolding firsts
ten f l =
    list_is (λ i. get_or f i 0) head_bytes (take head_bytes f)
    (length-take-le head_bytes f l) (λ i h. get_or-take head_bytes f i 0 h)

head_back : (f : List ℕ) → Bytes f → formed f ≡ true
    → take head_bytes f ≡ head_of (kind_of f) (pings_of f) (bins_of f)
unfolding head_of
head_back f bytes e =
    let p = formed_tells f e in
    let m = both (eqb (get_or f 0 0) 69 && eqb (get_or f 1 0) 67) (eqb (get_or f 2 0) 72) p.marked in
    let l = both (eqb (get_or f 0 0) 69) (eqb (get_or f 1 0) 67) m.0 in
    let v = p.version in
    ten f p.long
    ∙ cons (eqb-true _ 69 l.0) (cons (eqb-true _ 67 l.1) (cons (eqb-true _ 72 m.1)
    (cons (one (get_or f 3 0) (get_or f 4 0) v) (cons (none (get_or f 3 0) (get_or f 4 0) v)
    (ap (λ t. kind_of f ∷ t) (cons (low (get_or f 6 0) (get_or f 7 0) (bytes 6))
    (cons (high (get_or f 6 0) (get_or f 7 0) (bytes 6)) (cons (low (get_or f 8 0) (get_or f 9 0) (bytes 8))
    (cons (high (get_or f 8 0) (get_or f 9 0) (bytes 8)) refl)))))))))
  where
    cons : {a b : ℕ} {s t : List ℕ} → a ≡ b → s ≡ t → a ∷ s ≡ b ∷ t
    cons e f = ap₂ (λ x l. x ∷ l) e f

    one : (a b : ℕ) → a + b * 2 ^ 8 ≡ 1 → a ≡ 1
    one a b e = omega arith

    none : (a b : ℕ) → a + b * 2 ^ 8 ≡ 1 → b ≡ 0
    none a b e = omega arith

    low : (a b : ℕ) → a < 256 → a ≡ (a + b * 2 ^ 8) % 2 ^ 8
    low a b h = omega arith

    high : (a b : ℕ) → a < 256 → b ≡ (a + b * 2 ^ 8) / 2 ^ 8
    high a b h = omega arith

-- the file of the same picture and size, with the kind that is reported
unfoldable pub rewritten : List ℕ → List ℕ
rewritten f =
    head_of (reported_kind f) (pings_of f) (bins_of f)
    ++ bytes_of (depth_of (kind_of f)) (picture_of f) (pings_of f) (bins_of f)

pub record Rewrites (f p t : List ℕ) : Type 0 where
  pub done : is_done (write_answer (reported_kind f) (pings_of f) (bins_of f) p t) ≡ true
  pub bytes_same : write_target (reported_kind f) (pings_of f) (bins_of f) p t ≡ rewritten f
      ++ drop (length f) t

-- what an accepted file tells
pub record Accepted (f : List ℕ) : Type 0 where
  pub is_formed : formed f ≡ true
  pub known : known_kind (kind_of f) ≡ true
  pub long : head_bytes ≤ length f
  pub sized : sized_frame (pings_of f) (bins_of f) ≡ true
  pub whole : length (body_of f) ≡ picture_bytes (depth_of (kind_of f)) (pings_of f) (bins_of f)
  pub clear : padding_clear (depth_of (kind_of f)) (body_of f) (pings_of f) (bins_of f) ≡ true

pub accepted : (f : List ℕ) (room : ℕ) → is_done (read_answer f room) ≡ true → Accepted f
accepted f room e =
    let p = file_admitted f room e in
    let q = formed_tells f p.0 in
    record {
      is_formed = p.0;
      known = q.known;
      long = q.long;
      sized = p.1.sized;
      whole = p.1.whole;
      clear = p.1.clear;
    }

module _ (f : List ℕ) (bytes : Bytes f) (ok : Accepted f) where
  -- the picture's own bytes
  pub picture_in : List ℕ
  picture_in =
      bytes_of (depth_of (kind_of f))
      (faced (depth_of (kind_of f)) (face_of (kind_of f)) (body_of f) (pings_of f)) (pings_of f) (bins_of f)

  body_bytes : Bytes (body_of f)
  body_bytes i = subst (λ k. k < 256) (sym (get_or-drop head_bytes f i 0)) (bytes (head_bytes + i))

  picture_read : (t : List ℕ) → is_done (read_answer f (length t)) ≡ true
      → take (picture_bytes (depth_of (kind_of f)) (pings_of f) (bins_of f)) (read_target f t) ≡ picture_in
  unfolding read_target unless_refused written picture_in
  picture_read t e =
      ap (λ b. take (picture_bytes (depth_of (kind_of f)) (pings_of f) (bins_of f))
      (cond b (written (depth_of (kind_of f))
      (faced (depth_of (kind_of f)) (face_of (kind_of f)) (body_of f) (pings_of f)) (pings_of f) (bins_of f)
      t) t)) e
      ∙ take_at picture_in _ _ (bytes_long (depth_of (kind_of f)) _ (pings_of f) (bins_of f))

  small : (x y : ℕ) → x < pings_of f → y < bins_of f → picture_of f x y ≤ top (depth_of (kind_of f))
  small x y hx hy =
      faced_small (depth_of (kind_of f)) (face_of (kind_of f)) (body_of f) body_bytes (pings_of f) x y

  picture_admitted : (t' : List ℕ) → length f ≤ length t'
      → Admitted Free (depth_of (kind_of f)) (pings_of f) (bins_of f) picture_in head_bytes (length t')
  unfolding picture_in
  picture_admitted t' room =
      record {
        sized = ok.sized;
        whole = bytes_long (depth_of (kind_of f)) _ (pings_of f) (bins_of f);
        clear = refl;
        roomy = omega (arith, length-drop head_bytes f, ok.whole, ok.long);
      }

  file_again : file_of (reported_kind f) (pings_of f) (bins_of f) picture_in ≡ rewritten f
  unfolding file_of rewritten picture_in
  file_again =
      ap (λ (d : Depth). head_of (reported_kind f) (pings_of f) (bins_of f)
      ++ bytes_of d (value_at d picture_in (pings_of f)) (pings_of f) (bins_of f))
      (reported_depth (kind_of f))
      ∙ ap (λ l. head_of (reported_kind f) (pings_of f) (bins_of f) ++ l)
      (bytes_again (depth_of (kind_of f)) (picture_of f) (pings_of f) (bins_of f) small)

  written_back : (t' : List ℕ) → length f ≤ length t' → Rewrites f picture_in t'
  written_back t' room =
      let depth = depth_of (kind_of f) in
      let made = reported_made (kind_of f) ok.known in
      let q = write_passes (reported_kind f) (pings_of f) (bins_of f) picture_in t' made.0 made.1
      (subst (λ (d : Depth). Admitted Free d (pings_of f) (bins_of f) picture_in head_bytes (length t'))
      (sym (reported_depth (kind_of f))) (picture_admitted t' room)) in
      record {
        done = q.0;
        bytes_same =
            q.1
            ∙ ap (λ (d : Depth). file_of (reported_kind f) (pings_of f) (bins_of f) picture_in
            ++ drop (head_bytes + picture_bytes d (pings_of f) (bins_of f)) t') (reported_depth (kind_of f))
            ∙ ap₂ (λ a n. a ++ drop n t') file_again
            (long_is (length f) (length (body_of f)) _ (length-drop head_bytes f) ok.whole ok.long);
      }
    where
      long_is : (a b n : ℕ) → b ≡ a - 10 → b ≡ n → 10 ≤ a → 10 + n ≡ a
      long_is a b n e q l = omega arith

  -- a file of kind 1 or 2 is rewritten as it is
  file_back : (kind_of f ≡ 3 → ⊥) → rewritten f ≡ f
  unfolding rewritten faced
  file_back other =
      let made = ne_eqb (kind_of f) 3 other in
      ap₂ (λ a b. a ++ b)
      (ap (λ b. head_of (cond b 1 (kind_of f)) (pings_of f) (bins_of f)) made
      ∙ sym (head_back f bytes ok.is_formed))
      (ap (λ b. bytes_of (depth_of (kind_of f))
      (faced (depth_of (kind_of f)) (cond b TurnedOver AsIs) (body_of f) (pings_of f))
      (pings_of f) (bins_of f)) made
      ∙ bytes_back (depth_of (kind_of f)) (body_of f) body_bytes (pings_of f) (bins_of f)
      (sized_tells (pings_of f) (bins_of f) ok.sized).some_pings ok.clear ok.whole)
      ∙ take-append-drop head_bytes f

pub read_then_written : (f t t' : List ℕ) → Bytes f → is_done (read_answer f (length t)) ≡ true
    → length f ≤ length t'
    → Rewrites f (take (picture_bytes (depth_of (kind_of f)) (pings_of f) (bins_of f)) (read_target f t)) t'
read_then_written f t t' bytes e room =
    let ok = accepted f (length t) e in
    subst (λ (p : List ℕ). Rewrites f p t')
    (sym (picture_read f bytes ok t e)) (written_back f bytes ok t' room)

pub rewritten_same : (f : List ℕ) (room : ℕ) → Bytes f → is_done (read_answer f room) ≡ true
    → (kind_of f ≡ 3 → ⊥) → rewritten f ≡ f
rewritten_same f room bytes e other = file_back f bytes (accepted f room e) other
