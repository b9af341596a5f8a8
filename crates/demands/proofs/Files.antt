-- Demand 2 of files: a file written and read gives the same picture;
-- an accepted file read and written gives the same bytes, or for kind 3 those of kind 1. Of every outcome
-- that the contracts of `write_ech` and `read_ech` allow. The bytes of a slice are below 256.
use Rattle.std.specs.Prelude.{Result}
use Prim.Native.Nat.{ℕ, ◌+◌, ◌-◌, ◌≤◌, ◌<◌}
use native.Mathlib.Omega.{arith}
use mathlib.Core.Path.{◌≡◌, refl, sym, ap, ap₂, subst, ◌∙◌}
use mathlib.Core.Bool.{true, cond}
use mathlib.Core.List.{List, ◌++◌}
use lib.ListN.{length, take, drop, length-append, length-drop}
use lib.Seq.{take_at}
use Rattle.answer.specs.declared.Refusal.{Refusal}
use Rattle.answer.specs.Answer.{is_done}
use Rattle.answer.specs.Lent.{unless_refused}
use Rattle.basics.specs.Bytes.{Bytes}
use Rattle.picture.specs.declared.Depth.{Depth}
use Rattle.picture.specs.declared.Depth.TheVariants.{OneBit, EightBit}
use Rattle.picture.specs.Frame.{top, picture_bytes}
use Rattle.picture.specs.Points.{value_at}
use Rattle.picture.specs.Bytes.{bytes_of, written, padding_clear}
use Rattle.picture.proofs.Sizes.{sized_tells}
use Rattle.picture.proofs.Points.{written_value}
use Rattle.picture.proofs.Padding.{written_clear, eight_clear}
use Rattle.picture.proofs.Bytes.{bytes_long, value_small}
use Rattle.ech.proofs.Judging.{write_admitted, reported_depth}
use Rattle.ech.specs.declared.Header.{Header}
use Rattle.ech.specs.File.{head_bytes, depth_of, kind_of, reported, reported_kind}
use Rattle.ech.specs.File.{pings_of, bins_of, body_of, head_of, file_of}
use Rattle.ech.specs.ReadWrite.{picture_of, GivenBack}
use Rattle.ech.specs.ReadWrite.{read_answer, read_target, write_answer, write_target}
use Rattle.ech.proofs.Writing.{head_long}
use Rattle.ech.proofs.RoundTrip.{SamePicture, written_then_read, Rewrites, read_then_written}
use Rattle.ech.proofs.RoundTrip.{rewritten, rewritten_same, accepted}
use Rattle.demands.specs.FileCalls.{WriteCall, write_call, ReadCall, read_call}
use Rattle.demands.specs.Files.{kind_given, pings_given, bins_given}
use Rattle.demands.proofs.Given.{given_is}
use Rattle.demands.specs.Files.{picture_length, file_length, ReadBack, WrittenThenRead}
use Rattle.demands.specs.Files.{ReadThenWritten, SameFile, kind_one, AsKindOne}

-- ---- written, then read
file_long : (kind w h : ℕ) (s : List ℕ) → length (file_of kind w h s) ≡ file_length kind w h
unfolding file_of
file_long kind w h s =
    length-append (head_of kind w h) _ ∙ ap₂ ◌+◌ (head_long kind w h) (bytes_long (depth_of kind) _ w h)

-- a file that was written is the first bytes of the target
file_is : (kind w h : ℕ) (s t after : List ℕ) → is_done (write_answer kind w h s t) ≡ true
    → after ≡ write_target kind w h s t → take (file_length kind w h) after ≡ file_of kind w h s
unfolding write_target unless_refused
file_is kind w h s t after d e =
    ap (take (file_length kind w h))
    (e ∙ ap (λ b. cond b (file_of kind w h s ++ drop (file_length kind w h) t) t) d)
    ∙ take_at (file_of kind w h s) (drop (file_length kind w h) t) (file_length kind w h)
    (file_long kind w h s)

-- the picture in the bytes of a source is bounded; written, it is read back, and its padding is 0
module _ (kind w h : ℕ) (s u : List ℕ) (bytes : Bytes s) (some : 1 ≤ w) where
  small : (x y : ℕ) → x < w → y < h → value_at (depth_of kind) s w x y ≤ top (depth_of kind)
  small x y hx hy = value_small (depth_of kind) s bytes w x y

  read_points : (x y : ℕ) → x < w → y < h
      → value_at (depth_of kind) (written (depth_of kind) (value_at (depth_of kind) s w) w h u) w x y
      ≡ value_at (depth_of kind) s w x y
  read_points = written_value (depth_of kind) (value_at (depth_of kind) s w) w h u small

  read_padding : padding_clear (depth_of kind)
      (written (depth_of kind) (value_at (depth_of kind) s w) w h u) w h ≡ true
  read_padding = by (depth_of kind) (λ x y hx hy. value_small (depth_of kind) s bytes w x y)
    where
      by : (depth : Depth) → ((x y : ℕ) → x < w → y < h → value_at depth s w x y ≤ top depth)
          → padding_clear depth (written depth (value_at depth s w) w h u) w h ≡ true
      by OneBit l = written_clear (value_at OneBit s w) w h u some l
      by EightBit l = eight_clear _ w h

-- what a read promises of what it gives; kind, W and H are the file's where it is done, and else 0
abbrev Gives : ReadCall → Result Header Refusal → Type 0
Gives d r =
    GivenBack (read_answer d.file (length d.before)) (reported_kind d.file) (pings_of d.file) (bins_of d.file)
    r

pub kind_is : (d : ReadCall) (r : Result Header Refusal) → Gives d r
    → kind_given r ≡ cond (is_done (read_answer d.file (length d.before))) (reported_kind d.file) 0
kind_is d r g = given_is (λ (h : Header). h.kind) _ _ r g.answer g.kind

pub pings_is : (d : ReadCall) (r : Result Header Refusal) → Gives d r
    → pings_given r ≡ cond (is_done (read_answer d.file (length d.before))) (pings_of d.file) 0
pings_is d r g = given_is (λ (h : Header). h.w) _ _ r g.answer g.pings

pub bins_is : (d : ReadCall) (r : Result Header Refusal) → Gives d r
    → bins_given r ≡ cond (is_done (read_answer d.file (length d.before))) (bins_of d.file) 0
bins_is d r g = given_is (λ (h : Header). h.h) _ _ r g.answer g.bins

back_is : (c : WriteCall) (d : ReadCall) (back : Result Header Refusal) (f : List ℕ) → Bytes c.source → 1
    ≤ c.w
    → f ≡ d.file
    → SamePicture c.kind c.w c.h c.source f d.before
    → GivenBack (read_answer d.file (length d.before))
    (reported_kind d.file) (pings_of d.file) (bins_of d.file) back
    → d.after ≡ read_target d.file d.before → ReadBack c d back
back_is c d back f below some q s g t =
    let same = subst (λ (l : List ℕ). SamePicture c.kind c.w c.h c.source l d.before) q s in
    record {
      done = ap is_done g.answer ∙ same.done;
      kind = kind_is d back g ∙ ap (λ b. cond b (reported_kind d.file) 0) same.done ∙ same.kind_same;
      pings = pings_is d back g ∙ ap (λ b. cond b (pings_of d.file) 0) same.done ∙ same.pings_same;
      bins = bins_is d back g ∙ ap (λ b. cond b (bins_of d.file) 0) same.done ∙ same.bins_same;
      points = λ p hx hy.
          ap (λ l. value_at (depth_of c.kind) l c.w p.ping.0 p.bin.0) (t ∙ same.bytes_same)
          ∙ read_points c.kind c.w c.h c.source d.before below some
          p.ping.0 p.bin.0 hx hy;
      padding = ap (λ l. padding_clear (depth_of c.kind) l c.w c.h) (t ∙ same.bytes_same)
          ∙ read_padding c.kind c.w c.h c.source d.before below some;
      bytes = t ∙ same.bytes_same;
    }

pub written_and_read : WrittenThenRead
written_and_read κs a x e learnt κs' a' x' e' learnt' bytes done file room =
    let c = write_call κs a e in
    let written : is_done (write_answer c.kind c.w c.h c.source c.before) ≡ true =
    sym (ap is_done learnt.0) ∙ done in
    back_is c (read_call κs' a' e') x' (file_of c.kind c.w c.h c.source) bytes
    (sized_tells c.w c.h
    (write_admitted c.kind c.w c.h c.source c.before written).1.0.sized).some_pings
    (sym (file ∙ file_is c.kind c.w c.h c.source c.before c.after written learnt.1))
    (written_then_read c.kind c.w c.h c.source c.before
    (read_call κs' a' e').before bytes written room) learnt'.0 learnt'.1

-- ---- read, then written
same_call : (f p t : List ℕ) (kind w h : ℕ) (s : List ℕ) → kind ≡ reported_kind f
    → w ≡ pings_of f → h ≡ bins_of f → s ≡ p → Rewrites f p t
    → (is_done (write_answer kind w h s t) ≡ true)
    × (write_target kind w h s t ≡ rewritten f ++ drop (length f) t)
same_call f p t kind w h s ek ew eh es b = (
  ap₂ (λ k x. is_done (write_answer k x h s t)) ek ew
      ∙ ap₂ (λ y l. is_done (write_answer (reported_kind f) (pings_of f) y l t)) eh es ∙ b.done,
  ap₂ (λ k x. write_target k x h s t) ek ew
      ∙ ap₂ (λ y l. write_target (reported_kind f) (pings_of f) y l t) eh es ∙ b.bytes_same,
)

-- of a kind that is so, where what is made in place of an accepted file is what it is rewritten as
rewrites : (so : ℕ → Type 0) (made : List ℕ → List ℕ)
    → ((f : List ℕ) (room : ℕ) → Bytes f → is_done (read_answer f room) ≡ true → so (kind_of f)
    → (rewritten f ≡ made f) × (length (made f) ≡ length f))
    → ReadThenWritten so made
rewrites so made is κs a x e learnt κs' a' x' e' learnt' bytes done kind-so ek ew eh es room =
    let d = read_call κs a e in
    let c = write_call κs' a' e' in
    let f = d.file in
    let was : is_done (read_answer f (length d.before)) ≡ true =
    sym (ap is_done learnt.0.answer) ∙ done in
    let kind : kind_given x ≡ reported_kind f = kind_is d x learnt.0
    ∙ ap (λ b. cond b (reported_kind f) 0) was in
    let pings : pings_given x ≡ pings_of f = pings_is d x learnt.0 ∙ ap (λ b. cond b (pings_of f) 0) was in
    let bins : bins_given x ≡ bins_of f = bins_is d x learnt.0 ∙ ap (λ b. cond b (bins_of f) 0) was in
    let n : picture_length (kind_given x) (pings_given x) (bins_given x)
    ≡ picture_bytes (depth_of (kind_of f)) (pings_of f) (bins_of f) =
    ap₂ (λ k y. picture_length k y (bins_given x)) kind pings
    ∙ ap₂ (λ (k : Depth) (y : ℕ). picture_bytes k (pings_of f) y) (reported_depth (kind_of f)) bins in
    let p = same_call f _ c.before c.kind c.w c.h c.source
    (ek ∙ kind) (ew ∙ pings) (eh ∙ bins) (es ∙ ap₂ take n learnt.1)
    (read_then_written f d.before c.before bytes was room) in
    let q = is f (length d.before) bytes was kind-so in
    record {
      done = ap is_done learnt'.0 ∙ p.0;
      bytes = learnt'.1 ∙ p.1 ∙ ap₂ (λ l n. l ++ drop n c.before) q.0 (sym q.1);
    }

pub read_and_written : SameFile
read_and_written = rewrites (λ kind. kind ≡ 3 → ⊥) (λ file. file)
    (λ f room bytes e other. (rewritten_same f room bytes e other, refl))

-- kind 3
kind_one_lem : (f : List ℕ) → kind_of f ≡ 3 → rewritten f ≡ kind_one f
unfolding rewritten
kind_one_lem f e =
    ap₂ (λ (k : ℕ) (d : Depth). head_of k (pings_of f) (bins_of f)
    ++ bytes_of d (picture_of f) (pings_of f) (bins_of f)) (ap reported e) (ap depth_of e)

kind_one_long : (f : List ℕ) (room : ℕ) → is_done (read_answer f room) ≡ true → kind_of f ≡ 3
    → length (kind_one f) ≡ length f
kind_one_long f room e three =
    let ok = accepted f room e in
    length-append (head_of 1 (pings_of f) (bins_of f)) _
    ∙ ap₂ ◌+◌ (head_long 1 (pings_of f) (bins_of f)) (bytes_long OneBit _ (pings_of f) (bins_of f))
    ∙ long_is (length f) (length (body_of f)) _ (length-drop head_bytes f)
    (ok.whole ∙ ap (λ k. picture_bytes (depth_of k) (pings_of f) (bins_of f)) three) ok.long
  where
    long_is : (a b n : ℕ) → b ≡ a - 10 → b ≡ n → 10 ≤ a → 10 + n ≡ a
    long_is a b n e q l = omega arith

pub kind_3_rewritten : AsKindOne
kind_3_rewritten = rewrites (λ kind. kind ≡ 3) kind_one
    (λ f room bytes e three. (kind_one_lem f three, kind_one_long f room e three))
