-- A job that nothing refuses, step by step.
use Prim.Native.Nat.{ℕ, ◌+◌, ◌≤◌, ◌<◌}
use mathlib.Core.Path.{◌≡◌, refl, sym, ap, ap₂, ◌∙◌, subst}
use mathlib.Core.Bool.{true, cond}
use mathlib.Core.List.{List, []}
use native.Mathlib.Omega.{arith}
use native.Mathlib.Nat.{le_of_eq}
use lib.ListN.{length, take}
use lib.Seq.{get_or-drop}
use Rattle.basics.specs.Bytes.{Bytes}
use Rattle.std.specs.Prelude.{Ok, Err, Result, IsOk}
use Rattle.answer.specs.declared.Refusal.{Refusal}
use Rattle.answer.specs.Answer.{told, is_done}
use Rattle.answer.proofs.Variants.{refused_undone}
use Rattle.picture.specs.declared.Depth.{Depth}
use Rattle.picture.specs.Frame.{top, sized_frame, picture_bytes, Holds}
use Rattle.picture.specs.Points.{value_at}
use Rattle.picture.specs.Bytes.{bytes_of, written}
use Rattle.picture.proofs.Bytes.{bytes_long, faced_small}
use Rattle.picture.proofs.Sizes.{sized_tells}
use Rattle.judge.specs.declared.Padding.TheVariants.{Judged}
use Rattle.judge.proofs.Admitted.{bytes_are, holds}
use Rattle.element.specs.declared.Element.{Element}
use Rattle.element.specs.Shape.{Shape}
use Rattle.element.specs.Descriptor.{cells_made, shape_in}
use Rattle.element.specs.Record.{element_of, shape_of}
use Rattle.ech.specs.declared.Header.{Header}
use Rattle.ech.specs.File.{head_bytes, depth_of, face_of, kind_of, reported_kind, pings_of, bins_of, body_of}
use Rattle.ech.specs.ReadWrite.{picture_of, read_answer, read_target, GivenBack}
use Rattle.ech.proofs.Reading.{own_depth}
use Rattle.text.specs.Text.{text_of, most_text}
use Rattle.work.specs.declared.Operation.{Operation}
use Rattle.work.specs.Work.{shortest, operated, middle_in}
use Rattle.work.specs.Prints.{over}
use Rattle.work.specs.Steps.Taken.{Taken, result_by, text_by, Worked}
use Rattle.work.proofs.Refusals.{read_taken}
use Rattle.work.proofs.Pictures.{source_is, result_is, middle_is, text_is}
use Rattle.work.proofs.Pictures.{text_fits, result_read, middle_read, text_read}

-- depth, W and H under other names
same : {A : Type 0} (X : Depth → ℕ → ℕ → A) (d d' : Depth) (w w' h h' : ℕ) → d ≡ d' → w ≡ w' → h ≡ h'
    → X d w h ≡ X d' w' h'
same X d d' w w' h h' ed ew eh = ap₂ (λ a b. X a b h) ed ew ∙ ap (λ b. X d' w' b) eh

-- a result that is told done has a value
done_value : {A : Type 0} (r : Result A Refusal) → is_done (told r) ≡ true → IsOk r
unfolding told
done_value (Ok x) e = refl
done_value (Err why) e = let z = sym e ∙ refused_undone why in cc

-- a file that is taken is read
pub read_value : (f : List ℕ) (room n : ℕ) (p : List ℕ) → room ≤ length p → Taken f room n
    → (r : Result Header Refusal) → told r ≡ read_answer f (length p) → IsOk r
read_value f room n p l t r e = done_value r (ap is_done e ∙ (read_taken f room n p l t).0)

-- the file f that was read into p, which gave back its numbers, left u and has a picture of n bytes
pub record Lent (f p r m t : List ℕ) (back : Header) (depth : Depth) (u : List ℕ) (n : ℕ) : Type 0 where
  pub bytes : Bytes f
  pub taken : Taken f (shortest p r m) (length t)
  pub given : GivenBack (read_answer f (length p)) (reported_kind f) (pings_of f) (bins_of f) (Ok back)
  pub deep : depth ≡ depth_of back.kind
  pub read : u ≡ read_target f p
  pub size : n ≡ cond (sized_frame back.w back.h) (picture_bytes depth back.w back.h) 0

module _ {f p r m t : List ℕ} {back : Header} {depth : Depth}
    {u : List ℕ} {n : ℕ} (l : Lent f p r m t back depth u n) where
  abbrev w : ℕ
  w = back.w

  abbrev h : ℕ
  h = back.h

  into : (is_done (read_answer f (length p)) ≡ true)
      × (read_target f p ≡ written (depth_of (kind_of f)) (picture_of f) (pings_of f) (bins_of f) p)
  into = read_taken f (shortest p r m) (length t) p (omega arith) l.taken

  depth_is : depth ≡ depth_of (kind_of f)
  depth_is = own_depth f p (length p) back l.given depth l.deep

  kind_is : back.kind ≡ reported_kind f
  kind_is = l.given.kind

  -- a fact on the file's own numbers is one on those that were read
  own : {A : Type 0} (X : Depth → ℕ → ℕ → A) → X depth w h ≡ X (depth_of (kind_of f)) (pings_of f) (bins_of f)
  own X =
      same X depth (depth_of (kind_of f)) w (pings_of f) h (bins_of f) depth_is
      l.given.pings l.given.bins

  sized : sized_frame w h ≡ true
  sized = own (λ _ w h. sized_frame w h) ∙ l.taken.admitted.sized

  roomy : picture_bytes depth w h ≤ shortest p r m
  roomy = omega (arith, own (λ d w h. picture_bytes d w h), l.taken.admitted.roomy)

  fits : (n : ℕ) → shortest p r m ≤ n → Holds depth n w h
  fits n le = holds Judged depth w h [] n sized (omega (arith, roomy))

  small : (x y : ℕ) → x < w → y < h → picture_of f x y ≤ top depth
  small x y lx ly =
      subst (λ n. picture_of f x y ≤ n) (sym (ap top depth_is))
      (faced_small (depth_of (kind_of f)) (face_of (kind_of f)) (body_of f)
      (λ i. subst (λ k. k < 256) (sym (get_or-drop head_bytes f i 0)) (l.bytes (head_bytes + i)))
      (pings_of f) x y)

  -- the file's picture, as the operation is lent it
  picture_read : u ≡ written (depth_of (kind_of f)) (picture_of f) (pings_of f) (bins_of f) p
  picture_read = l.read ∙ into.1

  n_is : n ≡ picture_bytes depth w h
  n_is = bytes_are Judged depth w h [] n l.size sized

  pub part_fits : length u ≡ length p → n ≤ length u
  part_fits e = omega (arith, n_is, roomy)

  own_bytes : take n u ≡ bytes_of depth (picture_of f) w h
  own_bytes =
      source_is depth w h (picture_of f) small n p u n_is
      (picture_read ∙ sym (own (λ d w h. written d (picture_of f) w h p)))

  -- the picture lies there whole, and in each of the other buffers there is room
  pub source_held : Holds depth (length (take n u)) w h
  source_held =
      holds Judged depth w h [] (length (take n u)) sized
      (le_of_eq (sym (ap length own_bytes ∙ bytes_long depth (picture_of f) w h)))

  pub result_held : Holds depth (length r) w h
  result_held = fits (length r) (omega arith)

  pub scratch_held : Holds depth (length m) w h
  scratch_held = fits (length m) (omega arith)

  -- what the operation leaves
  module _ (B : Shape) (op : Operation) (r' m' : List ℕ)
      (o : (r' ≡ written depth (operated op depth w h B (value_at depth (take n u) w)) w h r)
      × (m' ≡ middle_in op depth w h B (value_at depth (take n u) w) m)) where
    result : r' ≡ written depth (operated op depth w h B (picture_of f)) w h r
    result = result_is depth w h (picture_of f) small B op (take n u) r r' own_bytes o.0

    abbrev shown : List ℕ
    shown = text_of depth (value_at depth r' w) w h back.kind

    text : shown ≡ text_of depth (operated op depth w h B (picture_of f)) w h back.kind
    text = text_is depth w h (picture_of f) small B op r r' back.kind result

    pub text_taken : length r' ≡ length r → Holds depth (length r') w h × (length shown ≤ length t)
    text_taken e = (
      fits (length r') (omega arith),
      subst (λ n. n ≤ length t) (sym (ap length text))
          (text_fits depth w h (picture_of f) small B op back.kind
          (length t) (sized_tells w h sized).some_pings long),
    )
      where
        long : most_text depth w h back.kind ≤ length t
        long =
            subst (λ n. n ≤ length t)
            (sym (own (λ d w h. most_text d w h back.kind)
            ∙ ap (most_text (depth_of (kind_of f)) (pings_of f) (bins_of f)) kind_is))
            l.taken.long

    shown_is : shown ≡ text_by op B f
    unfolding text_by
    shown_is =
        text ∙ own (λ d' w h. text_of d' (operated op d' w h B (picture_of f)) w h back.kind)
        ∙ ap (text_of (depth_of (kind_of f)) (result_by op B f) (pings_of f) (bins_of f)) kind_is

    pub worked_out : (k : ℕ) (t' : List ℕ) → (k ≡ length shown) × (t' ≡ over shown t)
        → Worked op B f p r m t k u r' m' t'
    worked_out k t' e =
        record {
          length_is = e.0 ∙ ap length shown_is;
          picture = picture_read;
          result = result ∙ own (λ d' w h. written d' (operated op d' w h B (picture_of f)) w h r);
          scratch =
              middle_is depth w h (picture_of f) small B op (take n u) m m' own_bytes o.1
              ∙ own (λ d' w h. middle_in op d' w h B (picture_of f) m);
          text = e.1 ∙ ap (λ l. over l t) shown_is;
        }

-- ---- the same by the descriptor's own element
pub worked_read : (d : List ℕ) → cells_made d ≡ true → Bytes d → (e : Element) → e ≡ element_of d
    → (op : Operation) (f p r m t : List ℕ) (k : ℕ) (p' r' m' t' : List ℕ)
    → Worked op (shape_of e) f p r m t k p' r' m' t' → Worked op (shape_in d) f p r m t k p' r' m' t'
unfolding text_by
worked_read d made bytes e q op f p r m t k p' r' m' t' o =
    let depth = depth_of (kind_of f) in
    let x = text_read d made bytes e q depth (pings_of f) (bins_of f) op (picture_of f) (reported_kind f) in
    record {
      length_is = o.length_is ∙ ap length x;
      picture = o.picture;
      result = o.result ∙ result_read d made bytes e q depth (pings_of f) (bins_of f) op (picture_of f) r;
      scratch = o.scratch ∙ middle_read d made bytes e q depth (pings_of f) (bins_of f) op (picture_of f) m;
      text = o.text ∙ ap (λ l. over l t) x;
    }
