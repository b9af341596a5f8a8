-- What the reader leaves, from what its parts say.
use Prim.Native.Nat.{ℕ, ◌≤◌}
use mathlib.Core.Path.{◌≡◌, refl, sym, ap, ap₂, ◌∙◌, subst}
use mathlib.Core.Bool.{true, false}
use mathlib.Core.List.{List}
use native.Mathlib.Nat.{le_of_eq}
use native.Mathlib.Omega.{arith}
use lib.ListN.{length}
use Rattle.std.specs.Prelude.{Result, Ok, Err, is_err}
use Rattle.std.proofs.lemmas.Result.{IfOk-from_err}
use Rattle.answer.specs.declared.Refusal.{Refusal}
use Rattle.answer.specs.declared.Refusal.TheVariants.{Form}
use Rattle.answer.specs.declared.Told.{Told}
use Rattle.answer.specs.Answer.{Answer, told, told_refusal, plain, is_done}
use Rattle.answer.specs.Refuse.{refuse}
use Rattle.answer.proofs.Lent.{kept_by, made_by_lem}
use Rattle.answer.proofs.Variants.{err_undone, handed_on, ok_done}
use Rattle.picture.specs.declared.Depth.{Depth}
use Rattle.picture.specs.declared.Face.{Face}
use Rattle.picture.specs.Frame.{picture_bytes, Holds}
use Rattle.picture.specs.Bytes.{written, faced}
use Rattle.judge.specs.declared.Padding.TheVariants.{Judged}
use Rattle.judge.specs.Tests.{body_tests}
use Rattle.judge.proofs.Admitted.{holds}
use Rattle.ech.specs.declared.Header.{Header}
use Rattle.ech.specs.File.{head_bytes, depth_of, face_of, reported, formed}
use Rattle.ech.specs.File.{kind_of, reported_kind, pings_of, bins_of, body_of}
use Rattle.ech.specs.ReadWrite.{picture_of, GivenBack, read_answer, read_target}
use Rattle.ech.specs.Steps.Body.{body_answer}
use Rattle.ech.proofs.Judging.{formed_tells, file_admitted, reported_depth}

-- a refusal gives back its answer alone
pub back_refused : (kind w h : ℕ) (t : Told) (r : Result Header Refusal) (why : Refusal) → r ≡ Err why
    → told r ≡ t → GivenBack t kind w h r
back_refused kind w h t r why q e =
    let none = ap is_err q in
    record {
      answer = e;
      kind = IfOk-from_err r _ none;
      pings = IfOk-from_err r _ none;
      bins = IfOk-from_err r _ none;
    }

module _ (kind w h : ℕ) (s : List ℕ) (room : ℕ) (depth : Depth) (a : Answer) (ed : depth ≡ depth_of kind)
    (ea : told a ≡ refuse (body_tests Judged depth w h s 0 room) (plain 0)) where
  answer_is : told a ≡ body_answer kind w h s room
  unfolding body_answer
  answer_is = ea ∙ ap (λ d. refuse (body_tests Judged d w h s 0 room) (plain 0)) ed

  pub body_done : (x : Unit {0}) → a ≡ Ok x → (k : ℕ) → k ≡ reported kind
      → GivenBack (body_answer kind w h s room) (reported kind) w h
      (Ok (record { kind = k; w = w; h = h }))
  unfolding told
  body_done x e k ek =
      record {
        answer = sym (ap (λ (b : Answer). told b) e) ∙ answer_is;
        kind = ek;
        pings = refl;
        bins = refl;
      }

  pub body_refused : (why : Refusal) → a ≡ Err why → (r : Result Header Refusal)
      → (n : Refusal) × (r ≡ Err n) × (n ≡ why)
      → GivenBack (body_answer kind w h s room) (reported kind) w h r
  body_refused why e r p =
      back_refused (reported kind) w h (body_answer kind w h s room) r p.0 p.1
      (handed_on a r why e p ∙ answer_is)

-- a file is judged as its body is, once it is formed
module _ (f : List ℕ) (room : ℕ) where
  formed_answer : formed f ≡ true
      → body_answer (kind_of f) (pings_of f) (bins_of f) (body_of f) room ≡ read_answer f room
  unfolding body_answer read_answer
  formed_answer e = simp e

  pub formed_judged : formed f ≡ true → (kind w h : ℕ) (s : List ℕ) (r : Result Header Refusal)
      → kind ≡ kind_of f
      → w ≡ pings_of f
      → h ≡ bins_of f → s ≡ body_of f → GivenBack (body_answer kind w h s room) (reported kind) w h r
      → GivenBack (read_answer f room) (reported_kind f) (pings_of f) (bins_of f) r
  formed_judged e kind w h s r ek ew eh es p =
      subst (λ a. GivenBack a (reported_kind f) (pings_of f) (bins_of f) r) (formed_answer e)
      (subst (λ k. GivenBack (body_answer k (pings_of f) (bins_of f) (body_of f) room)
      (reported k) (pings_of f) (bins_of f) r) ek
      (subst (λ k. GivenBack (body_answer kind k (bins_of f) (body_of f) room) (reported kind) k (bins_of f)
      r) ew
      (subst (λ k. GivenBack (body_answer kind w k (body_of f) room) (reported kind) w k r) eh
      (subst (λ l. GivenBack (body_answer kind w h l room) (reported kind) w h r) es p))))

  pub unformed : formed f ≡ false
      → GivenBack (read_answer f room) (reported_kind f) (pings_of f) (bins_of f) (Err Form)
  unfolding told told_refusal read_answer
  unformed e =
      back_refused (reported_kind f) (pings_of f) (bins_of f) (read_answer f room) (Err Form) Form refl
      (simp e)

-- what is copied is the file's picture, and a refusal copies nothing
module _ (f t : List ℕ) (room : ℕ) where
  module _ (r : Header)
      (g : GivenBack (read_answer f room) (reported_kind f) (pings_of f) (bins_of f) (Ok r)) where
    pub done_read : is_done (read_answer f room) ≡ true
    done_read = ap is_done (sym g.answer) ∙ ok_done (Ok r) r refl

    pub own_kind : r.kind ≡ reported_kind f
    own_kind = g.kind

    pub own_pings : r.w ≡ pings_of f
    own_pings = g.pings

    pub own_bins : r.h ≡ bins_of f
    own_bins = g.bins

    pub own_depth : (depth : Depth) → depth ≡ depth_of r.kind → depth ≡ depth_of (kind_of f)
    own_depth depth q = q ∙ ap depth_of own_kind ∙ reported_depth (kind_of f)

    own_holds : (depth : Depth) (n : ℕ) → depth ≡ depth_of r.kind
        → picture_bytes (depth_of (kind_of f)) (pings_of f) (bins_of f) ≤ n → Holds depth n r.w r.h
    own_holds depth n ed l =
        subst (λ (d : Depth). Holds d n r.w r.h) (sym (own_depth depth ed))
        (subst (λ k. Holds (depth_of (kind_of f)) n k r.h) (sym own_pings)
        (subst (λ k. Holds (depth_of (kind_of f)) n (pings_of f) k) (sym own_bins)
        (holds Judged (depth_of (kind_of f)) (pings_of f) (bins_of f) (body_of f) n
        (file_admitted f room done_read).1.sized l)))

    pub file_long : head_bytes ≤ length f
    file_long = (formed_tells f (file_admitted f room done_read).0).long

    pub source_held : (depth : Depth) (s : List ℕ) → depth ≡ depth_of r.kind → s ≡ body_of f
        → Holds depth (length s) r.w r.h
    source_held depth s ed es =
        own_holds depth (length s) ed
        (le_of_eq (sym (ap length es ∙ (file_admitted f room done_read).1.whole)))

    pub target_held : (depth : Depth) → depth ≡ depth_of r.kind → Holds depth room r.w r.h
    target_held depth ed = own_holds depth room ed (omega (arith, (file_admitted f room done_read).1.roomy))

    pub read_done : room ≡ length t → (depth : Depth) (face : Face) (s u : List ℕ) → depth ≡ depth_of r.kind
        → face ≡ face_of (kind_of f) → s ≡ body_of f
        → u ≡ written depth (faced depth face s r.w) r.w r.h t → u ≡ read_target f t
    unfolding read_target
    read_done er depth face s u ed ef es eu =
        made_by_lem t _ (read_answer f (length t)) (told (Ok r)) (g.answer ∙ ap (read_answer f) er) u
        (ok_done (Ok r) r refl)
        (eu ∙ ap₂ (λ (d : Depth) (l : List ℕ). written d (faced d face l r.w) r.w r.h t)
        (own_depth depth ed) es
        ∙ ap₂ (λ (k : Face) (w : ℕ). written (depth_of (kind_of f))
        (faced (depth_of (kind_of f)) k (body_of f) w) w r.h t)
        ef own_pings
        ∙ ap (λ h. written (depth_of (kind_of f)) (picture_of f) (pings_of f) h t) own_bins)

  pub read_refused : (r : Result Header Refusal) (why : Refusal) → r ≡ Err why
      → told r ≡ read_answer f room → room ≡ length t → t ≡ read_target f t
  unfolding read_target
  read_refused r why q e er =
      kept_by t _ (read_answer f (length t)) (told r) (e ∙ ap (read_answer f) er) (err_undone r why q)
