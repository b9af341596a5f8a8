-- What the reader gives back and leaves, from what its parts say.
use Prim.Native.Nat.{ℕ, ◌≤◌}
use mathlib.Core.Path.{◌≡◌, refl, sym, ap, ap₂, ◌∙◌, subst}
use mathlib.Core.Bool.{Bool, true, false, not, ◌&&◌}
use mathlib.Core.List.{List}
use native.Mathlib.Nat.{le_of_eq}
use native.Mathlib.Omega.{arith}
use borrow.Author.Tests.{not-false}
use lib.ListN.{length, drop}
use Rattle.std.specs.Prelude.{Some, None, Result, Ok, Err, is_err}
use Rattle.std.proofs.lemmas.Result.{IfOk-from_err}
use Rattle.answer.specs.declared.Refusal.{Refusal}
use Rattle.answer.specs.declared.Refusal.TheVariants.{Netpbm}
use Rattle.answer.specs.declared.Told.{Told}
use Rattle.answer.specs.Answer.{Answer, told, told_refusal, plain, is_done}
use Rattle.answer.specs.Refuse.{refuse}
use Rattle.answer.proofs.Lent.{kept_by, made_by_lem}
use Rattle.answer.proofs.Variants.{err_undone, handed_on, ok_done}
use Rattle.picture.specs.declared.Depth.{Depth}
use Rattle.picture.specs.declared.Face.TheVariants.{AsIs}
use Rattle.picture.specs.Frame.{picture_bytes, Holds}
use Rattle.picture.specs.Points.{value_at}
use Rattle.picture.specs.Bytes.{written, faced}
use Rattle.judge.specs.declared.Padding.TheVariants.{Free}
use Rattle.judge.specs.Tests.{body_tests, Admitted}
use Rattle.judge.proofs.Admitted.{holds, staged}
use Rattle.judge.proofs.Bodies.{body_admitted}
use Rattle.pnmheader.specs.declared.Found.{Found}
use Rattle.pnmheader.specs.Header.{header}
use Rattle.pnmheader.specs.Steps.Held.{held, Says}
use Rattle.netpbm.specs.declared.Header.{Header}
use Rattle.netpbm.specs.File.{maximum_right, formed, pings_of, bins_of, raster_of}
use Rattle.netpbm.specs.ReadWrite.{GivenBack, read_answer, read_target}
use Rattle.netpbm.specs.Steps.Raster.{raster_answer}
use Rattle.netpbm.proofs.Held.{right_held, back_held}

-- a refusal gives back its answer alone
back_refused : (w h : ℕ) (t : Told) (r : Result Header Refusal) (why : Refusal) → r ≡ Err why
    → told r ≡ t → GivenBack t w h r
back_refused w h t r why q e =
    let none = ap is_err q in
    record { answer = e; pings = IfOk-from_err r _ none; bins = IfOk-from_err r _ none }

-- ---- a raster
module _ (depth : Depth) (w h : ℕ) (s : List ℕ) (room : ℕ) (a : Answer)
    (ea : told a ≡ refuse (body_tests Free depth w h s 0 room) (plain 0)) where
  answer_is : told a ≡ raster_answer depth w h s room
  unfolding raster_answer
  answer_is = ea

  pub raster_done : (x : Unit {0}) → a ≡ Ok x
      → GivenBack (raster_answer depth w h s room) w h (Ok (record { w = w; h = h }))
  unfolding told
  raster_done x e =
      record { answer = sym (ap (λ (b : Answer). told b) e) ∙ answer_is; pings = refl; bins = refl }

  pub raster_refused : (why : Refusal) → a ≡ Err why → (r : Result Header Refusal)
      → (n : Refusal) × (r ≡ Err n) × (n ≡ why)
      → GivenBack (raster_answer depth w h s room) w h r
  raster_refused why e r p =
      back_refused w h (raster_answer depth w h s room) r p.0 p.1 (handed_on a r why e p ∙ answer_is)

-- ---- a file: its header was found, and its maximum is right, or not
module _ (depth : Depth) (f : List ℕ) where
  pub nothing_found : Says f (header depth f) None → formed depth f ≡ false
  unfolding formed
  nothing_found says = ap (λ b. b && maximum_right depth (header depth f).most) (sym says.whole)

  pub formed_is : (found : Found) → Says f (header depth f) (Some found) → (b : Bool)
      → b ≡ maximum_right depth found.most → b ≡ formed depth f
  unfolding formed
  formed_is found says b e =
      e ∙ ap₂ ◌&&◌ says.whole (ap (maximum_right depth) says.most ∙ right_held depth (header depth f).most)

  module _ (room : ℕ) where
    formed_answer : formed depth f ≡ true
        → raster_answer depth (pings_of depth f) (bins_of depth f) (raster_of depth f) room
        ≡ read_answer depth f room
    unfolding raster_answer read_answer
    formed_answer e = simp e

    pub unformed : formed depth f ≡ false → told {A = Header} (Err Netpbm) ≡ read_answer depth f room
    unfolding told told_refusal read_answer
    unformed e = simp e

    -- a file that is formed is judged as its raster is
    pub formed_judged : (found : Found) → Says f (header depth f) (Some found) → formed depth f ≡ true
        → (s : List ℕ) → s ≡ drop found.at f → (r : Result Header Refusal)
        → GivenBack (raster_answer depth found.w found.h s room) found.w found.h r
        → GivenBack (read_answer depth f room) (pings_of depth f) (bins_of depth f) r
    formed_judged found says e s es r g =
        subst (λ a. GivenBack a (pings_of depth f) (bins_of depth f) r) (formed_answer e)
        (back_held depth (pings_of depth f) (bins_of depth f) (raster_of depth f) room r
        (subst (λ k. GivenBack (raster_answer depth k (held (bins_of depth f)) (raster_of depth f) room)
        k (held (bins_of depth f)) r) says.w
        (subst (λ k. GivenBack (raster_answer depth found.w k (raster_of depth f) room) found.w k r)
        says.h
        (subst (λ l. GivenBack (raster_answer depth found.w found.h l room) found.w found.h r)
        (es ∙ says.raster) g))))

-- ---- what an accepted file is
pub file_admitted : (depth : Depth) (f : List ℕ) (room : ℕ) → is_done (read_answer depth f room) ≡ true
    → (formed depth f ≡ true)
    × Admitted Free depth (pings_of depth f) (bins_of depth f) (raster_of depth f) 0 room
unfolding read_answer
file_admitted depth f room e =
    let p = staged (not (formed depth f)) 11 _ (omega arith) e in
    let q = body_admitted Free depth (pings_of depth f) (bins_of depth f) (raster_of depth f) 0 room p.1 in
    (not-false _ p.0, q)

-- ---- what is copied is the raster's picture, and a refusal copies nothing
module _ (depth : Depth) (f t : List ℕ) (room : ℕ) where
  module _ (r : Header)
      (g : GivenBack (read_answer depth f room) (pings_of depth f) (bins_of depth f) (Ok r)) where
    done_read : is_done (read_answer depth f room) ≡ true
    done_read = ap is_done (sym g.answer) ∙ ok_done (Ok r) r refl

    own_holds : (n : ℕ) → picture_bytes depth (pings_of depth f) (bins_of depth f) ≤ n
        → Holds depth n r.w r.h
    own_holds n l =
        subst (λ k. Holds depth n k r.h) (sym g.pings)
        (subst (λ k. Holds depth n (pings_of depth f) k) (sym g.bins)
        (holds Free depth (pings_of depth f) (bins_of depth f) (raster_of depth f) n
        (file_admitted depth f room done_read).1.sized l))

    pub source_held : (s : List ℕ) → s ≡ raster_of depth f → Holds depth (length s) r.w r.h
    source_held s es =
        own_holds (length s) (le_of_eq (sym (ap length es ∙ (file_admitted depth f room done_read).1.whole)))

    pub target_held : Holds depth room r.w r.h
    target_held = own_holds room (omega (arith, (file_admitted depth f room done_read).1.roomy))

    pub read_done : room ≡ length t → (s u : List ℕ) → s ≡ raster_of depth f
        → u ≡ written depth (faced depth AsIs s r.w) r.w r.h t → u ≡ read_target depth f t
    unfolding read_target faced
    read_done er s u es eu =
        made_by_lem t _ (read_answer depth f (length t)) (told (Ok r))
        (g.answer ∙ ap (read_answer depth f) er) u (ok_done (Ok r) r refl)
        (eu ∙ ap₂ (λ (w : ℕ) (l : List ℕ). written depth (value_at depth l w) w r.h t) g.pings es
        ∙ ap (λ h. written depth (value_at depth (raster_of depth f) (pings_of depth f)) (pings_of depth f) h
        t)
        g.bins)

  -- a refusal: nothing is given back but its answer, and nothing is written
  pub read_refused : (r : Result Header Refusal) (why : Refusal) → r ≡ Err why
      → told r ≡ read_answer depth f room → room ≡ length t
      → GivenBack (read_answer depth f room) (pings_of depth f) (bins_of depth f) r
      × (t ≡ read_target depth f t)
  unfolding read_target
  read_refused r why q e er = (
    back_refused (pings_of depth f) (bins_of depth f) (read_answer depth f room) r why q e,
    kept_by t _ (read_answer depth f (length t)) (told r) (e ∙ ap (read_answer depth f) er)
        (err_undone r why q),
  )
