-- A file written and read gives the same picture;
-- an accepted file in our own header form, with row padding 0, read and written gives the same bytes.
use Prim.Native.Nat.{ℕ, ◌≤◌}
use mathlib.Core.Path.{◌≡◌, refl, sym, ap, ap₂, ◌∙◌, subst}
use mathlib.Core.Bool.{true, not, cond, ◌&&◌}
use mathlib.Core.List.{List, ◌∷◌, ◌++◌}
use native.Mathlib.Omega.{arith}
use lib.ListN.{length, take, drop, length-append}
use lib.Seq.{take_at}
use Rattle.basics.specs.Bytes.{Bytes}
use Rattle.answer.specs.Answer.{plain, is_done}
use Rattle.answer.specs.Refuse.{refuse}
use Rattle.answer.specs.Lent.{unless_refused}
use Rattle.judge.specs.declared.Padding.TheVariants.{Free}
use Rattle.judge.specs.Tests.{body_tests, Admitted}
use Rattle.judge.proofs.Bodies.{body_admitted, body_passes}
use Rattle.picture.specs.declared.Depth.{Depth}
use Rattle.picture.specs.Frame.{picture_bytes}
use Rattle.picture.specs.Points.{value_at}
use Rattle.picture.specs.Bytes.{bytes_of, written, padding_clear}
use Rattle.picture.proofs.Sizes.{sized_tells}
use Rattle.picture.proofs.Bytes.{bytes_long, bytes_value, value_small}
use Rattle.picture.proofs.Points.{written_same}
use Rattle.copies.proofs.ReadBack.{bytes_back}
use Rattle.pnmheader.specs.Header.{Head, header}
use Rattle.netpbm.specs.File.{maximum_right, formed, pings_of, bins_of, raster_of, head_of, file_of}
use Rattle.netpbm.specs.ReadWrite.{read_answer, read_target, write_answer, write_target}
use Rattle.netpbm.proofs.Reading.{file_admitted}
use Rattle.netpbm.proofs.OwnHeader.{own_maximum, own_header, own_right}

-- what a write that is done tells
pub write_tells : (depth : Depth) (w h : ℕ) (s t : List ℕ) → is_done (write_answer depth w h s t) ≡ true
    → Admitted Free depth w h s (length (head_of depth w h)) (length t)
unfolding write_answer
write_tells depth w h s t e = body_admitted Free depth w h s (length (head_of depth w h)) (length t) e

-- ---- a read of a file whose header is known
module _ (depth : Depth) (w h : ℕ) (body f u : List ℕ)
    (known : header depth f
    ≡ record { whole = true; w = w; h = h; most = own_maximum depth; raster = body })
    (p : Admitted Free depth w h body 0 (length u)) where
  own_formed : formed depth f ≡ true
  unfolding formed
  own_formed =
      ap (λ (a : Head). a.whole && maximum_right depth a.most) known ∙ own_right depth

  pub read_known : is_done (read_answer depth f (length u)) ≡ true
  unfolding read_answer
  read_known =
      ap₂ (λ b (a : Head). is_done (refuse
      ((not b, 11) ∷ body_tests Free depth a.w a.h a.raster 0 (length u)) (plain 0)))
      own_formed known
      ∙ body_passes Free depth w h body 0 (length u) p

  pub left_known : read_target depth f u ≡ written depth (value_at depth body w) w h u
  unfolding read_target unless_refused
  left_known =
      ap₂ (λ b (a : Head). cond b (written depth (value_at depth a.raster a.w) a.w a.h u) u)
      read_known known

-- ---- written, then read:
-- the file's own bytes read into any buffer with room give the picture and its size
pub record SamePicture (depth : Depth) (w h : ℕ) (s f u : List ℕ) : Type 0 where
  pub done : is_done (read_answer depth f (length u)) ≡ true
  pub pings_same : pings_of depth f ≡ w
  pub bins_same : bins_of depth f ≡ h
  pub bytes_same : read_target depth f u ≡ written depth (value_at depth s w) w h u

pub written_then_read : (depth : Depth) (w h : ℕ) (s t u : List ℕ) → Bytes s
    → is_done (write_answer depth w h s t) ≡ true → picture_bytes depth w h ≤ length u
    → SamePicture depth w h s (file_of depth w h s) u
unfolding file_of
written_then_read depth w h s t u bytes e room =
    let p = write_tells depth w h s t e in
    let few = sized_tells w h p.sized in
    let body = bytes_of depth (value_at depth s w) w h in
    let f = head_of depth w h ++ body in
    let known = own_header depth w h (omega (arith, few.few_pings)) (omega (arith, few.few_bins)) body in
    let q : Admitted Free depth w h body 0 (length u) =
    record { sized = p.sized; whole = bytes_long depth _ w h; clear = refl; roomy = omega arith } in
    record {
      done = read_known depth w h body f u known q;
      pings_same = ap (λ (a : Head). a.w) known;
      bins_same = ap (λ (a : Head). a.h) known;
      bytes_same =
          left_known depth w h body f u known q
          ∙ written_same depth (value_at depth body w) (value_at depth s w) w h u
          (bytes_value depth (value_at depth s w) w h (λ x y k l. value_small depth s bytes w x y));
    }

-- ---- read, then written: the picture's bytes written with the file's size give the file's bytes
pub record SameBytes (depth : Depth) (f p t : List ℕ) : Type 0 where
  pub done : is_done (write_answer depth (pings_of depth f) (bins_of depth f) p t) ≡ true
  pub bytes_same : write_target depth (pings_of depth f) (bins_of depth f) p t ≡ f ++ drop (length f) t

module _ (depth : Depth) (f : List ℕ) (bytes : Bytes (raster_of depth f))
    (own : f ≡ head_of depth (pings_of depth f) (bins_of depth f) ++ raster_of depth f)
    (clear : padding_clear depth (raster_of depth f) (pings_of depth f) (bins_of depth f) ≡ true)
    (room : ℕ) (e : is_done (read_answer depth f room) ≡ true) where
  w : ℕ
  w = pings_of depth f

  h : ℕ
  h = bins_of depth f

  raster : List ℕ
  raster = raster_of depth f

  p : Admitted Free depth w h raster 0 room
  unfolding w h raster
  p = (file_admitted depth f room e).1

  raster_back : bytes_of depth (value_at depth raster w) w h ≡ raster
  unfolding w h raster
  raster_back =
      bytes_back depth (raster_of depth f) bytes w h (sized_tells w h p.sized).some_pings clear p.whole

  file_back : file_of depth w h raster ≡ f
  unfolding file_of w h raster
  file_back = ap (λ l. head_of depth w h ++ l) raster_back ∙ sym own

  -- what is read are the raster's own bytes
  pub raster_read : (t : List ℕ) → room ≡ length t
      → take (picture_bytes depth (pings_of depth f) (bins_of depth f)) (read_target depth f t)
      ≡ raster_of depth f
  unfolding read_target unless_refused written w h raster
  raster_read t er =
      ap (λ b. take (picture_bytes depth w h)
      (cond b (bytes_of depth (value_at depth raster w) w h ++ drop (picture_bytes depth w h) t) t))
      (ap (λ n. is_done (read_answer depth f n)) (sym er) ∙ e)
      ∙ take_at (bytes_of depth (value_at depth raster w) w h) _ _ (bytes_long depth _ w h) ∙ raster_back

  written_back : (t : List ℕ) → length f ≤ length t → SameBytes depth f (raster_of depth f) t
  unfolding write_answer write_target unless_refused w h raster
  written_back t l =
      let done : is_done (write_answer depth w h raster t) ≡ true =
      body_passes Free depth w h raster (length (head_of depth w h)) (length t)
      (record {
        sized = p.sized;
        whole = p.whole;
        clear = refl;
        roomy = omega (arith, ap length own, length-append (head_of depth w h) raster, p.whole);
      }) in
      record {
        done = done;
        bytes_same =
            ap (λ b. cond b (file_of depth w h raster ++ drop (length (file_of depth w h raster)) t) t) done
            ∙ ap (λ l. l ++ drop (length l) t) file_back;
      }

  pub read_then_written : (t t' : List ℕ) → room ≡ length t → length f ≤ length t'
      → SameBytes depth f
      (take (picture_bytes depth (pings_of depth f) (bins_of depth f)) (read_target depth f t)) t'
  read_then_written t t' er l =
      subst (λ (k : List ℕ). SameBytes depth f k t') (sym (raster_read t er)) (written_back t' l)
