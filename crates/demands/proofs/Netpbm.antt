-- Request (i): what is demanded of the Netpbm files, of every outcome that
-- the contracts of the readers and the writers allow. The bytes of a slice are below 256.
use Rattle.std.specs.Prelude.{Result}
use Prim.Native.Nat.{ℕ, ◌+◌, ◌≤◌, ◌<◌}
use mathlib.Core.Path.{◌≡◌, refl, sym, ap, ap₂, subst, ◌∙◌}
use mathlib.Core.Bool.{true, cond}
use mathlib.Core.List.{List, ◌++◌}
use native.Mathlib.Omega.{arith}
use lib.ListN.{length, get_or, take, drop}
use lib.Seq.{take_at, drop_at, get_or-drop}
use Rattle.basics.specs.Bytes.{Bytes}
use Rattle.answer.specs.declared.Refusal.{Refusal}
use Rattle.answer.specs.Answer.{Answer, told, is_done}
use Rattle.answer.specs.Refuse.{FirstHolds}
use Rattle.answer.specs.Lent.{unless_refused}
use Rattle.answer.proofs.Order.{Numbered}
use Rattle.picture.specs.declared.Depth.{Depth}
use Rattle.picture.specs.declared.Depth.TheVariants.{OneBit, EightBit}
use Rattle.picture.specs.declared.Point.{Point}
use Rattle.picture.specs.Frame.{picture_bytes}
use Rattle.picture.specs.Points.{value_at}
use Rattle.picture.specs.Bytes.{written}
use Rattle.picture.proofs.Bytes.{value_small}
use Rattle.picture.proofs.Points.{written_value}
use Rattle.judge.specs.declared.Padding.TheVariants.{Free}
use Rattle.judge.proofs.Bodies.{body_numbered}
use Rattle.netpbm.specs.declared.Header.{Header}
use Rattle.netpbm.specs.File.{pings_of, bins_of, raster_of, head_of, file_of}
use Rattle.netpbm.specs.ReadWrite.{read_answer, read_target, GivenBack, write_answer, write_target}
use Rattle.netpbm.proofs.Writing.{file_long}
use Rattle.netpbm.proofs.RoundTrip.{SamePicture, written_then_read, read_then_written}
use Rattle.netpbm.proofs.read_pbm.Kinds as read-kinds
use Rattle.netpbm.proofs.read_pbm.Reads as read-pbm
use Rattle.netpbm.proofs.read_pgm.Reads as read-pgm
use Rattle.pnmwrite.proofs.write_pbm.Kinds as write-kinds
use Rattle.pnmwrite.proofs.write_pbm.Reads as write-pbm
use Rattle.pnmwrite.proofs.write_pgm.Reads as write-pgm
use Rattle.demands.specs.Demands.{Every, Exactly, Kept}
use Rattle.demands.specs.PnmCalls.{PnmWrite, pnm_write, tests_pnm_write, PnmRead, pnm_read, tests_pnm_read}
use Rattle.demands.specs.Netpbm.{pings_given, bins_given}
use Rattle.demands.specs.Netpbm.{pnm_picture, pnm_file, PnmReadBack, PnmWrittenThenRead}
use Rattle.demands.specs.Netpbm.{OwnForm, PnmWritesBack, PnmWrittenBack, PnmReadThenWritten}
use Rattle.demands.proofs.Given.{given_is}
use Rattle.demands.proofs.Laws.{exactly_of, kept_of, refused_not}

-- what the contracts of the two readers, and of the two writers, say: one promise over the depth
abbrev ReadPromise : Depth → PnmRead → Result Header Refusal → Type 0
ReadPromise depth d r =
    GivenBack (read_answer depth d.file (length d.before))
    (pings_of depth d.file) (bins_of depth d.file) r
    × (d.after ≡ read_target depth d.file d.before)

abbrev WritePromise : Depth → PnmWrite → Answer → Type 0
WritePromise depth c x =
    (told x ≡ write_answer depth c.w c.h c.source c.before)
    × (c.after ≡ write_target depth c.w c.h c.source c.before)

-- W and H of a read that is done are the file's, and of one that is refused 0
pings_is : (depth : Depth) (d : PnmRead) (r : Result Header Refusal) → ReadPromise depth d r
    → pings_given r ≡ cond (is_done (read_answer depth d.file (length d.before))) (pings_of depth d.file) 0
pings_is depth d r p = given_is (λ (h : Header). h.w) _ _ r p.0.answer p.0.pings

bins_is : (depth : Depth) (d : PnmRead) (r : Result Header Refusal) → ReadPromise depth d r
    → bins_given r ≡ cond (is_done (read_answer depth d.file (length d.before))) (bins_of depth d.file) 0
bins_is depth d r p = given_is (λ (h : Header). h.h) _ _ r p.0.answer p.0.bins

-- ---- demand 1
module _ (depth : Depth) (d : PnmRead) (r : Result Header Refusal) (p : ReadPromise depth d r) where
  read_numbered : Numbered (tests_pnm_read depth d)
  read_numbered = (
    omega arith,
    body_numbered Free depth (pings_of depth d.file) (bins_of depth d.file) (raster_of depth d.file) 0
        (length d.before),
  )

  read_exactly : Exactly (tests_pnm_read depth d) (told r)
  unfolding read_answer
  read_exactly = exactly_of (tests_pnm_read depth d) (told r) read_numbered p.0.answer

  read_kept : Kept (tests_pnm_read depth d) d.before d.after
  unfolding read_answer read_target
  read_kept = kept_of (tests_pnm_read depth d) _ _ _ read_numbered p.1

  read_gives_none : (n : ℕ) → FirstHolds (tests_pnm_read depth d) n → (pings_given r ≡ 0) × (bins_given r ≡ 0)
  unfolding read_answer
  read_gives_none n f =
      let no = refused_not (tests_pnm_read depth d) n read_numbered f in (
        pings_is depth d r p ∙ ap (λ b. cond b (pings_of depth d.file) 0) no,
        bins_is depth d r p ∙ ap (λ b. cond b (bins_of depth d.file) 0) no,
      )

module _ (depth : Depth) (c : PnmWrite) (x : Answer) (p : WritePromise depth c x) where
  write_numbered : Numbered (tests_pnm_write depth c)
  write_numbered =
      body_numbered Free depth c.w c.h c.source (length (head_of depth c.w c.h))
      (length c.before)

  write_exactly : Exactly (tests_pnm_write depth c) (told x)
  unfolding write_answer
  write_exactly = exactly_of (tests_pnm_write depth c) (told x) write_numbered p.0

  write_kept : Kept (tests_pnm_write depth c) c.before c.after
  unfolding write_answer write_target
  write_kept = kept_of (tests_pnm_write depth c) _ _ _ write_numbered p.1

-- ---- written, then read
module _ (depth : Depth) (c : PnmWrite) (x : Answer) (p : WritePromise depth c x) (bytes : Bytes c.source)
    (done : is_done (told x) ≡ true) where
  was : is_done (write_answer depth c.w c.h c.source c.before) ≡ true
  was = sym (ap is_done p.0) ∙ done

  -- a file that was written is the first bytes of the target
  file_is : take (pnm_file depth c) c.after ≡ file_of depth c.w c.h c.source
  unfolding write_target unless_refused
  file_is =
      let f = file_of depth c.w c.h c.source in
      ap (take (pnm_file depth c))
      (p.1 ∙ ap (λ b. cond b (f ++ drop (length f) c.before) c.before) was)
      ∙ take_at f (drop (length f) c.before) (pnm_file depth c)
      (file_long depth c.w c.h c.source)

  read_back : (d : PnmRead) (back : Result Header Refusal) → ReadPromise depth d back
      → d.file ≡ take (pnm_file depth c) c.after
      → pnm_picture depth c ≤ length d.before → PnmReadBack depth c d back
  read_back d back q own room =
      let same = subst (λ (f : List ℕ). SamePicture depth c.w c.h c.source f d.before)
      (sym (own ∙ file_is))
      (written_then_read depth c.w c.h c.source c.before d.before bytes was room) in
      let left : d.after ≡ written depth (value_at depth c.source c.w) c.w c.h d.before =
      q.1 ∙ same.bytes_same in
      record {
        done = ap is_done q.0.answer ∙ same.done;
        pings = pings_is depth d back q ∙ ap (λ b. cond b (pings_of depth d.file) 0) same.done
            ∙ same.pings_same;
        bins = bins_is depth d back q ∙ ap (λ b. cond b (bins_of depth d.file) 0) same.done ∙ same.bins_same;
        points = λ k hx hy.
            ap (λ l. value_at depth l c.w k.ping.0 k.bin.0) left
            ∙ written_value depth (value_at depth c.source c.w) c.w c.h d.before
            (λ x y m l. value_small depth c.source bytes c.w x y) k.ping.0 k.bin.0 hx hy;
        bytes = left;
      }

-- ---- read, then written
module _ (depth : Depth) (d : PnmRead) (back : Result Header Refusal) (p : ReadPromise depth d back)
    (bytes : Bytes d.file) (done : is_done (told back) ≡ true)
    (own : OwnForm depth d.file) where
  read : is_done (read_answer depth d.file (length d.before)) ≡ true
  read = sym (ap is_done p.0.answer) ∙ done

  own_pings : pings_given back ≡ pings_of depth d.file
  own_pings = pings_is depth d back p ∙ ap (λ b. cond b (pings_of depth d.file) 0) read

  own_bins : bins_given back ≡ bins_of depth d.file
  own_bins = bins_is depth d back p ∙ ap (λ b. cond b (bins_of depth d.file) 0) read

  -- the raster is the end of the file, and so is of bytes too
  raster_bytes : Bytes (raster_of depth d.file)
  raster_bytes i =
      let head = head_of depth (pings_of depth d.file) (bins_of depth d.file) in
      let rest : drop (length head) d.file ≡ raster_of depth d.file =
      ap (drop (length head)) own.head ∙ drop_at head (raster_of depth d.file) (length head) refl in
      subst (λ k. k < 256) (sym (get_or-drop (length head) d.file i 0) ∙ ap (λ l. get_or l i 0) rest)
      (bytes (length head + i))

  written_back : (c : PnmWrite) (x : Answer) → WritePromise depth c x → PnmWritesBack depth d back c
      → PnmWrittenBack d c x
  written_back c x q writes =
      let f = d.file in
      let same = read_then_written depth f raster_bytes own.head own.padding (length d.before) read
      d.before c.before refl writes.room in
      let source : c.source
      ≡ take (picture_bytes depth (pings_of depth f) (bins_of depth f)) (read_target depth f d.before) =
      writes.bytes
      ∙ ap₂ (λ a b. take (picture_bytes depth a b) d.after) own_pings own_bins
      ∙ ap (take (picture_bytes depth (pings_of depth f) (bins_of depth f))) p.1 in
      let w : c.w ≡ pings_of depth f = writes.pings ∙ own_pings in
      let h : c.h ≡ bins_of depth f = writes.bins ∙ own_bins in
      record {
        done =
            ap is_done q.0
            ∙ ap₂ (λ a b. is_done (write_answer depth a b c.source c.before)) w h
            ∙ ap (λ s. is_done (write_answer depth (pings_of depth f) (bins_of depth f) s c.before)) source
            ∙ same.done;
        bytes =
            q.1 ∙ ap₂ (λ a b. write_target depth a b c.source c.before) w h
            ∙ ap (λ s. write_target depth (pings_of depth f) (bins_of depth f) s c.before) source
            ∙ same.bytes_same;
      }

-- ---- the theorems, of the four contracts
-- PBM
pub read_pbm_exactly : Every 2 read-kinds.ps read-kinds.r read-pbm.Learnt
    (λ κs a r e. Exactly (tests_pnm_read OneBit (pnm_read κs a e)) (told r))
read_pbm_exactly κs a r e p = read_exactly OneBit (pnm_read κs a e) r p

pub read_pbm_kept : Every 2 read-kinds.ps read-kinds.r read-pbm.Learnt
    (λ κs a r e. let d = pnm_read κs a e in Kept (tests_pnm_read OneBit d) d.before d.after)
read_pbm_kept κs a r e p = read_kept OneBit (pnm_read κs a e) r p

-- a refused read gives 0 for W and H
pub read_pbm_gives_none : Every 2 read-kinds.ps read-kinds.r read-pbm.Learnt
    (λ κs a r e. (n : ℕ) → FirstHolds (tests_pnm_read OneBit (pnm_read κs a e)) n → (pings_given r ≡ 0)
    × (bins_given r ≡ 0))
read_pbm_gives_none κs a r e p = read_gives_none OneBit (pnm_read κs a e) r p

pub write_pbm_exactly : Every 2 write-kinds.ps write-kinds.r write-pbm.Learnt
    (λ κs a r e. Exactly (tests_pnm_write OneBit (pnm_write κs a e)) (told r))
write_pbm_exactly κs a r e p = write_exactly OneBit (pnm_write κs a e) r p

pub write_pbm_kept : Every 2 write-kinds.ps write-kinds.r write-pbm.Learnt
    (λ κs a r e. let c = pnm_write κs a e in Kept (tests_pnm_write OneBit c) c.before c.after)
write_pbm_kept κs a r e p = write_kept OneBit (pnm_write κs a e) r p

pub pbm_written_and_read : PnmWrittenThenRead OneBit write-pbm.Learnt read-pbm.Learnt
pbm_written_and_read κs a x e p κs' a' x' e' q bytes done own room =
    read_back OneBit (pnm_write κs a e) x p bytes done (pnm_read κs' a' e') x' q own room

pub pbm_read_and_written : PnmReadThenWritten OneBit read-pbm.Learnt write-pbm.Learnt
pbm_read_and_written κs a x e p κs' a' x' e' q bytes done own writes =
    written_back OneBit (pnm_read κs a e) x p bytes done own (pnm_write κs' a' e') x' q writes

-- PGM
pub read_pgm_exactly : Every 2 read-kinds.ps read-kinds.r read-pgm.Learnt
    (λ κs a r e. Exactly (tests_pnm_read EightBit (pnm_read κs a e)) (told r))
read_pgm_exactly κs a r e p = read_exactly EightBit (pnm_read κs a e) r p

pub read_pgm_kept : Every 2 read-kinds.ps read-kinds.r read-pgm.Learnt
    (λ κs a r e. let d = pnm_read κs a e in Kept (tests_pnm_read EightBit d) d.before d.after)
read_pgm_kept κs a r e p = read_kept EightBit (pnm_read κs a e) r p

-- a refused read gives 0 for W and H
pub read_pgm_gives_none : Every 2 read-kinds.ps read-kinds.r read-pgm.Learnt
    (λ κs a r e. (n : ℕ) → FirstHolds (tests_pnm_read EightBit (pnm_read κs a e)) n → (pings_given r ≡ 0)
    × (bins_given r ≡ 0))
read_pgm_gives_none κs a r e p = read_gives_none EightBit (pnm_read κs a e) r p

pub write_pgm_exactly : Every 2 write-kinds.ps write-kinds.r write-pgm.Learnt
    (λ κs a r e. Exactly (tests_pnm_write EightBit (pnm_write κs a e)) (told r))
write_pgm_exactly κs a r e p = write_exactly EightBit (pnm_write κs a e) r p

pub write_pgm_kept : Every 2 write-kinds.ps write-kinds.r write-pgm.Learnt
    (λ κs a r e. let c = pnm_write κs a e in Kept (tests_pnm_write EightBit c) c.before c.after)
write_pgm_kept κs a r e p = write_kept EightBit (pnm_write κs a e) r p

pub pgm_written_and_read : PnmWrittenThenRead EightBit write-pgm.Learnt read-pgm.Learnt
pgm_written_and_read κs a x e p κs' a' x' e' q bytes done own room =
    read_back EightBit (pnm_write κs a e) x p bytes done (pnm_read κs' a' e') x' q own room

pub pgm_read_and_written : PnmReadThenWritten EightBit read-pgm.Learnt write-pgm.Learnt
pgm_read_and_written κs a x e p κs' a' x' e' q bytes done own writes =
    written_back EightBit (pnm_read κs a e) x p bytes done own (pnm_write κs' a' e') x' q writes
