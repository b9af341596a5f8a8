-- What is demanded of PBM and PGM files, in the words of request (i), over the depth:
-- reading back what we wrote gives the same picture; writing what was read gives
-- the same bytes for files in our own header form with row padding 0. The bytes of a slice are below 256.
use Rattle.std.specs.Prelude.{ℕ, ◌+◌, ◌≤◌, ◌<◌, ◌≡◌, true, List, ◌++◌, length, take, drop, Result}
use borrow.Fn.Kinds.{Out}
use Rattle.basics.specs.Bytes.{Bytes}
use Rattle.answer.specs.declared.Refusal.{Refusal}
use Rattle.answer.specs.Answer.{Answer, told, is_done}
use Rattle.picture.specs.declared.Depth.{Depth}
use Rattle.picture.specs.declared.Point.{Point}
use Rattle.picture.specs.Frame.{picture_bytes}
use Rattle.picture.specs.Points.{value_at}
use Rattle.picture.specs.Bytes.{written, padding_clear}
use Rattle.netpbm.specs.declared.Header.{Header}
use Rattle.netpbm.specs.File.{pings_of, bins_of, raster_of, head_of}
use Rattle.pnmwrite.proofs.write_pbm.Kinds as write
use Rattle.netpbm.proofs.read_pbm.Kinds as read
use Rattle.demands.specs.Demands.{Every}
use Rattle.demands.specs.Given.{given}
use Rattle.demands.specs.PnmCalls.{PnmWrite, pnm_write, PnmRead, pnm_read}

-- the bytes of the picture, and of its file
abbrev pub pnm_picture : Depth → PnmWrite → ℕ
pnm_picture depth c = picture_bytes depth c.w c.h

abbrev pub pnm_file : Depth → PnmWrite → ℕ
pnm_file depth c = length (head_of depth c.w c.h) + pnm_picture depth c

-- W and H of what a read gives, and 0 where it is refused
abbrev pub pings_given : Result Header Refusal → ℕ
pings_given = given (λ (h : Header). h.w)

abbrev pub bins_given : Result Header Refusal → ℕ
bins_given = given (λ (h : Header). h.h)

-- ---- written, then read
-- what is read of the file that c wrote: done, the same size, and the same picture,
-- point by point; its padding is 0 and the further bytes of the target stay
pub record PnmReadBack (depth : Depth) (c : PnmWrite) (d : PnmRead) (back : Result Header Refusal) : Type
    0 where
  pub done : is_done (told back) ≡ true
  pub pings : pings_given back ≡ c.w
  pub bins : bins_given back ≡ c.h
  pub points : (p : Point) → p.ping.0 < c.w → p.bin.0 < c.h
      → value_at depth d.after c.w p.ping.0 p.bin.0
      ≡ value_at depth c.source c.w p.ping.0 p.bin.0
  pub bytes : d.after ≡ written depth (value_at depth c.source c.w) c.w c.h d.before

-- of a write that is done, and a read of its file's own bytes with room for the picture
abbrev pub PnmWrittenThenRead : Depth → Out 2 write.ps write.r → Out 2 read.ps read.r → Type 0
PnmWrittenThenRead depth Write Read =
    Every 2 write.ps write.r Write (λ κs a x e.
    Every 2 read.ps read.r Read (λ κs' a' x' e'.
    Bytes (pnm_write κs a e).source → is_done (told x) ≡ true
    → (pnm_read κs' a' e').file ≡ take (pnm_file depth (pnm_write κs a e)) (pnm_write κs a e).after
    → pnm_picture depth (pnm_write κs a e) ≤ length (pnm_read κs' a' e').before
    → PnmReadBack depth (pnm_write κs a e) (pnm_read κs' a' e') x'))

-- ---- read, then written
-- a file in our own header form, with row padding 0
pub record OwnForm (depth : Depth) (f : List ℕ) : Type 0 where
  pub head : f ≡ head_of depth (pings_of depth f) (bins_of depth f) ++ raster_of depth f
  pub padding : padding_clear depth (raster_of depth f) (pings_of depth f) (bins_of depth f) ≡ true

-- a write of the picture's own bytes with what the reader gave for W and H, with room for the file
pub record PnmWritesBack (depth : Depth) (d : PnmRead) (back : Result Header Refusal) (c : PnmWrite) : Type
    0 where
  pub pings : c.w ≡ pings_given back
  pub bins : c.h ≡ bins_given back
  pub bytes : c.source ≡ take (picture_bytes depth (pings_given back) (bins_given back)) d.after
  pub room : length d.file ≤ length c.before

-- is done, and gives the bytes of the file that was read; the further bytes of the target stay
pub record PnmWrittenBack (d : PnmRead) (c : PnmWrite) (answer : Answer) : Type 0 where
  pub done : is_done (told answer) ≡ true
  pub bytes : c.after ≡ d.file ++ drop (length d.file) c.before

abbrev pub PnmReadThenWritten : Depth → Out 2 read.ps read.r → Out 2 write.ps write.r → Type 0
PnmReadThenWritten depth Read Write =
    Every 2 read.ps read.r Read (λ κs a x e.
    Every 2 write.ps write.r Write (λ κs' a' x' e'.
    Bytes (pnm_read κs a e).file → is_done (told x) ≡ true → OwnForm depth (pnm_read κs a e).file
    → PnmWritesBack depth (pnm_read κs a e) x (pnm_write κs' a' e')
    → PnmWrittenBack (pnm_read κs a e) (pnm_write κs' a' e') x'))
