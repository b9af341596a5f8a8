-- Demand 2 of files: a file written and read gives the same picture;
-- an accepted file of kind 1 or 2 read and written gives the same bytes, and one of kind 3, which is retired,
-- the file of kind 1 of the same picture. The bytes of a slice are below 256.
use Rattle.std.specs.Prelude.{ℕ, ◌+◌, ◌≤◌, ◌<◌, ◌≡◌, true, List, ◌++◌, length, take, drop, Result}
use Rattle.basics.specs.Bytes.{Bytes}
use Rattle.answer.specs.declared.Refusal.{Refusal}
use Rattle.answer.specs.Answer.{Answer, told, is_done}
use Rattle.picture.specs.declared.Depth.TheVariants.{OneBit}
use Rattle.picture.specs.declared.Point.{Point}
use Rattle.picture.specs.Frame.{picture_bytes}
use Rattle.picture.specs.Points.{value_at}
use Rattle.picture.specs.Bytes.{bytes_of, written, padding_clear}
use Rattle.ech.specs.declared.Header.{Header}
use Rattle.ech.specs.File.{head_bytes, depth_of, kind_of, pings_of, bins_of, head_of}
use Rattle.ech.specs.ReadWrite.{picture_of}
use Rattle.echwrite.proofs.write_ech.Kinds as write-kinds
use Rattle.echwrite.proofs.write_ech.Reads as write
use Rattle.ech.proofs.read_ech.Kinds as read-kinds
use Rattle.ech.proofs.read_ech.Reads as read
use Rattle.demands.specs.Demands.{Every}
use Rattle.demands.specs.Given.{given}
use Rattle.demands.specs.FileCalls.{WriteCall, write_call, ReadCall, read_call}

-- the bytes of the picture, and of its file
abbrev pub picture_length : ℕ → ℕ → ℕ → ℕ
picture_length kind w h = picture_bytes (depth_of kind) w h

abbrev pub file_length : ℕ → ℕ → ℕ → ℕ
file_length kind w h = head_bytes + picture_length kind w h

-- the value at the point p of a picture of W pings that is kept as that kind
abbrev pub point_of : ℕ → ℕ → List ℕ → Point → ℕ
point_of kind w bytes p = value_at (depth_of kind) bytes w p.ping.0 p.bin.0

-- the kind, W and H of what a read gives, and 0 where it is refused
abbrev pub kind_given : Result Header Refusal → ℕ
kind_given = given (λ (h : Header). h.kind)

abbrev pub pings_given : Result Header Refusal → ℕ
pings_given = given (λ (h : Header). h.w)

abbrev pub bins_given : Result Header Refusal → ℕ
bins_given = given (λ (h : Header). h.h)

-- ---- written, then read
-- what is read of the file that c wrote: done, the same kind and size, the same value at each point,
-- the padding 0; as one equation of the bytes, whose further ones stay
pub record ReadBack (c : WriteCall) (d : ReadCall) (back : Result Header Refusal) : Type 0 where
  pub done : is_done (told back) ≡ true
  pub kind : kind_given back ≡ c.kind
  pub pings : pings_given back ≡ c.w
  pub bins : bins_given back ≡ c.h
  pub points : (p : Point) → p.ping.0 < c.w → p.bin.0 < c.h
      → point_of c.kind c.w d.after p ≡ point_of c.kind c.w c.source p
  pub padding : padding_clear (depth_of c.kind) d.after c.w c.h ≡ true
  pub bytes : d.after
      ≡ written (depth_of c.kind) (value_at (depth_of c.kind) c.source c.w) c.w c.h d.before

-- of a write that is done, and a read of its file's own bytes with room for the picture
abbrev pub WrittenThenRead : Type 0
WrittenThenRead =
    Every 2 write-kinds.ps write-kinds.r write.Learnt (λ κs a x e.
    Every 2 read-kinds.ps read-kinds.r read.Learnt (λ κs' a' x' e'.
    Bytes (write_call κs a e).source → is_done (told x) ≡ true
    → (read_call κs' a' e').file
    ≡ take (file_length (write_call κs a e).kind (write_call κs a e).w (write_call κs a e).h)
    (write_call κs a e).after
    → picture_length (write_call κs a e).kind (write_call κs a e).w (write_call κs a e).h
    ≤ length (read_call κs' a' e').before
    → ReadBack (write_call κs a e) (read_call κs' a' e') x'))

-- ---- read, then written
-- of a read that is done, and a write of the picture's own bytes with what the reader gave for kind and size,
-- with room for the file: done, and the bytes `file`; the further bytes of the target stay
pub record WrittenBack (file : List ℕ) (c : WriteCall) (answer : Answer) : Type 0 where
  pub done : is_done (told answer) ≡ true
  pub bytes : c.after ≡ file ++ drop (length file) c.before

-- of a file whose kind is so, and what is written in place of it
abbrev pub ReadThenWritten : (ℕ → Type 0) → (List ℕ → List ℕ) → Type 0
ReadThenWritten so made =
    Every 2 read-kinds.ps read-kinds.r read.Learnt (λ κs a x e.
    Every 2 write-kinds.ps write-kinds.r write.Learnt (λ κs' a' x' e'.
    Bytes (read_call κs a e).file → is_done (told x) ≡ true → so (kind_of (read_call κs a e).file)
    → (write_call κs' a' e').kind ≡ kind_given x → (write_call κs' a' e').w ≡ pings_given x
    → (write_call κs' a' e').h ≡ bins_given x
    → (write_call κs' a' e').source
    ≡ take (picture_length (kind_given x) (pings_given x) (bins_given x)) (read_call κs a e).after
    → length (read_call κs a e).file ≤ length (write_call κs' a' e').before
    → WrittenBack (made (read_call κs a e).file) (write_call κs' a' e') x'))

-- kinds 1 and 2: the bytes of the file that was read
abbrev pub SameFile : Type 0
SameFile = ReadThenWritten (λ kind. kind ≡ 3 → ⊥) (λ file. file)

-- kind 3: ten bytes that say kind 1 and the same size, and the bytes of the file's picture
abbrev pub kind_one : List ℕ → List ℕ
kind_one file =
    head_of 1 (pings_of file) (bins_of file)
    ++ bytes_of OneBit (picture_of file) (pings_of file) (bins_of file)

abbrev pub AsKindOne : Type 0
AsKindOne = ReadThenWritten (λ kind. kind ≡ 3) kind_one
