-- Document 01, "Refusal numbers": the number, dx and dy of each answer.
use Rattle.std.specs.Prelude.{ℕ, Bool, eqb, pos, Result, Ok, Err}
use Rattle.std.proofs.Math.IntN.{sub_ℕ}
use Rattle.answer.specs.declared.Refusal.{Refusal}
use Rattle.answer.specs.declared.Refusal.TheVariants.{Size, Source, Pad, Shape}
use Rattle.answer.specs.declared.Refusal.TheVariants.{Overlap, Chain, Split, Room, Form, Job, Netpbm}
use Rattle.answer.specs.declared.Refusal.TheVariants.{Marker, Full, Absent, Retired, Nest, Book}
use Rattle.answer.specs.declared.Refusal.TheVariants.{NoChain}
use Rattle.answer.specs.declared.Told.{Told}

-- what a call answers that gives nothing else
abbrev pub Answer : Type 0
Answer = Result (Unit {0}) Refusal

-- a coordinate d of an offset is held as the byte d + centre, so that no number is negative
abbrev pub centre : ℕ
centre = 128

-- dx and dy are 0 but for SPLIT
unfoldable pub plain : ℕ → Told
plain n = record { number = n; dx = pos 0; dy = pos 0 }

-- of a refusal
unfoldable pub told_refusal : Refusal → Told
told_refusal Size = plain 1
told_refusal Source = plain 2
told_refusal Pad = plain 3
told_refusal Shape = plain 4
told_refusal Overlap = plain 5
told_refusal Chain = plain 6
told_refusal (Split x y) = record { number = 7; dx = sub_ℕ x centre; dy = sub_ℕ y centre }
told_refusal Room = plain 8
told_refusal Form = plain 9
told_refusal Job = plain 10
told_refusal Netpbm = plain 11
told_refusal Marker = plain 12
told_refusal Full = plain 13
told_refusal Absent = plain 14
told_refusal Retired = plain 15
told_refusal Nest = plain 16
told_refusal Book = plain 17
told_refusal NoChain = plain 18

-- of an answer, whatever a call that is done gives besides
unfoldable pub told : {A : Type 0} → Result A Refusal → Told
told (Ok x) = plain 0
told (Err r) = told_refusal r

-- 0 means done
abbrev pub is_done : Told → Bool
is_done t = eqb t.number 0
