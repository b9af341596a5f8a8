-- The shared law of settled outcomes: what two outcomes of one call both equal, they are.
use mathlib.Core.Path.{◌≡◌, sym, ◌∙◌}
use Rattle.basics.specs.Settles.{Settles, SettlesBytes}
use Rattle.basics.proofs.lesser.Kinds as lesser-kinds
use Rattle.basics.proofs.lesser.Reads as lesser
use Rattle.basics.proofs.greater.Kinds as greater-kinds
use Rattle.basics.proofs.greater.Reads as greater
use Rattle.basics.proofs.lesser_byte.Kinds as lesser-byte-kinds
use Rattle.basics.proofs.lesser_byte.Reads as lesser-byte
use Rattle.basics.proofs.greater_byte.Kinds as greater-byte-kinds
use Rattle.basics.proofs.greater_byte.Reads as greater-byte
use Rattle.basics.proofs.copy.Kinds as copy-kinds
use Rattle.basics.proofs.copy.Reads as copy

pub settled : {A : Type 0} {x y z : A} → x ≡ z → y ≡ z → x ≡ y
settled p q = p ∙ sym q

pub lesser_settled : Settles 0 lesser-kinds.ps lesser-kinds.r lesser.Learnt
lesser_settled κs a x y s t p q = settled p q

pub greater_settled : Settles 0 greater-kinds.ps greater-kinds.r greater.Learnt
greater_settled κs a x y s t p q = settled p q

pub lesser_byte_settled : Settles 0 lesser-byte-kinds.ps lesser-byte-kinds.r lesser-byte.Learnt
lesser_byte_settled κs a x y s t p q = settled p q

pub greater_byte_settled : Settles 0 greater-byte-kinds.ps greater-byte-kinds.r greater-byte.Learnt
greater_byte_settled κs a x y s t p q = settled p q

pub copy_settled : Settles 2 copy-kinds.ps copy-kinds.r copy.Learnt
copy_settled κs a x y s t p q = settled p.0 q.0

pub copy_settled_target : SettlesBytes 2 copy-kinds.ps copy-kinds.r copy.Learnt (λ κs e. e.1.0.now)
copy_settled_target κs a x y s t p q = settled p.1 q.1
