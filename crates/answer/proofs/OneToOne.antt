-- `told` is one-to-one: an answer is settled by its number, dx and dy.
use Prim.Native.Nat.{ℕ, suc, ◌+◌, ◌-◌}
use mathlib.Core.Path.{◌≡◌, refl, sym, ap, ap₂, ◌∙◌}
use mathlib.Core.Bool.{Bool, true, false, cond}
use native.Mathlib.Omega.{arith}
use borrow.Author.Tests.{ltb-true, ltb-false}
use Rattle.std.specs.Prelude.{Ok, Err}
use lib.Dec.{ltb, eqb}
use lib.IntN.{ℤ, pos, negsuc, sub_ℕ}
use Rattle.answer.specs.declared.Refusal.TheVariants.{Size, Source, Pad, Shape}
use Rattle.answer.specs.declared.Refusal.TheVariants.{Overlap, Chain, Split, Room, Form, Job, Netpbm}
use Rattle.answer.specs.declared.Refusal.TheVariants.{Marker, Full, Absent, Retired, Nest, Book}
use Rattle.answer.specs.declared.Refusal.TheVariants.{NoChain}
use Rattle.answer.specs.declared.Told.{Told}
use Rattle.answer.specs.Answer.{Answer, told, told_refusal, plain, centre}

-- the byte that stands for a coordinate
abbrev byte_of : ℤ → ℕ
byte_of (pos n) = n + centre
byte_of (negsuc n) = 127 - n

byte_back : (x : ℕ) → byte_of (sub_ℕ x centre) ≡ x
byte_back x = by (ltb x centre) refl
  where
    by : (b : Bool) → ltb x centre ≡ b → byte_of (cond b (negsuc (centre - suc x)) (pos (x - centre))) ≡ x
    by true e = let h = ltb-true x centre e in omega arith
    by false e = let h = ltb-false x centre e in omega arith

-- the answer that is told so
abbrev answer_of : Told → Answer
answer_of t =
    cond (eqb t.number 0) (Ok tt)
    (cond (eqb t.number 1) (Err Size)
    (cond (eqb t.number 2) (Err Source)
    (cond (eqb t.number 3) (Err Pad)
    (cond (eqb t.number 4) (Err Shape)
    (cond (eqb t.number 5) (Err Overlap)
    (cond (eqb t.number 6) (Err Chain)
    (cond (eqb t.number 7) (Err (Split (byte_of t.dx) (byte_of t.dy)))
    (cond (eqb t.number 8) (Err Room)
    (cond (eqb t.number 9) (Err Form)
    (cond (eqb t.number 10) (Err Job)
    (cond (eqb t.number 11) (Err Netpbm)
    (cond (eqb t.number 12) (Err Marker)
    (cond (eqb t.number 13) (Err Full)
    (cond (eqb t.number 14) (Err Absent)
    (cond (eqb t.number 15) (Err Retired)
    (cond (eqb t.number 16) (Err Nest)
    (cond (eqb t.number 17) (Err Book)
    (Err NoChain))))))))))))))))))

answer_back : (a : Answer) → answer_of (told a) ≡ a
unfolding told told_refusal plain
answer_back (Ok tt) = refl
answer_back (Err Size) = refl
answer_back (Err Source) = refl
answer_back (Err Pad) = refl
answer_back (Err Shape) = refl
answer_back (Err Overlap) = refl
answer_back (Err Chain) = refl
answer_back (Err (Split x y)) = ap₂ (λ x y. Err (Split x y)) (byte_back x) (byte_back y)
answer_back (Err Room) = refl
answer_back (Err Form) = refl
answer_back (Err Job) = refl
answer_back (Err Netpbm) = refl
answer_back (Err Marker) = refl
answer_back (Err Full) = refl
answer_back (Err Absent) = refl
answer_back (Err Retired) = refl
answer_back (Err Nest) = refl
answer_back (Err Book) = refl
answer_back (Err NoChain) = refl

pub told_one_to_one : (a b : Answer) → told a ≡ told b → a ≡ b
told_one_to_one a b e = sym (answer_back a) ∙ ap answer_of e ∙ answer_back b

-- the shared law of settled answers: two answers that one promise allows are the same
pub same_answer : (a b : Answer) (t : Told) → told a ≡ t → told b ≡ t → a ≡ b
same_answer a b t p q = told_one_to_one a b (p ∙ sym q)
