-- Numbers put into a list one after another.
use Prim.Native.Nat.{ℕ, suc, ◌+◌, ◌≤◌}
use mathlib.Core.Path.{◌≡◌, refl, sym, ap, ◌∙◌}
use mathlib.Core.List.{List, [], ◌∷◌, ◌++◌}
use native.Mathlib.Omega.{arith}
use native.Mathlib.Nat.{zero-add}
use native.Mathlib.Numerals.{add-one}
use lib.ListN.{length, set, drop}
use lib.Seq.{sets, length-sets, sets-eq}
use Rattle.nesting.specs.Steps.Written.{put}

sets_append : (l : List ℕ) (a : ℕ) (xs ys : List ℕ) → sets l a (xs ++ ys) ≡ sets (sets l a xs) (a + length xs)
    ys
sets_append l a [] ys = ap (λ a. sets l a ys) (plus_zero a)
  where
    plus_zero : (a : ℕ) → a ≡ a + 0
    plus_zero a = omega arith
sets_append l a (x ∷ xs) ys = sets_append (set l a x) (suc a) xs ys
    ∙ ap (λ b. sets (sets (set l a x) (suc a) xs) b ys) (shift a (length xs))
  where
    shift : (a n : ℕ) → suc a + n ≡ a + suc n
    shift a n = omega arith

pub put_append : (l : List ℕ) (a b : ℕ) (xs ys : List ℕ) → b ≡ a + length xs
    → put l a (xs ++ ys) ≡ put (put l a xs) b ys
unfolding put
put_append l a b xs ys e = sets_append l a xs ys ∙ ap (λ b. sets (sets l a xs) b ys) (sym e)

pub put_none : (l : List ℕ) (a : ℕ) → l ≡ put l a []
unfolding put
put_none l a = refl

pub length_put : (l : List ℕ) (a : ℕ) (xs : List ℕ) → length (put l a xs) ≡ length l
unfolding put
length_put l a xs = length-sets l a xs

-- what is put at the start: the further numbers stay
pub put_start : (l xs : List ℕ) → length xs ≤ length l → put l 0 xs ≡ xs ++ drop (length xs) l
unfolding put
put_start l xs h = sets-eq xs l 0 (omega arith) ∙ ap (λ n. xs ++ drop n l) (zero-add (length xs))

pub note_is : (l : List ℕ) (a d c : ℕ) → set (set l a d) (a + 1) c ≡ put l a (d ∷ c ∷ [])
unfolding put
note_is l a d c = ap (λ b. set (set l a d) b c) (add-one a)
