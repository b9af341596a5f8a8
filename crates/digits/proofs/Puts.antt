-- Lists put over parts of another.
use Prim.Native.Nat.{ℕ, ◌+◌, ◌-◌, ◌≤◌, ◌<◌}
use mathlib.Core.Path.{◌≡◌, sym, ap, ap₂, ◌∙◌}
use mathlib.Core.List.{List, [], ◌∷◌, ◌++◌, append_assoc, append-nil}
use native.Mathlib.Omega.{arith}
use native.Mathlib.Nat.{add-zero, zero-add, add_assoc}
use native.Mathlib.Numerals.{add-one}
use borrow.Rule.Slice.PartMut.{put_mid}
use lib.ListN.{length, set, take, drop, length-append, length-drop, take-append-drop, drop_of_length-le}
use lib.Seq.{take_at, drop_at, set_split, drop-drop, length-take-le, take-length}
use Rattle.basics.proofs.Lists.{tail_is}
use Rattle.digits.specs.Put.{put}

pub put_length : (at : ℕ) (s t : List ℕ) → at + length s ≤ length t → length (put at s t) ≡ length t
unfolding put
put_length at s t h =
    length-append (take at t) (s ++ drop (at + length s) t)
    ∙ ap₂ (λ a b. a + b) (length-take-le at t (omega arith)) (length-append s (drop (at + length s) t))
    ∙ omega (arith, length-drop (at + length s) t)

pub put_none : (at : ℕ) (t : List ℕ) → put at [] t ≡ t
unfolding put
put_none at t = ap (λ n. take at t ++ drop n t) (add-zero at) ∙ take-append-drop at t

pub put_first : (l t : List ℕ) → put 0 l t ≡ l ++ drop (length l) t
unfolding put
put_first l t = ap (λ n. l ++ drop n t) (zero-add (length l))

-- one number stored
pub put_set : (at b : ℕ) (t : List ℕ) → at < length t → set t at b ≡ put at (b ∷ []) t
unfolding put
put_set at b t h = set_split t at b h ∙ ap (λ n. take at t ++ (b ∷ drop n t)) (sym (add-one at))

-- all that follows the place, lent and filled from its start
pub put_part : (at : ℕ) (s t ys : List ℕ) → at + length s ≤ length t
    → ys ≡ take (length s) s ++ drop (length s) (take (length t - at) (drop at t))
    → put_mid at (length t - at) t ys ≡ put at s t
unfolding put
put_part at s t ys h e =
    ap (λ l. take at t ++ l)
    (ap₂ (λ l r. l ++ r) filled none ∙ append-nil _)
  where
    filled : ys ≡ s ++ drop (at + length s) t
    filled =
        e ∙ ap₂ (λ a b. a ++ drop (length s) b) (take-length s) (tail_is t at)
        ∙ ap (λ l. s ++ l) (drop-drop (length s) at t)

    none : drop (length t - at) (drop at t) ≡ []
    none = drop_of_length-le (drop at t) {i = length t - at} (omega (arith, length-drop at t))

-- a list after another is the two together
pub put_put : (at : ℕ) (a b t : List ℕ) → at + length a ≤ length t
    → put (at + length a) b (put at a t) ≡ put at (a ++ b) t
unfolding put
put_put at a b t h =
    ap₂ (λ x y. x ++ (b ++ y)) front rest ∙ together
  where
    long : length (take at t ++ a) ≡ at + length a
    long = length-append (take at t) a ∙ ap (λ n. n + length a) (length-take-le at t (omega arith))

    shape : take at t ++ (a ++ drop (at + length a) t) ≡ (take at t ++ a) ++ drop (at + length a) t
    shape = sym (append_assoc (take at t) a (drop (at + length a) t))

    front : take (at + length a) (take at t ++ (a ++ drop (at + length a) t)) ≡ take at t ++ a
    front =
        ap (take (at + length a)) shape
        ∙ take_at (take at t ++ a) (drop (at + length a) t) (at + length a) long

    rest : drop (at + length a + length b) (take at t ++ (a ++ drop (at + length a) t))
        ≡ drop (at + length (a ++ b)) t
    rest =
        sym (drop-drop (length b) (at + length a) _)
        ∙ ap (drop (length b))
        (ap (drop (at + length a)) shape
        ∙ drop_at (take at t ++ a) (drop (at + length a) t) (at + length a) long)
        ∙ drop-drop (length b) (at + length a) t
        ∙ ap (λ n. drop n t)
        (add_assoc at (length a) (length b) ∙ ap (λ n. at + n) (sym (length-append a b)))

    together : (take at t ++ a) ++ (b ++ drop (at + length (a ++ b)) t)
        ≡ take at t ++ ((a ++ b) ++ drop (at + length (a ++ b)) t)
    together = append_assoc (take at t) a _ ∙ ap (λ l. take at t ++ l) (sym (append_assoc a b _))
