-- A list put piece by piece, from the place `at` on.
use Prim.Native.Nat.{ℕ, zero, suc, ◌+◌, ◌≤◌, ◌<◌}
use mathlib.Core.Path.{◌≡◌, sym, ap, ap₂, ◌∙◌}
use mathlib.Core.List.{List, [], ◌∷◌, ◌++◌, flatten, append_assoc, append-nil}
use mathlib.Core.Logic.{⊎_elim}
use native.Mathlib.Omega.{arith}
use native.Mathlib.Nat.{add-zero, le_of_suc-le-suc, eq-or-lt_of_le}
use native.Mathlib.Numerals.{add-one}
use lib.ListN.{length, length-append}
use Rattle.basics.specs.Lists.{joined}
use Rattle.digits.specs.Put.{put}
use Rattle.digits.proofs.Puts.{put_length, put_none, put_put}

-- the next place r and the buffer u, where of `all` only these
-- pieces are left to put into t, and there is room for all
pub record Left (at : ℕ) (t all : List ℕ) (pieces : List (List ℕ)) (r : ℕ) (u : List ℕ) : Type 0 where
  pub room : at + length all ≤ length t
  pub done : List ℕ
  pub whole : done ++ flatten pieces ≡ all
  pub place : r ≡ at + length done
  pub bytes : u ≡ put at done t

pub two_pieces : (a b : List ℕ) → flatten (a ∷ b ∷ []) ≡ a ++ b
unfolding flatten
two_pieces a b = ap (λ l. a ++ l) (append-nil b)

module _ {at : ℕ} {t all : List ℕ} where
  pub none_put : {pieces : List (List ℕ)} → at + length all ≤ length t → flatten pieces ≡ all
      → Left at t all pieces at t
  none_put h e =
      record { room = h; done = []; whole = e; place = sym (add-zero at); bytes = sym (put_none at t) }

  pub all_put : {r : ℕ} {u : List ℕ} → Left at t all [] r u → (r ≡ at + length all) × (u ≡ put at all t)
  unfolding flatten
  all_put l =
      let w = sym (append-nil l.done) ∙ l.whole in
      (l.place ∙ ap (λ k. at + length k) w, l.bytes ∙ ap (λ k. put at k t) w)

  module _ {b : List ℕ} {rest : List (List ℕ)} {r : ℕ} {u : List ℕ} (l : Left at t all (b ∷ rest) r u) where
    done_fits : at + length l.done + length b ≤ length t
    unfolding flatten
    done_fits =
        let n = length-append l.done (b ++ flatten rest) in
        omega (arith, l.room, ap length (sym l.whole), n, length-append b (flatten rest))

    pub piece_fits : r + length b ≤ length u
    piece_fits =
        let f = done_fits in
        omega (arith, l.place, ap length l.bytes, put_length at l.done t (omega (arith, f)))

    pub piece_put : {r' : ℕ} {u' : List ℕ} → (r' ≡ r + length b) × (u' ≡ put r b u) → Left at t all rest r' u'
    unfolding flatten
    piece_put e =
        let f = done_fits in
        record {
          room = l.room;
          done = l.done ++ b;
          whole = append_assoc l.done b (flatten rest) ∙ l.whole;
          place = omega (arith, e.0, l.place, length-append l.done b);
          bytes =
              e.1 ∙ ap₂ (λ n v. put n b v) l.place l.bytes
              ∙ put_put at l.done b t (omega (arith, f));
        }

pub step_long : (R : ℕ → List ℕ) (n : ℕ) → length (joined R (suc n)) ≡ length (joined R n) + length (R n)
unfolding joined
step_long R n = length-append (joined R n) (R n)

grows : (R : ℕ → List ℕ) (x w : ℕ) → x ≤ w → length (joined R x) ≤ length (joined R w)
grows R x zero h = let e : x ≡ 0 = omega arith in omega (arith, ap (λ n. length (joined R n)) e)
grows R x (suc w) h =
    ⊎_elim
    (λ e. omega (arith, ap (λ n. length (joined R n)) e))
    (λ l. omega (arith, grows R x w (le_of_suc-le-suc l), step_long R w))
    (eq-or-lt_of_le h)

-- ---- a loop that puts w lists R 0, R 1, .. one after another:
-- the next place r and the buffer u, where the first x are put
pub record Upto (R : ℕ → List ℕ) (at w : ℕ) (t : List ℕ) (x r : ℕ) (u : List ℕ) : Type 0 where
  pub room : at + length (joined R w) ≤ length t
  pub few : x ≤ w
  pub place : r ≡ at + length (joined R x)
  pub bytes : u ≡ put at (joined R x) t

module _ {R : ℕ → List ℕ} {at w : ℕ} {t : List ℕ} where
  pub upto_none : at + length (joined R w) ≤ length t → Upto R at w t 0 at t
  unfolding joined
  upto_none h = record { room = h; few = omega arith; place = sym (add-zero at); bytes = sym (put_none at t) }

  module _ {x r : ℕ} {u : List ℕ} (l : Upto R at w t x r u) where
    upto_fits : at + length (joined R x) ≤ length t
    upto_fits = omega (arith, l.room, grows R x w l.few)

    pub upto_long : length u ≡ length t
    upto_long = ap length l.bytes ∙ put_length at (joined R x) t upto_fits

    pub next_fits : x < w → r + length (R x) ≤ length u
    next_fits h = omega (arith, l.room, l.place, upto_long, grows R (suc x) w h, step_long R x)

    pub upto_more : x < w → {r' : ℕ} {u' : List ℕ} → (r' ≡ r + length (R x)) × (u' ≡ put r (R x) u)
        → Upto R at w t (x + 1) r' u'
    unfolding joined
    upto_more h e =
        record {
          room = l.room;
          few = omega arith;
          place = omega (arith, e.0, l.place, step_long R x, ap (λ n. length (joined R n)) (add-one x));
          bytes =
              e.1 ∙ ap₂ (λ n v. put n (R x) v) l.place l.bytes
              ∙ put_put at (joined R x) (R x) t upto_fits
              ∙ ap (λ n. put at (joined R n) t) (sym (add-one x));
        }

    pub upto_all : w ≤ x → (r ≡ at + length (joined R w)) × (u ≡ put at (joined R w) t)
    upto_all h =
        let e : x ≡ w = omega (arith, l.few) in
        (l.place ∙ ap (λ n. at + length (joined R n)) e, l.bytes ∙ ap (λ n. put at (joined R n) t) e)
