-- What is printed, and what is left in each lent buffer, by the answer a: no refusal changes a work buffer.
use Rattle.std.specs.Prelude.{ℕ, cond, ◌||◌, List, [], ◌++◌, ◌≡◌, ltb, eqb, length, drop}
use Rattle.answer.specs.declared.Told.{Told}
use Rattle.answer.specs.Answer.{told, is_done}
use Rattle.answer.specs.Lent.{unless_refused}
use Rattle.picture.specs.Bytes.{written}
use Rattle.element.specs.Descriptor.{shape_in}
use Rattle.ech.specs.File.{depth_of, kind_of, pings_of, bins_of}
use Rattle.ech.specs.ReadWrite.{picture_of}
use Rattle.text.specs.Text.{refused_line}
use Rattle.work.specs.declared.Operation.{Operation}
use Rattle.work.specs.declared.Outcome.{Outcome}
use Rattle.work.specs.Work.{result_of, middle_in, text_in}

-- the longest line of a refusal: refused 10
abbrev pub most_refused : ℕ
most_refused = 11

-- a refusal prints its line; ROOM prints nothing,
-- and so does any other where the text of n bytes has no room for the longest line
unfoldable pub refusal_of : Told → ℕ → List ℕ
refusal_of a n = cond (eqb a.number 8 || ltb n most_refused) [] (refused_line a.number)

-- what is printed, with a text of n bytes
unfoldable pub printed : Told → Operation → List ℕ → List ℕ → ℕ → List ℕ
printed a op d f n = cond (is_done a) (text_in op d f) (refusal_of a n)

-- the bytes t with l before all: its further bytes stay
abbrev pub over : List ℕ → List ℕ → List ℕ
over l t = l ++ drop (length l) t

-- the work buffers: the file's picture, the result, the middle picture
unfoldable pub picture_after : Told → List ℕ → List ℕ → List ℕ
picture_after a f p =
    unless_refused a p (written (depth_of (kind_of f)) (picture_of f) (pings_of f) (bins_of f) p)

unfoldable pub result_after : Told → Operation → List ℕ → List ℕ → List ℕ → List ℕ
result_after a op d f r =
    unless_refused a r (written (depth_of (kind_of f)) (result_of op d f) (pings_of f) (bins_of f) r)

unfoldable pub scratch_after : Told → Operation → List ℕ → List ℕ → List ℕ → List ℕ
scratch_after a op d f m =
    unless_refused a m (middle_in op (depth_of (kind_of f)) (pings_of f) (bins_of f) (shape_in d)
    (picture_of f) m)

-- all of it: the answer a to the operation op,
-- the element d and the file f, with p, r, m and t before and p', r', m' and t' after
pub record Carried (a : Told) (op : Operation) (d f p r m t : List ℕ)
    (back : Outcome) (p' r' m' t' : List ℕ) : Type 0 where
  pub answer : told back.answer ≡ a
  pub length_is : back.printed ≡ length (printed a op d f (length t))
  pub picture : p' ≡ picture_after a f p
  pub result : r' ≡ result_after a op d f r
  pub scratch : m' ≡ scratch_after a op d f m
  pub text : t' ≡ over (printed a op d f (length t)) t
