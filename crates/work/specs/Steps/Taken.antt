-- A file that nothing refuses, and what the work leaves of it.
use Rattle.std.specs.Prelude.{ℕ, ◌≤◌, true, List, ◌≡◌, length}
use Rattle.picture.specs.Bytes.{Picture, written}
use Rattle.element.specs.Shape.{Shape}
use Rattle.judge.specs.declared.Padding.TheVariants.{Judged}
use Rattle.judge.specs.Tests.{Admitted}
use Rattle.ech.specs.File.{depth_of, kind_of, reported_kind, pings_of, bins_of, body_of, formed}
use Rattle.ech.specs.ReadWrite.{picture_of}
use Rattle.text.specs.Text.{text_of}
use Rattle.work.specs.declared.Operation.{Operation}
use Rattle.work.specs.Work.{longest, operated, middle_in}
use Rattle.work.specs.Prints.{over}

-- there is room for its picture in each work buffer, and for the longest text of its size and kind
pub record Taken (f : List ℕ) (room n : ℕ) : Type 0 where
  pub is_formed : formed f ≡ true
  pub admitted : Admitted Judged (depth_of (kind_of f)) (pings_of f) (bins_of f) (body_of f) 0 room
  pub long : longest f ≤ n

-- the result by an element B and its text
abbrev pub result_by : Operation → Shape → List ℕ → Picture
result_by op B f = operated op (depth_of (kind_of f)) (pings_of f) (bins_of f) B (picture_of f)

unfoldable pub text_by : Operation → Shape → List ℕ → List ℕ
text_by op B f = text_of (depth_of (kind_of f)) (result_by op B f) (pings_of f) (bins_of f) (reported_kind f)

-- the buffers p, r, m and t before and p', r', m' and t' after, with k bytes of text
pub record Worked (op : Operation) (B : Shape) (f p r m t : List ℕ)
    (k : ℕ) (p' r' m' t' : List ℕ) : Type 0 where
  pub length_is : k ≡ length (text_by op B f)
  pub picture : p' ≡ written (depth_of (kind_of f)) (picture_of f) (pings_of f) (bins_of f) p
  pub result : r' ≡ written (depth_of (kind_of f)) (result_by op B f) (pings_of f) (bins_of f) r
  pub scratch : m' ≡ middle_in op (depth_of (kind_of f)) (pings_of f) (bins_of f) B (picture_of f) m
  pub text : t' ≡ over (text_by op B f) t
