-- An element's record has an offset: the tests in order, each of which settles the definition's own.
use Prim.Native.Nat.{ℕ, ◌+◌, ◌-◌, ◌≤◌, ◌<◌}
use mathlib.Core.Path.{◌≡◌, refl, sym}
use mathlib.Core.Bool.{Bool, true, false, ◌&&◌, and-false}
use mathlib.Core.List.{List}
use borrow.Author.Tests.{le-leb, lt-leb, lt-ltb, le-ltb}
use lib.ListN.{get_or}
use Rattle.answer.specs.Answer.{centre}
use Rattle.element.specs.declared.Outline.{Outline}
use Rattle.element.specs.Record.{cell_on, shape_of, shape_by}
use Rattle.morphology.specs.Check.{step_test, has_test}
use Rattle.reach.specs.declared.Offset.{Offset}
use Rattle.reach.specs.Steps.Links.{place_of}

module _ (o : Outline) (rows : List ℕ) (e : Offset) where
  pub off_left : e.x + o.origin.ping.0 < centre → false ≡ has_test (shape_by o rows) (place_of e)
  unfolding has_test step_test shape_of
  off_left l = simp (lt-leb centre (e.x + o.origin.ping.0) l, and-false)

  pub off_top : centre ≤ e.x + o.origin.ping.0 → e.y + o.origin.bin.0 < centre
      → false ≡ has_test (shape_by o rows) (place_of e)
  unfolding has_test step_test shape_of
  off_top l t = simp (lt-leb centre (e.y + o.origin.bin.0) t, and-false)

  pub off_right : o.w ≤ e.x + o.origin.ping.0 - centre → false ≡ has_test (shape_by o rows) (place_of e)
  unfolding has_test step_test shape_of
  off_right l = simp (le-ltb (e.x + o.origin.ping.0 - centre) o.w l, and-false)

  pub off_bottom : o.h ≤ e.y + o.origin.bin.0 - centre → false ≡ has_test (shape_by o rows) (place_of e)
  unfolding has_test step_test shape_of
  off_bottom l = simp (le-ltb (e.y + o.origin.bin.0 - centre) o.h l, and-false)

  pub cell_there : centre ≤ e.x + o.origin.ping.0 → centre ≤ e.y + o.origin.bin.0
      → e.x + o.origin.ping.0 - centre < o.w → e.y + o.origin.bin.0 - centre < o.h
      → cell_on (get_or rows (e.y + o.origin.bin.0 - centre) 0) (e.x + o.origin.ping.0 - centre)
      ≡ has_test (shape_by o rows) (place_of e)
  unfolding has_test step_test shape_of
  cell_there l t r d =
      simp (
        le-leb centre (e.x + o.origin.ping.0) l,
        le-leb centre (e.y + o.origin.bin.0) t,
        lt-ltb (e.x + o.origin.ping.0 - centre) o.w r,
        lt-ltb (e.y + o.origin.bin.0 - centre) o.h d,
      )
      (sym (with_true _))
    where
      with_true : (b : Bool) → (b && true) ≡ b
      with_true true = refl
      with_true false = refl
