-- A picture judged by itself, with the room for it: a file's body, or a picture to be written.
use Prim.Native.Nat.{ℕ}
use mathlib.Core.Path.{◌≡◌, ap, ◌∙◌}
use mathlib.Core.Bool.{true, cond}
use mathlib.Core.List.{List}
use native.Mathlib.Omega.{arith}
use borrow.Author.Tests.{eq-eqb, le-ltb}
use Rattle.answer.specs.declared.Told.{Told}
use Rattle.std.specs.Prelude.{Ok}
use Rattle.answer.specs.Answer.{told, plain, is_done}
use Rattle.answer.specs.Refuse.{refuse}
use Rattle.answer.specs.Lent.{if_done}
use Rattle.answer.proofs.Order.{Numbered}
use Rattle.answer.proofs.Lent.{all_done, in_parts}
use Rattle.picture.specs.declared.Depth.{Depth}
use Rattle.judge.specs.declared.Padding.{Padding}
use Rattle.judge.specs.declared.Padding.TheVariants.{Judged, Free}
use Rattle.judge.specs.Tests.{picture_tests, room_tests, body_tests, Admitted}
use Rattle.judge.proofs.Admitted.{admitted, picture_numbered}

module _ (padding : Padding) (depth : Depth) (w h : ℕ) (s : List ℕ) (before room : ℕ) where
  -- nothing stands between the picture and its room: the two lists are one
  waits : refuse (picture_tests padding depth w h s)
      (if_done (told (Ok (tt {0}))) (refuse (room_tests depth w h before room) (plain 0)))
      ≡ refuse (body_tests padding depth w h s before room) (plain 0)
  unfolding told
  waits =
      ap (λ b. refuse (picture_tests padding depth w h s)
      (cond b (refuse (room_tests depth w h before room) (plain 0)) (plain 0))) all_done
      ∙ in_parts (picture_tests padding depth w h s) (room_tests depth w h before room) (plain 0)

  pub body_judged : (a : Told)
      → a ≡ refuse (picture_tests padding depth w h s)
      (if_done (told (Ok (tt {0}))) (refuse (room_tests depth w h before room) (plain 0)))
      → a ≡ refuse (body_tests padding depth w h s before room) (plain 0)
  body_judged a e = e ∙ waits

  pub body_admitted : is_done (refuse (body_tests padding depth w h s before room) (plain 0)) ≡ true
      → Admitted padding depth w h s before room
  body_admitted e = (admitted padding depth w h s (told (Ok (tt {0}))) before room (ap is_done waits ∙ e)).0

  pub body_numbered : Numbered (body_tests padding depth w h s before room)
  body_numbered = picture_numbered padding depth w h s _ (omega arith, tt)

-- an admitted picture passes the tests
pub body_passes : (padding : Padding) (depth : Depth) (w h : ℕ) (s : List ℕ) (before room : ℕ)
    → Admitted padding depth w h s before room
    → is_done (refuse (body_tests padding depth w h s before room) (plain 0)) ≡ true
unfolding plain
body_passes Judged depth w h s before room p =
    simp (p.sized, eq-eqb _ _ p.whole, p.clear, le-ltb _ _ p.roomy)
body_passes Free depth w h s before room p = simp (p.sized, eq-eqb _ _ p.whole, le-ltb _ _ p.roomy)
