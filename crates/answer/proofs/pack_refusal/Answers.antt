-- Three bytes side by side: the number, dx and dy, each from the function that knows it.
-- Each is below 256, so that no sum wraps.
use Rattle.answer.specs.declared.Told.{Told}
use Rattle.answer.specs.Answer.{told_refusal}
use Rattle.answer.specs.Packed.{mod_byte, packed}
use Prim.Native.Nat.{ℕ, ◌+◌, ◌*◌, ◌^◌}
use mathlib.Core.Path.{◌≡◌, ap, ◌∙◌}
use Rattle.answer.proofs.pack_refusal.Goals as goal

packed_is : (n x y : ℕ) (t : Told) → n ≡ t.number → x ≡ mod_byte t.dx → y ≡ mod_byte t.dy
    → n + x * 2 ^ 8 + y * 2 ^ 16 ≡ packed t
unfolding packed
packed_is n x y t en ex ey = cc

pub returns : goal.returns
returns c =
    let o = c.offset_of-at.ensures in
    packed_is _ _ _ (told_refusal c.args.r) c.number_of.ensures.0
    (c.mod_byte-x.ensures.0 ∙ ap mod_byte o.0)
    (c.mod_byte-y.ensures.0 ∙ ap mod_byte o.1)
