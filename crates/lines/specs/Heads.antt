-- A line begins with a letter and a space, and then has the depth, W, H and the number of links.
use Rattle.std.specs.Prelude.{ℕ, cond, List, eqb}
use Rattle.picture.specs.declared.Depth.{Depth}
use Rattle.picture.specs.declared.Depth.TheVariants.{OneBit, EightBit}
use Rattle.lines.specs.declared.Head.{Head}
use Rattle.numbers.specs.Numbers.{number_at}

abbrev pub depth_of : ℕ → Depth
depth_of bits = cond (eqb bits 1) OneBit EightBit

unfoldable pub head_of : ℕ → List ℕ → Head
head_of letter line =
    let d = number_at line 2 in
    let w = number_at line d.next in
    let h = number_at line w.next in
    let k = number_at line h.next in
    record {
      letter = letter;
      depth = depth_of d.value;
      w = w.value;
      h = h.value;
      links = k.value;
      next = k.next;
    }
