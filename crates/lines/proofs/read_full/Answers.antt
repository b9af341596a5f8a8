-- What one read has put after the bytes that stand there already is the next of the input.
-- The buffer's front stays as it was.
use Rattle.std.proofs.Common.{◌≡◌, ℕ, ◌+◌, ◌≤◌, List, ◌++◌, rules, length, take, drop}
use Rattle.std.proofs.Common.{sym, ap, ◌∙◌, subst, le_refl, drop_at, length-take-le}
use Rattle.std.specs.Io.KnownBytes.{Consumes}
use Rattle.std.proofs.KnownBytes.{Consumes-trans}
use Rattle.std.proofs.lemmas.Slice.{take-put_mid_below}
use borrow.Rule.Slice.PartMut.{put_mid, post_of}
use lib.Seq.{take-add, take-append-le}
use Rattle.lines.proofs.read_full.Goals as goal

grown : (at k n : ℕ) (b part : List ℕ) → at ≤ length b → n ≤ length part
    → take at b ++ take n part ≡ take (at + n) (put_mid at k b part)
grown at k n b part within fits =
    let after = post_of at k b in
    let next = ap (take n) (drop_at (take at b) (part ++ after) at (length-take-le at b within))
    ∙ take-append-le n part after fits in
    sym (take-add at n (put_mid at k b part)
    ∙ ap (λ l. l ++ take n (drop at (put_mid at k b part))) (take-put_mid_below _ _ _ _ _ (le_refl _) within)
    ∙ ap (λ l. take at b ++ l) next)

pub loop-done-preserved : goal.loop-done-preserved
loop-done-preserved g c =
    let b = c.loop-done.b in
    let read = c.in_ok-n.ensures in
    let more = grown c.loop-done.done _ c.in_ok-n.n b c.read.new.buf c.loop-done.invariant.1 read.bound.0 in (
      search rules,
      search rules,
      search rules,
      subst (Consumes _ _) more
          (Consumes-trans _ _ _ _ _ c.loop-done.invariant.3 read.bytes.0),
    )
