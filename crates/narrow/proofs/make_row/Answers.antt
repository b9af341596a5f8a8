use Prim.Native.Nat.{ℕ, ◌≤◌}
use borrow.Author.Rules.{rules}
use native.Mathlib.Omega.{arith}
use mathlib.Core.Path.{◌≡◌, ap, subst}
use lib.ListN.{length, get_or}
use Rattle.bitrow.specs.Steps.Added.{masked_of}
use Rattle.narrow.specs.Steps.Row.{turned_by}
use Rattle.narrow.proofs.Swept.{row_is}
use Rattle.narrow.proofs.Rows.{Found, found_none, found_more}
use Rattle.narrow.proofs.make_row.Goals as goal

pub loop-r-init : goal.loop-r-init
loop-r-init c =
    let a = c.args in (
      search rules,
      found_none a.k.grows (turned_by a.k.grows a.k.over) a.s.now a.w (length a.t.now) a.h
          a.y.0 a.o.origin.ping.0 a.o.origin.bin.0 (λ i. masked_of (get_or a.words.now i 0) a.o.w),
    )

pub loop-r-preserved : goal.loop-r-preserved
loop-r-preserved c =
    let e = c.same_end-e.ensures in
    let l = c.loop-r in
    let a = c.args in (
      e.few,
      found_more a.k.grows (turned_by a.k.grows a.k.over) a.s.now a.w _ a.h a.y.0
          a.o.origin.ping.0 a.o.origin.bin.0 (λ i. masked_of (get_or a.words.now i 0) a.o.w)
          l.r _ (masked_of (get_or a.words.now l.r 0) a.o.w) l.v _ e.some
          (λ i h k. ap (λ m. masked_of m a.o.w) (e.same i h k)) l.invariant.1 c.add_rows-v.ensures,
    )

pub returns : goal.returns
returns c =
    let a = c.args in
    let l = c.loop-r in
    row_is a.k a.s.now a.w (length a.t.now) a.h a.o a.words.now a.y.0 l.v _
    c.requires.ready.few_wide
    c.requires.ready.column c.requires.t_len.0
    (subst (λ m. Found a.k.grows (turned_by a.k.grows a.k.over) a.s.now a.w (length a.t.now) a.h a.y.0
    a.o.origin.ping.0 a.o.origin.bin.0 (λ i. masked_of (get_or a.words.now i 0) a.o.w) m l.v)
    (last l.r a.o.h l.invariant.0 c.loop-r-test.false) l.invariant.1)
    c.put.ensures
  where
    last : (i n : ℕ) → i ≤ n → n ≤ i → i ≡ n
    last i n h k = omega arith
