use Rattle.pnmheader.proofs.Scans.{none_read, all_read, onward, stopped, found}
use native.Mathlib.Omega.{arith}
use borrow.Author.Rules.{rules}
use Rattle.pnmheader.proofs.scan_file.Goals as goal

pub loop-i-init : goal.loop-i-init
loop-i-init c = (search rules, none_read _ _ _ 2)

pub next-s-requires : goal.next-s-requires
next-s-requires c = omega (arith, c.loop-i.invariant.0, c.requires.1)

pub returns-then-s-single : goal.returns-then-s-single
returns-then-s-single c =
    let l = c.loop-i in
    let a = c.args in
    found a.f.now a.single _ l.s l.i l.invariant.1 (search rules) _ c.next-s.ensures.0 c.if-s-single.true

pub returns-then-s-eq0 : goal.returns-then-s-eq0
returns-then-s-eq0 c =
    let l = c.loop-i in
    let a = c.args in
    stopped a.f.now a.single _ l.s l.i l.invariant.1 (search rules) _ c.next-s.ensures.0
    c.if-s-single.false c.if-s-eq0.true (search rules)

pub loop-i-preserved : goal.loop-i-preserved
loop-i-preserved c =
    let l = c.loop-i in
    let a = c.args in (
      search rules,
      onward a.f.now a.single _ l.s l.i l.invariant.1 (search rules) _ c.next-s.ensures.0
          c.if-s-single.false,
    )

pub returns : goal.returns
returns c =
    let l = c.loop-i in
    all_read _ _ _ l.s l.i l.invariant.1 (search rules)
