-- By the depth, from windows at four places: side by side, the last at the end of the run.
-- The places lie within an element's reach, since its origin is one of its cells.
use Rattle.boxrow.proofs.Widths.{before_lt, size_facts}
use Rattle.boxrow.proofs.Places.{places_at_lem, along_as, left_as}
use mathlib.Core.Bool.{true, false}
use native.Mathlib.Omega.{arith}
use Rattle.boxrow.proofs.along.Goals as goal

pub overflow_sub-far : goal.overflow_sub-far
overflow_sub-far c =
    let f = size_facts c.args.wide (omega (arith, c.requires.origin_in)) c.requires.few_wide in
    omega (arith, c.size-m.ensures, f.1.0)

pub overflow_sub-p : goal.overflow_sub-p
overflow_sub-p c =
    let f = before_lt c.args.grows c.args.o c.args.wide c.requires.origin_in in
    omega (arith, c.before-p.ensures, f, c.requires.few_wide)

pub overflow_add-m : goal.overflow_add-m
overflow_add-m c =
    let f = size_facts c.args.wide (omega (arith, c.requires.origin_in)) c.requires.few_wide in
    omega (arith, c.size-m.ensures, f.1.0, c.requires.few_wide)

pub along_bits-requires : goal.along_bits-requires
along_bits-requires c =
    let a = c.args in
    places_at_lem a.packed a.grows a.w a.o a.wide _ _ _ _ c.size-m.ensures c.before-p.ensures
    c.lesser.ensures c.lesser-2.ensures true
    c.if-packed.true _ _ c.requires

pub returns-then-packed : goal.returns-then-packed
returns-then-packed c =
    let a = c.args in
    let m = c.size-m.ensures in
    let f = c.before-p.ensures in
    let n = c.lesser.ensures in
    let l = c.lesser-2.ensures in
    let q = c.if-packed.true in
    record {
      row = along_as a.packed a.grows a.w a.o a.wide _ _ _ _ m f n l true q a.b.now _
          c.along_bits.ensures.row;
      known = c.along_bits.ensures.known;
      left = left_as a.packed a.grows a.w a.o a.wide _ _ _ _ m f n l true q a.b.now _
          c.along_bits.ensures.left;
    }

pub along_bytes-requires : goal.along_bytes-requires
along_bytes-requires c =
    let a = c.args in
    places_at_lem a.packed a.grows a.w a.o a.wide _ _ _ _ c.size-m.ensures c.before-p.ensures
    c.lesser.ensures c.lesser-2.ensures
    false c.if-packed.false _ _ c.requires

pub returns : goal.returns
returns c =
    let a = c.args in
    let m = c.size-m.ensures in
    let f = c.before-p.ensures in
    let n = c.lesser.ensures in
    let l = c.lesser-2.ensures in
    let q = c.if-packed.false in
    record {
      row = along_as a.packed a.grows a.w a.o a.wide _ _ _ _ m f n l false q a.b.now _
          c.along_bytes.ensures.row;
      known = c.along_bytes.ensures.known;
      left = left_as a.packed a.grows a.w a.o a.wide _ _ _ _ m f n l false q a.b.now _
          c.along_bytes.ensures.left;
    }
