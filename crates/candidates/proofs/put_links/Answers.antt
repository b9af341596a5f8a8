use Prim.Native.Nat.{◌+◌, ◌-◌, ◌*◌}
use mathlib.Core.Path.{refl, ap, ◌∙◌}
use native.Mathlib.Omega.{arith}
use borrow.Author.Rules.{rules}
use borrow.Rule.Slice.PartMut.{same_len_mid}
use Rattle.basics.specs.Lists.{firsts}
use Rattle.basics.proofs.Lists.{part_length, length_firsts}
use Rattle.basics.proofs.Joined.{rows_none, rows_more, rows_all}
use Rattle.picture.proofs.Sizes.{row_room}
use Rattle.candidates.specs.Candidates.{link_byte}
use Rattle.candidates.proofs.put_links.Goals as goal

pub loop-i-init : goal.loop-i-init
loop-i-init c =
    let a = c.args in (
      search rules,
      search rules,
      rows_none (λ n. firsts (link_byte a.hull a.c n) a.m) a.m
          (λ n. length_firsts (link_byte a.hull a.c n) a.m) _,
    )

pub overflow_mul-at : goal.overflow_mul-at
overflow_mul-at c = omega (arith, row_room c.args.m c.loop-i-test.true)

pub overflow_add-end : goal.overflow_add-end
overflow_add-end c = omega (arith, row_room c.args.m c.loop-i-test.true)

pub slice_bounds-put_link-end : goal.slice_bounds-put_link-end
slice_bounds-put_link-end c = omega (arith, row_room c.args.m c.loop-i-test.true)

pub put_link-requires : goal.put_link-requires
put_link-requires c =
    let a = c.args in
    let r = row_room a.m c.loop-i-test.true in
    let e = part_length c.loop-i.t (c.loop-i.i * a.m) a.m
    (omega arith) in
    (search rules, (omega arith, omega (arith, e)))

pub loop-i-preserved : goal.loop-i-preserved
loop-i-preserved c =
    let a = c.args in
    let l = c.loop-i in
    let q = row_room a.m c.loop-i-test.true in
    let r = c.put_link in (
      search rules,
      same_len_mid (l.i * a.m) (l.i * a.m + a.m - l.i * a.m) l.t r.new.t r.auto.t
          ∙ l.invariant.1,
      rows_more (λ n. firsts (link_byte a.hull a.c n) a.m) a.m
          (λ n. length_firsts (link_byte a.hull a.c n) a.m)
          a.m l.i _ l.t r.new.t refl l.invariant.2
          (r.ensures
          ∙ ap (firsts (link_byte a.hull a.c l.i))
          (part_length l.t (l.i * a.m) a.m (omega arith))),
    )

pub shape_of-t : goal.shape_of-t
shape_of-t c = c.loop-i.invariant.1

pub returns : goal.returns
returns c =
    let a = c.args in
    rows_all (λ n. firsts (link_byte a.hull a.c n) a.m) a.m
    (λ n. length_firsts (link_byte a.hull a.c n) a.m)
    c.loop-i.i a.k _ _ c.loop-i.invariant.2 (omega arith)
