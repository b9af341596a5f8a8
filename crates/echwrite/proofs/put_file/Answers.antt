-- Stands on the kit's copy for the head and on the copy of rows for the body, into what follows the head.
-- The picture is admitted with ten bytes before it, so that both have room.
use Rattle.ech.proofs.Writing.{known_few, head_copied, file_made}
use Rattle.judge.specs.declared.Padding.TheVariants.{Free}
use Rattle.judge.proofs.Admitted.{holds}
use Rattle.picture.specs.declared.Depth.{Depth}
use Rattle.picture.specs.Frame.{Holds}
use Rattle.picture.proofs.Sizes.{sized_tells}
use Rattle.basics.proofs.Lists.{tail_is}
use lib.ListN.{length, take, drop, length-drop}
use Prim.Native.Nat.{◌-◌}
use mathlib.Core.Path.{sym, ap, subst}
use native.Mathlib.Nat.{le_of_eq}
use native.Mathlib.Omega.{arith}
use Rattle.echwrite.proofs.put_file.Goals as goal

pub head_of-head-requires : goal.head_of-head-requires
head_of-head-requires c =
    let t = sized_tells c.args.w c.args.h c.requires.admitted.sized in
    (known_few c.args.kind c.requires.kind_value, (t.few_pings, t.few_bins))

pub copy_picture-requires : goal.copy_picture-requires
copy_picture-requires c =
    let a = c.args in
    let p = c.requires.admitted in
    let u = c.copy.new.t in
    let p = subst
    (λ (d : Depth). Holds d (length a.source.now) a.w a.h
    × Holds d (length (take (length u - 10) (drop 10 u))) a.w a.h)
    (sym c.depth_of-depth.ensures) (
      holds Free _ a.w a.h a.source.now _ p.sized (le_of_eq (sym p.whole)),
      holds Free _ a.w a.h a.source.now _ p.sized
          (omega (
            arith,
            ap length (tail_is u 10),
            length-drop 10 u,
            c.copy.auto.t,
            p.roomy,
          )),
    ) in
    record { holds = p.0; holds_2 = p.1 }

pub returns : goal.returns
returns c =
    let a = c.args in
    file_made a.kind a.w a.h _ c.depth_of-depth.ensures a.source.now
    a.target.now c.copy.new.t _
    (head_copied a.kind a.w a.h _ a.target.now _ c.head_of-head.ensures
    c.copy.ensures.bytes)
    c.copy_picture.ensures
