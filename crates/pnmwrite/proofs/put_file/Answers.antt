-- Stands on put_head, and on the copy of rows for the body, into what follows the head.
-- The picture is admitted with the head before it, so that both have room.
use Rattle.netpbm.proofs.Writing.{file_made}
use Rattle.judge.specs.declared.Padding.TheVariants.{Free}
use Rattle.judge.proofs.Admitted.{holds}
use Rattle.basics.proofs.Lists.{tail_is}
use lib.ListN.{length, length-drop}
use mathlib.Core.Path.{sym, ap}
use native.Mathlib.Nat.{le_of_eq}
use native.Mathlib.Omega.{arith}
use Rattle.pnmwrite.proofs.put_file.Goals as goal

pub copy_picture-requires : goal.copy_picture-requires
copy_picture-requires c =
    let a = c.args in
    let p = c.requires in
    let u = c.put_head-at.new.t in
    let n = c.put_head-at.result in record {
      holds = holds Free a.depth a.w a.h a.source.now _ p.sized (le_of_eq (sym p.whole));
      holds_2 = holds Free a.depth a.w a.h a.source.now _ p.sized
          (omega (
            arith,
            ap length (tail_is u n),
            length-drop n u,
            c.put_head-at.auto.t,
            c.put_head-at.ensures.value,
            p.roomy,
          ));
    }

pub returns : goal.returns
returns c =
    let a = c.args in
    file_made a.depth a.w a.h _ a.source.now a.target.now c.put_head-at.new.t _
    c.put_head-at.ensures.value c.put_head-at.ensures.t_after c.copy_picture.ensures
