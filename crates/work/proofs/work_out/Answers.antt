-- Stands on read_ech, operate and put_text: the file was judged, so that each has what it asks for.
-- Where the picture's bytes are counted all of it is known (`lent`): the rest are laws of it.
use Rattle.work.proofs.Works.{read_value, Lent, part_fits, source_held, result_held}
use Rattle.work.proofs.Works.{scratch_held, text_taken, worked_out}
use Rattle.element.specs.Record.{shape_by}
use lib.ListN.{length}
use lib.Seq.{length-take-le}
use Prim.Native.Nat.{◌≤◌}
use mathlib.Core.Path.{sym, subst}
use Rattle.std.specs.Prelude.{Result}
use Rattle.answer.specs.declared.Refusal.{Refusal}
use Rattle.ech.specs.declared.Header.{Header}
use Rattle.ech.specs.File.{reported_kind, pings_of, bins_of}
use Rattle.ech.specs.ReadWrite.{GivenBack, read_answer}
use native.Mathlib.Omega.{arith}
use Rattle.work.proofs.work_out.Goals as goal
use Rattle.work.proofs.work_out.Goals.{After-picture_bytes-n}

pub unwrap-kind-requires : goal.unwrap-kind-requires
unwrap-kind-requires c =
    read_value _ _ _ c.args.source.now (omega arith) c.requires.taken _ c.read_ech.ensures.given_back.answer

lent : (c : After-picture_bytes-n) → let a = c.args in
    Lent a.file.now a.source.now a.res.now a.scratch.now
    a.text.now c.unwrap-kind.result
    c.depth_of-depth.result
    c.read_ech.new.target c.picture_bytes-n.result
lent c = record {
  bytes = λ i. omega (
    arith,
    c.type_inv.file i,
  );
  taken = c.requires.taken;
  given =
      subst (λ (r : Result Header Refusal). let f = c.args.file.now in
      GivenBack (read_answer f (length c.args.source.now)) (reported_kind f) (pings_of f) (bins_of f) r)
      c.unwrap-kind.ensures c.read_ech.ensures.given_back;
  deep = c.depth_of-depth.ensures;
  read = c.read_ech.ensures.target_after;
  size = c.picture_bytes-n.ensures;
}

part : (c : After-picture_bytes-n)
    → c.picture_bytes-n.result ≤ length c.read_ech.new.target
part c = part_fits (lent c) c.read_ech.auto.target

pub slice_bounds-operate-end-2 : goal.slice_bounds-operate-end-2
slice_bounds-operate-end-2 c =
    sym (length-take-le _ _ (part (goal.at.slice_bounds-operate-end-2 c).After-picture_bytes-n))

pub operate-requires : goal.operate-requires
operate-requires c =
    record {
      holds = source_held (lent (goal.at.operate-requires c).After-picture_bytes-n);
      holds_2 = result_held (lent (goal.at.operate-requires c).After-picture_bytes-n);
      holds_3 = scratch_held (lent (goal.at.operate-requires c).After-picture_bytes-n);
      fitting = c.requires.fitting;
    }

pub put_text-requires : goal.put_text-requires
put_text-requires c =
    let a = c.args in
    let p = text_taken (lent (goal.at.put_text-requires c).After-picture_bytes-n) (shape_by a.o a.words.now)
    a.op _ _ (c.operate.ensures.res_after, c.operate.ensures.scratch_after)
    c.operate.auto.res in
    record { holds = p.0; kind_in_bounds = p.1 }

pub returns : goal.returns
returns c =
    let a = c.args in
    worked_out (lent (goal.at.returns c).After-picture_bytes-n) (shape_by a.o a.words.now)
    a.op _ _ (c.operate.ensures.res_after, c.operate.ensures.scratch_after) _ _
    (c.put_text.ensures.value, c.put_text.ensures.t_after)
