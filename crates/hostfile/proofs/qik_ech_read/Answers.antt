-- Stands on ech::read_ech: what it gives back is small, so that it can be packed; a refusal gives 0 for each.
-- The packed number is then the definition's, part by part; the target is that call's own.
use mathlib.Core.Path.{◌∙◌}
use Rattle.hostfile.proofs.ReadPacked.{read_packable, read_packed, refused_packed}
use Rattle.hostfile.proofs.qik_ech_read.Goals as goal

pub pack_read-requires : goal.pack_read-requires
pack_read-requires c = read_packable _ c.args.target.now _ c.in-Ok.ensures.given_back

pub returns-in-Ok : goal.returns-in-Ok
returns-in-Ok c =
    record {
      number = c.pack_read.ensures ∙ read_packed _ c.args.target.now _ c.in-Ok.ensures.given_back;
      bytes = c.read_ech.ensures.target_after;
    }

pub returns-in-Err : goal.returns-in-Err
returns-in-Err c =
    record {
      number = c.pack_read-in-Err.ensures
          ∙ refused_packed _ c.args.target.now _ c.in-Err.ensures.given_back.answer _ c.pack.ensures;
      bytes = c.read_ech.ensures.target_after;
    }
