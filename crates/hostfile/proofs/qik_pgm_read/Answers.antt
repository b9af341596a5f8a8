-- Stands on netpbm::read_pgm: what it gives back is small, so that it can be packed; a refusal gives 0s.
-- The packed number is then the definition's, part by part; the target is that call's own.
use mathlib.Core.Path.{◌∙◌}
use Rattle.picture.specs.declared.Depth.TheVariants.{EightBit}
use Rattle.hostfile.proofs.PnmPacked.{pnm_packable, pnm_packed, pnm_refused_packed}
use Rattle.hostfile.proofs.qik_pgm_read.Goals as goal

pub pack_read-requires : goal.pack_read-requires
pack_read-requires c = pnm_packable EightBit _ c.args.target.now _ c.in-Ok.ensures.given_back

pub returns-in-Ok : goal.returns-in-Ok
returns-in-Ok c =
    record {
      number = c.pack_read.ensures ∙ pnm_packed EightBit _ c.args.target.now _ c.in-Ok.ensures.given_back;
      bytes = c.read_pgm.ensures.target_after;
    }

pub returns-in-Err : goal.returns-in-Err
returns-in-Err c =
    record {
      number = c.pack_read-in-Err.ensures
          ∙ pnm_refused_packed EightBit _ c.args.target.now _ c.in-Err.ensures.given_back.answer _
          c.pack.ensures;
      bytes = c.read_pgm.ensures.target_after;
    }
