-- A path is a sum on the board whose every step lay between 0 and the offset:
-- what such a board holds is what the definition's test says (path-told).
use Rattle.reach.proofs.Meaning.{between_in, board_small, path_told}
use Rattle.paths.proofs.path.Goals as goal

pub reach-b-requires : goal.reach-b-requires
reach-b-requires c =
    record {
      linked = c.requires.linked;
      in_bytes = between_in _ _ c.between-m.ensures c.requires.one_byte;
    }

pub holds-requires : goal.holds-requires
holds-requires c =
    record {
      small = board_small c.args.links c.args.k c.requires.linked _ c.reach-b.result c.reach-b.ensures;
      one_byte = c.requires.one_byte;
    }

pub returns : goal.returns
returns c =
    path_told c.args.links c.args.k c.requires.linked _ c.reach-b.result c.args.at c.holds.result
    c.between-m.ensures c.reach-b.ensures c.holds.ensures
