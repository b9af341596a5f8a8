-- Whole blocks, and one more that ends with the last byte: `last_over`.
-- What that one writes twice is the same both times.
use native.Mathlib.Omega.{arith}
use Rattle.gathers.specs.Steps.Gathered.{at_all}
use Rattle.gathers.proofs.Gathered.{last_over}
use Rattle.gathers.proofs.lay.Goals as goal

pub lay_blocks-requires : goal.lay_blocks-requires
lay_blocks-requires c =
    record {
      at_nonzero = (
        c.requires.at_nonzero.0,
        omega (
          arith,
          c.requires.at_nonzero.1.1,
        ),
      );
      reached = λ j h. omega (arith, c.requires.reached j h);
    }

pub block-c-requires : goal.block-c-requires
block-c-requires c =
    record {
      at_nonzero = c.requires.at_nonzero.0;
      reached = λ j h. omega (arith, c.requires.reached j h, c.requires.at_nonzero.1.0);
    }

pub returns : goal.returns
returns c =
    let a = c.args in
    last_over (at_all a.grows a.s.now a.at.now) a.from a.t.now _ _ c.put_block.new.t
    a.n c.requires.at_nonzero.1.0 c.requires.at_nonzero.1.1 c.lay_blocks.ensures c.block-c.ensures
    c.put_block.ensures
