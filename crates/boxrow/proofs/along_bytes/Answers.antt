-- Stands on the windows in place and on what stands at four places of them.
-- Together they are the row: `bytes_row`.
use Rattle.boxrow.proofs.Runs.{bytes_row, bytes_left_lem}
use borrow.Author.Rules.{rules}
use Rattle.boxrow.proofs.along_bytes.Goals as goal

pub returns : goal.returns
returns c =
    let a = c.args in record {
      row = bytes_row a.grows a.w a.m a.p a.q a.r a.s _ a.b.now _ _ c.requires.target
          c.windows.ensures
          c.lay.ensures;
      known = search rules;
      left = bytes_left_lem a.grows a.w a.m a.p a.q a.r a.s a.b.now _
          c.windows.ensures;
    }
