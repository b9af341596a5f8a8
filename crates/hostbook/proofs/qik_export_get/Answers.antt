-- It passes on what `get` returns, for the export.
-- That is what is promised here.
use Rattle.hostbook.proofs.qik_export_get.Goals as goal

pub returns : goal.returns
returns c = c.get.ensures
