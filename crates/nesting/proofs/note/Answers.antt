-- Two stores side by side are the two numbers put.
-- Both numbers fit 32 bits.
use Rattle.nesting.proofs.Stores.{note_is}
use Rattle.nesting.proofs.note.Goals as goal

pub returns : goal.returns
returns c = note_is _ _ _ _
