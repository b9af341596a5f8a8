-- The descriptor's own test stands between those of the picture and of the room.
-- So the answer is that of the whole list: `element_answer`.
use Rattle.judge.proofs.Admitted.{element_answer}
use Rattle.judge.specs.declared.Padding.TheVariants.{Free}
use Rattle.judge.proofs.element_refusal.Goals as goal

pub returns : goal.returns
returns c =
    let a = c.args in
    element_answer Free a.depth a.w a.h a.s.now a.made a.room _ _
    c.shape_answer-shape.ensures c.refusal.ensures
