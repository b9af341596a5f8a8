-- Stands on book::find: what is found is small, so that it can be packed; what is refused is its own number.
-- The packed number is then the definition's, part by part.
use mathlib.Core.Path.{◌∙◌}
use Rattle.answer.specs.Answer.{told}
use Rattle.hostbook.proofs.GetPacked.{get_packable, found_packed, refused_packed}
use Rattle.hostbook.proofs.get.Goals as goal

pub pack_found-requires : goal.pack_found-requires
pack_found-requires c = get_packable _ _ _ _ c.find.ensures _ c.in-Ok.is

pub returns-in-Ok : goal.returns-in-Ok
returns-in-Ok c = c.pack_found.ensures ∙ found_packed _ _ _ _ c.find.ensures _ c.in-Ok.is

pub returns-in-Err : goal.returns-in-Err
unfolding told
returns-in-Err c = c.from.ensures ∙ refused_packed _ _ _ _ c.find.ensures _ c.in-Err.is _ c.pack.ensures
