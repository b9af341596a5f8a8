-- The regions are shifted by a power of two, as the definition has it.
-- Both numbers have 32 bits, so that the sum does not wrap.
use mathlib.Core.Path.{refl}
use Rattle.hostnest.proofs.pack_nested.Goals as goal

pub returns : goal.returns
returns c = refl
