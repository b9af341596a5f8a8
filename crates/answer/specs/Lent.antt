-- What a lent buffer holds after a call that may be refused: no refusal changes a lent byte.
use Rattle.std.specs.Prelude.{cond, List, ℕ}
use Rattle.answer.specs.declared.Told.{Told}
use Rattle.answer.specs.Answer.{is_done}

-- the bytes as they were where the call is refused, and else what was made of them
unfoldable pub unless_refused : Told → List ℕ → List ℕ → List ℕ
unless_refused answer was made = cond (is_done answer) made was

-- an answer that waits on another: it counts where that one is done
abbrev pub if_done : Told → Told → Told
if_done first after = cond (is_done first) after first
