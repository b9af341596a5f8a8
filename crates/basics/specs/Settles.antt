-- That a contract settles its outcome, said of the contract itself, as the prover reads it:
-- of any two outcomes that it allows of one call, the answers are the same.
use Rattle.std.specs.Prelude.{ℕ, ◌≡◌, List}
use borrow.Fn.Kinds.{ParamKind, ResultKind, Out, Dens, res_t, ended_of}
use denote.Triple.Clauses.{AtExit}
use contract.Lifetimes.{Lfts}

abbrev pub Settles : (n : ℕ) (ps : List (ParamKind n)) (r : ResultKind n) → Out n ps r → Type 0
Settles n ps r Allowed =
    (κs : Lfts n) (a : Dens κs ps) (x y : (res_t r κs).Denot) (s t : AtExit (ended_of n ps r) κs)
    → Allowed κs a x s → Allowed κs a y t → x ≡ y

-- and of a buffer that is lent to be written: its bytes at exit are the same
abbrev pub SettlesBytes : (n : ℕ) (ps : List (ParamKind n)) (r : ResultKind n) → Out n ps r
    → ((κs : Lfts n) → AtExit (ended_of n ps r) κs → List ℕ) → Type 0
SettlesBytes n ps r Allowed buffer =
    (κs : Lfts n) (a : Dens κs ps) (x y : (res_t r κs).Denot) (s t : AtExit (ended_of n ps r) κs)
    → Allowed κs a x s → Allowed κs a y t → buffer κs s ≡ buffer κs t
