-- Stands on the magic, then on scan_file with the part that is the single white space.
-- A file of another magic has no header.
use Rattle.pnmheader.specs.Header.{marked}
use Rattle.pnmheader.proofs.Marks.{single_some, marked_is, header_marked, header_other}
use Rattle.std.specs.List.{starts_with}
use lib.Dec.{eqb}
use mathlib.Core.List.{[], ◌∷◌}
use mathlib.Core.Path.{◌≡◌, sym, ap, ◌∙◌}
use native.Mathlib.Omega.{arith}
use Rattle.pnmheader.proofs.read_header.Goals as goal
use Rattle.pnmheader.proofs.read_header.Goals.{After-starts_with}

-- what the code finds of the magic
found : (c : After-starts_with) → c.starts_with.result ≡ marked c.args.depth c.args.f.now
found c =
    c.starts_with.ensures.value
    ∙ ap (λ m. starts_with eqb c.args.f.now (80 ∷ m ∷ [])) c.magic_digit.ensures
    ∙ marked_is c.args.depth c.args.f.now

pub scan_file-requires : goal.scan_file-requires
scan_file-requires c =
    let a = c.args in
    let p = single_some a.depth in
    (omega (arith, c.single_part.ensures, p.0), omega (arith, c.single_part.ensures, p.1))

pub returns-then-not-starts_with : goal.returns-then-not-starts_with
returns-then-not-starts_with c =
    header_other _ _
    (sym (found (goal.at.returns-then-not-starts_with c).After-starts_with) ∙ c.if-not-starts_with.true)

pub returns : goal.returns
returns c =
    header_marked _ _ _
    (sym (found (goal.at.returns c).After-starts_with) ∙ c.if-not-starts_with.false) _
    c.single_part.ensures c.scan_file.ensures
