-- How a header's numbers are kept: a number too large for a picture is kept as one that is.
use Rattle.std.specs.Prelude.{ℕ, min, ◌≤◌, List, ◌≡◌, length, drop, Option, is_some, IfSome}
use Rattle.pnmheader.specs.declared.Scan.{Scan}
use Rattle.pnmheader.specs.declared.Found.{Found}
use Rattle.pnmheader.specs.Header.{Head}

abbrev pub too_large : ℕ
too_large = 10000

abbrev pub held : ℕ → ℕ
held n = min n too_large

unfoldable pub hold : Scan → Scan
hold s =
    record { part = s.part; comment = s.comment; w = held s.w; h = held s.h; most = held s.most }

-- what is given back of a header that is whole: its numbers as they are kept, and the place of its raster;
-- of any other nothing
pub record Says (f : List ℕ) (head : Head) (r : Option Found) : Type 0 where
  pub whole : is_some r ≡ head.whole
  pub w : IfSome r (λ found. found.w ≡ held head.w)
  pub h : IfSome r (λ found. found.h ≡ held head.h)
  pub most : IfSome r (λ found. found.most ≡ held head.most)
  pub inside : IfSome r (λ found. found.at ≤ length f)
  pub raster : IfSome r (λ found. drop found.at f ≡ head.raster)
