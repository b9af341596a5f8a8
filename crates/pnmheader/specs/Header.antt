-- The header of a raw PBM or PGM file, as Netpbm's pages "pbm" and "pgm" have it. Its parts, in their order:
--   1 the magic number, the two letters P4 or P5
--   2 white space
--   3 the width, in decimal
--   4 white space
--   5 the height, in decimal
--   of PGM also 6 white space, and 7 the maximum, in decimal
--   last, part 6 of PBM and part 8 of PGM: a single white space, after which the raster begins.
-- Before that white space a comment, from # through the next line feed or
-- carriage return, is ignored wherever it stands, also in the middle of a number.
use Rattle.std.specs.Prelude.{ℕ, ◌+◌, ◌-◌, ◌*◌, ◌%◌, Bool, true, false, not, cond, ◌&&◌, ◌||◌, List, []}
use Rattle.std.specs.Prelude.{◌∷◌, leb, eqb, get_or, drop}
use Rattle.picture.specs.declared.Depth.{Depth}
use Rattle.picture.specs.declared.Depth.TheVariants.{OneBit, EightBit}
use Rattle.pnmheader.specs.declared.Scan.{Scan}

-- space, TAB, LF, VT, FF, CR
abbrev pub is_white : ℕ → Bool
is_white b = eqb b 0x20 || (leb 9 b && leb b 13)

abbrev pub is_digit : ℕ → Bool
is_digit b = leb 48 b && leb b 57

-- ---- comments
abbrev pub ends_line : ℕ → Bool
ends_line b = eqb b 10 || eqb b 13

-- a byte belongs to a comment where one is open before it, or where it is #
abbrev pub ignored : Bool → ℕ → Bool
ignored comment b = comment || eqb b 35

-- and the comment is open after it unless it ends a line
abbrev pub open_after : Bool → ℕ → Bool
open_after comment b = ignored comment b && not (ends_line b)

-- ---- the part that the header has come to: the magic and the numbers are odd, white space is even;
-- 0 is a header that is broken, and stays so
abbrev pub is_odd : ℕ → Bool
is_odd part = eqb (part % 2) 1

-- white space ends the magic or a number, or goes on
abbrev pub after_white : ℕ → ℕ
after_white part = cond (is_odd part) (part + 1) part

-- a digit ends white space, or goes on with a number; right after the magic there is none
abbrev pub after_digit : ℕ → ℕ
after_digit part = cond (leb part 1) 0 (cond (is_odd part) part (part + 1))

-- any other byte breaks the header
unfoldable pub part_after : Bool → ℕ → ℕ → ℕ
part_after comment part b =
    cond (ignored comment b) part
    (cond (is_white b) (after_white part) (cond (is_digit b) (after_digit part) 0))

-- a number takes a digit where the header has come to its own part
unfoldable pub number_after : Bool → ℕ → ℕ → ℕ → ℕ → ℕ
number_after comment part own b n =
    cond (ignored comment b) n (cond (eqb part own) (n * 10 + (b - 48)) n)

-- ---- the header, byte by byte
abbrev pub begun : Scan
begun = record { part = 1; comment = false; w = 0; h = 0; most = 0 }

unfoldable pub step : Scan → ℕ → Scan
step s b =
    let part = part_after s.comment s.part b in
    record {
      part = part;
      comment = open_after s.comment b;
      w = number_after s.comment part 3 b s.w;
      h = number_after s.comment part 5 b s.h;
      most = number_after s.comment part 7 b s.most;
    }

-- what a header says: its numbers, and the raster, which is all that follows;
-- not whole where it is broken or the file ends in it
pub record Head : Type 0 where
  pub whole : Bool
  pub w : ℕ
  pub h : ℕ
  pub most : ℕ
  pub raster : List ℕ

abbrev pub ended : Scan → List ℕ → Head
ended s rest = record { whole = true; w = s.w; h = s.h; most = s.most; raster = rest }

abbrev pub no_head : Head
no_head = record { whole = false; w = 0; h = 0; most = 0; raster = [] }

-- the bytes past the magic, up to the single white space
unfoldable pub scan : ℕ → Scan → List ℕ → Head
scan single s [] = no_head
scan single s (b ∷ rest) =
    cond (eqb (step s b).part single) (ended (step s b) rest) (scan single (step s b) rest)

-- ---- P4 or P5
abbrev pub magic_digit : Depth → ℕ
magic_digit OneBit = 52
magic_digit EightBit = 53

abbrev pub marked : Depth → List ℕ → Bool
marked depth f = eqb (get_or f 0 0) 80 && eqb (get_or f 1 0) (magic_digit depth)

abbrev pub single_part : Depth → ℕ
single_part OneBit = 6
single_part EightBit = 8

unfoldable pub header : Depth → List ℕ → Head
header depth f = cond (marked depth f) (scan (single_part depth) begun (drop 2 f)) no_head
