-- What is asked of a picture and an element that was read; and what rows by a weighted element are.
use Prim.Native.Nat.{ℕ}
use mathlib.Core.Path.{◌≡◌}
use mathlib.Core.Bool.{Bool}
use mathlib.Core.List.{List}
use Rattle.picture.specs.declared.Depth.{Depth}
use Rattle.picture.specs.declared.Depth.TheVariants.{EightBit}
use Rattle.picture.specs.Frame.{Holds}
use Rattle.picture.specs.Points.{value_at}
use Rattle.picture.specs.Bytes.{written}
use Rattle.element.specs.declared.Outline.{Outline}
use Rattle.rows.specs.Steps.Ready.{Ready}
use Rattle.byterow.specs.Steps.Row.{swept_bytes}
use Rattle.apply.specs.Steps.Applied.{Fitting, weighted_by}

pub ready : (depth : Depth) (ns nw w h : ℕ) (o : Outline) → Holds depth ns w h → Fitting o nw
    → Ready depth ns nw w h o
ready depth ns nw w h o p f =
    record {
      some_pings = p.some_pings;
      few_pings = p.few_pings;
      few_bins = p.few_bins;
      source = p.long;
      few_wide = f.few_wide;
      few_high = f.few_high;
      column = f.column;
      row = f.row;
      words = f.words;
    }

-- ---- a weighted element, given by its outline, row words and heights
module _ (w h : ℕ) (o : Outline) (words s t u : List ℕ) (grows : Bool) where
  pub weighted_bytes : (hs : List ℕ) → u ≡ written EightBit (swept_bytes grows s w h o words hs) w h t
      → u ≡ written EightBit (weighted_by grows w h o words hs (value_at EightBit s w)) w h t
  unfolding swept_bytes
  weighted_bytes hs eu = eu
