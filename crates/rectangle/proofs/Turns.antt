-- What the work on pairs of rows asks for, of what is asked for of a picture and of the room of a padded row.
use Prim.Native.Nat.{ℕ, ◌≤◌}
use mathlib.Core.Path.{◌≡◌, sym, subst}
use mathlib.Core.Bool.{Bool}
use Rattle.picture.specs.Frame.{Holds, picture_bytes}
use Rattle.element.specs.declared.Outline.{Outline}
use Rattle.rows.specs.Steps.Ready.{Ready}
use Rattle.joins.specs.Steps.Joins.{depth_if}
use Rattle.boxrow.specs.Steps.Along.{room_of}
use Rattle.boxpair.specs.Steps.Fit.{BoxFit}

pub fit_in : (packed : Bool) (ns nt mt nb w h : ℕ) (o : Outline) → Ready (depth_if packed) ns o.h w h o
    → Holds (depth_if packed) nt w h → mt ≡ nt → nb ≡ room_of packed → BoxFit packed ns mt nb w h o
fit_in packed ns nt mt nb w h o ready holds et eb =
    record {
      some_pings = ready.some_pings;
      few_pings = ready.few_pings;
      few_bins = ready.few_bins;
      source = ready.source;
      target = subst (λ n. picture_bytes (depth_if packed) w h ≤ n) (sym et) holds.long;
      room = eb;
      few_wide = ready.few_wide;
      few_high = ready.few_high;
      column = ready.column;
      row = ready.row;
    }
