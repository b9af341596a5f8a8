-- At most 16 places are a list of all cells: `places_of`. More are none of its business.
-- The picture takes the first bytes of the target: what lies past them stays.
use Rattle.few.proofs.Listed.{few_yes, few_no, when_few, when_many, places_of}
use lib.Seq.{length-take-le}
use Rattle.sourceparts.proofs.Bytes.{over_first}
use Prim.Native.Nat.{◌*◌}
use mathlib.Core.Path.{refl, sym}
use native.Mathlib.Omega.{arith}
use borrow.Author.Rules.{rules}
use Rattle.few.proofs.sweep.Goals as goal

pub list_cells-m-requires : goal.list_cells-m-requires
list_cells-m-requires c =
    let r = c.requires.ready in record {
      sized = record {
        few_pings = r.few_pings;
        few_wide = r.few_wide;
        few_high = r.few_high;
        words =
            r.words;
      };
      at_len = refl;
    }

pub returns-then-m-gt-FEW : goal.returns-then-m-gt-FEW
returns-then-m-gt-FEW c =
    let a = c.args in
    let n = few_no _ _ (omega arith) c.list_cells-m.ensures.number in
    record {
      few = sym n;
      bytes = when_many _ _ a.t.now n;
    }

pub slice_bounds-sweep_whole-end-2 : goal.slice_bounds-sweep_whole-end-2
slice_bounds-sweep_whole-end-2 c =
    sym (length-take-le (c.args.h * c.args.w) c.args.t.now c.requires.holds.long)

pub slice_bounds-sweep_whole-end-3 : goal.slice_bounds-sweep_whole-end-3
slice_bounds-sweep_whole-end-3 c =
    sym (length-take-le c.list_cells-m.result c.list_cells-m.new.at (search rules))

pub sweep_whole-requires : goal.sweep_whole-requires
sweep_whole-requires c =
    let a = c.args in record {
      ready = c.requires.ready;
      places = places_of a.grows a.w a.o a.words.now c.list_cells-m.result
          c.list_cells-m.new.at (omega arith) c.list_cells-m.ensures.list;
      t_len = length-take-le (a.h * a.w) a.t.now c.requires.holds.long;
    }

pub returns : goal.returns
returns c =
    let a = c.args in
    let n = few_yes _ _ (omega arith) c.list_cells-m.ensures.number in record {
      few = sym n;
      bytes = when_few _ _ _ a.t.now n (over_first _ a.w a.h a.t.now _ c.sweep_whole.ensures);
    }
