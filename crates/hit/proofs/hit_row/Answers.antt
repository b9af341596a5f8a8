-- Two rows of `bitrow`, the miss row of the picture turned over: a bit is in the result where both have it.
-- The miss row is the front of an array for the longest packed row, as long as the hit row.
use Rattle.hit.proofs.Hit.{hit_row_lem, front_length, front_back, front_back_length, front_in}
use Rattle.picture.specs.declared.Depth.TheVariants.{OneBit}
use Rattle.picture.specs.Frame.{row_bytes}
use lib.ListN.{length}
use mathlib.Core.Path.{◌≡◌, sym, ◌∙◌}
use Rattle.hit.proofs.hit_row.Goals as goal
use Rattle.hit.proofs.hit_row.Goals.{After-any_row}

long : (c : After-any_row) → length c.any_row.new.t ≡ row_bytes OneBit c.args.w
long c = c.any_row.auto.t ∙ c.requires.t_len.0

pub slice_bounds-any_row-end : goal.slice_bounds-any_row-end
slice_bounds-any_row-end c =
    sym (front_length _ c.args.w c.requires.ready.few_pings
    (long (goal.at.slice_bounds-any_row-end c).After-any_row))

pub any_row-requires-2 : goal.any_row-requires-2
any_row-requires-2 c =
    record {
      ready = c.requires.ready_2;
      t_len = (
        front_length _ c.args.w c.requires.ready.few_pings
            (long (goal.at.any_row-requires-2 c).After-any_row)
            ∙ long (goal.at.any_row-requires-2 c).After-any_row,
        c.requires.t_len.1,
      );
    }

pub slice_bounds-row-end-2 : goal.slice_bounds-row-end-2
slice_bounds-row-end-2 c =
    let r = c.any_row-2 in
    front_in _ c.args.w c.requires.ready.few_pings (long (goal.at.slice_bounds-row-end-2 c).After-any_row)
    r.new.t r.auto.t

pub slice_bounds-meet-end : goal.slice_bounds-meet-end
slice_bounds-meet-end c =
    let r = c.any_row-2 in
    sym (front_back_length _ c.args.w
    c.requires.ready.few_pings (long (goal.at.slice_bounds-meet-end c).After-any_row) r.new.t r.auto.t)

pub meet-requires : goal.meet-requires
meet-requires c =
    let r = c.any_row-2 in
    front_back_length _ c.args.w c.requires.ready.few_pings
    (long (goal.at.meet-requires c).After-any_row) r.new.t r.auto.t

pub returns : goal.returns
returns c =
    let r = c.any_row-2 in
    let a = c.args in
    hit_row_lem a.s.now a.w a.h a.hit a.hits.now
    a.miss a.misses.now a.y.0 _ _ _ c.any_row.ensures
    (front_back _ a.w c.requires.ready.few_pings (long (goal.at.returns c).After-any_row)
    r.new.t r.auto.t ∙ r.ensures)
    c.meet.ensures
