-- The rooms show source row v: `fill_rooms`.
-- From there the rows of the element are joined in: `spread`.
use Rattle.bysource.specs.Steps.Filled.{RoomsOf}
use Rattle.bitrow.specs.Steps.Added.{row_in}
use Rattle.basics.proofs.Lists.{part_length}
use Rattle.picture.proofs.Sizes.{row_room}
use lib.ListN.{length-replicate, replicate, take, drop}
use Prim.Native.Nat.{ℕ, ◌<◌, ◌+◌, ◌*◌, ◌≤◌}
use mathlib.Core.Path.{sym, ap₂, ◌∙◌, ◌≡◌, subst}
use native.Mathlib.Nat.{add-sub_cancel_left}
use native.Mathlib.Omega.{arith}
use Rattle.bysource.proofs.source_row.Goals as goal

-- a row of the source
room : (m n v h l : ℕ) → n ≡ m → v < h → h * m ≤ l → v * n + n ≤ l
room m n v h l en hv el =
    subst (λ n. v * n + n ≤ l) (sym en) (omega (arith, row_room m {y = v} {n = h} hv, el))

pub overflow_mul-a : goal.overflow_mul-a
overflow_mul-a g c =
    omega (arith, room _ _ _ c.args.h _ c.row_size-n.ensures c.requires.t_len.1.0 c.requires.ready.source)

pub overflow_add-z : goal.overflow_add-z
overflow_add-z g c =
    omega (arith, room _ _ _ c.args.h _ c.row_size-n.ensures c.requires.t_len.1.0 c.requires.ready.source)

pub slice_bounds-fill_rooms-end-2 : goal.slice_bounds-fill_rooms-end-2
slice_bounds-fill_rooms-end-2 g c =
    room _ _ _ c.args.h _ c.row_size-n.ensures c.requires.t_len.1.0 c.requires.ready.source

-- the rooms are not too long
pub whole_as_slice-fill_rooms : goal.whole_as_slice-fill_rooms
whole_as_slice-fill_rooms g c = omega (arith, c.requires.rooms, g.met.D.Scan.scans.few)

pub shared_whole_as_slice-spread : goal.shared_whole_as_slice-spread
shared_whole_as_slice-spread g c = omega (arith, c.requires.rooms, g.met.D.Scan.scans.few)

pub fill_rooms-requires : goal.fill_rooms-requires
fill_rooms-requires g c =
    let a = c.args in
    let n = c.row_size-n in
    let l = part_length a.s.now (a.v.0 * n.result) n.result
    (room _ _ _ a.h _ n.ensures c.requires.t_len.1.0 c.requires.ready.source) in
    record {
      fit = record {
        some_points = c.requires.ready.some_pings;
        few_points = c.requires.ready.few_pings;
        row = l ∙ n.ensures;
        long = length-replicate {A = ℕ} g.row.ROOMS c.beyond-b.result ∙ c.requires.rooms;
        empty = ap₂ replicate c.requires.rooms c.beyond-b.ensures;
      };
      kind = c.requires.t_len.1.1;
    }

pub spread-requires : goal.spread-requires
spread-requires g c =
    let a = c.args in
    let f = c.fill_rooms in
    let n = c.row_size-n in
    record {
      ready = c.requires.ready;
      t_len = (
        c.requires.t_len.0,
        (
          c.requires.t_len.1.0,
          f.auto.b ∙ length-replicate {A = ℕ} g.row.ROOMS c.beyond-b.result ∙ c.requires.rooms,
        ),
      );
      rooms_of = subst (λ n. RoomsOf g.D.Scan.depth a.grows a.k (row_in n a.s.now a.v.0) a.w
          (g.D.Scan.far a.w)
          f.new.b) n.ensures
          (subst (λ m. RoomsOf g.D.Scan.depth a.grows a.k (take m (drop (a.v.0 * n.result) a.s.now)) a.w
          (g.D.Scan.far a.w) f.new.b) (add-sub_cancel_left (a.v.0 * n.result) n.result) f.ensures.shown);
      part_of = c.requires.part_of;
    }
