use Rattle.text.specs.Steps.Lines.{point_item}
use Rattle.text.specs.Text.{item_of}
use Rattle.text.proofs.Texts.{fits_as, put_as}
use Rattle.digits.proofs.Pieces.{upto_none, upto_long, next_fits, upto_more, upto_all}
use Rattle.picture.specs.Points.{value_at}
use mathlib.Core.Path.{◌≡◌, ap}
use native.Mathlib.Omega.{arith}
use Rattle.drawing.proofs.put_items.Goals as goal
use Rattle.drawing.proofs.put_items.Goals.{After-value-v}

-- the point that is put
item : (c : After-value-v)
    → let a = c.args in
    let x = c.loop-x.x in
    item_of a.depth c.value-v.result x
    ≡ point_item a.depth (value_at a.depth a.s.now a.w) a.y.0 x
unfolding point_item
item c = ap (λ n. item_of c.args.depth
    n c.loop-x.x) c.value-v.ensures

pub loop-x-init : goal.loop-x-init
loop-x-init c = upto_none c.requires.w_in_bounds

pub overflow_cast-ping : goal.overflow_cast-ping
overflow_cast-ping c = omega (arith, c.requires.w_le_most_pings.0)

pub value-v-requires : goal.value-v-requires
value-v-requires c =
    let p = c.requires.w_le_most_pings in
    record { few_pings = p.0; column = c.loop-x-test.true; row = p.1 }

pub put_item-next-requires : goal.put_item-next-requires
put_item-next-requires c =
    fits_as _ (item (goal.at.put_item-next-requires c).After-value-v)
    (next_fits c.loop-x.invariant c.loop-x-test.true)

pub loop-x-preserved : goal.loop-x-preserved
loop-x-preserved c =
    upto_more c.loop-x.invariant c.loop-x-test.true
    (put_as _ (item (goal.at.loop-x-preserved c).After-value-v) _
    (c.put_item-next.ensures.value, c.put_item-next.ensures.t_after))

pub shape_of-t : goal.shape_of-t
shape_of-t c = upto_long c.loop-x.invariant

pub returns : goal.returns
returns c =
    let p = upto_all c.loop-x.invariant c.loop-x-test.false in
    record { value = p.0; t_after = p.1 }
