-- What is written is the candidate, byte for byte, and the check is asked of just these bytes.
-- At most five links of twelve bytes are written, which the 60 bytes hold.
use mathlib.Core.Path.{refl, sym}
use lib.Seq.{length-take-le}
use native.Mathlib.Omega.{arith}
use Rattle.chainfor.proofs.Search.{sixty, accepted_is}
use Rattle.chainfor.proofs.accepted.Goals as goal

pub put_links-requires : goal.put_links-requires
put_links-requires c = (
  c.try_no-c.ensures.1,
  (
    c.links_of-k.ensures.1,
    (
      c.length_of-m.ensures.1,
      sixty _ _ c.links_of-k.ensures.1 c.length_of-m.ensures.1,
    ),
  ),
)

pub overflow_mul-n : goal.overflow_mul-n
overflow_mul-n c =
    omega (
      arith,
      sixty c.links_of-k.result
          c.length_of-m.result (omega arith) (omega arith),
    )

pub slice_bounds-work-end : goal.slice_bounds-work-end
slice_bounds-work-end c =
    omega (
      arith,
      sixty c.links_of-k.result
          c.length_of-m.result (omega arith)
          (omega arith),
      c.put_links.auto.t,
    )

pub slice_bounds-check_chain-end : goal.slice_bounds-check_chain-end
slice_bounds-check_chain-end c =
    sym (length-take-le _ _ (omega (
      arith,
      sixty
          c.links_of-k.result
          c.length_of-m.result (omega arith)
          (omega arith),
      c.put_links.auto.t,
    )))

pub returns : goal.returns
returns c =
    accepted_is _ _ _ _ _ _ _ _ _ _ _ c.try_no-c.ensures.0
    c.links_of-k.ensures.0
    c.length_of-m.ensures.0 refl c.put_links.ensures c.check_chain.ensures
    c.is_ok.ensures.value
