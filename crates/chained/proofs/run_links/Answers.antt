-- The links are those of the bytes, none of which is refused: `going`.
-- What the loop leaves by them are the results of the definition.
use native.Mathlib.Omega.{arith}
use Rattle.basics.specs.Bytes.{Bytes}
use Rattle.chained.proofs.Answers.{is_read, going, first_left, second_left}
use Rattle.chained.proofs.run_links.Goals as goal
use Rattle.chained.proofs.run_links.Goals.{After-unwrap-all}

chain_bytes : (c : After-unwrap-all) → Bytes c.args.chain.now
chain_bytes c i = omega (arith, c.type_inv.chain i)

pub unwrap-all-requires : goal.unwrap-all-requires
unwrap-all-requires c =
    let a = c.args in
    is_read a.depth a.grows a.w a.h a.source.now a.links a.chain.now a.first.now
    a.second.now c.read_links.result c.requires c.read_links.ensures
    (λ i. omega (arith, c.type_inv.chain i))

pub each_link-requires : goal.each_link-requires
each_link-requires c =
    let a = c.args in
    going a.depth a.grows a.w a.h a.source.now a.links a.chain.now a.first.now
    a.second.now c.read_links.result c.requires c.read_links.ensures
    (chain_bytes (goal.at.each_link-requires c).After-unwrap-all) _ c.unwrap-all.ensures

pub returns : goal.returns
returns c =
    let a = c.args in
    record {
      first = first_left a.depth a.grows a.w a.h a.source.now a.links a.chain.now
          a.first.now a.second.now c.read_links.result c.requires c.read_links.ensures
          (chain_bytes (goal.at.returns c).After-unwrap-all) _ c.unwrap-all.ensures
          _ c.each_link.ensures.first;
      second = second_left a.depth a.grows a.w a.h a.source.now a.links a.chain.now
          a.first.now a.second.now c.read_links.result c.requires c.read_links.ensures
          (chain_bytes (goal.at.returns c).After-unwrap-all) _ c.unwrap-all.ensures
          _ c.each_link.ensures.second;
    }
