-- Three ways, by how many links came before: none, an odd number, an even number. Each is one
-- operation from where the last result lies into the other buffer, and that buffer alone is written.
use Rattle.apply.proofs.Applied.{ready}
use Rattle.chained.proofs.Buffers.{from_source, from_first, from_second}
use Rattle.chained.proofs.link.Goals as goal

pub flat-requires : goal.flat-requires
flat-requires c =
    record {
      ready = ready _ _ _ _ _ _ c.requires.holds c.requires.fit;
      holds = c.requires.holds_2;
    }

pub returns-then-i-eq0 : goal.returns-then-i-eq0
returns-then-i-eq0 c =
    let a = c.args in
    let p = from_source a.grows a.depth a.w a.h a.i a.e a.source.now a.first.now a.second.now _
    c.if-i-eq0.true c.flat.ensures in
    record { first = p.0; second = p.1 }

pub flat-requires-then-i-eq1 : goal.flat-requires-then-i-eq1
flat-requires-then-i-eq1 c =
    record {
      ready = ready _ _ _ _ _ _ c.requires.holds_2 c.requires.fit;
      holds = c.requires.holds_3;
    }

pub returns-then-i-eq1 : goal.returns-then-i-eq1
returns-then-i-eq1 c =
    let a = c.args in
    let p = from_first a.grows a.depth a.w a.h a.i a.e a.source.now a.first.now a.second.now _
    c.if-i-eq0.false c.if-i-eq1.true c.flat-then-i-eq1.ensures in
    record { first = p.0; second = p.1 }

pub flat-requires-2 : goal.flat-requires-2
flat-requires-2 c =
    record {
      ready = ready _ _ _ _ _ _ c.requires.holds_3 c.requires.fit;
      holds = c.requires.holds_2;
    }

pub returns : goal.returns
returns c =
    let a = c.args in
    let p = from_second a.grows a.depth a.w a.h a.i a.e a.source.now a.first.now a.second.now _
    c.if-i-eq0.false c.if-i-eq1.false c.flat-2.ensures in
    record { first = p.0; second = p.1 }
