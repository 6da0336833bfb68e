use Rattle.std.proofs.Common.{sym}
use Rattle.path_requests.proofs.WalkOctets.{extended, not_extended}
use Rattle.path_requests.proofs.reading.walk_of.Goals as goal

pub returns-then-not-extend : goal.returns-then-not-extend
returns-then-not-extend c =
    not_extended _ c.loop-k.k c.args.count c.args.at c.args.octets.now c.loop-k.invariant.walk c.loop-k-test.true (sym c.if-not-extend.ensures.answer)

pub loop-k-preserved : goal.loop-k-preserved
loop-k-preserved c =
    let more = extended _ _ c.loop-k.k c.args.at c.args.octets.now c.loop-k.invariant.walk c.loop-k.invariant.is (sym c.if-not-extend.ensures.answer)
    c.if-not-extend.ensures.walk in
    record { walk = more.0; is = more.1; long = rw (← c.loop-k.invariant.long) more.2 }
