use Rattle.std.proofs.Common.{◌≡◌, ◌++◌}
use Rattle.station_queues.specs.Frames.{pieces_sent}
use Rattle.station_queues.proofs.sealing.seal_pieces.Given as goal

abbrev pub invariant-loop-k : goal.invariant-loop-k
invariant-loop-k l = l.out ≡ record l.fn.out { frames = l.fn.out.frames ++ pieces_sent l.grant l.key l.first l.to l.hop l.note l.datagram l.tag l.k }
