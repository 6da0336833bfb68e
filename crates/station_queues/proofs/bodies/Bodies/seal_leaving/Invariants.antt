use Rattle.std.proofs.Common.{◌≡◌, ◌++◌, take}
use Rattle.station_queues.specs.Frames.{frames_of}
use Rattle.fragment_buffers.specs.WaitingBodies.{leaving}
use Rattle.station_queues.specs.Frames.{with_frames}
use Rattle.station_queues.proofs.bodies.Bodies.seal_leaving.Given as goal

abbrev pub invariant-loop-index : goal.invariant-loop-index
invariant-loop-index l =
    l.out ≡ with_frames (l.fn.out.frames ++ frames_of l.grant l.key l.first (leaving l.grant.address l.dest l.hop (take l.index l.self.waiting))) l.fn.out
