use Rattle.std.proofs.Common.{◌≡◌, ℕ, List, ◌++◌, length}
use Rattle.std.specs.Io.KnownBytes.{Appends}
use Rattle.plc_base.specs.Streams.{SinkFaults}
use Rattle.plc_base.proofs.streams.write_all.Given as goal

-- a prefix of the text was written, and the rest is to come
abbrev pub invariant-loop-rest : goal.invariant-loop-rest
invariant-loop-rest g l = record {
  front : (front : List ℕ) × (l.fn.text ≡ front ++ l.rest) × Appends ((g.K.Sink.state l.fn.sink).taken) ((g.K.Sink.state l.sink).taken) front
      × SinkFaults (g.K.Sink.state l.fn.sink) (g.K.Sink.state l.sink) (length front);
}

abbrev pub decreases-loop-rest : goal.decreases-loop-rest
decreases-loop-rest g l = length l.rest
