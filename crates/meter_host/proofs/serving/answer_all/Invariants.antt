use Rattle.std.proofs.Common.{◌≡◌, [], Some}
use Rattle.meter_host.specs.ProgramRuns.{Runs}
use Rattle.meter_host.proofs.Serves.{SoFar}
use Rattle.meter_host.proofs.serving.answer_all.Given as goal

-- the calls so far were answered, and all puts were written
abbrev pub invariant-loop-turn : goal.invariant-loop-turn
invariant-loop-turn g l = record {
  so_far : SoFar (Runs l.fn.host) (g.S.Source.state l.fn.source) (g.S.Source.state l.source) (g.K.Sink.state l.fn.sink) (g.K.Sink.state l.sink)
      (Runs l.host) l.turn;
  none : l.host.station.store.listed ≡ Some [];
}
