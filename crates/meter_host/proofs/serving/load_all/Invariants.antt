use Rattle.std.proofs.Common.{◌≡◌}
use Rattle.meter_host.specs.ProgramRuns.{Loads}
use Rattle.meter_host.proofs.Serves.{SoFar}
use Rattle.meter_host.proofs.serving.load_all.Given as goal

-- the records so far were answered, and the list is as it was
abbrev pub invariant-loop-turn : goal.invariant-loop-turn
invariant-loop-turn g l = record {
  so_far : SoFar (Loads l.fn.loading) (g.S.Source.state l.fn.source) (g.S.Source.state l.source) (g.K.Sink.state l.fn.sink) (g.K.Sink.state l.sink)
      (Loads l.loading) l.turn;
  none : l.loading.listed ≡ l.fn.loading.listed;
}
