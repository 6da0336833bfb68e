use Rattle.std.proofs.Common.{◌≡◌, take}
use Rattle.std.specs.Prelude.{fold}
use Rattle.coordinator.specs.Ends.{end_by}
use Rattle.coordinator.proofs.sessions.Sessions.first_end.Given as goal

abbrev pub invariant-loop-session : goal.invariant-loop-session
invariant-loop-session l = l.end ≡ fold end_by l.time (take l.session-index l.session-items)
