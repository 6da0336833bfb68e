-- When a session has lasted for too long.
use Rattle.std.specs.Prelude.{ℕ}
use Rattle.plc_base.specs.Times.{earlier_end}
use Rattle.node_rules.specs.declared.session_time.TheConstants.{SESSION_TIME}
use Rattle.node_rules.specs.Memory.{CoordinatorSession}

-- the earlier of a time and of the end of a session
abbrev pub end_by : ℕ → CoordinatorSession → ℕ
end_by time s = earlier_end SESSION_TIME time s.since
