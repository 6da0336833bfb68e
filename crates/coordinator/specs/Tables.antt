-- The table of the sessions that the coordinator holds.
use Rattle.std.specs.Prelude.{ℕ, not, nat_lt, Bool, false, if◌then◌else◌, List, [], ◌∷◌, ◌++◌, length, set, position, slice_get, is_some, Option}
use Rattle.std.specs.List.{filter}
use Rattle.std.specs.Option.{option_map_or, option_and_then}
use Rattle.plc_base.specs.declared.address.Eui.{Eui}
use Rattle.node_rules.specs.Memory.{CoordinatorSession}
use Rattle.node_rules.specs.Coordinators.{is_of}
use Rattle.node_rules.specs.Calls.{is_within}
use Rattle.node_rules.specs.declared.session_time.TheConstants.{SESSION_TIME}

-- the session of a meter, if one is open
abbrev pub session_in : List CoordinatorSession → Eui → Option CoordinatorSession
session_in sessions eui = option_and_then (slice_get sessions) (position (is_of eui) sessions)

-- a session stands in the place of that of its meter, or after the others
abbrev pub placed : CoordinatorSession → List CoordinatorSession → List CoordinatorSession
placed s sessions =
    option_map_or (λ place. set sessions place s) (position (is_of s.server.eui) sessions) (sessions ++ s ∷ [])

-- the sessions without that of a meter
abbrev pub ended : Eui → List CoordinatorSession → List CoordinatorSession
ended eui sessions = filter (λ s. not (is_of eui s)) sessions

-- whether a session of a meter can't be opened: it has none, and 8 are open
abbrev pub is_full_for : List CoordinatorSession → Eui → Bool
is_full_for sessions eui = if is_some (session_in sessions eui) then false else nat_lt 7 (length sessions)

-- the sessions whose time has not passed
abbrev pub unexpired : ℕ → List CoordinatorSession → List CoordinatorSession
unexpired now sessions = filter (λ (s : CoordinatorSession). is_within SESSION_TIME now s.since) sessions
