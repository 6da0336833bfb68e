-- How many puts a call makes at most.
use Rattle.std.specs.Prelude.{ℕ, ◌≤◌, List, length}
use Rattle.plc_base.specs.declared.address.Eui.{Eui}
use Rattle.plc_base.specs.declared.key.Key.{Key}
use Rattle.plc_base.specs.Grant.{Granted}
use Rattle.node_rules.specs.Accepted.{Accepted}
use Rattle.node_rules.specs.Memory.{StationMemory, Memory}
use Rattle.node_rules.specs.Plans.{Plan}
use Rattle.node_rules.specs.HearingRules.{hear}
use Rattle.node_rules.specs.Calls as calls
use Rattle.node_rules.specs.Meters as meters
use Rattle.node_rules.specs.Coordinators as coordinator_rules

-- a plan of four puts at most
abbrev pub PutsFew : {M A : Type 0} → Plan M A → Type 0
PutsFew p = length p.puts ≤ 4

-- what a station, a meter and the coordinator make of a frame that was accepted
abbrev pub HearingPutsFew : Type 0
HearingPutsFew = (l : StationMemory) (got : Accepted) (cost note now : ℕ) → PutsFew (hear l got cost note now)

abbrev pub AMetersHearingPutsFew : Type 0
AMetersHearingPutsFew = (x : meters.Identity) (m : Memory) (got : Accepted) (cost note now : ℕ) → PutsFew (meters.hear_meter x m got cost note now)

abbrev pub ACoordinatorsHearingPutsFew : Type 0
ACoordinatorsHearingPutsFew =
    (own : coordinator_rules.CoordinatorIdentity) (m : Memory) (got : Accepted) (cost note now : ℕ)
    → PutsFew (coordinator_rules.hear_coordinator own m got cost note now)

-- a send of a datagram, and of a command
abbrev pub SendingPutsFew : Type 0
SendingPutsFew =
    (l : StationMemory) (to : ℕ) (octets : List ℕ) (note now : ℕ)
    → PutsFew (calls.send l to octets note now) × PutsFew (calls.send_command l to octets now)

-- joining, leaving, a grant and a neighbour of the workshop
abbrev pub JoiningPutsFew : Type 0
JoiningPutsFew =
    (x : meters.Identity) (m : Memory) (granted : Granted) (address cost now : ℕ)
    → PutsFew (meters.join x m address now)
    × PutsFew (meters.leave m)
    × PutsFew (meters.provision m granted)
    × PutsFew (calls.preset_near m.station address cost now)

-- the orders of the operator
abbrev pub OrdersPutFew : Type 0
OrdersPutFew =
    (own : Eui) (m : Memory) (eui : Eui) (key : Key) (index now : ℕ)
    → PutsFew (coordinator_rules.allow m eui key)
    × PutsFew (coordinator_rules.depot m eui key)
    × PutsFew (coordinator_rules.rekey m index key)
    × PutsFew (coordinator_rules.activate_self m index)
    × PutsFew (coordinator_rules.challenge own m eui now)
    × PutsFew (coordinator_rules.activate m eui index now)
    × PutsFew (coordinator_rules.kick m eui)
