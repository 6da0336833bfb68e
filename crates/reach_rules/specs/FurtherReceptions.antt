-- What a node with further reach makes of a frame that it accepted: a command of code 03, 04 or 05 by its own rule, and every other
-- one by the rule that nodes have without further reach.
use Rattle.std.specs.Prelude.{ℕ, ◌==◌, Bool, List, Option, Some, None, Result, if◌then◌else◌}
use Rattle.std.specs.Option.{option_map_or}
use Rattle.mesh_header.specs.declared.unit.Unit.{Unit as MeshUnit}
use Rattle.mesh_header.specs.declared.unit.Unit.TheVariants as units
use Rattle.mesh_header.specs.Reader.{unit_in}
use Rattle.node_rules.specs.Accepted.{Accepted}
use Rattle.node_rules.specs.declared.heard.Path.{Path}
use Rattle.node_rules.specs.declared.heard.Path.TheVariants as paths
use Rattle.node_rules.specs.declared.heard.MeterHeard.{MeterHeard}
use Rattle.node_rules.specs.declared.heard.CoordinatorHeard.{CoordinatorHeard}
use Rattle.node_rules.specs.declared.refusal.Dropped.{Dropped}
use Rattle.node_rules.specs.declared.refusal.Dropped.TheVariants.{BadUnit}
use Rattle.node_rules.specs.Memory.{Memory, address_of}
use Rattle.node_rules.specs.Plans.{Plan, within}
use Rattle.node_rules.specs.Drafts.{StationPlace, choose}
use Rattle.node_rules.specs.MemoryDrafts.{in_memory}
use Rattle.node_rules.specs.Meters as meters
use Rattle.node_rules.specs.Coordinators as coordinator_rules
use Rattle.reach_rules.specs.declared.refusal.ReachDropped.{ReachDropped}
use Rattle.reach_rules.specs.declared.refusal.ReachDropped.TheVariants.{Known}
use Rattle.reach_rules.specs.ReachingNodes.{Reaching, ReachHeard, Commanding, drop_it, known_plan, command_answer}
use Rattle.reach_rules.specs.CheckedReplies.{hear_acknowledgement, hear_checked}
use Rattle.reach_rules.specs.Broadcasts.{hear_broadcast}
use Rattle.reach_rules.specs.PathRequests.{hear_path}

-- # Commands for the neighbours

-- A command of code 03, 04 or 05 that came alone in a sealed frame.
pub record NeighbourCommand : Type 0 where
  pub from : ℕ
  pub to_all : Bool
  pub code : ℕ
  pub body : List ℕ

-- the command that a unit is, if it is one: 01 is a route message, and 02 a joining command
abbrev pub command_with : (from : ℕ) → (to_all : Bool) → Option MeshUnit → Option NeighbourCommand
command_with from to_all None = None
command_with from to_all (Some (units.Whole mesh octets)) = None
command_with from to_all (Some (units.Part mesh piece)) = None
command_with from to_all (Some (units.Carried mesh body)) = None
command_with from to_all (Some (units.Local code body)) =
    if code == 1 then None
    else (if code == 2 then None
    else Some (record { from = from; to_all = to_all; code = code; body = body }))

-- one that came so; a plain frame carries none
abbrev pub command_on : Path → Option MeshUnit → Option NeighbourCommand
command_on (paths.Sealed from to_all key) unit = command_with from to_all unit
command_on (paths.Up from) unit = None
command_on (paths.Down from) unit = None

-- the one that an accepted frame carries
abbrev pub command_of : Accepted → Option NeighbourCommand
command_of got = command_on got.path (unit_in got.payload)

-- a command, by its code
abbrev pub hear_command_at : {M : Type 0} → StationPlace M → Reaching M → (own : ℕ) → NeighbourCommand → Commanding M
hear_command_at h x own c =
    choose (c.code == 3) (hear_acknowledgement x c.from c.to_all c.body)
    (choose (c.code == 4) (hear_broadcast h x own c.to_all c.body)
    (choose (c.code == 5) (hear_path h x own c.from c.to_all c.body)
    (drop_it x (Known BadUnit))))

-- a node without an address hears none
abbrev pub hear_command : {M : Type 0} → StationPlace M → Reaching M → NeighbourCommand → Commanding M
hear_command h x c =
    option_map_or (λ own. hear_command_at h x own c) (address_of (h.station x.memory)) (drop_it x (Known BadUnit))

-- # A frame that was accepted

-- a frame that carries no such command, by the plan of a node without further reach
abbrev pub hear_known : {M H : Type 0} → StationPlace M → (checks_on : Bool) → Reaching M → Accepted → (now : ℕ)
    → Plan M (Result H Dropped) → Plan (Reaching M) (Result (ReachHeard H) ReachDropped)
hear_known h checks_on x got now p = choose checks_on (hear_checked h x got now p) (known_plan x p)

-- by the command that it carries, if it carries one
abbrev pub hear_by : {M H : Type 0} → StationPlace M → (checks_on : Bool) → Reaching M → Accepted → (now : ℕ)
    → Plan M (Result H Dropped) → Option NeighbourCommand → Plan (Reaching M) (Result (ReachHeard H) ReachDropped)
hear_by h checks_on x got now p None = hear_known h checks_on x got now p
hear_by h checks_on x got now p (Some c) = within (λ y. y) command_answer (hear_command h x c)

-- A frame that was accepted, with the plan that a node without further reach has for it. Whether checks are on is said for all nodes
-- of a line.
abbrev pub hear_reaching : {M H : Type 0} → StationPlace M → (checks_on : Bool) → Reaching M → Accepted → (now : ℕ)
    → Plan M (Result H Dropped) → Plan (Reaching M) (Result (ReachHeard H) ReachDropped)
hear_reaching h checks_on x got now p = hear_by h checks_on x got now p (command_of got)

-- # Meters and the coordinator

-- what a meter makes of it
abbrev pub meter_hearing : meters.Identity → (checks_on : Bool) → Reaching Memory → Accepted → (cost note now : ℕ)
    → Plan (Reaching Memory) (Result (ReachHeard MeterHeard) ReachDropped)
meter_hearing own checks_on x got cost note now =
    hear_reaching in_memory checks_on x got now (meters.hear_meter own x.memory got cost note now)

-- what the coordinator makes of it
abbrev pub coordinator_hearing : coordinator_rules.CoordinatorIdentity → (checks_on : Bool) → Reaching Memory → Accepted
    → (cost note now : ℕ) → Plan (Reaching Memory) (Result (ReachHeard CoordinatorHeard) ReachDropped)
coordinator_hearing own checks_on x got cost note now =
    hear_reaching in_memory checks_on x got now (coordinator_rules.hear_coordinator own x.memory got cost note now)
