-- What a station does towards its neighbours alone: commands of code 03, 04 and 05, and what it answers of its routes.
use Rattle.std.specs.Prelude.{◌≡◌, ℕ, List, ◌++◌, is_some, unwrap_or, if◌then◌else◌, Option, Result}
use Rattle.std.specs.Option.{option_map}
use Rattle.plc_base.specs.declared.out_frame.Out.{Out}
use Rattle.mesh_header.specs.declared.unit.Unit.TheVariants.{Local}
use Rattle.routing_set.specs.RoutingSet as routing
use Rattle.node_rules.specs.declared.refusal.LocalRefusal.{LocalRefusal}
use Rattle.node_rules.specs.declared.refusal.LocalRefusal.TheVariants.{CounterSpent, Store}
use Rattle.node_rules.specs.Frames.{to_all}
use Rattle.node_rules.specs.Memory.{StationMemory, station_route}
use Rattle.node_rules.specs.Plans.{Plan}
use Rattle.node_rules.specs.Drafts.{Draft, Ends, alone, empty_draft, goes, sealed}
use Rattle.node_rules.specs.States.{State}
use Rattle.node_rules.specs.CarriedPlans.{Carries, nothing}

-- # Commands for the neighbours

-- how their words say that counters are spent, and that a store write failed
abbrev pub local_ends : Ends LocalRefusal
local_ends = record { spent = CounterSpent; store = Store }

-- the command of a code goes to a neighbour, or to all
abbrev pub local_draft : StationMemory → (code : ℕ) → Option ℕ → List ℕ → Draft StationMemory
local_draft l code to body = goes (unwrap_or to to_all) (Local code body) 0 (empty_draft l)

-- a command of code 03, 04 or 05 is sent
abbrev pub send_local : StationMemory → (code : ℕ) → Option ℕ → List ℕ
    → Plan StationMemory (Result (Unit {0}) LocalRefusal)
send_local l code to body = sealed alone local_ends l (local_draft l code to body) tt

-- # After other frames of a step

-- what was given out, and more after it
abbrev pub followed : Out → Out → Out
followed before more = record {
  frames = before.frames ++ more.frames;
  tags = record { made = before.tags.made ++ more.tags.made; opened = before.tags.opened ++ more.tags.opened };
}

-- The plan was carried out in a step that had given out something before: what the plan gives out comes after it, and where a put
-- failed nothing is left of either.
pub record CarriesAfter {M A : Type 0} (old : State M) (p : Plan M A) (answer : A) (before out : Out)
    (new : State M) : Type 0 where
  pub added : Out
  pub carries : Carries old p answer added new
  pub out_is : out ≡ (if is_some new.memory then followed before added else nothing)

-- # Routes

-- the next hop of the valid route to an address, and the cost of the address's rank
abbrev pub valid_route : StationMemory → ℕ → Option (ℕ × ℕ)
valid_route l dest = option_map (λ hop. (hop, (routing.held l.routing dest).cost)) (station_route l dest)
