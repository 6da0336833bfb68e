-- A simulation from its description, before its run.
use Rattle.std.specs.Prelude.{◌≡◌, ℕ, ◌+◌, ◌-◌, ◌*◌, ◌^◌, min, Bool, true, false, List, [], length, map, replicate, Option, None, Some}
use Rattle.air_draws.specs.Draws.{first}
use Rattle.air_draws.specs.declared.draws.Purpose.TheVariants as purposes
use Rattle.line_air.specs.declared.settings.Rate.{Rate}
use Rattle.line_air.specs.declared.settings.Rate.TheVariants as rates
use Rattle.line_air.specs.declared.settings.Settings.{Settings as AirSettings}
use Rattle.line_air.specs.Turns.{quiet_air}
use Rattle.line_owner.specs.Members.{new_member}
use Rattle.line_owner.specs.declared.settings.Settings.{Settings as OwnerSettings}
use Rattle.line_owner.specs.States.{OwnerState}
use Rattle.line_place.specs.declared.layout.Layout.TheVariants as layouts
use Rattle.line_place.specs.declared.link.Link.{Link}
use Rattle.line_place.specs.declared.scattering.Field.{Field}
use Rattle.line_place.specs.Hops.{AreHops}
use Rattle.line_place.specs.Rows.{rows_to, measured_rows}
use Rattle.line_place.specs.ScatteredSpots.{NoneBefore, IsFirstTry}
use Rattle.line_plan.specs.declared.plan.Plan.{Plan}
use Rattle.plan_tables.specs.declared.air_plan.AirPlan.{AirPlan}
use Rattle.plan_tables.specs.declared.air_plan.PlannedRate.{PlannedRate}
use Rattle.plan_tables.specs.declared.air_plan.PlannedRate.TheVariants as planned
use Rattle.plan_tables.specs.declared.places.Kind.{Kind}
use Rattle.plan_tables.specs.declared.places.Kind.TheVariants.{InStreet, InGrid, InTower, Scattered, Measured}
use Rattle.plan_tables.specs.declared.places.PlacePlan.{PlacePlan}
use Rattle.plan_tables.specs.Places.{meters_of}
use Rattle.rand_pcg.specs.Lcg.{Lcg}
use Rattle.line_simulation.specs.declared.start.Made.{Made}
use Rattle.line_simulation.specs.declared.start.Made.TheVariants as makes
use Rattle.line_simulation.specs.Books.{first_addresses}
use Rattle.line_simulation.specs.Simulations.{Simulated, state_of}

-- # Settings

abbrev pub rate_of : PlannedRate → Rate
rate_of planned.Robo = rates.Robo
rate_of planned.Dbpsk = rates.Dbpsk
rate_of planned.Dqpsk = rates.Dqpsk
rate_of planned.D8psk = rates.D8psk

abbrev pub air_settings : AirPlan → AirSettings
air_settings p =
    record {
      rate = rate_of p.rate;
      repeats = p.limits.repeats;
      break_after = p.limits.break_after;
      backoffs = p.limits.backoffs;
      min_be = p.waits.min_be;
      max_be = p.waits.max_be;
      jitter = min (p.waits.jitter_ms * 1000) (2 ^ 32 - 1);
      ack_loss = p.waits.ack_loss;
      duplicates = p.choices.duplicates;
      overhear = p.choices.overhear;
      collisions = p.choices.collisions;
    }

abbrev pub owner_settings : Plan → OwnerSettings
owner_settings p =
    record {
      length = p.length;
      joining = p.owner.joining;
      readings = p.owner.readings;
      rotation = p.owner.rotation;
      care = p.owner.care;
    }

-- # The place

-- the coordinator and the meters
abbrev pub nodes_of : PlacePlan → ℕ
nodes_of p = min (meters_of p + 1) (2 ^ 32 - 1)

-- the links of a place; those of scattered meters are of the first draw in which a path leads to every one
abbrev pub IsPlaceOf : ℕ → PlacePlan → Kind → List (List Link) → Type 0
IsPlaceOf seed p (InStreet street) rows = rows ≡ rows_to (layouts.InStreet street) p.losses p.costs (nodes_of p) (nodes_of p)
IsPlaceOf seed p (InGrid grid meters) rows = rows ≡ rows_to (layouts.InGrid grid) p.losses p.costs (nodes_of p) (nodes_of p)
IsPlaceOf seed p (InTower tower meters) rows = rows ≡ rows_to (layouts.InTower tower) p.losses p.costs (nodes_of p) (nodes_of p)
IsPlaceOf seed p (Scattered field) rows = (left : Lcg) × IsFirstTry field p.losses p.costs (first seed purposes.Place) rows left
IsPlaceOf seed p (Measured links) rows = rows ≡ measured_rows links (nodes_of p)

-- no draw of 1,000 led to every meter
abbrev pub IsApart : ℕ → PlacePlan → Kind → Type 0
IsApart seed p (InStreet street) = ⊥
IsApart seed p (InGrid grid meters) = ⊥
IsApart seed p (InTower tower meters) = ⊥
IsApart seed p (Scattered field) = NoneBefore field p.losses p.costs (first seed purposes.Place) 1000
IsApart seed p (Measured links) = ⊥

abbrev pub IsScattered : ℕ → PlacePlan → Field → Option (List (List Link)) → Type 0
IsScattered seed p field None = NoneBefore field p.losses p.costs (first seed purposes.Place) 1000
IsScattered seed p field (Some rows) = (left : Lcg) × IsFirstTry field p.losses p.costs (first seed purposes.Place) rows left

abbrev pub IsPlaced : ℕ → PlacePlan → Option (List (List Link)) → Type 0
IsPlaced seed p None = IsApart seed p p.kind
IsPlaced seed p (Some rows) = IsPlaceOf seed p p.kind rows

-- # The meters

abbrev pub depth_of : Option ℕ → ℕ
depth_of None = 0
depth_of (Some hops) = min hops 1000

-- the hops of each node where the meters join in the workshop, and 0 for all where they join over the air
abbrev pub AreDepths : Bool → List (List Link) → List ℕ → Type 0
AreDepths true rows depths = (hops : List (Option ℕ)) × (AreHops rows hops × (depths ≡ map depth_of hops))
AreDepths false rows depths = depths ≡ replicate (length rows) 0

-- # A simulation

abbrev pub first_owner : Plan → List ℕ → OwnerState
first_owner p depths =
    record {
      settings = owner_settings p;
      members = map new_member depths;
      readings = [];
      polls = record { next = 0; round = 0 };
      change = None;
      times = first p.seed purposes.Times;
      keys = first p.seed purposes.Keys;
    }

abbrev pub first_state : {R : Type 0} → Plan → R → List (List Link) → List ℕ → Simulated R
first_state p recorder rows depths =
    record {
      recorder = recorder;
      sky = record { air = quiet_air rows (air_settings p.air) p.seed; due = [] };
      owner = first_owner p depths;
      jobs = [];
      work = [];
      now = 0;
      book = first_addresses (nodes_of p.place);
      flown = [];
      kept = [];
      tried = [];
      plan = p;
      failures = first p.seed purposes.Failures;
      attack = first p.seed purposes.Attack;
    }

-- A simulation of a plan, over a recorder, before its run.
pub record IsFirst {R : Type 0} (p : Plan) (recorder : R) (s : Simulated R) : Type 0 where
  pub rows : List (List Link)
  pub place : IsPlaceOf p.seed p.place p.place.kind rows
  pub depths : List ℕ
  pub deep : AreDepths p.owner.joining.depot rows depths
  pub is : s ≡ first_state p recorder rows depths

-- what is made of a plan
abbrev pub IsMade : {R : Type 0} → Plan → R → Made R → Type 0
IsMade p recorder (makes.Simulation s) = IsFirst p recorder (state_of s)
IsMade p recorder makes.Apart = IsApart p.seed p.place p.place.kind
