-- A line that is simulated, between two steps.
use Rattle.std.specs.Prelude.{ℕ, List, ◌∷◌}
use Rattle.rand_pcg.specs.Lcg.{Lcg}
use Rattle.line_air.specs.Turns.{Sky}
use Rattle.line_owner.specs.declared.asked.Reading.{Reading}
use Rattle.line_owner.specs.States.{OwnerState}
use Rattle.line_plan.specs.declared.plan.Plan.{Plan}
use Rattle.line_simulation.specs.Books.{Addresses}
use Rattle.line_simulation.specs.declared.simulation.Flown.{Flown}
use Rattle.line_simulation.specs.declared.simulation.Kept.{Kept}
use Rattle.line_simulation.specs.declared.simulation.Simulation.{Simulation}
use Rattle.line_simulation.specs.declared.work.Job.{Job}
use Rattle.line_simulation.specs.declared.work.PendingWork.{PendingWork}

-- All that the script of a run follows from. R is what the recorder is: the line of nodes, and the script so far.
pub record Simulated (R : Type 0) : Type 0 where
  pub recorder : R
  -- the air and the calendar
  pub sky : Sky
  pub owner : OwnerState
  -- what the moments of the calendar mean, by their numbers
  pub jobs : List Job
  -- what is to be done before the next moment, in order
  pub work : List PendingWork
  -- the time, in microseconds
  pub now : ℕ
  pub book : Addresses
  -- the flights, in their order
  pub flown : List Flown
  -- the frames that attackers keep
  pub kept : List Kept
  -- how often readings were tried
  pub tried : List ((ℕ × ℕ) × Reading)
  pub plan : Plan
  pub failures : Lcg
  pub attack : Lcg

-- what a simulation is; what is counted of it is no part of that
unfoldable pub state_of : {R : Type 0} → Simulation R → Simulated R
state_of s = record {
  recorder = s.recording;
  sky = record { air = s.air; due = s.calendar };
  owner = s.owner;
  jobs = s.jobs.items;
  work = s.work;
  now = s.time;
  book = s.book;
  flown = s.flown.items;
  kept = s.kept.items;
  tried = s.tried;
  plan = s.plan;
  failures = s.failures;
  attack = s.attack;
}

-- # Parts of it

abbrev pub with_sky : {R : Type 0} → Sky → Simulated R → Simulated R
with_sky sky s = record s { sky = sky }

-- something more is to be done next
abbrev pub to_do : {R : Type 0} → PendingWork → Simulated R → Simulated R
to_do w s = record s { work = w ∷ s.work }
