-- What a node with further reach holds beside its memory, and the words that its rules share.
use Rattle.std.specs.Prelude.{ℕ, List, [], ◌∷◌, ◌++◌, Result, Ok, Err}
use Rattle.plc_base.specs.declared.keeper.BadStore.{BadStore}
use Rattle.plc_base.specs.Keeper.{Records}
use Rattle.mesh_header.specs.declared.unit.Unit.TheVariants.{Local}
use Rattle.neighbour_checks.specs.Neighbours.{Neighbours, nobody, tick_after}
use Rattle.broadcast_log.specs.Log as logs
use Rattle.pan_discovery.specs.History.{Scanned, ended}
use Rattle.node_rules.specs.declared.refusal.Dropped.{Dropped}
use Rattle.node_rules.specs.declared.refusal.Dropped.TheVariants.{CounterSpent, Store}
use Rattle.node_rules.specs.Plans.{Plan, resting, within}
use Rattle.node_rules.specs.ComposedPlans.{behind, adding}
use Rattle.node_rules.specs.Drafts.{Draft, StationPlace, Ends, refused}
use Rattle.reach_rules.specs.declared.heard.CommandHeard.{CommandHeard}
use Rattle.reach_rules.specs.declared.refusal.ReachDropped.{ReachDropped}
use Rattle.reach_rules.specs.declared.refusal.ReachDropped.TheVariants.{Known}

-- # What a node holds

-- The open checks and the listed neighbours, the log of broadcasts, and the scan.
pub record Beside : Type 0 where
  pub checks : Neighbours
  pub log : logs.Log
  pub scan : Scanned

-- a new node: nobody is checked or listed, no broadcast was given out or heard, and it does not scan
abbrev pub nothing_beside : Beside
nothing_beside = record {
  checks = nobody;
  log = logs.empty_log;
  scan = ended;
}

-- A memory, and what the node holds beside it.
pub record Reaching (M : Type 0) : Type 0 where
  pub memory : M
  pub beside : Beside

-- where it holds what the node is on the line
abbrev pub in_reach : {M : Type 0} → StationPlace M → StationPlace (Reaching M)
in_reach h = record {
  station = λ x. h.station x.memory;
  with_station = λ l x. record x { memory = h.with_station l x.memory };
}

-- another memory, and other things beside it
abbrev pub with_memory : {M : Type 0} → Reaching M → M → Reaching M
with_memory x m = record { memory = m; beside = x.beside }

abbrev pub with_checks : {M : Type 0} → Neighbours → Reaching M → Reaching M
with_checks checks x = record x { beside = record x.beside { checks = checks } }

abbrev pub with_log : {M : Type 0} → logs.Log → Reaching M → Reaching M
with_log log x = record x { beside = record x.beside { log = log } }

abbrev pub with_scan : {M : Type 0} → Scanned → Reaching M → Reaching M
with_scan scan x = record x { beside = record x.beside { scan = scan } }

-- # Time and restarts

-- at a tick neighbours are let go and listed
abbrev pub tick_beside : ℕ → Beside → Beside
tick_beside now b = record b { checks = tick_after b.checks now }

-- after a restart the log is that of the store, and nothing else is left
abbrev pub restarted_by : Result logs.Log BadStore → Result Beside BadStore
restarted_by (Ok log) = Ok (record { checks = nobody; log = log; scan = ended })
restarted_by (Err bad) = Err bad

-- what the records give
abbrev pub restarted : Records → Result Beside BadStore
restarted records = restarted_by (logs.opened records)

-- # What is made of a frame

-- What a node made of a frame: what nodes without further reach make of it, or of a command for the neighbours.
pub data ReachHeard (H : Type 0) : Type 0 where
  Plainly : (heard : H) → ReachHeard H
  OfCommand : (heard : CommandHeard) → ReachHeard H

-- what a node does about a command for the neighbours
abbrev pub Commanding : Type 0 → Type 0
Commanding M = Plan (Reaching M) (Result CommandHeard ReachDropped)

-- how its words say that counters are spent, and that a store write failed
abbrev pub reach_ends : Ends ReachDropped
reach_ends = record { spent = Known CounterSpent; store = Known Store }

-- nothing has changed
abbrev pub drop_it : {M H : Type 0} → Reaching M → ReachDropped → Plan (Reaching M) (Result H ReachDropped)
drop_it x reason = refused reach_ends x reason

-- something is remembered, and nothing is stored or sent
abbrev pub remembers : {M : Type 0} → Reaching M → CommandHeard → Commanding M
remembers x heard = resting x (Ok heard) (Err reach_ends.store)

-- the answer of a node without further reach
abbrev pub known_answer : {H : Type 0} → Result H Dropped → Result (ReachHeard H) ReachDropped
known_answer (Ok heard) = Ok (Plainly heard)
known_answer (Err reason) = Err (Known reason)

-- its plan, which leaves everything as it is that stands beside the memory
abbrev pub known_plan : {M H : Type 0} → Reaching M → Plan M (Result H Dropped)
    → Plan (Reaching M) (Result (ReachHeard H) ReachDropped)
known_plan x p = within (with_memory x) known_answer p

-- the answer to a command
abbrev pub command_answer : {H : Type 0} → Result CommandHeard ReachDropped → Result (ReachHeard H) ReachDropped
command_answer (Ok heard) = Ok (OfCommand heard)
command_answer (Err reason) = Err reason

-- # Words of what goes out

-- a command of a code goes to one node or to all
unfoldable pub adds_local : {M : Type 0} → (to code : ℕ) → List ℕ → Draft M → Draft M
adds_local to code body d = record d { units = d.units ++ record { to = to; unit = Local code body; note = 0 } ∷ [] }

-- # Plans one after the other

-- a plan with the answers of another one
abbrev pub answering_as : {M A B : Type 0} → Plan M A → Plan M B → Plan M A
answering_as p q = record {
  answer = p.answer;
  failed = p.failed;
  puts = q.puts;
  memory = q.memory;
  frames = q.frames;
  made = q.made;
  opened = q.opened;
}

-- a plan, and then another one over the memory that it left, which changes nothing of the answer
abbrev pub followed_by : {M A B : Type 0} → Plan M A → (M → Plan M B) → Plan M A
followed_by p next = adding p.frames p.made p.opened (behind p.puts (answering_as p (next p.memory)))
