-- What the owner does.
use Rattle.std.specs.Prelude.{ℕ, ◌+◌, min, leb, cond, true, false, List, [], ◌∷◌, ◌++◌, length, Option, Some, None, slice_get}
use Rattle.line_air.specs.declared.calendar.Moment.TheVariants as moments
use Rattle.line_air.specs.Calendars.{put}
use Rattle.line_air.specs.Ends.{with_node}
use Rattle.line_air.specs.Nodes.{queue_of, with_joined, with_power, without_power}
use Rattle.line_air.specs.Turns.{AirState}
use Rattle.line_events.specs.declared.event.Event.{Event}
use Rattle.line_events.specs.declared.event.Event.TheVariants as events
use Rattle.line_owner.specs.declared.acts.Act.{Act}
use Rattle.line_owner.specs.declared.acts.Act.TheVariants.{Step, Put, Do, Say, Dark}
use Rattle.line_owner.specs.declared.acts.Command.{Command}
use Rattle.line_owner.specs.declared.acts.Command.TheVariants as commands
use Rattle.line_owner.specs.declared.acts.Outcome.{Outcome}
use Rattle.line_owner.specs.declared.acts.Outcome.TheVariants as outcomes
use Rattle.line_owner.specs.declared.acts.Task.{Task}
use Rattle.line_owner.specs.declared.acts.Task.TheVariants as tasks
use Rattle.line_owner.specs.declared.messages.Kind.{Kind}
use Rattle.line_owner.specs.declared.messages.Kind.TheVariants as kinds
use Rattle.line_owner.specs.declared.messages.Message.{Message}
use Rattle.line_owner.specs.Messages.{message_octets}
use Rattle.line_simulation.specs.declared.facts.Facts.{Facts}
use Rattle.line_simulation.specs.declared.remarks.Remark.TheVariants as remarks
use Rattle.line_simulation.specs.declared.work.Job.{Job}
use Rattle.line_simulation.specs.declared.work.Job.TheVariants as jobs
use Rattle.line_simulation.specs.declared.work.PendingWork.TheVariants as works
use Rattle.line_simulation.specs.Books.{Addresses, eui_of, joined}
use Rattle.line_simulation.specs.Effects.{has_tried, outcome_of, with_air}
use Rattle.line_simulation.specs.Recorders.{Recorder}
use Rattle.line_simulation.specs.Runs.{Run, Goes, Stops, then}
use Rattle.line_simulation.specs.Simulations.{Simulated, to_do}
use Rattle.line_simulation.specs.Steps.{remarked, stepped}

-- # The calendar

abbrev pub with_job : {R : Type 0} → ℕ → Job → Simulated R → Simulated R
with_job at job s =
    record s { jobs = s.jobs ++ (job ∷ []); sky = record s.sky { due = put at (moments.Task (length s.jobs)) s.sky.due } }

-- a job is due at a time; a run ends at 2^32 - 1 jobs
unfoldable pub job_put : {R : Type 0} → ℕ → Job → Simulated R → Run (Simulated R) (Unit {0})
job_put at job s = cond (leb 4294967295 (length s.jobs)) (Stops s) (Goes tt (with_job at job s))

-- # Commands

-- the octets of a reading, at most 2,048
abbrev pub reading_octets : {R : Type 0} → Simulated R → ℕ
reading_octets s = min s.plan.owner.readings.octets 2048

abbrev pub told_by : Kind → ℕ → List ℕ → Event
told_by kinds.Reading node octets = events.Send node 0 octets
told_by kinds.Reply node octets = events.Send node 0 octets
told_by kinds.Ask node octets = events.Send 0 node octets
told_by kinds.Receipt node octets = events.Send 0 node octets

-- a message goes from a meter to the coordinator, or the other way
abbrev pub told : ℕ → Message → Event
told octets m = told_by m.kind m.node (message_octets octets m)

-- the index of a key is 0 or 1
abbrev pub index_of : ℕ → ℕ
index_of index = min index 1

-- the event that a command asks for; where it seeks, the coordinator sends to the spare meter
unfoldable pub event_of : Addresses → ℕ → Command → Event
event_of book octets (commands.Coordinator key) = events.Coordinator (eui_of 0 book) (record { 0 = key })
event_of book octets (commands.Meter node key) = events.Meter (eui_of node book) (record { 0 = key })
event_of book octets (commands.Depot node) = events.Depot node
event_of book octets (commands.Allow node) = events.Allow node
event_of book octets (commands.RandomOctets node least value) = events.RandomOctets node (record { 0 = value })
event_of book octets (commands.Join node agent) = events.Join node agent
event_of book octets (commands.Leave node) = events.Leave node
event_of book octets (commands.Tell m) = told octets m
event_of book octets commands.Seek = events.Send 0 book.nodes (0 ∷ [])
event_of book octets (commands.Rekey index key) = events.Rekey (index_of index) (record { 0 = key })
event_of book octets (commands.Challenge node) = events.Challenge node
event_of book octets (commands.Activate node index) = events.Activate node (index_of index)
event_of book octets (commands.Order node index) = events.Activate node (index_of index)
event_of book octets (commands.Restart node) = events.Restart node

-- a node that restarts has power
abbrev pub air_before : Command → AirState → AirState
air_before (commands.Restart node) air = with_node node with_power air
air_before _ air = air

-- a node that has joined hears what goes to all
abbrev pub air_after : Command → AirState → AirState
air_after (commands.Coordinator key) air = with_node 0 (with_joined true) air
air_after (commands.Depot node) air = with_node node (with_joined true) air
air_after (commands.Leave node) air = with_node node (with_joined false) air
air_after _ air = air

abbrev pub book_after : Command → Addresses → Addresses
book_after (commands.Depot node) book = joined node book
book_after _ book = book

-- a command was taken
abbrev pub after_command : {R : Type 0} → Command → Simulated R → Simulated R
after_command command s = record (with_air (air_after command s.sky.air) s) { book = book_after command s.book }

abbrev pub after_outcome : {R : Type 0} → Command → Outcome → Simulated R → Simulated R
after_outcome command outcomes.Taken s = after_command command s
after_outcome command outcomes.Refused s = s
after_outcome command outcomes.StoreFailed s = s

abbrev pub brought_by : {R : Type 0} → Command → Facts → Simulated R → Simulated R
brought_by command facts s =
    after_outcome command (outcome_of facts) (to_do (works.Facts facts 0) (to_do (works.Answered command (outcome_of facts)) s))

-- what a command brings is taken up, and then the owner goes on
abbrev pub commanded_by : {R : Type 0} → Command → Option Facts → Simulated R → Run (Simulated R) (Unit {0})
commanded_by command None s = Goes tt (to_do (works.Answered command outcomes.Refused) s)
commanded_by command (Some facts) s = Goes tt (brought_by command facts s)

-- the event of a command
unfoldable pub command_stepped : {R : Type 0} → Recorder R → Command → Simulated R → Run (Simulated R) (Option Facts)
command_stepped recorder command s = stepped recorder (event_of s.book (reading_octets s) command) s

abbrev pub before_command : {R : Type 0} → Command → Simulated R → Simulated R
before_command command s = with_air (air_before command s.sky.air) s

unfoldable pub commanded : {R : Type 0} → Recorder R → Command → Simulated R → Run (Simulated R) (Unit {0})
commanded recorder command s = then (command_stepped recorder command (before_command command s)) (commanded_by command)

-- # Acts

-- a meter that is asked again is remarked
abbrev pub poll_tried : {R : Type 0} → Recorder R → Task → Simulated R → Run (Simulated R) (Unit {0})
poll_tried recorder (tasks.Poll node round) s = has_tried recorder node round s
poll_tried recorder _ s = Goes tt s

unfoldable pub task_put : {R : Type 0} → Recorder R → ℕ → Task → Simulated R → Run (Simulated R) (Unit {0})
task_put recorder at task s = then (poll_tried recorder task s) (λ u t. job_put at (jobs.Task task) t)

abbrev pub queue_length : ℕ → AirState → ℕ
queue_length node air = length (queue_of (slice_get air.nodes node))

-- a node loses power, and what waits in its queue
unfoldable pub darkened : {R : Type 0} → Recorder R → ℕ → ℕ → Simulated R → Run (Simulated R) (Unit {0})
darkened recorder node seconds s =
    remarked recorder (remarks.Power node seconds (queue_length node s.sky.air)) (with_air (with_node node without_power s.sky.air) s)

-- an act of the owner's
unfoldable pub acted : {R : Type 0} → Recorder R → Act → Simulated R → Run (Simulated R) (Unit {0})
acted recorder (Step command) s = commanded recorder command s
acted recorder (Put at task) s = task_put recorder at task s
acted recorder (Do task) s = Goes tt (to_do (works.Task task) s)
acted recorder (Say saying) s = remarked recorder (remarks.Said saying) s
acted recorder (Dark node seconds) s = darkened recorder node seconds s
