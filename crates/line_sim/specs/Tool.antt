-- What the program's call says.
use Rattle.std.specs.Prelude.{◌≡◌, ◌≤◌, ℕ, Bool, true, not, List, [], ◌∷◌, ◌++◌, length, String, codes, string_bytes, bytes_eq, IsUtf8}
use Rattle.std.specs.Prelude.{if◌then◌else◌, nat_lt, Option, Some, None, All, AllPairs}
use Rattle.std.specs.Option.{option_and_then}
use Rattle.std.specs.declared.alloc.Global.{Global}
use Rattle.plc_base.specs.Streams.{SourceState, SinkState, SourceRose}
use Rattle.plan_tables.specs.declared.fault.TextPlace.{TextPlace}
use Rattle.plan_tables.specs.Words.{place_text}
use Rattle.line_plan.specs.declared.plan.Plan.{Plan}
use Rattle.line_plan.specs.declared.option_reading.Description.{Description}
use Rattle.line_plan.specs.Options.{are_options}
use Rattle.line_plan.specs.OptionDescriptions.{IsDescribed, IsBad}
use Rattle.line_rules.specs.Worlds.{World}
use Rattle.line_simulation.specs.Attackers.{has_attackers}
use Rattle.line_simulation.specs.Simulations.{Simulated}
use Rattle.line_place.specs.declared.link.Link.{Link}
use Rattle.line_simulation.specs.Start.{nodes_of, IsPlaceOf, IsFirst, IsApart}
use Rattle.line_simulation.specs.Turns.{Ran, whole_run}
use Rattle.line_sim.specs.Arrivals.{IsCausal, InOrder, arrivals}
use Rattle.line_sim.specs.Recorders.{Recorded}
use Rattle.line_sim.specs.WorldRecorder.{world_recorder}
use Rattle.line_sim.specs.Scripts.{LeadsTo, InjectsNothing}
use Rattle.line_sim.specs.Simulated.{new_recorder, IsLeftBy}
use Rattle.line_sim.specs.Times.{IsUpTo, times}
use Rattle.line_sim.specs.declared.command.Command.{Command}
use Rattle.line_sim.specs.declared.command.Mode.{Mode}
use Rattle.line_sim.specs.declared.command.Mode.TheVariants as modes
use Rattle.line_sim.specs.declared.command.Wanted.{Wanted}
use Rattle.line_sim.specs.declared.command.Wanted.TheVariants.{OfRun, Links}
use Rattle.line_sim.specs.Links.{links_text}
use Rattle.script_runs.specs.declared.status.Status.{Status}
use Rattle.script_runs.specs.declared.status.Status.TheVariants as status
use Rattle.script_runs.specs.Texts.{WritesText}

-- # The script of a run

-- A script whose replay has no bad line, and ends in the world that the simulator had. It has at most 67,108,864 octets, and lines of at most 4,096. Where it
-- is a quiet one, no line injects octets. A flight comes to a node after a line that sent it, never to its sender, and not after a later flight of that sender.
-- No remark and no event is at an earlier time than one before it.
pub record IsRun (quiet : Bool) (script : List ℕ) (w : World) : Type 0 where
  pub leads : LeadsTo script w
  pub fits : length script ≤ 67108864
  pub silent : quiet ≡ true → InjectsNothing script
  pub causal : All IsCausal (arrivals script)
  pub in_order : AllPairs InOrder (arrivals script)
  pub clock : AllPairs IsUpTo (times script)

-- How a run ended that went on to the end of its time, or did not, with this many forged events.
abbrev pub status_of : Bool → ℕ → Status
status_of whole forged = if nat_lt 0 forged then status.Forged else (if whole then status.Fine else status.LimitReached)

-- # The words

-- what is written, by the first word
abbrev pub wanted_named : List ℕ → Option Wanted
wanted_named word =
    if bytes_eq word (codes "run") then Some (OfRun modes.Run)
    else if bytes_eq word (codes "measure") then Some (OfRun modes.Measure)
    else if bytes_eq word (codes "links") then Some Links
    else None

-- What words ask for.
pub record Asked : Type 0 where
  pub wanted : Wanted
  pub options : List (String Global)

-- what words ask for: `run`, `measure` or `links`, and then options; None where they are of another form
abbrev pub asked_by : List (String Global) → Option Asked
asked_by [] = None
asked_by (word ∷ words) =
    option_and_then (λ wanted. if are_options words then Some (record { wanted = wanted; options = words }) else None) (wanted_named (string_bytes word))

abbrev pub asked_of : Command → Asked
asked_of command = record { wanted = command.wanted; options = command.options.now }

abbrev pub usage_text : List ℕ
usage_text = codes "usage: line_sim run | measure | links [--seed N] [--set KEY=VALUE]..\n"

-- that in no place that was drawn a path leads to every meter, with the place of the table that asks for it, unless options changed the description
abbrev pub apart_text : Option TextPlace → List ℕ
apart_text (Some place) =
    codes "bad description: " ++ place_text place ++ codes ": in 1000 draws of the place no path led to every meter; raise reach\n"
apart_text None = codes "bad description with these options: in 1000 draws of the place no path led to every meter; raise reach\n"

-- # What is written

-- What is written of a run with a script: the script, or counts of the run, of which nothing is said but that they are UTF-8.
abbrev pub IsTextOf : Mode → (script text : List ℕ) → Type 0
IsTextOf modes.Run script text = text ≡ script
IsTextOf modes.Measure script text = IsUtf8 text

-- What was asked for of a run was written. The status says whether an event of the run is forged, and else whether it went on to the end of its time.
pub record WritesRun (mode : Mode) (injects : Bool) (ran : Ran Recorded) (sink0 sink1 : SinkState) (result : Status) : Type 0 where
  pub script : List ℕ
  pub world : World
  pub run : IsRun (not injects) script world
  pub whole : Bool
  pub left : IsLeftBy ran script world whole
  pub text : List ℕ
  pub text_is : IsTextOf mode script text
  pub written : WritesText text (status_of whole world.forged) sink0 sink1 result

-- What became of a run: what was asked for was written of it, or nothing was, since memory ran out in the run or after it.
pub data EndsRun (mode : Mode) (injects : Bool) (ran : Ran Recorded) (sink0 sink1 : SinkState) (result : Status) : Type 0 where
  Written : WritesRun mode injects ran sink0 sink1 result → EndsRun mode injects ran sink0 sink1 result
  NotWritten : result ≡ status.Memory → sink1 ≡ sink0 → EndsRun mode injects ran sink0 sink1 result

-- The simulation of a plan before its run: there is no other.
pub record IsOnlyFirst (plan : Plan) (first : Simulated Recorded) : Type 0 where
  pub is_first : IsFirst plan new_recorder first
  pub only : (other : Simulated Recorded) → IsFirst plan new_recorder other → other ≡ first

-- What became of a plan for which no place was drawn: the line that says so was written, with the place of the table, or there was no memory for it.
pub data SaysApart (place : Option TextPlace) (sink0 sink1 : SinkState) (result : Status) : Type 0 where
  Said : WritesText (apart_text place) status.BadScript sink0 sink1 result → SaysApart place sink0 sink1 result
  Unsaid : result ≡ status.Memory → sink1 ≡ sink0 → SaysApart place sink0 sink1 result

-- What became of a plan: what was asked for was written of the one run of its one simulation, or the line that says why there is none; or nothing was.
pub data Ends (mode : Mode) (injects : Bool) (plan : Plan) (place : Option TextPlace) (sink0 sink1 : SinkState) (result : Status) : Type 0 where
  Simulates : (first : Simulated Recorded) → IsOnlyFirst plan first
      → EndsRun mode injects (whole_run (world_recorder injects) first) sink0 sink1 result → Ends mode injects plan place sink0 sink1 result
  Apart : IsApart plan.seed plan.place plan.place.kind → SaysApart place sink0 sink1 result → Ends mode injects plan place sink0 sink1 result
  OutOfMemory : result ≡ status.Memory → sink1 ≡ sink0 → Ends mode injects plan place sink0 sink1 result

-- What became of a plan: where it describes no attacker, no line of the script injects octets.
abbrev pub EndsPlan : Mode → Plan → Option TextPlace → SinkState → SinkState → Status → Type 0
EndsPlan mode plan place sink0 sink1 result = Ends mode (has_attackers plan.incidents) plan place sink0 sink1 result

-- What became of a plan whose links were asked for: those of the place of its run were written, or the line that says why it has none; or nothing was.
pub data ShowsLinks (plan : Plan) (place : Option TextPlace) (sink0 sink1 : SinkState) (result : Status) : Type 0 where
  Shows : (rows : List (List Link)) → IsPlaceOf plan.seed plan.place plan.place.kind rows
      → WritesText (links_text rows (nodes_of plan.place)) status.Fine sink0 sink1 result → ShowsLinks plan place sink0 sink1 result
  NoPlace : IsApart plan.seed plan.place plan.place.kind → SaysApart place sink0 sink1 result → ShowsLinks plan place sink0 sink1 result
  NoRoom : result ≡ status.Memory → sink1 ≡ sink0 → ShowsLinks plan place sink0 sink1 result

-- What became of a plan, by what was asked for.
abbrev pub EndsWanted : Wanted → Plan → Option TextPlace → SinkState → SinkState → Status → Type 0
EndsWanted (OfRun mode) plan place sink0 sink1 result = EndsPlan mode plan place sink0 sink1 result
EndsWanted Links plan place sink0 sink1 result = ShowsLinks plan place sink0 sink1 result

-- What became of a call that asks for a script, counts or links, with these options.
pub data Runs (wanted : Wanted) (options : List (String Global)) (source0 source1 : SourceState) (sink0 sink1 : SinkState) (result : Status) : Type 0 where
  -- the text that the source gave is a description, and with the options it gives the plan of the line
  Described : (it : Description) → IsDescribed source0 source1 options it → EndsWanted wanted it.plan it.place sink0 sink1 result
      → Runs wanted options source0 source1 sink0 sink1 result
  -- the description or an option is bad, and the line that says what is wrong was written, with the status of a bad description
  Bad : (line : List ℕ) → IsBad source0 source1 options line → WritesText line status.BadScript sink0 sink1 result
      → Runs wanted options source0 source1 sink0 sink1 result
  -- the source failed, and nothing was written
  NotRead : result ≡ status.ReadFault → SourceRose source0 source1 → sink1 ≡ sink0 → Runs wanted options source0 source1 sink0 sink1 result
  -- there was not enough memory, and nothing was written
  NoMemory : result ≡ status.Memory → sink1 ≡ sink0 → Runs wanted options source0 source1 sink0 sink1 result

-- The usage line was written, and nothing was read.
pub record WritesUsage (source0 source1 : SourceState) (sink0 sink1 : SinkState) (result : Status) : Type 0 where
  pub written : WritesText usage_text status.Usage sink0 sink1 result
  pub unread : source1 ≡ source0

-- What became of a call, by what its words ask for: a script, counts or links, or the usage line where they ask for nothing.
abbrev pub Answers : Option Asked → SourceState → SourceState → SinkState → SinkState → Status → Type 0
Answers None source0 source1 sink0 sink1 result = WritesUsage source0 source1 sink0 sink1 result
Answers (Some asked) source0 source1 sink0 sink1 result = Runs asked.wanted asked.options source0 source1 sink0 sink1 result
