-- What becomes of octets that came to a node.
use Rattle.std.specs.Prelude.{◌≡◌, ⊤, ℕ, Bool, slice_set, IfNone, IfSome, false, true, ◌||◌, List, ◌++◌, length, map, Option, Some, None, is_some, Result, Ok}
use Rattle.std.specs.Prelude.{Err, if◌then◌else◌}
use Rattle.std.specs.List.{list_any}
use Rattle.std.specs.Option.{option_map, option_map_or}
use Rattle.plc_base.specs.declared.address.Eui.{Eui}
use Rattle.plc_base.specs.declared.out_frame.Out.{Out}
use Rattle.node_rules.specs.Accepted.{Accepted}
use Rattle.node_rules.specs.declared.heard.Path.{Path}
use Rattle.node_rules.specs.declared.heard.Reply.{Reply}
use Rattle.node_rules.specs.declared.refusal.LocalRefusal.{LocalRefusal}
use Rattle.node_rules.specs.declared.refusal.LocalRefusal.TheVariants as locals
use Rattle.node_rules.specs.declared.refusal.FrameRefusal.{FrameRefusal}
use Rattle.node_rules.specs.Ciphers.{Ciphers, network}
use Rattle.node_rules.specs.Memory.{Node}
use Rattle.node_rules.specs.NodeSteps.{NodeStep, stays}
use Rattle.line_flights.specs.declared.flights.Origin.{Origin}
use Rattle.line_world.specs.declared.nodes.reception.HandedUp.{HandedUp}
use Rattle.line_world.specs.declared.nodes.reception.Reception as receiving
use Rattle.line_world.specs.FurtherOutcomes.{given_after}
use Rattle.line_events.specs.declared.happenings.Handed.{Handed}
use Rattle.line_events.specs.declared.happenings.Happenings.{Happenings}
use Rattle.reach_rules.specs.CheckedReplies.{checks_after}
use Rattle.reach_rules.specs.FurtherReceptions.{NeighbourCommand, command_of}
use Rattle.line_events.specs.declared.event.Event.{Event}
use Rattle.line_events.specs.declared.event.Event.TheVariants as events
use Rattle.line_events.specs.declared.event.Answer.TheVariants as answers
use Rattle.line_rules.specs.Logs.{CommandsAreOctets}
use Rattle.line_rules.specs.Further.{acknowledging, beside_at, checked, commanded, is_dropped, set_beside}
use Rattle.line_rules.specs.Answers.{frame_word, only, Reception}
use Rattle.line_rules.specs.Worlds.{Flight, World, Trace, start, is_forged_tag}
use Rattle.line_rules.specs.Steps.{flight_by, forged_by, happenings, hearing_step, note_by, number_if, number_of, running_world, received, trace_of}

-- a world after its setup: a node that looked at octets may have lost power
abbrev pub in_run : World → World
in_run w = record w { running = true }

-- whether octets are forged that came on this path, and their note, by the flights alone
abbrev pub forged_in : List Flight → List ℕ → Path → Bool
forged_in flights octets path = forged_by (record start { flights = flights }) octets path

abbrev pub note_in : List Flight → List ℕ → Path → ℕ
note_in flights octets path = note_by (record start { flights = flights }) octets path

-- a node has heard octets of this origin
abbrev pub outcome_of_reception : Ciphers → World → ℕ → Origin → NodeStep Reception → World × Trace
outcome_of_reception ciphers w number origin d =
    received ciphers w number (origin.is_forged || list_any (is_forged_tag w.made) d.opened) d

-- a node hears a frame that it accepted, of this origin
abbrev pub outcome_of_hearing : Ciphers → World → ℕ → Node → Accepted → Origin → ℕ → World × Trace
outcome_of_hearing ciphers w number x got origin cost =
    outcome_of_reception ciphers w number origin (hearing_step ciphers x got cost origin.note w.clock)

-- the checks that are left where a node sent this reply
abbrev pub with_check_of : World → ℕ → Option Reply → World
with_check_of w number sent =
    set_beside number (record (beside_at w number) { checks = checks_after (beside_at w number).checks sent w.clock }) w

-- a node hears a frame where neighbours are checked
abbrev pub outcome_of_checked : Ciphers → World → ℕ → Node → Accepted → Origin → ℕ → World × Trace
outcome_of_checked ciphers w number x got origin cost =
    checked ciphers w number got (hearing_step ciphers x got cost origin.note w.clock) (outcome_of_hearing ciphers w number x got origin cost)

-- what a node does about an acknowledgement that is due
abbrev pub acknowledging_if : Node → Option Reply → NodeStep (Result (Unit {0}) LocalRefusal)
acknowledging_if x None = stays x (Ok tt)
acknowledging_if x (Some reply) = acknowledging x reply

-- whether no write failed by it
abbrev pub is_stored : Result (Unit {0}) LocalRefusal → Bool
is_stored (Ok u) = true
is_stored (Err locals.Halted) = false
is_stored (Err locals.NotJoined) = true
is_stored (Err locals.CounterSpent) = true
is_stored (Err locals.Store) = false

-- An acknowledgement went out after what was given out before, if one was due. Where its put failed nothing is left of either.
pub record Acknowledges (w : World) (number : ℕ) (x : Node) (due : Option Reply) (before : Out) (done : Bool) (out : Out) (new : World)
    : Type 0 where
  pub world_is : new ≡ record w { nodes = slice_set w.nodes number (acknowledging_if x due).node }
  pub done_is : done ≡ option_map_or (λ _. is_some (acknowledging_if x due).node.memory) due true
  pub out_is : IfSome due (λ _. out ≡ given_after before (acknowledging_if x due))
  pub kept : IfNone due (out ≡ before)

-- by the command that the frame carries, if it carries one
abbrev pub outcome_of_command : Ciphers → World → ℕ → Node → Accepted → Origin → ℕ → Option NeighbourCommand → World × Trace
outcome_of_command ciphers w number x got origin cost (Some c) =
    commanded ciphers number (hearing_step ciphers x got cost origin.note w.clock).node c (outcome_of_hearing ciphers w number x got origin cost)
outcome_of_command ciphers w number x got origin cost None =
    if w.checks_on then outcome_of_checked ciphers w number x got origin cost
    else outcome_of_hearing ciphers w number x got origin cost

-- the request of a listed neighbour was dropped
abbrev pub outcome_of_unbelieved : Ciphers → World → ℕ → Node → Origin → World × Trace
outcome_of_unbelieved ciphers w number x origin = outcome_of_reception ciphers w number origin (stays x (only answers.Blacklisted))

-- a node with further reach hears a frame that it accepted, of this origin
abbrev pub outcome_of_further : Ciphers → World → ℕ → Node → Accepted → Origin → ℕ → World × Trace
outcome_of_further ciphers w number x got origin cost =
    if is_dropped w number got then outcome_of_unbelieved ciphers w number x origin
    else outcome_of_command ciphers w number x got origin cost (command_of got)

-- a node has looked at octets of this origin
abbrev pub outcome_of_arrival : Ciphers → World → ℕ → Node → Result Accepted FrameRefusal → Origin → ℕ → World × Trace
outcome_of_arrival ciphers w number x (Ok got) origin cost = outcome_of_further ciphers w number x got origin cost
outcome_of_arrival ciphers w number x (Err reason) origin cost = (running_world w, trace_of (happenings w (frame_word reason)))

-- a datagram that was handed up
abbrev pub handed_in : ℕ → Option HandedUp → Option Handed
handed_in number up = option_map (λ (u : HandedUp). record { node = number; note = u.note; octets = u.octets }) up

-- the node, where it took a grant
abbrev pub taker_in : ℕ → Bool → Option ℕ
taker_in number took = if took then Some number else None

-- the number of the meter whose joining is done
abbrev pub done_in : World → Option Eui → Option ℕ
done_in w done = option_map (λ (eui : Eui). number_of w eui) done

-- what is left of a frame that a node heard, by what the node answered and gave out
abbrev pub left_of : World → ℕ → Out → Bool → receiving.Reception → World
left_of w number out forged reported = record (running_world w) {
  flights = w.flights ++ map (flight_by number) out.frames;
  made = w.made ++ out.tags.made;
  ups = number_if (is_some reported.up) w.ups;
  forged = number_if forged w.forged;
  done = number_if (is_some reported.done) w.done;
}

-- what is said of it
abbrev pub reception_happenings : World → ℕ → Out → Bool → receiving.Reception → Happenings
reception_happenings w number out forged reported = record (happenings w reported.answer) {
  forged = forged;
  up = handed_in number reported.up;
  took = taker_in number reported.took;
  done = done_in w reported.done;
  flights = length out.frames;
}

-- a command that an event brings to a node is octets
abbrev pub BringsOctets : World → Event → Type 0
BringsOctets w (events.Deliver flight node cost) = CommandsAreOctets network w (events.Deliver flight node cost)
BringsOctets w (events.Inject node cost octets) = CommandsAreOctets network w (events.Inject node cost octets)
BringsOctets w _ = ⊤
