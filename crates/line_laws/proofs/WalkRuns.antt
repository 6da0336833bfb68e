-- A walk that is reported was taken: each ask that flies has walked what it says, in its order, and so has each tell.
use Rattle.std.proofs.Common.{◌≡◌, ◌≢◌, ℕ, ◌+◌, Bool, true, false, List, [], ◌∷◌, ◌++◌, length, Option, Some, None, Result, Ok, Err}
use Rattle.std.proofs.Common.{refl, sym, ap, ◌∙◌, subst, arith}
use Rattle.std.specs.Prelude.{◌==◌, ◌||◌, All, IfSome, IfOk, if◌then◌else◌, is_some, nat_lt, position}
use Rattle.std.specs.Option.{option_map_or, option_and_then}
use Rattle.std.proofs.lemmas.Bool.{eq-eqb, eqb-true, lt-ltb, or_parts}
use Rattle.std.proofs.lemmas.Option.{same_Some}
use Rattle.std.proofs.lemmas.List.{append-nil, append_assoc}
use Rattle.std.proofs.lemmas.List.Elements.{All-nil, All-cons, All-head, All-tail, All-append, All-weaker}
use Rattle.plc_base.specs.Addresses.{IsAddress}
use Rattle.plc_base.specs.Fields.{AreOctets}
use Rattle.mesh_header.specs.declared.unit.Unit.{Unit as MeshUnit}
use Rattle.mesh_header.specs.declared.unit.Unit.TheVariants as units
use Rattle.broadcast_log.specs.declared.broadcast.Broadcast.{Broadcast}
use Rattle.broadcast_log.specs.Grammar.{spelling}
use Rattle.broadcast_log.specs.Reader.{broadcast_in}
use Rattle.neighbour_checks.specs.Acks.{ack_in, ack_spelling}
use Rattle.neighbour_checks.specs.Neighbours.{is_awaited}
use Rattle.path_requests.specs.declared.message.PathMessage.{PathMessage}
use Rattle.path_requests.specs.declared.message.PathMessage.TheVariants.{Ask, Tell}
use Rattle.path_requests.specs.declared.step.PathStep.{PathStep}
use Rattle.path_requests.specs.declared.step.PathStep.TheVariants.{Forward, Answer as Answers, Done}
use Rattle.path_requests.specs.declared.step.PathRefusal.{PathRefusal}
use Rattle.path_requests.specs.declared.step.PathRefusal.TheVariants as path_faults
use Rattle.path_requests.specs.Messages.{IsPath, path_spelling}
use Rattle.path_requests.specs.Reader.{path_in}
use Rattle.path_requests.specs.PathSteps.{IsStep as IsPathStep, ask_led, hop, taken as led, tell_taken}
use Rattle.path_requests.specs.Walks.{ends_with, has, has_at}
use Rattle.path_requests.proofs.Readings.{paths_read, paths_spelled}
use Rattle.path_requests.proofs.Steps.{taken_fits}
use Rattle.node_rules.specs.Accepted.{Accepted}
use Rattle.node_rules.specs.declared.heard.Reply.{Reply}
use Rattle.node_rules.specs.declared.refusal.Dropped.TheVariants as drops
use Rattle.node_rules.specs.declared.refusal.LocalRefusal.{LocalRefusal}
use Rattle.node_rules.specs.declared.refusal.LocalRefusal.TheVariants as locals
use Rattle.node_rules.specs.Ciphers.{network}
use Rattle.node_rules.specs.Drafts.{Draft, choose as choose_plan, checked as checked_plan, alone, counters_left, empty_draft, goes, refused, sealed, sealed_by}
use Rattle.node_rules.specs.Drafts.{sealing}
use Rattle.node_rules.specs.Frames.{Sent, to_all}
use Rattle.node_rules.specs.Memory.{Memory, Node, address_of, node_address, node_route, station_route}
use Rattle.node_rules.specs.MemoryDrafts.{in_memory, with_station}
use Rattle.node_rules.specs.Meters as meters
use Rattle.node_rules.specs.Neighbours.{local_draft, local_ends}
use Rattle.node_rules.specs.NodeSteps.{NodeStep, acts, answering, of_station, stays}
use Rattle.node_rules.specs.Calls as calls
use Rattle.node_rules.specs.declared.refusal.SendRefusal.TheVariants as sends_of
use Rattle.node_rules.specs.Plans.{Plan, resting, within}
use Rattle.node_rules.specs.Replies.{reply_among}
use Rattle.reach_rules.specs.declared.heard.CommandHeard.{CommandHeard}
use Rattle.reach_rules.specs.declared.heard.CommandHeard.TheVariants as heard_of
use Rattle.reach_rules.specs.declared.refusal.AskRefusal.{AskRefusal}
use Rattle.reach_rules.specs.declared.refusal.AskRefusal.TheVariants as ask_faults
use Rattle.reach_rules.specs.declared.refusal.BroadcastRefusal.{BroadcastRefusal}
use Rattle.reach_rules.specs.declared.refusal.BroadcastRefusal.TheVariants as broadcast_faults
use Rattle.reach_rules.specs.declared.refusal.ChooseRefusal.{ChooseRefusal}
use Rattle.reach_rules.specs.declared.refusal.ChooseRefusal.TheVariants as choices
use Rattle.reach_rules.specs.declared.refusal.ReachDropped.{ReachDropped}
use Rattle.reach_rules.specs.declared.refusal.ReachDropped.TheVariants as reach_drops
use Rattle.reach_rules.specs.Beacons.{ChosenAgent, Discovering, begin_scan, choose_agent, choosing_ends, hear_discovery, joins_by}
use Rattle.pan_discovery.specs.Reader.{discovery_in}
use Rattle.pan_discovery.specs.declared.message.Discovery.{Discovery}
use Rattle.pan_discovery.specs.Agents.{kth_of}
use Rattle.reach_rules.specs.Broadcasts.{admits_broadcast, broadcast, broadcast_ends, broadcast_fault, broadcast_from, datagram_fault, goes_further}
use Rattle.reach_rules.specs.Broadcasts.{hear_broadcast_in, hop_less, own_broadcast, with_broadcast_mark, with_broadcast_number}
use Rattle.reach_rules.specs.CheckedReplies.{acknowledges, hear_acknowledgement_in, message_of}
use Rattle.reach_rules.specs.PathRequests.{ask_ends, ask_path, asks_by as asks_over, asks_from, follows_path, hear_path_in, path_word}
use Rattle.reach_rules.specs.ReachingNodes.{Beside, Reaching, drop_it, in_reach, reach_ends, adds_local}
use Rattle.reach_rules.specs.FurtherReceptions.{NeighbourCommand, command_of, hear_command, hear_command_at}
use Rattle.line_events.specs.declared.event.Answer.{Answer}
use Rattle.line_events.specs.declared.event.Answer.TheVariants as answers
use Rattle.line_events.specs.declared.event.Event.{Event}
use Rattle.line_events.specs.declared.happenings.PathLine.{PathLine}
use Rattle.line_rules.specs.Answers.{discovery_word, only, scan_word, sent_word}
use Rattle.line_events.specs.Events.{AreEvents, IsEvent}
use Rattle.line_rules.specs.Further.{acknowledged_if, acknowledging, adds_frames, asked, beacon_taken, beside_at, checked, commanded, discovery_flights, due}
use Rattle.line_rules.specs.Further.{goes_toward, has_discovered, line_step, path_line, reaches, scanning, sends_nothing, step_by, with_beside, with_check}
use Rattle.line_rules.specs.FurtherRuns.{AreWalked, AreWalkedAfter, Nothing, Passes, StandIn, Takes, WasWalked, last_of, steps_taken, steps_toward}
use Rattle.line_rules.specs.Logs.{LogsKept}
use Rattle.line_rules.specs.Runs.{Entry, IsRun, events_of, one_of}
use Rattle.line_rules.specs.Steps.{Step, node_outcome, forged_by, hearing_outcome, identity, is_taken, running_world, restarts, sent_if, tag_of, world_after}
use Rattle.line_rules.specs.Worlds.{Flight, Noticed, Stepping, Trace, World, node_at, start}
use Rattle.line_laws.specs.FurtherLines.{HoldsAfter}
use Rattle.line_laws.specs.Lines.{NodeOk, WorldOk}
use Rattle.line_laws.specs.Reach.{HoldsAlong, IsHeard, IsInRange}
use Rattle.line_laws.proofs.CommandsCome.{CommandCame, address_stays, command_came, command_says}
use Rattle.line_laws.proofs.FlightFolds.{address_low, came_octets}
use Rattle.line_laws.proofs.FlightsSay.{FlightSays, FrameSays, discovery_says, heard_says, old_flights, after_as_before, after_says, after_silently}
use Rattle.line_laws.proofs.FurtherLogs.{commands_fit}
use Rattle.line_laws.proofs.FurtherOctets.{line_speaks, octets_speak, Octets, Spelled}
use Rattle.line_laws.proofs.FurtherStepKinds.{line_step_is}
use Rattle.line_laws.proofs.LetterAccepts.{to_of}
use Rattle.line_laws.proofs.OctetRuns.{SpeaksIn, WorldSpeaks, start_speaks}
use Rattle.line_laws.proofs.OldUnits.{IsOldFrame, IsOldUnit, joins_old}
use Rattle.line_laws.proofs.StorableGrants.{network_ranges}
use Rattle.line_laws.proofs.ReachSteps.{Asks, Bcasts, Checked, Chooses, Commands, Discovers, Fails, Hears, IsAccepted, IsReachStep, Known, Opens, Restarts}
use Rattle.line_laws.proofs.ReachSteps.{Rests, Scans, Ticks, Unbelieves, after_accepting, heard_node, reach_step_is}
use Rattle.line_laws.proofs.EveryRun.{start_ok}
use Rattle.line_laws.proofs.SendsSay.{Both, acts_by, none_sealed, one_sealed, refused_by, sealed_by_plan}
use Rattle.line_laws.proofs.StepKinds as old
use Rattle.line_laws.proofs.Worlds.{at_place}

-- # Steps that stand in a list

last_in : (all : List Stepping) (one : Stepping) → StandIn (one ∷ []) (all ++ one ∷ [])
last_in [] one = Takes one [] [] (Nothing [])
last_in (a ∷ all) one = Passes a (one ∷ []) (all ++ one ∷ []) (last_in all one)

stand_more : (some all : List Stepping) (one : Stepping) → StandIn some all → StandIn (some ++ one ∷ []) (all ++ one ∷ [])
stand_more some all one (Nothing xs) = last_in xs one
stand_more some all one (Takes a some_rest rest h) = Takes a (some_rest ++ one ∷ []) (rest ++ one ∷ []) (stand_more some_rest rest one h)
stand_more some all one (Passes a some_rest rest h) = Passes a (some_rest ++ one ∷ []) (rest ++ one ∷ []) (stand_more some_rest rest one h)

stand_wider : (some all more : List Stepping) → StandIn some all → StandIn some (all ++ more)
stand_wider some all more (Nothing xs) = Nothing (xs ++ more)
stand_wider some all more (Takes a some_rest rest h) = Takes a some_rest (rest ++ more) (stand_wider some_rest rest more h)
stand_wider some all more (Passes a some_rest rest h) = Passes a some_rest (rest ++ more) (stand_wider some_rest rest more h)

walked_wider : (walk : List ℕ) (all more : List Stepping) → WasWalked walk all → WasWalked walk (all ++ more)
walked_wider [] all more h = absurd h
walked_wider (a ∷ rest) all more h = stand_wider (steps_toward (last_of a rest) (a ∷ rest)) all more h

-- the step that comes last
steps_more : (target : ℕ) (walk : List ℕ) (own to : ℕ) → steps_toward target ((walk ++ own ∷ []) ++ to ∷ []) ≡ steps_toward target (walk ++ own ∷ []) ++ record
    { from = own; to = to; target = target } ∷ []
steps_more target [] own to = refl
steps_more target (a ∷ []) own to = refl
steps_more target (a ∷ b ∷ rest) own to = ap (λ xs. record { from = a; to = b; target = target } ∷ xs) (steps_more target (b ∷ rest) own to)

last_more : (a : ℕ) (rest : List ℕ) (own : ℕ) → last_of a (rest ++ own ∷ []) ≡ own
last_more a [] own = refl
last_more a (b ∷ rest) own = last_more b rest own

-- a walk that has come to its target
walked_to : (walk : List ℕ) (own : ℕ) (all : List Stepping) → StandIn (steps_toward own (walk ++ own ∷ [])) all → WasWalked (walk ++ own ∷ []) all
walked_to [] own all h = h
walked_to (a ∷ rest) own all h = subst (λ t. StandIn (steps_toward t (a ∷ rest ++ own ∷ [])) all) (sym (last_more a rest own)) h

-- # What a path message has walked

abbrev MessageWalks : List Stepping → ℕ → PathMessage → Type 0
MessageWalks walked to (Ask target walk) = StandIn (steps_toward target (walk ++ to ∷ [])) walked
MessageWalks walked to (Tell walk) = WasWalked walk walked

abbrev UnitWalks : List Stepping → ℕ → MeshUnit → Type 0
UnitWalks walked to (units.Local code body) = code ≡ 5 → (message : PathMessage) → path_in body ≡ Some message → MessageWalks walked to message
UnitWalks walked to (units.Whole mesh octets) = Unit {0}
UnitWalks walked to (units.Part mesh piece) = Unit {0}
UnitWalks walked to (units.Carried mesh body) = Unit {0}

old_walks : (walked : List Stepping) (to : ℕ) (u : MeshUnit) → IsOldUnit u → UnitWalks walked to u
old_walks walked to (units.Local code body) h = λ five. absurd (cc (h, five))
old_walks walked to (units.Whole mesh octets) h = tt
old_walks walked to (units.Part mesh piece) h = tt
old_walks walked to (units.Carried mesh body) h = tt

message_wider : (walked more : List Stepping) (to : ℕ) (message : PathMessage) → MessageWalks walked to message → MessageWalks (walked ++ more) to message
message_wider walked more to (Ask target walk) h = stand_wider (steps_toward target (walk ++ to ∷ [])) walked more h
message_wider walked more to (Tell walk) h = walked_wider walk walked more h

unit_wider : (walked more : List Stepping) (to : ℕ) (u : MeshUnit) → UnitWalks walked to u → UnitWalks (walked ++ more) to u
unit_wider walked more to (units.Local code body) h = λ five message read. message_wider walked more to message (h five message read)
unit_wider walked more to (units.Whole mesh octets) h = tt
unit_wider walked more to (units.Part mesh piece) h = tt
unit_wider walked more to (units.Carried mesh body) h = tt

flight_wider : (walked more : List Stepping) (f : Flight) → FlightSays (UnitWalks walked) f → FlightSays (UnitWalks (walked ++ more)) f
flight_wider walked more f h = record { says = λ key a payload u k is opened read. unit_wider walked more _ u (h.says key a payload u k is opened read) }

wider : (walked more : List Stepping) (fs : List Flight) → All (FlightSays (UnitWalks walked)) fs → All (FlightSays (UnitWalks (walked ++ more))) fs
wider walked more fs h = All-weaker (FlightSays (UnitWalks walked)) (FlightSays (UnitWalks (walked ++ more))) (flight_wider walked more) fs h

-- a command of another code
other_walks : (walked : List Stepping) (to code : ℕ) (body : List ℕ) → code ≢ 5 → UnitWalks walked to (units.Local code body)
other_walks walked to code body ne = λ five. absurd (ne five)

-- what is spelled is what is read
spelled_walks : (walked : List Stepping) (to : ℕ) (message : PathMessage) → IsPath message → MessageWalks walked to message
    → UnitWalks walked to (units.Local 5 (path_spelling message))
spelled_walks walked to message fits h = λ five other read. subst (MessageWalks walked to)
    (same_Some message other (sym (paths_read message (path_spelling message) (fits, refl)) ∙ read)) h

-- # Plans

-- what was reported was walked, and so has what flies
abbrev WalksBy : List Stepping → Option Stepping → Option PathLine → List Sent → Type 0
WalksBy walked stepping line sent = IfSome line (λ (t : PathLine). WasWalked t.walk walked) × All (FrameSays (UnitWalks (walked ++ one_of stepping))) sent

module _ (walked : List Stepping) where
  still : WalksBy walked None None []
  still = (tt, All-nil (FrameSays (UnitWalks (walked ++ []))))

  -- # An ask

  module _ (x : Node) (b : Beside) (m : Memory) (here : x.memory ≡ Some m) (target : ℕ) (low : IsAddress target) where
    abbrev y : Reaching Memory
    y = record { memory = m; beside = b }

    abbrev AskBy : Result (Unit {0}) AskRefusal → List Sent → Type 0
    AskBy answer sent = WalksBy walked (asked x target answer) None sent

    fails : (e : AskRefusal) → AskBy (Err e) []
    fails e = still

    abbrev IsAsked : Plan (Reaching Memory) (Result (Unit {0}) AskRefusal) → Type 0
    IsAsked p = Both AskBy p.answer p.failed p.frames

    one_step : (own to : ℕ) → address_of m.station ≡ Some own → station_route m.station target ≡ Some to
        → asked x target (Ok tt) ≡ Some (record { from = own; to = to; target = target })
    one_step own to address route =
        let at : node_address x ≡ Some own = ap (option_and_then (λ (n : Memory). address_of n.station)) here ∙ address in
        let way : node_route x target ≡ Some to = ap (option_and_then (λ (n : Memory). station_route n.station target)) here ∙ route in
        rw (at, way) refl

    not_both : (t : Bool) → t ≡ true → t ≡ false → ⊥
    not_both t e f = cc (e, f)

    not_in : (own : ℕ) → (target == own) ≡ false → has target (own ∷ []) ≡ false
    not_in own other = by_test (own == target) refl
      where
        by_test : (t : Bool) → (own == target) ≡ t → (t || false) ≡ false
        by_test true e = absurd (not_both (target == own) (eq-eqb target own (sym (eqb-true own target e))) other)
        by_test false e = refl

    first_fits : (own : ℕ) → IsAddress own → (target == own) ≡ false → IsPath (Ask target (own ∷ []))
    first_fits own fits other = (low, omega arith, omega arith, rw (lt-ltb own 0xFFFE fits) refl, not_in own other)

    asks_walk : (own : ℕ) → IsAddress own → address_of m.station ≡ Some own → (target == own) ≡ false → (o : Option ℕ) → station_route m.station target ≡ o
        → IsAsked (asks_over in_memory y own target o)
    unfolding adds_local empty_draft
    asks_walk own fits address other None route = refused_by AskBy fails ask_ends y ask_faults.NoRoute
    asks_walk own fits address other (Some to) route =
        let step : Stepping = record { from = own; to = to; target = target } in
        let is : asked x target (Ok tt) ≡ Some step = one_step own to address route in
        sealed_by_plan AskBy fails ask_ends y (adds_local to 5 (path_spelling (Ask target (own ∷ []))) (empty_draft y)) tt (
          tt,
          subst (λ o. All (FrameSays (UnitWalks (walked ++ one_of o)))
              (sealed_by m.station.ring m.station.counter.next (record { to = to; unit = units.Local 5 (path_spelling (Ask target (own ∷ []))); note = 0 } ∷
              []))) (sym is)
              (one_sealed (UnitWalks (walked ++ step ∷ [])) m.station.ring m.station.counter.next to (units.Local 5 (path_spelling (Ask target (own ∷ [])))) 0
              (spelled_walks (walked ++ step ∷ []) to (Ask target (own ∷ [])) (first_fits own fits other) (last_in walked step))),
        )

    chosen : (t : Bool) (p q : Plan (Reaching Memory) (Result (Unit {0}) AskRefusal)) → (t ≡ true → IsAsked p) → (t ≡ false → IsAsked q)
        → IsAsked (choose_plan t p q)
    unfolding choose_plan
    chosen true p q f g = f refl
    chosen false p q f g = g refl

    ask_walks : ((own : ℕ) → address_of m.station ≡ Some own → IsAddress own) → IsAsked (ask_path in_memory y target)
    ask_walks fits = by_address (address_of m.station) refl
      where
        by_address : (o : Option ℕ) → address_of m.station ≡ o → IsAsked
            (option_map_or (λ own. asks_from in_memory y own target) o (refused ask_ends y ask_faults.NotJoined))
        by_address None e = refused_by AskBy fails ask_ends y ask_faults.NotJoined
        by_address (Some own) e =
            chosen (target == own) (refused ask_ends y ask_faults.ToSelf) (asks_over in_memory y own target (station_route m.station target))
            (λ self. refused_by AskBy fails ask_ends y ask_faults.ToSelf)
            (λ other. asks_walk own (fits own e) e other (station_route m.station target) refl)

-- # What becomes of a message

-- An ask goes on.
record GoesOn (own target : ℕ) (walk : List ℕ) (next : Option ℕ) (to : ℕ) (more : PathMessage) : Type 0 where
  message : more ≡ Ask target (walk ++ own ∷ [])
  route : next ≡ Some to

-- An ask is answered.
record IsAnswered (own target : ℕ) (walk : List ℕ) (more : PathMessage) : Type 0 where
  message : more ≡ Tell (walk ++ own ∷ [])
  target_is : target ≡ own

abbrev AskLeads : ℕ → ℕ → List ℕ → Option ℕ → Result PathStep PathRefusal → Type 0
AskLeads own target walk next (Ok (Forward to more)) = GoesOn own target walk next to more
AskLeads own target walk next (Ok (Answers to more)) = IsAnswered own target walk more
AskLeads own target walk next (Ok (Done w)) = ⊥
AskLeads own target walk next (Err reason) = Unit {0}

ask_leads : (own from : ℕ) (next : Option ℕ) (target : ℕ) (walk : List ℕ) → AskLeads own target walk next (led own from next (Ask target walk))
ask_leads own from next target walk = by_end (ends_with from walk)
  where
    by_hop : (o : Option ℕ) → ((to : ℕ) → o ≡ Some to → (target == own) ≡ false → next ≡ Some to) → AskLeads own target walk next (ask_led own target walk o)
    by_hop None f = tt
    by_hop (Some to) f = by_tests (has own walk) (target == own) (length walk == 15) refl
      where
        by_tests : (s t u : Bool) → (target == own) ≡ t → AskLeads own target walk next
            (if s then Err path_faults.Revisited else (if t then Ok (Answers to (Tell (walk ++ own ∷ []))) else
            (if u then Err path_faults.PathLong else Ok (Forward to (Ask target (walk ++ own ∷ []))))))
        by_tests true t u e = tt
        by_tests false true u e = record { message = refl; target_is = eqb-true target own e }
        by_tests false false true e = tt
        by_tests false false false e = record { message = refl; route = f to refl e }

    hop_next : (to : ℕ) → hop own from next target ≡ Some to → (target == own) ≡ false → next ≡ Some to
    hop_next to is other = by_test (target == own) other is
      where
        by_test : (t : Bool) → t ≡ false → (if t then Some from else next) ≡ Some to → next ≡ Some to
        by_test true e f = absurd (cc (e))
        by_test false e f = f

    by_end : (t : Bool) → AskLeads own target walk next (if t then ask_led own target walk (hop own from next target) else Err path_faults.BadUnit)
    by_end true = by_hop (hop own from next target) hop_next
    by_end false = tt

abbrev TellLeads : List ℕ → Result PathStep PathRefusal → Type 0
TellLeads walk (Ok (Forward to more)) = more ≡ Tell walk
TellLeads walk (Ok (Answers to more)) = ⊥
TellLeads walk (Ok (Done w)) = w ≡ walk
TellLeads walk (Err reason) = Unit {0}

tell_leads : (own from : ℕ) (next : Option ℕ) (walk : List ℕ) → TellLeads walk (led own from next (Tell walk))
tell_leads own from next walk = by_place (position (λ a. a == own) walk)
  where
    by_tests : (s t : Bool) (to : ℕ) → TellLeads walk (if s then Ok (if t then Done walk else Forward to (Tell walk)) else Err path_faults.BadUnit)
    by_tests true true to = refl
    by_tests true false to = refl
    by_tests false t to = tt

    by_place : (o : Option ℕ) → TellLeads walk (tell_taken from walk o)
    by_place None = tt
    by_place (Some place) = by_tests (has_at (place + 1) from walk) (place == 0) _

-- # A command

abbrev HeardBy : List Stepping → ℕ → Node → NeighbourCommand → Result CommandHeard ReachDropped → List Sent → Type 0
HeardBy walked number x c answer sent = WalksBy walked (step_by x c answer) (path_line number answer) sent

module _ (walked : List Stepping) (number : ℕ) (x : Node) (b : Beside) (m : Memory) (here : x.memory ≡ Some m) (c : NeighbourCommand) where
  abbrev z : Reaching Memory
  z = record { memory = m; beside = b }

  abbrev IsDone : Plan (Reaching Memory) (Result CommandHeard ReachDropped) → Type 0
  IsDone p = Both (HeardBy walked number x c) p.answer p.failed p.frames

  drops_walk : (e : ReachDropped) → HeardBy walked number x c (Err e) []
  drops_walk e = still walked

  dropped : (reason : ReachDropped) → IsDone (drop_it z reason)
  dropped reason = refused_by (HeardBy walked number x c) drops_walk reach_ends z reason

  chosen_done : (t : Bool) (p q : Plan (Reaching Memory) (Result CommandHeard ReachDropped)) → (t ≡ true → IsDone p) → (t ≡ false → IsDone q)
      → IsDone (choose_plan t p q)
  unfolding choose_plan
  chosen_done true p q f g = f refl
  chosen_done false p q f g = g refl

  either : (t : Bool) (p q : Plan (Reaching Memory) (Result CommandHeard ReachDropped)) → IsDone p → IsDone q → IsDone (choose_plan t p q)
  either t p q f g = chosen_done t p q (λ e. f) (λ e. g)

  ack_walks : (o : Option (ℕ × ℕ)) → IsDone (hear_acknowledgement_in z c.from o)
  unfolding resting
  ack_walks None = dropped (reach_drops.Known drops.BadUnit)
  ack_walks (Some (count, origin)) = either (is_awaited b.checks c.from count origin) _ _ (record { whole = still walked; cut = still walked })
      (dropped reach_drops.NotAwaited)

  admits_walk : (d : Broadcast) → IsDone (admits_broadcast in_memory z d)
  unfolding goes_further with_broadcast_mark adds_local empty_draft
  admits_walk d = by_hops (nat_lt d.hops 2)
    where
      marked : Draft (Reaching Memory)
      marked = with_broadcast_mark d.origin d.number (empty_draft z)

      by_hops : (t : Bool) → IsDone (sealed (in_reach in_memory) reach_ends z (if t then marked else adds_local to_all 4 (spelling (hop_less d)) marked)
          (heard_of.Broadcast d.origin d.number d.octets))
      by_hops true = sealed_by_plan (HeardBy walked number x c) drops_walk reach_ends z marked (heard_of.Broadcast d.origin d.number d.octets)
          (tt, none_sealed (UnitWalks (walked ++ [])) m.station.ring m.station.counter.next)
      by_hops false = sealed_by_plan (HeardBy walked number x c) drops_walk reach_ends z (adds_local to_all 4 (spelling (hop_less d)) marked)
          (heard_of.Broadcast d.origin d.number d.octets) (
            tt,
            one_sealed (UnitWalks (walked ++ [])) m.station.ring m.station.counter.next to_all (units.Local 4 (spelling (hop_less d))) 0
                (other_walks (walked ++ []) to_all 4 (spelling (hop_less d)) (λ e. cc (e))),
          )

  broadcast_walks : (own : ℕ) (o : Option Broadcast) → IsDone (hear_broadcast_in in_memory z own o)
  unfolding checked_plan
  broadcast_walks own None = dropped (reach_drops.Known drops.BadUnit)
  broadcast_walks own (Some d) = by_fault (broadcast_fault own b.log d)
    where
      by_fault : (o : Option ReachDropped) → IsDone (checked_plan reach_ends z o (admits_broadcast in_memory z d))
      by_fault (Some reason) = dropped reason
      by_fault None = admits_walk d

  module _ (own : ℕ) (address : address_of m.station ≡ Some own) (low : IsAddress own) where
    -- what is sent on has walked, with the step that it takes
    sends : (to : ℕ) (more : PathMessage) (word : CommandHeard) (stepping : Option Stepping) → step_by x c (Ok word) ≡ stepping
        → path_line number (Ok word) ≡ None → IsPath more → MessageWalks (walked ++ one_of stepping) to more
        → IsDone (sealed (in_reach in_memory) reach_ends z (adds_local to 5 (path_spelling more) (empty_draft z)) word)
    unfolding adds_local empty_draft
    sends to more word stepping step silent fits h =
        sealed_by_plan (HeardBy walked number x c) drops_walk reach_ends z (adds_local to 5 (path_spelling more) (empty_draft z)) word (
          rw silent tt,
          subst (λ o. All (FrameSays (UnitWalks (walked ++ one_of o)))
              (sealed_by m.station.ring m.station.counter.next (record { to = to; unit = units.Local 5 (path_spelling more); note = 0 } ∷ []))) (sym step)
              (one_sealed (UnitWalks (walked ++ one_of stepping)) m.station.ring m.station.counter.next to (units.Local 5 (path_spelling more)) 0
              (spelled_walks (walked ++ one_of stepping) to more fits h)),
        )

    ask_step : (target : ℕ) (walk : List ℕ) (to : ℕ) → path_in c.body ≡ Some (Ask target walk) → station_route m.station target ≡ Some to
        → step_by x c (Ok heard_of.Relayed) ≡ Some (record { from = own; to = to; target = target })
    ask_step target walk to read route =
        let at : node_address x ≡ Some own = ap (option_and_then (λ (n : Memory). address_of n.station)) here ∙ address in
        let way : node_route x target ≡ Some to = ap (option_and_then (λ (n : Memory). station_route n.station target)) here ∙ route in
        ap (goes_toward x) read ∙ rw (at, way) refl

    ask_follows : (target : ℕ) (walk : List ℕ) → path_in c.body ≡ Some (Ask target walk) → MessageWalks walked own (Ask target walk)
        → (o : Result PathStep PathRefusal) → AskLeads own target walk (station_route m.station target) o → IfOk o IsPathStep
        → IsDone (follows_path in_memory z o)
    ask_follows target walk read h (Err reason) leads fits = dropped (path_word reason)
    ask_follows target walk read h (Ok (Forward to more)) leads fits =
        let step : Stepping = record { from = own; to = to; target = target } in
        sends to more heard_of.Relayed (Some step) (ask_step target walk to read leads.route) refl fits
        (subst (MessageWalks (walked ++ step ∷ []) to) (sym leads.message)
        (subst (λ xs. StandIn xs (walked ++ step ∷ [])) (sym (steps_more target walk own to))
        (stand_more (steps_toward target (walk ++ own ∷ [])) walked step h)))
    ask_follows target walk read h (Ok (Answers to more)) leads fits =
        sends to more heard_of.Answered None refl refl fits
        (subst (MessageWalks (walked ++ []) to) (sym leads.message)
        (walked_wider (walk ++ own ∷ []) walked [] (walked_to walk own walked
        (subst (λ t. StandIn (steps_toward t (walk ++ own ∷ [])) walked) leads.target_is h))))
    ask_follows target walk read h (Ok (Done w)) leads fits = absurd leads

    tell_follows : (walk : List ℕ) → path_in c.body ≡ Some (Tell walk) → WasWalked walk walked → (o : Result PathStep PathRefusal) → TellLeads walk o
        → IfOk o IsPathStep → IsDone (follows_path in_memory z o)
    unfolding resting
    tell_follows walk read h (Err reason) leads fits = dropped (path_word reason)
    tell_follows walk read h (Ok (Forward to more)) leads fits =
        sends to more heard_of.Relayed None (ap (goes_toward x) read) refl fits
        (subst (MessageWalks (walked ++ []) to) (sym leads) (walked_wider walk walked [] h))
    tell_follows walk read h (Ok (Answers to more)) leads fits = absurd leads
    tell_follows walk read h (Ok (Done w)) leads fits = record {
      whole =
          (subst (λ v. WasWalked v walked) (sym leads) h, All-nil (FrameSays (UnitWalks (walked ++ []))));
      cut = still walked;
    }

    path_walks : (o : Option PathMessage) → path_in c.body ≡ o → ((message : PathMessage) → o ≡ Some message → IsPath message × MessageWalks walked own message)
        → IsDone (hear_path_in in_memory z own c.from o)
    path_walks None read h = dropped (reach_drops.Known drops.BadUnit)
    path_walks (Some (Ask target walk)) read h =
        let k = h (Ask target walk) refl in
        ask_follows target walk read k.1 (led own c.from (station_route m.station target) (Ask target walk))
        (ask_leads own c.from (station_route m.station target) target walk)
        (taken_fits own c.from (station_route m.station target) (Ask target walk) low k.0)
    path_walks (Some (Tell walk)) read h =
        let k = h (Tell walk) refl in
        tell_follows walk read k.1 (led own c.from None (Tell walk)) (tell_leads own c.from None walk) (taken_fits own c.from None (Tell walk) low k.0)

  command_walks : ((own : ℕ) → address_of m.station ≡ Some own → IsAddress own)
      → ((own : ℕ) → address_of m.station ≡ Some own → c.code ≡ 5 → c.to_all ≡ false → (message : PathMessage) → path_in c.body ≡ Some message
      → IsPath message × MessageWalks walked own message)
      → IsDone (hear_command in_memory z c)
  command_walks low comes = by_address (address_of m.station) refl
    where
      bad : IsDone (drop_it z (reach_drops.Known drops.BadUnit))
      bad = dropped (reach_drops.Known drops.BadUnit)

      by_address : (o : Option ℕ) → address_of m.station ≡ o → IsDone (option_map_or (λ own. hear_command_at in_memory z own c) o
          (drop_it z (reach_drops.Known drops.BadUnit)))
      by_address None e = bad
      by_address (Some own) e =
          either (c.code == 3) _ _ (either c.to_all _ _ bad (ack_walks (ack_in c.body)))
          (either (c.code == 4) _ _ (either c.to_all _ _ (broadcast_walks own (broadcast_in c.body)) bad)
          (chosen_done (c.code == 5) _ _ (λ five. chosen_done c.to_all _ _ (λ all. bad)
          (λ one. path_walks own e (low own e) (path_in c.body) refl (comes own e (eqb-true c.code 5 five) one))) (λ other. bad)))

-- # Events

-- What an event reports was walked before, and what flies after it has walked, with the step of the event.
pub record WalksOn (walked : List Stepping) (v : World) (t : Trace) : Type 0 where
  pub line : IfSome t.happenings.path (λ (world_after : PathLine). WasWalked world_after.walk walked)
  pub flights : All (FlightSays (UnitWalks (walked ++ one_of t.further.stepping))) v.flights

abbrev WalksIn : List Stepping → Step → Type 0
WalksIn walked (Ok r) = r.1.happenings.forged ≡ false → WalksOn walked r.0 r.1
WalksIn walked (Err fault) = Unit {0}

-- What no rule of further reach tells.
record IsSilent (t : Trace) : Type 0 where
  path : t.happenings.path ≡ None
  stepping : t.further.stepping ≡ None

abbrev SilentIn : Step → Type 0
SilentIn (Ok r) = IsSilent r.1
SilentIn (Err fault) = Unit {0}

sent_silent : (w : World) (from to : ℕ) (datagram : List ℕ) (tag : ℕ) (t : Bool) (r : World × Trace) → IsSilent r.1
    → IsSilent (sent_if w from to datagram tag t r).1
sent_silent w from to datagram tag true r h = record { path = h.path; stepping = h.stepping }
sent_silent w from to datagram tag false r h = h

old_silent : (w : World) (event : Event) (s : Step) → old.IsStep network w event s → SilentIn s
old_silent w event s (old.Fails e fault) = tt
old_silent w event s (old.Makes e x is) = record { path = refl; stepping = refl }
old_silent w event s (old.Rests e quiet) = record { path = refl; stepping = refl }
old_silent w event s (old.Shows number x) = record { path = refl; stepping = refl }
old_silent w event s (old.Acts e number x A halted plan reads there call word asked_of) = record { path = refl; stepping = refl }
old_silent w event s (old.BreaksLink number next x a there call) = record { path = refl; stepping = refl }
old_silent w event s (old.SendsFrom from to datagram x a there call target) =
    let d : NodeStep Answer = answering sent_word (acts x (Err sends_of.Halted) (λ m. of_station m (calls.send m.station a datagram (w.sends + 1) w.clock))) in
    sent_silent w from to datagram (tag_of x) (is_taken d.answer) (node_outcome network w from d) (record { path = refl; stepping = refl })
old_silent w event s (old.AllowsMeter number y c psk there call meter) = record { path = refl; stepping = refl }
old_silent w event s (old.Sets e quiet number x plan there open_is is) = record { path = refl; stepping = refl }
old_silent w event s (old.SetsTwo e quiet a b cost x y p q hx hy apart open_is first second fresh near) = record { path = refl; stepping = refl }
old_silent w event s (old.Provides number x c psk g d ne open_is hx hc pair is answer) = record { path = refl; stepping = refl }
old_silent w event s (old.TurnsDown e number x octets reason d there says comes is answer) = record { path = refl; stepping = refl }
old_silent w event s (old.Hears e number x octets cost got there says comes low is) = record { path = refl; stepping = refl }
old_silent w event s (old.Loses number f there) = record { path = refl; stepping = refl }
old_silent w event s (old.Ticks seconds) = record { path = refl; stepping = refl }
old_silent w event s (old.Restarts number x there) = record { path = refl; stepping = refl }
old_silent w event s (old.Cuts number nth keeps_new x there) = record { path = refl; stepping = refl }

module _ (w : World) (ok : WorldOk w) (s : WorldSpeaks w) (r : IsInRange w) (walked : List Stepping)
    (before : All (FlightSays (UnitWalks walked)) w.flights) where
  abbrev P : ℕ → MeshUnit → Type 0
  P = UnitWalks walked

  any : (to : ℕ) (u : MeshUnit) → IsOldUnit u → P to u
  any = old_walks walked

  -- nothing is reported
  silent : (v : World) (t : Trace) → IsSilent t → All (FlightSays P) v.flights → WalksOn walked v t
  silent v t h all = record { line = rw h.path tt; flights = wider walked (one_of t.further.stepping) v.flights all }

  low_at : (number : ℕ) (x : Node) (m : Memory) → node_at w number ≡ Some x → x.memory ≡ Some m → (own : ℕ) → address_of m.station ≡ Some own → IsAddress own
  low_at number x m there here own e = address_low x own (at_place NodeOk w.nodes number x there ok.nodes)
      (ap (option_and_then (λ (n : Memory). address_of n.station)) here ∙ e)

  -- all of another code
  abbrev CastSays : Result (Unit {0}) BroadcastRefusal → List Sent → Type 0
  CastSays answer sent = All (FrameSays P) sent

  abbrev AckSays : Result (Unit {0}) LocalRefusal → List Sent → Type 0
  AckSays answer sent = All (FrameSays P) sent

  abbrev ChoiceSays : Result ChosenAgent ChooseRefusal → List Sent → Type 0
  ChoiceSays answer sent = All IsOldFrame sent

  bcast_walks : (x : Node) (b : Beside) (datagram : List ℕ) → All (FrameSays P)
      (reaches x b (Err broadcast_faults.Halted) (λ y. broadcast in_memory y datagram)).frames
  unfolding checked_plan adds_local with_broadcast_number empty_draft
  bcast_walks x b datagram = acts_by CastSays x (Err broadcast_faults.Halted) (with_beside b (λ y. broadcast in_memory y datagram)) (All-nil (FrameSays P))
      (λ m here. by_address m (address_of m.station))
    where
      reached : Memory → Reaching Memory
      reached m = record { memory = m; beside = b }

      by_fault : (m : Memory) (own : ℕ) (o : Option BroadcastRefusal) → let p : Plan (Reaching Memory) (Result (Unit {0}) BroadcastRefusal) = checked_plan
          broadcast_ends (reached m) o (sealed (in_reach in_memory) broadcast_ends (reached m)
          (adds_local to_all 4 (spelling (own_broadcast own b.log datagram)) (with_broadcast_number (empty_draft (reached m)))) tt) in Both CastSays
          p.answer p.failed p.frames
      by_fault m own (Some reason) = refused_by CastSays (λ e. All-nil (FrameSays P)) broadcast_ends (reached m) reason
      by_fault m own None = sealed_by_plan CastSays (λ e. All-nil (FrameSays P)) broadcast_ends (reached m)
          (adds_local to_all 4 (spelling (own_broadcast own b.log datagram)) (with_broadcast_number (empty_draft (reached m)))) tt
          (one_sealed P m.station.ring m.station.counter.next to_all (units.Local 4 (spelling (own_broadcast own b.log datagram))) 0
          (other_walks walked to_all 4 (spelling (own_broadcast own b.log datagram)) (λ e. cc (e))))

      by_address : (m : Memory) (o : Option ℕ) → let p : Plan (Reaching Memory) (Result (Unit {0}) BroadcastRefusal) = option_map_or
          (λ own. broadcast_from in_memory (reached m) own datagram) o (refused broadcast_ends (reached m) broadcast_faults.NotJoined) in Both CastSays p.answer
          p.failed p.frames
      by_address m None = refused_by CastSays (λ e. All-nil (FrameSays P)) broadcast_ends (reached m) broadcast_faults.NotJoined
      by_address m (Some own) = by_fault m own (datagram_fault b.log datagram)

  -- a meter that joins by an agent
  choice_old : (x : Node) (b : Beside) (own : meters.Identity) (k now : ℕ)
      → All IsOldFrame (reaches x b (Err choices.Halted) (λ y. choose_agent own y k now)).frames
  unfolding choose_plan resting
  choice_old x b own k now = acts_by ChoiceSays x (Err choices.Halted) (with_beside b (λ y. choose_agent own y k now)) (All-nil IsOldFrame)
      (λ m here. by_joined m (meters.is_joined m))
    where
      by_agent : (m : Memory) (o : Option (ℕ × ℕ)) → let p : Plan (Reaching Memory) (Result ChosenAgent ChooseRefusal) = joins_by own
          (record { memory = m; beside = b }) now o in Both ChoiceSays p.answer p.failed p.frames
      by_agent m None = record { whole = All-nil IsOldFrame; cut = All-nil IsOldFrame }
      by_agent m (Some (address, total)) = record { whole = joins_old own m address now; cut = All-nil IsOldFrame }

      by_joined : (m : Memory) (t : Bool) → let p : Plan (Reaching Memory) (Result ChosenAgent ChooseRefusal) =
          (if t then refused choosing_ends (record { memory = m; beside = b }) choices.AlreadyJoined else joins_by own (record { memory = m; beside = b }) now
          (kth_of b.scan.agents k)) in Both ChoiceSays p.answer p.failed p.frames
      by_joined m true = record { whole = All-nil IsOldFrame; cut = All-nil IsOldFrame }
      by_joined m false = by_agent m (kth_of b.scan.agents k)

  -- an acknowledgement
  ack_walks_at : (x : Node) (reply : Reply) → All (FrameSays P) (acknowledging x reply).frames
  unfolding sealed resting goes empty_draft
  ack_walks_at x reply = acts_by AckSays x (Err locals.Store) (λ m. acknowledges in_memory reply.to reply.number reply.origin m) (All-nil (FrameSays P))
      (λ m here. by_left m (nat_lt (counters_left m.station) 1))
    where
      by_left : (m : Memory) (t : Bool) → let p : Plan Memory (Result (Unit {0}) LocalRefusal) = within (λ l. with_station l m) (λ a. a)
          (if t then refused local_ends m.station local_ends.spent else sealing alone local_ends
          (local_draft m.station 3 (Some reply.to) (ack_spelling reply.number reply.origin)) (tt {0})) in Both AckSays p.answer p.failed p.frames
      by_left m true = record { whole = All-nil (FrameSays P); cut = All-nil (FrameSays P) }
      by_left m false = record {
        whole = one_sealed P m.station.ring m.station.counter.next reply.to (units.Local 3 (ack_spelling reply.number reply.origin)) 0
            (other_walks walked reply.to 3 (ack_spelling reply.number reply.origin) (λ e. cc (e)));
        cut = All-nil (FrameSays P);
      }

  -- what has been discovered
  discovered_walks : {A : Type 0} (number : ℕ) (word : A → Answer) (noticed : A → Option Noticed) (d : Discovering A)
      → let q : World × Trace = has_discovered w number word noticed d in WalksOn walked q.0 q.1
  discovered_walks number word noticed d = record {
    line = tt;
    flights = wider walked [] (w.flights ++ discovery_flights number d.sent)
        (All-append (FlightSays P) w.flights (discovery_flights number d.sent) before (by_sent d.sent));
  }
    where
      by_sent : (o : Option Discovery) → All (FlightSays P) (discovery_flights number o)
      by_sent None = All-nil (FlightSays P)
      by_sent (Some frame) = All-cons (FlightSays P) _ [] (discovery_says P number frame) (All-nil (FlightSays P))

  -- # Octets that come

  module _ (event : Event) (number : ℕ) (x : Node) (octets : List ℕ) (cost : ℕ) (got : Accepted) (a : IsAccepted network w event number x octets got) where
    abbrev h : World × Trace
    h = hearing_outcome network w number (after_accepting network x octets) octets got cost

    abbrev left : Node
    left = (heard_node network w x octets got cost).node

    heard_flights : forged_by w octets got.path ≡ false → All (FlightSays P) h.0.flights
    heard_flights honest = heard_says P any w ok s r.ranged number x octets cost got event a.there a.says a.comes a.is honest before

    is_heard : forged_by w octets got.path ≡ false → IsHeard w event number x octets got
    is_heard honest = record { says = a.says; there = a.there; comes = a.comes; is = a.is; honest = honest }

    commanded_walks : (c : NeighbourCommand) → command_of got ≡ Some c → h.1.happenings.forged ≡ false
        → let q : World × Trace = commanded network number left c h in WalksOn walked q.0 q.1
    unfolding world_after
    commanded_walks c e honest = record { line = by.0; flights = flown }
      where
        unforged : forged_by w octets got.path ≡ false
        unforged = (or_parts _ _ honest).0

        d : NodeStep (Result CommandHeard ReachDropped)
        d = reaches left (beside_at w number) (Err (reach_drops.Known drops.Store)) (λ y. hear_command in_memory y c)

        are : AreOctets octets
        are = came_octets network network_ranges w ok s.flights event number octets a.says a.comes

        came : CommandCame w x octets c
        came = command_came w x octets got c e unforged a.is are

        known : UnitWalks walked (to_of came.frame.head) (units.Local c.code c.body)
        known = command_says P w x octets c came before

        low : (m : Memory) → left.memory ≡ Some m → (own : ℕ) → address_of m.station ≡ Some own → IsAddress own
        low m here own at = let y = address_stays network w x octets got cost c e m here in low_at number x y.memory a.there y.there own (sym y.same ∙ at)

        comes : (m : Memory) → left.memory ≡ Some m → (own : ℕ) → address_of m.station ≡ Some own → c.code ≡ 5 → c.to_all ≡ false → (message : PathMessage)
            → path_in c.body ≡ Some message → IsPath message × MessageWalks walked own message
        comes m here own at five one message read =
            let y = address_stays network w x octets got cost c e m here in
            let same : came.memory ≡ y.memory = same_Some _ _ (sym came.there ∙ y.there) in
            let to : to_of came.frame.head ≡ own = same_Some _ _ (sym (came.own one) ∙ ap (λ (n : Memory). address_of n.station) same ∙ sym y.same ∙ at) in
            let body : AreOctets c.body = commands_fit network network_ranges w ok s.flights event a.says number x octets got c a.there a.comes a.is e in
            ((paths_spelled message c.body body read).0, subst (λ k. MessageWalks walked k message) to (known five message read))

        by : WalksBy walked (step_by left c d.answer) (path_line number d.answer) d.frames
        by = acts_by (HeardBy walked number left c) left (Err (reach_drops.Known drops.Store))
            (with_beside (beside_at w number) (λ y. hear_command in_memory y c)) (still walked)
            (λ m here. command_walks walked number left (beside_at w number) m here c (low m here) (comes m here))

        flown : All (FlightSays (UnitWalks (walked ++ one_of (step_by left c d.answer)))) (world_after network h.0 number d).flights
        flown = after_says (UnitWalks (walked ++ one_of (step_by left c d.answer))) h.0 number d
            (r.sends.commands event number x octets got cost c (is_heard unforged) e) by.1
            (wider walked (one_of (step_by left c d.answer)) h.0.flights (heard_flights unforged))

    checked_walks : h.1.happenings.forged ≡ false → let q : World × Trace = checked network w number got (heard_node network w x octets got cost) h in WalksOn
        walked q.0 q.1
    unfolding world_after
    checked_walks honest = by_due (due got.path (message_of got) (heard_node network w x octets got cost).answer.answer) refl
      where
        unforged : forged_by w octets got.path ≡ false
        unforged = (or_parts _ _ honest).0

        noted : World × Trace
        noted = with_check w number (reply_among (heard_node network w x octets got cost).frames) h

        by_memory : (reply : Reply) → due got.path (message_of got) (heard_node network w x octets got cost).answer.answer ≡ Some reply → (t : Bool)
            → let q : World × Trace = (if t then adds_frames (world_after network noted.0 number (acknowledging left reply)) noted.1 (acknowledging left reply)
            else
            sends_nothing w (world_after network noted.0 number (acknowledging left reply), noted.1)) in WalksOn walked q.0 q.1
        by_memory reply e true = silent _ _ (record { path = refl; stepping = refl })
            (after_says P noted.0 number (acknowledging left reply) (r.sends.acknowledges event number x octets got cost reply (is_heard unforged) e)
            (ack_walks_at left reply) (heard_flights unforged))
        by_memory reply e false = silent _ _ (record { path = refl; stepping = refl }) before

        by_due : (o : Option Reply) → due got.path (message_of got) (heard_node network w x octets got cost).answer.answer ≡ o
            → let q : World × Trace = acknowledged_if network w number left o noted in WalksOn walked q.0 q.1
        by_due None e = silent _ _ (record { path = refl; stepping = refl }) (heard_flights unforged)
        by_due (Some reply) e = by_memory reply e (is_some (acknowledging left reply).node.memory)

  old_walk : (event : Event) (st : Step) → old.IsStep network w event st → SilentIn st → WalksIn walked st
  old_walk event (Ok q) is h = λ honest. silent q.0 q.1 h (old_flights P any w ok s r.ranged event (Ok q) is honest before)
  old_walk event (Err fault) is h = tt

  walks_on : (event : Event) (st : Step) → IsReachStep network w event st → WalksIn walked st
  walks_on event st (Fails e fault) = tt
  walks_on event st (Known e t other is none) = old_walk event st is (old_silent w event st is)
  walks_on event st (Rests e answer idle other none) = λ honest. silent _ _ (record { path = refl; stepping = refl }) before
  walks_on event st Opens = λ honest. silent _ _ (record { path = refl; stepping = refl }) before
  walks_on event st (Bcasts number x datagram there are) = λ honest. silent _ _ (record { path = refl; stepping = refl })
      (after_says P (running_world w) number (reaches x (beside_at w number) (Err broadcast_faults.Halted) (λ y. broadcast in_memory y datagram))
      (r.sends.broadcasts number x datagram there are) (bcast_walks x (beside_at w number) datagram) before)
  walks_on event st (Asks from to x y target there other address) = λ honest.
      let d = reaches x (beside_at w from) (Err ask_faults.Halted) (λ z. ask_path in_memory z target) in
      let target_low : IsAddress target = address_low y target (at_place NodeOk w.nodes to y other ok.nodes) address in
      let by : WalksBy walked (asked x target d.answer) None d.frames =
      acts_by (λ answer sent. WalksBy walked (asked x target answer) None sent) x (Err ask_faults.Halted)
      (with_beside (beside_at w from) (λ z. ask_path in_memory z target)) (still walked)
      (λ m here. ask_walks walked x (beside_at w from) m here target target_low (low_at from x m there here)) in
      record {
        line = tt;
        flights = after_says (UnitWalks (walked ++ one_of (asked x target d.answer))) (running_world w) from d (r.sends.asks from x target there) by.1
            (wider walked (one_of (asked x target d.answer)) w.flights before);
      }
  walks_on event st (Scans number x m there here) = λ honest. discovered_walks number scan_word (scanning number) (begin_scan m (beside_at w number).scan)
  walks_on event st (Chooses number k x psk there pair) = λ honest.
      let d = reaches x (beside_at w number) (Err choices.Halted) (λ y. choose_agent (identity network x psk) y k w.clock) in
      silent _ _ (record { path = refl; stepping = refl }) (after_as_before P any (running_world w) number d (r.sends.choices number k x psk there pair)
      (choice_old x (beside_at w number) (identity network x psk) k w.clock) before)
  walks_on event st (Discovers e number x m octets link other there here comes over is) = λ honest.
      discovered_walks number discovery_word (beacon_taken number (discovery_in octets) link)
      (hear_discovery x.role m.station (beside_at w number).scan octets link)
  walks_on event st (Unbelieves e number x octets got a is) = λ honest. silent _ _ (record { path = refl; stepping = refl })
      (after_silently P (running_world w) number (stays (after_accepting network x octets) (only answers.Blacklisted)) refl before)
  walks_on event st (Commands e number x octets cost got c a low passes is) = λ honest. commanded_walks event number x octets cost got a c is honest
  walks_on event st (Checked e number x octets cost got a low passes none on) = λ honest. checked_walks event number x octets cost got a (checked_honest honest)
    where
      checked_honest : (checked network w number got (heard_node network w x octets got cost)
          (hearing_outcome network w number (after_accepting network x octets) octets got cost)).1.happenings.forged ≡ false
          → (hearing_outcome network w number (after_accepting network x octets) octets got cost).1.happenings.forged ≡ false
      checked_honest = by_due (due got.path (message_of got) (heard_node network w x octets got cost).answer.answer)
        where
          noted : World × Trace
          noted = with_check w number (reply_among (heard_node network w x octets got cost).frames)
              (hearing_outcome network w number (after_accepting network x octets) octets got cost)

          by_memory : (reply : Reply) (t : Bool) → (if t then adds_frames
              (world_after network noted.0 number (acknowledging (heard_node network w x octets got cost).node reply)) noted.1
              (acknowledging (heard_node network w x octets got cost).node reply) else sends_nothing w
              (world_after network noted.0 number (acknowledging (heard_node network w x octets got cost).node reply), noted.1)).1.happenings.forged ≡ false
              → noted.1.happenings.forged ≡ false
          by_memory reply true e = e
          by_memory reply false e = e

          by_due : (o : Option Reply) → (acknowledged_if network w number (heard_node network w x octets got cost).node o noted).1.happenings.forged ≡ false
              → noted.1.happenings.forged ≡ false
          by_due None e = e
          by_due (Some reply) e = by_memory reply (is_some (acknowledging (heard_node network w x octets got cost).node reply).node.memory) e
  walks_on event st (Hears e number x octets cost got a low passes none off) = λ honest. silent _ _ (record { path = refl; stepping = refl })
      (heard_flights event number x octets cost got a (or_parts _ _ honest).0)
  walks_on event st (Ticks seconds) = λ honest. silent _ _ (record { path = refl; stepping = refl }) before
  walks_on event st (Restarts number x b there read) = λ honest. silent _ _ (record { path = refl; stepping = refl })
      (after_silently P (running_world w) number (restarts x) refl before)

-- # Runs

steps_more_taken : (before : List Entry) (x : Entry) → steps_taken (before ++ x ∷ []) ≡ steps_taken before ++ one_of x.trace.further.stepping
steps_more_taken [] x = append-nil (one_of x.trace.further.stepping)
steps_more_taken (y ∷ before) x = ap (λ xs. one_of y.trace.further.stepping ++ xs) (steps_more_taken before x) ∙ sym
    (append_assoc (one_of y.trace.further.stepping) (steps_taken before) (one_of x.trace.further.stepping))

all_walked : (w : World) → WorldOk w → WorldSpeaks w → LogsKept w → (before : List Entry) → All (FlightSays (UnitWalks (steps_taken before))) w.flights
    → (entries : List Entry) → AreEvents (events_of entries) → IsRun network w entries → All HoldsAfter entries → HoldsAlong IsInRange w entries
    → AreWalkedAfter before entries
all_walked w ok s logs before flights [] says run holds ranged = tt
all_walked w ok s logs before flights (x ∷ xs) says run holds ranged = λ honest.
    let event = All-head IsEvent x.event (events_of xs) says in
    let on : WalksOn (steps_taken before) x.after x.trace = subst (WalksIn (steps_taken before)) run.2
    (walks_on w ok s ranged.0 (steps_taken before) flights x.event (line_step network w x.event) (reach_step_is network w logs x.event event)) honest in
    let speaks : WorldSpeaks x.after = subst (SpeaksIn w ok s) run.2 (line_speaks w ok s logs x.event (line_step network w x.event)
    (line_step_is Octets Spelled network network_ranges w ok s.flights logs (octets_speak w ok s logs) x.event event)) in
    let after = All-head HoldsAfter x xs holds in
    let next : All (FlightSays (UnitWalks (steps_taken (before ++ x ∷ [])))) x.after.flights = subst
    (λ taken. All (FlightSays (UnitWalks taken)) x.after.flights) (sym (steps_more_taken before x)) on.flights in (
      on.line,
      all_walked x.after after.line speaks after.logs (before ++ x ∷ []) next xs (All-tail IsEvent x.event (events_of xs) says) run.3
          (All-tail HoldsAfter x xs holds) (ranged.1 honest),
    )

pub walked_in_range : (entries : List Entry) → AreEvents (events_of entries) → IsRun network start entries → All HoldsAfter entries
    → HoldsAlong IsInRange start entries → AreWalked entries
walked_in_range entries says run holds ranged = all_walked start start_ok start_speaks tt [] (All-nil (FlightSays (UnitWalks []))) entries says run
    holds ranged
