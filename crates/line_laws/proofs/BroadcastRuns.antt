-- A broadcast is handed up once by each node, and as another node sent it: each that flies was sent, and what was handed up is marked.
use Rattle.std.proofs.Common.{inl, inr, ◌≡◌, ◌≢◌, ℕ, zero, suc, ◌+◌, ◌^◌, ◌<◌, Bool, true, false, List, [], ◌∷◌, ◌++◌, length, Option}
use Rattle.std.proofs.Common.{Some, None, Result, Ok, Err, refl, sym, ap, ◌∙◌, subst, arith}
use Rattle.std.specs.Prelude.{◌==◌, ◌||◌, All, IfSome, if◌then◌else◌, is_some, nat_lt, slice_get, slice_set}
use Rattle.std.specs.Option.{option_map, option_map_or, option_and_then}
use Rattle.std.proofs.lemmas.Bool.{eqb-false, eqb-true, ltb-false, or_parts}
use Rattle.std.proofs.lemmas.Option.{same_Some}
use Rattle.std.proofs.lemmas.List.{append-nil, append_assoc, length-set}
use Rattle.std.proofs.lemmas.List.Elements.{All-nil, All-cons, All-head, All-tail, All-append, All-weaker}
use Rattle.plc_base.specs.Addresses.{IsAddress}
use Rattle.plc_base.specs.Fields.{AreOctets}
use Rattle.mesh_header.specs.declared.unit.Unit.{Unit as MeshUnit}
use Rattle.mesh_header.specs.declared.unit.Unit.TheVariants as units
use Rattle.broadcast_log.specs.declared.broadcast.Broadcast.{Broadcast}
use Rattle.broadcast_log.specs.Grammar.{IsBroadcast, Spells, spelling}
use Rattle.broadcast_log.specs.Reader.{broadcast_in}
use Rattle.neighbour_checks.specs.Acks.{ack_in, ack_spelling}
use Rattle.neighbour_checks.specs.Neighbours.{is_awaited}
use Rattle.path_requests.specs.declared.message.PathMessage.{PathMessage}
use Rattle.path_requests.specs.declared.message.PathMessage.TheVariants.{Ask}
use Rattle.path_requests.specs.declared.step.PathStep.{PathStep}
use Rattle.path_requests.specs.declared.step.PathStep.TheVariants.{Forward, Answer as Answers, Done}
use Rattle.path_requests.specs.declared.step.PathRefusal.{PathRefusal}
use Rattle.path_requests.specs.Messages.{path_spelling}
use Rattle.path_requests.specs.Reader.{path_in}
use Rattle.path_requests.specs.PathSteps.{taken}
use Rattle.node_rules.specs.Accepted.{Accepted}
use Rattle.node_rules.specs.declared.heard.Reply.{Reply}
use Rattle.node_rules.specs.declared.refusal.Dropped.TheVariants as drops
use Rattle.node_rules.specs.declared.refusal.LocalRefusal.{LocalRefusal}
use Rattle.node_rules.specs.declared.refusal.LocalRefusal.TheVariants as locals
use Rattle.node_rules.specs.Ciphers.{network}
use Rattle.node_rules.specs.Drafts.{choose as choose_plan, checked as checked_plan, alone, counters_left, empty_draft, goes, refused, sealed, sealed_by}
use Rattle.node_rules.specs.Drafts.{sealing}
use Rattle.node_rules.specs.Frames.{Sent, to_all}
use Rattle.node_rules.specs.Memory.{Memory, Node, address_of, node_address, station_route}
use Rattle.node_rules.specs.MemoryDrafts.{in_memory, with_station}
use Rattle.node_rules.specs.Meters as meters
use Rattle.node_rules.specs.Neighbours.{local_draft, local_ends}
use Rattle.node_rules.specs.NodeSteps.{NodeStep, acts, answering, of_station, stays}
use Rattle.node_rules.specs.Calls as calls
use Rattle.node_rules.specs.declared.refusal.SendRefusal.TheVariants as sends_of
use Rattle.node_rules.specs.Plans.{Plan, resting, within}
use Rattle.node_rules.specs.Replies.{reply_among}
use Rattle.reach_rules.specs.declared.heard.CommandHeard.{CommandHeard}
use Rattle.reach_rules.specs.declared.heard.CommandHeard.TheVariants as heard_of
use Rattle.reach_rules.specs.declared.refusal.AskRefusal.{AskRefusal}
use Rattle.reach_rules.specs.declared.refusal.AskRefusal.TheVariants as ask_faults
use Rattle.reach_rules.specs.declared.refusal.BroadcastRefusal.{BroadcastRefusal}
use Rattle.reach_rules.specs.declared.refusal.BroadcastRefusal.TheVariants as broadcast_faults
use Rattle.reach_rules.specs.declared.refusal.ChooseRefusal.{ChooseRefusal}
use Rattle.reach_rules.specs.declared.refusal.ChooseRefusal.TheVariants as choices
use Rattle.reach_rules.specs.declared.refusal.ReachDropped.{ReachDropped}
use Rattle.reach_rules.specs.declared.refusal.ReachDropped.TheVariants as reach_drops
use Rattle.reach_rules.specs.Beacons.{ChosenAgent, Discovering, begin_scan, choose_agent, choosing_ends, hear_discovery, joins_by}
use Rattle.pan_discovery.specs.Reader.{discovery_in}
use Rattle.pan_discovery.specs.declared.message.Discovery.{Discovery}
use Rattle.pan_discovery.specs.Agents.{kth_of}
use Rattle.reach_rules.specs.Broadcasts.{admits_broadcast, broadcast, broadcast_ends, broadcast_fault, broadcast_from, datagram_fault, goes_further}
use Rattle.reach_rules.specs.Broadcasts.{hear_broadcast_in, hop_less, own_broadcast, with_broadcast_mark, with_broadcast_number}
use Rattle.reach_rules.specs.CheckedReplies.{acknowledges, hear_acknowledgement_in, message_of}
use Rattle.reach_rules.specs.PathRequests.{ask_ends, ask_path, asks_by as asks_over, asks_from, follows_path, hear_path_in, next_toward, path_word}
use Rattle.reach_rules.specs.ReachingNodes.{Beside, Reaching, drop_it, in_reach, reach_ends, adds_local}
use Rattle.reach_rules.specs.FurtherReceptions.{NeighbourCommand, command_of, hear_command, hear_command_at}
use Rattle.line_events.specs.declared.event.Answer.{Answer}
use Rattle.line_events.specs.declared.event.Answer.TheVariants as answers
use Rattle.line_events.specs.declared.event.Event.{Event}
use Rattle.line_events.specs.declared.happenings.BroadcastUp.{BroadcastUp}
use Rattle.line_rules.specs.Answers.{discovery_word, only, scan_word, sent_word}
use Rattle.line_events.specs.Events.{AreEvents, IsEvent, IsLineOctets}
use Rattle.line_rules.specs.Further.{acknowledged_if, acknowledging, adds_frames, beacon_taken, beside_at, broadcast_sent, broadcast_up, checked, commanded}
use Rattle.line_rules.specs.Further.{discovery_flights, due, has_discovered, line_step, reaches, scanning, sends_nothing, with_beside, with_check}
use Rattle.line_rules.specs.FurtherRuns.{AreBroadcastOnce, AreBroadcastOnceAfter, IsFirst, WasBroadcast, broadcast_ups, broadcasts}
use Rattle.line_rules.specs.Logs.{LogIn, LogsKept}
use Rattle.line_rules.specs.Runs.{Entry, IsRun, events_of, one_of}
use Rattle.line_rules.specs.Steps.{Step, node_outcome, forged_by, hearing_outcome, identity, is_taken, note_by, running_world, restarts, sent_if, tag_of}
use Rattle.line_rules.specs.Steps.{world_after}
use Rattle.line_rules.specs.Worlds.{Broadcasting, Flight, Noticed, Trace, World, node_at, start}
use Rattle.line_laws.specs.FurtherLines.{HoldsAfter}
use Rattle.line_laws.specs.Lines.{NodeOk, WorldOk}
use Rattle.line_laws.specs.Reach.{AreAtHome, HoldsAlong, IsHeard, IsInRange}
use Rattle.line_laws.proofs.CommandsCome.{CommandCame, address_stays, command_came, command_says}
use Rattle.line_laws.proofs.FlightFolds.{address_low, came_octets}
use Rattle.line_laws.proofs.FlightsSay.{FlightSays, FrameSays, discovery_says, heard_says, old_flights, after_as_before, after_says, after_silently}
use Rattle.line_laws.proofs.FurtherLogs.{commands_fit}
use Rattle.line_laws.proofs.FurtherOctets.{line_speaks, octets_speak, Octets, Spelled}
use Rattle.line_laws.proofs.FurtherStepKinds.{line_step_is}
use Rattle.line_laws.proofs.LetterAccepts.{to_of}
use Rattle.line_laws.proofs.OctetRuns.{SpeaksIn, WorldSpeaks, start_speaks}
use Rattle.line_laws.proofs.OldUnits.{IsOldFrame, IsOldUnit, joins_old}
use Rattle.line_laws.proofs.StorableGrants.{network_ranges}
use Rattle.line_laws.proofs.ReachSteps.{Asks, Bcasts, Checked, Chooses, Commands, Discovers, Fails, Hears, IsAccepted, IsReachStep, Known, Opens, Restarts}
use Rattle.line_laws.proofs.ReachSteps.{Rests, Scans, Ticks, Unbelieves, after_accepting, heard_node, reach_step_is}
use Rattle.line_laws.proofs.EveryRun.{start_ok}
use Rattle.line_laws.proofs.SendsSay.{Both, acts_by, none_sealed, one_sealed, refused_by, sealed_by_plan}
use Rattle.line_laws.proofs.StepKinds as old
use Rattle.line_laws.proofs.Worlds.{at_place}
use Rattle.store_tables.specs.AdmittedNumbers.{Admitted, AllEarlier}
use Rattle.plc_base.specs.Keeper.{Records}
use Rattle.plc_base.proofs.Faults.{then_none, when_none}
use Rattle.store_tables.proofs.SlotTables.{slice_get-push}
use Rattle.broadcast_log.specs.declared.fault.LogFault.{LogFault}
use Rattle.broadcast_log.specs.declared.fault.LogFault.TheVariants as log_faults
use Rattle.broadcast_log.specs.Laws.{IsLogIn}
use Rattle.broadcast_log.specs.NextNumber.{is_spent}
use Rattle.broadcast_log.specs.OriginMarks.{room_for}
use Rattle.broadcast_log.proofs.Runs.{admission_is_fresh}
use Rattle.broadcast_log.proofs.Spellings.{broadcast_read, broadcast_spelled}
use Rattle.reach_rules.specs.Broadcasts.{mark_fault}
use Rattle.line_rules.proofs.LogSteps.{logged_at}
use Rattle.line_rules.proofs.StepsOn.{line_steps}
use Rattle.line_laws.proofs.MarkedLogs.{Among, Covered, Marked, MarkedIn, quiet_marks}
use Rattle.line_laws.proofs.MarkedWorlds.{MarkedWorld, MarksOn, marks_on, heard_quiet, node_within}
use Rattle.line_laws.proofs.FurtherSteps.{tables_short}

-- # Broadcasts that were sent

get_more : {A : Type 0} (xs ys : List A) (p : ℕ) (v : A) → slice_get xs p ≡ Some v → slice_get (xs ++ ys) p ≡ Some v
get_more [] ys p v e = absurd (cc (e))
get_more (x ∷ xs) ys zero v e = e
get_more (x ∷ xs) ys (suc p) v e = get_more xs ys p v e

-- One of this origin and number and of these octets was sent.
pub record IsSentAs (sent : List Broadcasting) (origin number : ℕ) (octets : List ℕ) : Type 0 where
  pub place : ℕ
  pub broadcast : Broadcasting
  pub is : slice_get sent place ≡ Some broadcast
  pub address : broadcast.address ≡ origin
  pub count : broadcast.number ≡ number
  pub same : broadcast.datagram ≡ octets

sent_wider : (sent more : List Broadcasting) (origin number : ℕ) (octets : List ℕ) → IsSentAs sent origin number octets
    → IsSentAs (sent ++ more) origin number octets
sent_wider sent more origin number octets h = record {
  place = h.place;
  broadcast = h.broadcast;
  is = get_more sent more h.place h.broadcast h.is;
  address =
      h.address;
  count = h.count;
  same = h.same;
}

abbrev UnitSent : List Broadcasting → ℕ → MeshUnit → Type 0
UnitSent sent to (units.Local code body) = code ≡ 4 → (c : Broadcast) → broadcast_in body ≡ Some c → IsSentAs sent c.origin c.number c.octets
UnitSent sent to (units.Whole mesh octets) = Unit {0}
UnitSent sent to (units.Part mesh piece) = Unit {0}
UnitSent sent to (units.Carried mesh body) = Unit {0}

old_sent : (sent : List Broadcasting) (to : ℕ) (u : MeshUnit) → IsOldUnit u → UnitSent sent to u
old_sent sent to (units.Local code body) h = λ four. absurd (cc (h, four))
old_sent sent to (units.Whole mesh octets) h = tt
old_sent sent to (units.Part mesh piece) h = tt
old_sent sent to (units.Carried mesh body) h = tt

unit_wider : (sent more : List Broadcasting) (to : ℕ) (u : MeshUnit) → UnitSent sent to u → UnitSent (sent ++ more) to u
unit_wider sent more to (units.Local code body) h = λ four c read. sent_wider sent more c.origin c.number c.octets (h four c read)
unit_wider sent more to (units.Whole mesh octets) h = tt
unit_wider sent more to (units.Part mesh piece) h = tt
unit_wider sent more to (units.Carried mesh body) h = tt

flight_wider : (sent more : List Broadcasting) (f : Flight) → FlightSays (UnitSent sent) f → FlightSays (UnitSent (sent ++ more)) f
flight_wider sent more f h =
    record { says = λ key a payload u k is opened read. unit_wider sent more (to_of a.head) u (h.says key a payload u k is opened read) }

wider : (sent more : List Broadcasting) (fs : List Flight) → All (FlightSays (UnitSent sent)) fs → All (FlightSays (UnitSent (sent ++ more))) fs
wider sent more fs h = All-weaker (FlightSays (UnitSent sent)) (FlightSays (UnitSent (sent ++ more))) (flight_wider sent more) fs h

other_sent : (sent : List Broadcasting) (to code : ℕ) (body : List ℕ) → code ≢ 4 → UnitSent sent to (units.Local code body)
other_sent sent to code body ne = λ four. absurd (ne four)

spelled_sent : (sent : List Broadcasting) (to : ℕ) (c : Broadcast) → IsBroadcast c → IsSentAs sent c.origin c.number c.octets
    → UnitSent sent to (units.Local 4 (spelling c))
spelled_sent sent to c fits h = λ four d read. subst (λ (b : Broadcast). IsSentAs sent b.origin b.number b.octets)
    (same_Some c d (sym (broadcast_read c (spelling c) (fits, refl)) ∙ read)) h

-- # What is handed up is new

earlier_apart : (origin number : ℕ) (before : List Admitted) → AllEarlier origin number before → Among origin number before → ⊥
earlier_apart origin number [] h m = m
earlier_apart origin number (a ∷ before) h (inl same) = let lt = h.0 same.0 in let is = same.1 in omega arith
earlier_apart origin number (a ∷ before) h (inr m) = earlier_apart origin number before h.1 m

first_of : (ups : List BroadcastUp) (up : BroadcastUp) (before : List Admitted) → AllEarlier up.origin up.number before
    → All (λ (u : BroadcastUp). Covered up.node before u) ups → IsFirst up ups
first_of ups up before fresh covers = All-weaker (λ (u : BroadcastUp). Covered up.node before u)
    (λ (v : BroadcastUp). v.node ≡ up.node → v.origin ≡ up.origin → v.number ≡ up.number → ⊥)
    (λ u c node origin number. earlier_apart up.origin up.number before fresh
    (subst (λ o. Among o up.number before) origin (subst (λ k. Among u.origin k before) number (c node)))) ups covers

-- # A broadcast of one's own

datagram_tests : (b : Beside) (datagram : List ℕ) → datagram_fault b.log datagram ≡ None
    → (((length datagram == 0) || nat_lt 360 (length datagram)) ≡ false) × (is_spent b.log.numbering ≡ false)
unfolding datagram_fault
datagram_tests b datagram e = let parts = then_none _ _ e in (when_none _ _ parts.0, when_none _ _ parts.1)

module _ (sent : List Broadcasting) (number : ℕ) (x : Node) (b : Beside) (datagram : List ℕ) (are : IsLineOctets datagram) where
  abbrev OwnBy : Result (Unit {0}) BroadcastRefusal → List Sent → Type 0
  OwnBy answer frames = All (FrameSays (UnitSent (sent ++ one_of (broadcast_sent number x b datagram answer)))) frames

  own_sends : (m : Memory) → x.memory ≡ Some m → ((own : ℕ) → address_of m.station ≡ Some own → IsAddress own)
      → (is_spent b.log.numbering ≡ false → b.log.numbering.next < 2 ^ 32)
      → let p : Plan (Reaching Memory) (Result (Unit {0}) BroadcastRefusal) = broadcast in_memory (record { memory = m; beside = b }) datagram in Both OwnBy
      p.answer p.failed p.frames
  unfolding checked_plan adds_local with_broadcast_number empty_draft
  own_sends m here low fits = by_address (address_of m.station) refl
    where
      fails : (e : BroadcastRefusal) → OwnBy (Err e) []
      fails e = All-nil (FrameSays (UnitSent (sent ++ [])))

      number_left : datagram_fault b.log datagram ≡ None → ((length datagram == 0) ≡ false) × (nat_lt 360 (length datagram) ≡ false) ×
          (is_spent b.log.numbering ≡ false)
      number_left e = let h = datagram_tests b datagram e in let o = or_parts _ _ h.0 in (o.0, o.1, h.1)

      is_it : (own : ℕ) → address_of m.station ≡ Some own → datagram_fault b.log datagram ≡ None → IsBroadcast (own_broadcast own b.log datagram)
      is_it own e none =
          let n = number_left none in
          let some = are.0 in
          let short = ltb-false _ _ n.1 in
          record { hops = (omega arith, omega arith); origin = low own e; number = fits n.2; some = some; fits = short }

      by_fault : (own : ℕ) → address_of m.station ≡ Some own → (o : Option BroadcastRefusal) → datagram_fault b.log datagram ≡ o
          → let p : Plan (Reaching Memory) (Result (Unit {0}) BroadcastRefusal) = checked_plan broadcast_ends (record { memory = m; beside = b }) o
          (sealed (in_reach in_memory) broadcast_ends (record { memory = m; beside = b })
          (adds_local to_all 4 (spelling (own_broadcast own b.log datagram)) (with_broadcast_number (empty_draft (record { memory = m; beside = b }))))
          tt) in Both OwnBy p.answer p.failed p.frames
      by_fault own e (Some reason) fault = refused_by OwnBy fails broadcast_ends (record { memory = m; beside = b }) reason
      by_fault own e None fault =
          let one : Broadcasting = record { node = number; address = own; number = b.log.numbering.next; datagram = datagram } in
          let is : broadcast_sent number x b datagram (Ok tt) ≡ Some one = ap
          (option_map (λ address. record { node = number; address = address; number = b.log.numbering.next; datagram = datagram }))
          (ap (option_and_then (λ (n : Memory). address_of n.station)) here ∙ e) in
          sealed_by_plan OwnBy fails broadcast_ends (record { memory = m; beside = b })
          (adds_local to_all 4 (spelling (own_broadcast own b.log datagram))
          (with_broadcast_number (empty_draft (record { memory = m; beside = b })))) tt
          (subst (λ o. All (FrameSays (UnitSent (sent ++ one_of o))) (sealed_by m.station.ring m.station.counter.next
          (record { to = to_all; unit = units.Local 4 (spelling (own_broadcast own b.log datagram)); note = 0 } ∷ []))) (sym is)
          (one_sealed (UnitSent (sent ++ one ∷ [])) m.station.ring m.station.counter.next to_all (units.Local 4 (spelling (own_broadcast own b.log datagram))) 0
          (spelled_sent (sent ++ one ∷ []) to_all (own_broadcast own b.log datagram) (is_it own e fault)
          (record { place = length sent; broadcast = one; is = slice_get-push sent one; address = refl; count = refl; same = refl }))))

      by_address : (o : Option ℕ) → address_of m.station ≡ o → let p : Plan (Reaching Memory) (Result (Unit {0}) BroadcastRefusal) = option_map_or
          (λ own. broadcast_from in_memory (record { memory = m; beside = b }) own datagram) o
          (refused broadcast_ends (record { memory = m; beside = b }) broadcast_faults.NotJoined) in Both OwnBy p.answer p.failed p.frames
      by_address None e = refused_by OwnBy fails broadcast_ends (record { memory = m; beside = b }) broadcast_faults.NotJoined
      by_address (Some own) e = by_fault own e (datagram_fault b.log datagram) refl

-- # A command

-- what is handed up was sent, by another node, and is new
abbrev UpFits : List Broadcasting → List BroadcastUp → ℕ → Option BroadcastUp → Type 0
UpFits sent ups home up = IfSome up (λ (u : BroadcastUp). IsSentAs sent u.origin u.number u.octets × (u.origin ≢ home) × IsFirst u ups)

abbrev CastBy : List Broadcasting → List BroadcastUp → ℕ → ℕ → Result CommandHeard ReachDropped → List Sent → Type 0
CastBy sent ups home number answer frames = UpFits sent ups home (broadcast_up number answer) × All (FrameSays (UnitSent sent)) frames

module _ (sent : List Broadcasting) (ups : List BroadcastUp) (home number : ℕ) (b : Beside) (records : Records) (m : Memory) (c : NeighbourCommand)
    (marked : Marked ups number b.log records) (are : AreOctets c.body)
    (at : (own : ℕ) → address_of m.station ≡ Some own → own ≡ home) (comes : c.code ≡ 4 → (d : Broadcast) → broadcast_in c.body ≡ Some d
    → IsSentAs sent d.origin d.number d.octets) where
  abbrev z : Reaching Memory
  z = record { memory = m; beside = b }

  abbrev IsCast : Plan (Reaching Memory) (Result CommandHeard ReachDropped) → Type 0
  IsCast p = Both (CastBy sent ups home number) p.answer p.failed p.frames

  fails : (e : ReachDropped) → CastBy sent ups home number (Err e) []
  fails e = (tt, All-nil (FrameSays (UnitSent sent)))

  dropped : (reason : ReachDropped) → IsCast (drop_it z reason)
  dropped reason = refused_by (CastBy sent ups home number) fails reach_ends z reason

  chosen : (t : Bool) (p q : Plan (Reaching Memory) (Result CommandHeard ReachDropped)) → (t ≡ true → IsCast p) → (t ≡ false → IsCast q)
      → IsCast (choose_plan t p q)
  unfolding choose_plan
  chosen true p q f g = f refl
  chosen false p q f g = g refl

  ack_casts : (o : Option (ℕ × ℕ)) → IsCast (hear_acknowledgement_in z c.from o)
  unfolding resting
  ack_casts None = dropped (reach_drops.Known drops.BadUnit)
  ack_casts (Some (count, origin)) = chosen (is_awaited b.checks c.from count origin) _ _
      (λ e. record { whole = (tt, All-nil (FrameSays (UnitSent sent))); cut = (tt, All-nil (FrameSays (UnitSent sent))) }) (λ e. dropped reach_drops.NotAwaited)

  follows_casts : (o : Result PathStep PathRefusal) → IsCast (follows_path in_memory z o)
  unfolding resting adds_local empty_draft
  follows_casts (Err reason) = dropped (path_word reason)
  follows_casts (Ok (Forward to message)) = sealed_by_plan (CastBy sent ups home number) fails reach_ends z
      (adds_local to 5 (path_spelling message) (empty_draft z)) heard_of.Relayed (
        tt,
        one_sealed (UnitSent sent) m.station.ring m.station.counter.next to (units.Local 5 (path_spelling message)) 0
            (other_sent sent to 5 (path_spelling message) (λ e. cc (e))),
      )
  follows_casts (Ok (Answers to message)) = sealed_by_plan (CastBy sent ups home number) fails reach_ends z
      (adds_local to 5 (path_spelling message) (empty_draft z)) heard_of.Answered (
        tt,
        one_sealed (UnitSent sent) m.station.ring m.station.counter.next to (units.Local 5 (path_spelling message)) 0
            (other_sent sent to 5 (path_spelling message) (λ e. cc (e))),
      )
  follows_casts (Ok (Done walk)) = record { whole = (tt, All-nil (FrameSays (UnitSent sent))); cut = (tt, All-nil (FrameSays (UnitSent sent))) }

  path_casts : (own : ℕ) (o : Option PathMessage) → IsCast (hear_path_in in_memory z own c.from o)
  path_casts own None = dropped (reach_drops.Known drops.BadUnit)
  path_casts own (Some message) = follows_casts (taken own c.from (next_toward m.station message) message)

  -- a broadcast that is admitted
  has_room : (own : ℕ) (d : Broadcast) → broadcast_fault own b.log d ≡ None
      → ((d.origin == own) ≡ false) × (room_for b.log.marks d.origin d.number ≡ Ok (tt {0}))
  unfolding broadcast_fault
  has_room own d e = let parts = then_none _ _ e in (when_none _ _ parts.0, by_room (room_for b.log.marks d.origin d.number) parts.1)
    where
      by_room : (r : Result (Unit {0}) LogFault) → mark_fault r ≡ None → r ≡ Ok (tt {0})
      by_room (Ok u) is = refl
      by_room (Err log_faults.NumberSpent) is = absurd (cc (is))
      by_room (Err log_faults.Store) is = absurd (cc (is))
      by_room (Err log_faults.Old) is = absurd (cc (is))
      by_room (Err log_faults.OriginsFull) is = absurd (cc (is))

  admits_casts : (own : ℕ) → address_of m.station ≡ Some own → c.code ≡ 4 → (d : Broadcast) → broadcast_in c.body ≡ Some d → broadcast_fault own b.log d ≡ None
      → IsCast (admits_broadcast in_memory z d)
  unfolding goes_further with_broadcast_mark adds_local empty_draft
  admits_casts own e four d read none = by_hops (nat_lt d.hops 2) refl
    where
      s : Spells d c.body
      s = broadcast_spelled d c.body are read

      r : ((d.origin == own) ≡ false) × (room_for b.log.marks d.origin d.number ≡ Ok (tt {0}))
      r = has_room own d none

      fresh : AllEarlier d.origin d.number marked.before
      fresh = admission_is_fresh marked.given marked.before b.log records d.origin d.number marked.run s.0.origin s.0.number r.1

      up_fits : IsSentAs sent d.origin d.number d.octets × (d.origin ≢ home) × IsFirst
          (record { node = number; origin = d.origin; number = d.number; octets = d.octets }) ups
      up_fits = (
        comes four d read,
        (λ same. eqb-false d.origin own r.0 (same ∙ sym (at own e))),
        first_of ups
            (record { node = number; origin = d.origin; number = d.number; octets = d.octets }) marked.before fresh marked.covers,
      )

      less_is : nat_lt d.hops 2 ≡ false → IsBroadcast (hop_less d)
      less_is two = let low = ltb-false _ _ two in let high = s.0.hops.1 in record
          { hops = (omega arith, omega arith); origin = s.0.origin; number = s.0.number; some = s.0.some; fits = s.0.fits }

      by_hops : (t : Bool) → nat_lt d.hops 2 ≡ t → IsCast (sealed (in_reach in_memory) reach_ends z
          (if t then with_broadcast_mark d.origin d.number (empty_draft z) else adds_local to_all 4 (spelling (hop_less d))
          (with_broadcast_mark d.origin d.number (empty_draft z))) (heard_of.Broadcast d.origin d.number d.octets))
      by_hops true e = sealed_by_plan (CastBy sent ups home number) fails reach_ends z (with_broadcast_mark d.origin d.number (empty_draft z))
          (heard_of.Broadcast d.origin d.number d.octets) (up_fits, none_sealed (UnitSent sent) m.station.ring m.station.counter.next)
      by_hops false e = sealed_by_plan (CastBy sent ups home number) fails reach_ends z
          (adds_local to_all 4 (spelling (hop_less d)) (with_broadcast_mark d.origin d.number (empty_draft z)))
          (heard_of.Broadcast d.origin d.number d.octets) (
            up_fits,
            one_sealed (UnitSent sent) m.station.ring m.station.counter.next to_all (units.Local 4 (spelling (hop_less d))) 0
                (spelled_sent sent to_all (hop_less d) (less_is e) (comes four d read)),
          )

  broadcast_casts : (own : ℕ) → address_of m.station ≡ Some own → c.code ≡ 4 → (o : Option Broadcast) → broadcast_in c.body ≡ o
      → IsCast (hear_broadcast_in in_memory z own o)
  unfolding checked_plan
  broadcast_casts own e four None read = dropped (reach_drops.Known drops.BadUnit)
  broadcast_casts own e four (Some d) read = by_fault (broadcast_fault own b.log d) refl
    where
      by_fault : (o : Option ReachDropped) → broadcast_fault own b.log d ≡ o → IsCast (checked_plan reach_ends z o (admits_broadcast in_memory z d))
      by_fault (Some reason) none = dropped reason
      by_fault None none = admits_casts own e four d read none

  command_casts : IsCast (hear_command in_memory z c)
  command_casts = by_address (address_of m.station) refl
    where
      bad : IsCast (drop_it z (reach_drops.Known drops.BadUnit))
      bad = dropped (reach_drops.Known drops.BadUnit)

      by_address : (o : Option ℕ) → address_of m.station ≡ o → IsCast (option_map_or (λ own. hear_command_at in_memory z own c) o
          (drop_it z (reach_drops.Known drops.BadUnit)))
      by_address None e = bad
      by_address (Some own) e =
          chosen (c.code == 3) _ _ (λ three. chosen c.to_all _ _ (λ all. bad) (λ one. ack_casts (ack_in c.body)))
          (λ not_three. chosen (c.code == 4) _ _ (λ four. chosen c.to_all _ _ (λ all. broadcast_casts own e (eqb-true c.code 4 four) (broadcast_in c.body) refl)
          (λ one. bad))
          (λ not_four. chosen (c.code == 5) _ _ (λ five. chosen c.to_all _ _ (λ all. bad) (λ one. path_casts own (path_in c.body))) (λ not_five. bad)))

-- # Events

-- What an event hands up fits, what it sends is at its node's home, and what flies after it was sent.
pub record CastsOn (sent : List Broadcasting) (ups : List BroadcastUp) (home : ℕ → ℕ) (v : World) (t : Trace) : Type 0 where
  pub up : IfSome t.happenings.bup (λ (u : BroadcastUp). IsSentAs sent u.origin u.number u.octets × (u.origin ≢ home u.node) × IsFirst u ups ×
      (u.node < length v.nodes))
  pub from : IfSome t.further.broadcast (λ (b : Broadcasting). b.address ≡ home b.node)
  pub flights : All (FlightSays (UnitSent (sent ++ one_of t.further.broadcast))) v.flights

abbrev CastsIn : List Broadcasting → List BroadcastUp → (ℕ → ℕ) → Step → Type 0
CastsIn sent ups home (Ok r) = r.1.happenings.forged ≡ false → CastsOn sent ups home r.0 r.1
CastsIn sent ups home (Err fault) = Unit {0}

record IsSilent (t : Trace) : Type 0 where
  bup : t.happenings.bup ≡ None
  broadcast : t.further.broadcast ≡ None

abbrev SilentIn : Step → Type 0
SilentIn (Ok r) = IsSilent r.1
SilentIn (Err fault) = Unit {0}

sent_silent : (w : World) (from to : ℕ) (datagram : List ℕ) (tag : ℕ) (t : Bool) (r : World × Trace) → IsSilent r.1
    → IsSilent (sent_if w from to datagram tag t r).1
sent_silent w from to datagram tag true r h = record { bup = h.bup; broadcast = h.broadcast }
sent_silent w from to datagram tag false r h = h

old_silent : (w : World) (event : Event) (s : Step) → old.IsStep network w event s → SilentIn s
old_silent w event s (old.Fails e fault) = tt
old_silent w event s (old.Makes e x is) = record { bup = refl; broadcast = refl }
old_silent w event s (old.Rests e quiet) = record { bup = refl; broadcast = refl }
old_silent w event s (old.Shows number x) = record { bup = refl; broadcast = refl }
old_silent w event s (old.Acts e number x A halted plan reads there call word asked_of) = record { bup = refl; broadcast = refl }
old_silent w event s (old.BreaksLink number next x a there call) = record { bup = refl; broadcast = refl }
old_silent w event s (old.SendsFrom from to datagram x a there call target) =
    let d : NodeStep Answer = answering sent_word (acts x (Err sends_of.Halted) (λ m. of_station m (calls.send m.station a datagram (w.sends + 1) w.clock))) in
    sent_silent w from to datagram (tag_of x) (is_taken d.answer) (node_outcome network w from d) (record { bup = refl; broadcast = refl })
old_silent w event s (old.AllowsMeter number y c psk there call meter) = record { bup = refl; broadcast = refl }
old_silent w event s (old.Sets e quiet number x plan there open_is is) = record { bup = refl; broadcast = refl }
old_silent w event s (old.SetsTwo e quiet a b cost x y p q hx hy apart open_is first second fresh near) = record { bup = refl; broadcast = refl }
old_silent w event s (old.Provides number x c psk g d ne open_is hx hc pair is answer) = record { bup = refl; broadcast = refl }
old_silent w event s (old.TurnsDown e number x octets reason d there says comes is answer) = record { bup = refl; broadcast = refl }
old_silent w event s (old.Hears e number x octets cost got there says comes low is) = record { bup = refl; broadcast = refl }
old_silent w event s (old.Loses number f there) = record { bup = refl; broadcast = refl }
old_silent w event s (old.Ticks seconds) = record { bup = refl; broadcast = refl }
old_silent w event s (old.Restarts number x there) = record { bup = refl; broadcast = refl }
old_silent w event s (old.Cuts number nth keeps_new x there) = record { bup = refl; broadcast = refl }

module _ (w : World) (ok : WorldOk w) (s : WorldSpeaks w) (logs : LogsKept w) (r : IsInRange w) (home : ℕ → ℕ) (homes : AreAtHome home w)
    (sent : List Broadcasting) (ups : List BroadcastUp) (held : MarkedWorld ups w) (before : All (FlightSays (UnitSent sent)) w.flights) where
  abbrev P : ℕ → MeshUnit → Type 0
  P = UnitSent sent

  any : (to : ℕ) (u : MeshUnit) → IsOldUnit u → P to u
  any = old_sent sent

  silent : (v : World) (t : Trace) → IsSilent t → All (FlightSays P) v.flights → CastsOn sent ups home v t
  silent v t h all = record { up = rw h.bup tt; from = rw h.broadcast tt; flights = wider sent (one_of t.further.broadcast) v.flights all }

  address_at : (x : Node) (m : Memory) (own : ℕ) → x.memory ≡ Some m → address_of m.station ≡ Some own → node_address x ≡ Some own
  address_at x m own here e = ap (option_and_then (λ (n : Memory). address_of n.station)) here ∙ e

  low_at : (number : ℕ) (x : Node) (m : Memory) → node_at w number ≡ Some x → x.memory ≡ Some m → (own : ℕ) → address_of m.station ≡ Some own → IsAddress own
  low_at number x m there here own e = address_low x own (at_place NodeOk w.nodes number x there ok.nodes) (address_at x m own here e)

  next_low : (number : ℕ) (x : Node) (m : Memory) → node_at w number ≡ Some x → x.memory ≡ Some m → (beside_at w number).log.numbering.next < 2 ^ 32
  next_low number x m there here =
      let l : IsLogIn (beside_at w number).log x.store.records = subst (λ o. LogIn (beside_at w number).log x.store.records o) here
      (logged_at w.beside w.nodes number x logs there) in
      let below = l.kept.numbering.below in
      let fits = l.fits in
      omega arith

  abbrev AckSays : Result (Unit {0}) LocalRefusal → List Sent → Type 0
  AckSays answer frames = All (FrameSays P) frames

  abbrev AskSays : Result (Unit {0}) AskRefusal → List Sent → Type 0
  AskSays answer frames = All (FrameSays P) frames

  ack_casts_at : (x : Node) (reply : Reply) → All (FrameSays P) (acknowledging x reply).frames
  unfolding sealed resting goes empty_draft
  ack_casts_at x reply = acts_by AckSays x (Err locals.Store) (λ m. acknowledges in_memory reply.to reply.number reply.origin m) (All-nil (FrameSays P))
      (λ m here. by_left m (nat_lt (counters_left m.station) 1))
    where
      by_left : (m : Memory) (t : Bool) → let p : Plan Memory (Result (Unit {0}) LocalRefusal) = within (λ l. with_station l m) (λ a. a)
          (if t then refused local_ends m.station local_ends.spent else sealing alone local_ends
          (local_draft m.station 3 (Some reply.to) (ack_spelling reply.number reply.origin)) (tt {0})) in Both AckSays p.answer p.failed p.frames
      by_left m true = record { whole = All-nil (FrameSays P); cut = All-nil (FrameSays P) }
      by_left m false = record {
        whole = one_sealed P m.station.ring m.station.counter.next reply.to (units.Local 3 (ack_spelling reply.number reply.origin)) 0
            (other_sent sent reply.to 3 (ack_spelling reply.number reply.origin) (λ e. cc (e)));
        cut = All-nil (FrameSays P);
      }

  ask_casts : (x : Node) (b : Beside) (target : ℕ) → All (FrameSays P) (reaches x b (Err ask_faults.Halted) (λ z. ask_path in_memory z target)).frames
  unfolding choose_plan adds_local empty_draft
  ask_casts x b target = acts_by AskSays x (Err ask_faults.Halted) (with_beside b (λ z. ask_path in_memory z target)) (All-nil (FrameSays P))
      (λ m here. by_address m (address_of m.station))
    where
      fails : (e : AskRefusal) → AskSays (Err e) []
      fails e = All-nil (FrameSays P)

      by_route : (m : Memory) (own : ℕ) (o : Option ℕ) → let p : Plan (Reaching Memory) (Result (Unit {0}) AskRefusal) = asks_over in_memory
          (record { memory = m; beside = b }) own target o in Both AskSays p.answer p.failed p.frames
      by_route m own None = refused_by AskSays fails ask_ends (record { memory = m; beside = b }) ask_faults.NoRoute
      by_route m own (Some hop) = sealed_by_plan AskSays fails ask_ends (record { memory = m; beside = b })
          (adds_local hop 5 (path_spelling (Ask target (own ∷ []))) (empty_draft (record { memory = m; beside = b }))) tt
          (one_sealed P m.station.ring m.station.counter.next hop (units.Local 5 (path_spelling (Ask target (own ∷ [])))) 0
          (other_sent sent hop 5 (path_spelling (Ask target (own ∷ []))) (λ e. cc (e))))

      by_self : (m : Memory) (own : ℕ) (t : Bool) → let p : Plan (Reaching Memory) (Result (Unit {0}) AskRefusal) =
          (if t then refused ask_ends (record { memory = m; beside = b }) ask_faults.ToSelf else asks_over in_memory (record { memory = m; beside = b }) own
          target (station_route m.station target)) in Both AskSays p.answer p.failed p.frames
      by_self m own true = refused_by AskSays fails ask_ends (record { memory = m; beside = b }) ask_faults.ToSelf
      by_self m own false = by_route m own (station_route m.station target)

      by_address : (m : Memory) (o : Option ℕ) → let p : Plan (Reaching Memory) (Result (Unit {0}) AskRefusal) = option_map_or
          (λ own. asks_from in_memory (record { memory = m; beside = b }) own target) o
          (refused ask_ends (record { memory = m; beside = b }) ask_faults.NotJoined) in Both AskSays p.answer p.failed p.frames
      by_address m None = refused_by AskSays fails ask_ends (record { memory = m; beside = b }) ask_faults.NotJoined
      by_address m (Some own) = by_self m own (target == own)

  discovered_casts : {A : Type 0} (number : ℕ) (word : A → Answer) (noticed : A → Option Noticed) (d : Discovering A)
      → let q : World × Trace = has_discovered w number word noticed d in CastsOn sent ups home q.0 q.1
  discovered_casts number word noticed d = record {
    up = tt;
    from = tt;
    flights = wider sent [] (w.flights ++ discovery_flights number d.sent)
        (All-append (FlightSays P) w.flights (discovery_flights number d.sent) before (by_sent d.sent));
  }
    where
      by_sent : (o : Option Discovery) → All (FlightSays P) (discovery_flights number o)
      by_sent None = All-nil (FlightSays P)
      by_sent (Some frame) = All-cons (FlightSays P) _ [] (discovery_says P number frame) (All-nil (FlightSays P))

  module _ (event : Event) (number : ℕ) (x : Node) (octets : List ℕ) (cost : ℕ) (got : Accepted) (a : IsAccepted network w event number x octets got) where
    abbrev h : World × Trace
    h = hearing_outcome network w number (after_accepting network x octets) octets got cost

    abbrev left : Node
    left = (heard_node network w x octets got cost).node

    heard_flights : forged_by w octets got.path ≡ false → All (FlightSays P) h.0.flights
    heard_flights honest = heard_says P any w ok s r.ranged number x octets cost got event a.there a.says a.comes a.is honest before

    is_heard : forged_by w octets got.path ≡ false → IsHeard w event number x octets got
    is_heard honest = record { says = a.says; there = a.there; comes = a.comes; is = a.is; honest = honest }

    commanded_casts : (c : NeighbourCommand) → command_of got ≡ Some c → h.1.happenings.forged ≡ false
        → let q : World × Trace = commanded network number left c h in CastsOn sent ups home q.0 q.1
    unfolding world_after
    commanded_casts c e honest = record { up = fits d.answer by.0; from = tt; flights = flown }
      where
        unforged : forged_by w octets got.path ≡ false
        unforged = (or_parts _ _ honest).0

        d : NodeStep (Result CommandHeard ReachDropped)
        d = reaches left (beside_at w number) (Err (reach_drops.Known drops.Store)) (λ y. hear_command in_memory y c)

        are : AreOctets octets
        are = came_octets network network_ranges w ok s.flights event number octets a.says a.comes

        body : AreOctets c.body
        body = commands_fit network network_ranges w ok s.flights event a.says number x octets got c a.there a.comes a.is e

        came : CommandCame w x octets c
        came = command_came w x octets got c e unforged a.is are

        known : UnitSent sent (to_of came.frame.head) (units.Local c.code c.body)
        known = command_says P w x octets c came before

        at : (m : Memory) → left.memory ≡ Some m → (own : ℕ) → address_of m.station ≡ Some own → own ≡ home number
        at m here own e2 = let y = address_stays network w x octets got cost c e m here in homes.homes number x own a.there
            (address_at x y.memory own y.there (sym y.same ∙ e2))

        marked : (m : Memory) → left.memory ≡ Some m → Marked ups number (beside_at w number).log left.store.records
        marked m here = subst (λ o. MarkedIn ups number (beside_at w number).log left.store.records o) here
            (quiet_marks ups number (beside_at w number).log x left (heard_quiet network w (tables_short w ok) number x octets got cost
            (note_by w octets got.path) a.there) (held number x a.there))

        by : CastBy sent ups (home number) number d.answer d.frames
        by = acts_by (CastBy sent ups (home number) number) left (Err (reach_drops.Known drops.Store))
            (with_beside (beside_at w number) (λ y. hear_command in_memory y c)) (tt, All-nil (FrameSays P))
            (λ m here. command_casts sent ups (home number) number (beside_at w number) left.store.records m c (marked m here) body (at m here) known)

        there_after : number < length (commanded network number left c h).0.nodes
        there_after = let k = node_within w.nodes number x a.there in subst (λ n. number < n)
            (sym (length-set (slice_set w.nodes number left) number d.node ∙ length-set w.nodes number left)) k

        fits : (answer : Result CommandHeard ReachDropped) → UpFits sent ups (home number) (broadcast_up number answer)
            → IfSome (broadcast_up number answer) (λ (u : BroadcastUp). IsSentAs sent u.origin u.number u.octets × (u.origin ≢ home u.node) × IsFirst u ups ×
            (u.node < length (commanded network number left c h).0.nodes))
        fits (Ok (heard_of.Broadcast origin count octets)) f = (f.0, f.1, f.2, there_after)
        fits (Ok heard_of.Acked) f = tt
        fits (Ok heard_of.Relayed) f = tt
        fits (Ok heard_of.Answered) f = tt
        fits (Ok (heard_of.Path walk)) f = tt
        fits (Err reason) f = tt

        flown : All (FlightSays (UnitSent (sent ++ []))) (world_after network h.0 number d).flights
        flown = wider sent [] (world_after network h.0 number d).flights (after_says P h.0 number d
            (r.sends.commands event number x octets got cost c (is_heard unforged) e) by.1 (heard_flights unforged))

    abbrev noted : World × Trace
    noted = with_check w number (reply_among (heard_node network w x octets got cost).frames) h

    checked_casts : h.1.happenings.forged ≡ false → let q : World × Trace = checked network w number got (heard_node network w x octets got cost) h in CastsOn
        sent ups home q.0 q.1
    unfolding world_after
    checked_casts honest = by_due (due got.path (message_of got) (heard_node network w x octets got cost).answer.answer) refl
      where
        unforged : forged_by w octets got.path ≡ false
        unforged = (or_parts _ _ honest).0

        by_memory : (reply : Reply) → due got.path (message_of got) (heard_node network w x octets got cost).answer.answer ≡ Some reply → (t : Bool)
            → let q : World × Trace = (if t then adds_frames (world_after network noted.0 number (acknowledging left reply)) noted.1 (acknowledging left reply)
            else
            sends_nothing w (world_after network noted.0 number (acknowledging left reply), noted.1)) in CastsOn sent ups home q.0 q.1
        by_memory reply e true = silent _ _ (record { bup = refl; broadcast = refl })
            (after_says P noted.0 number (acknowledging left reply) (r.sends.acknowledges event number x octets got cost reply (is_heard unforged) e)
            (ack_casts_at left reply) (heard_flights unforged))
        by_memory reply e false = silent _ _ (record { bup = refl; broadcast = refl }) before

        by_due : (o : Option Reply) → due got.path (message_of got) (heard_node network w x octets got cost).answer.answer ≡ o
            → let q : World × Trace = acknowledged_if network w number left o noted in CastsOn sent ups home q.0 q.1
        by_due None e = silent _ _ (record { bup = refl; broadcast = refl }) (heard_flights unforged)
        by_due (Some reply) e = by_memory reply e (is_some (acknowledging left reply).node.memory)

    -- an acknowledgement is not forged
    checked_honest : (checked network w number got (heard_node network w x octets got cost) h).1.happenings.forged ≡ false → h.1.happenings.forged ≡ false
    checked_honest = by_due (due got.path (message_of got) (heard_node network w x octets got cost).answer.answer)
      where
        by_memory : (reply : Reply) (t : Bool) → (if t then adds_frames (world_after network noted.0 number (acknowledging left reply)) noted.1
            (acknowledging left reply) else sends_nothing w (world_after network noted.0 number (acknowledging left reply), noted.1)).1.happenings.forged
            ≡ false
            → h.1.happenings.forged ≡ false
        by_memory reply true e = e
        by_memory reply false e = e

        by_due : (o : Option Reply) → (acknowledged_if network w number left o noted).1.happenings.forged ≡ false → h.1.happenings.forged ≡ false
        by_due None e = e
        by_due (Some reply) e = by_memory reply (is_some (acknowledging left reply).node.memory) e

  own_home : (number : ℕ) (x : Node) (b : Beside) (datagram : List ℕ) (answer : Result (Unit {0}) BroadcastRefusal) → node_at w number ≡ Some x
      → IfSome (broadcast_sent number x b datagram answer) (λ (c : Broadcasting). c.address ≡ home c.node)
  own_home number x b datagram (Err reason) there = tt
  own_home number x b datagram (Ok u) there = by_address (node_address x) refl
    where
      by_address : (o : Option ℕ) → node_address x ≡ o → IfSome (option_map
          (λ address. record { node = number; address = address; number = b.log.numbering.next; datagram = datagram }) o)
          (λ (c : Broadcasting). c.address ≡ home c.node)
      by_address None e = tt
      by_address (Some own) e = homes.homes number x own there e

  -- a meter that joins by an agent
  abbrev ChoiceSays : Result ChosenAgent ChooseRefusal → List Sent → Type 0
  ChoiceSays answer frames = All IsOldFrame frames

  choice_old : (x : Node) (b : Beside) (own : meters.Identity) (k now : ℕ)
      → All IsOldFrame (reaches x b (Err choices.Halted) (λ y. choose_agent own y k now)).frames
  unfolding choose_plan resting
  choice_old x b own k now = acts_by ChoiceSays x (Err choices.Halted) (with_beside b (λ y. choose_agent own y k now)) (All-nil IsOldFrame)
      (λ m here. by_joined m (meters.is_joined m))
    where
      by_agent : (m : Memory) (o : Option (ℕ × ℕ)) → let p : Plan (Reaching Memory) (Result ChosenAgent ChooseRefusal) = joins_by own
          (record { memory = m; beside = b }) now o in Both ChoiceSays p.answer p.failed p.frames
      by_agent m None = record { whole = All-nil IsOldFrame; cut = All-nil IsOldFrame }
      by_agent m (Some (address, total)) = record { whole = joins_old own m address now; cut = All-nil IsOldFrame }

      by_joined : (m : Memory) (t : Bool) → let p : Plan (Reaching Memory) (Result ChosenAgent ChooseRefusal) =
          (if t then refused choosing_ends (record { memory = m; beside = b }) choices.AlreadyJoined else joins_by own (record { memory = m; beside = b }) now
          (kth_of b.scan.agents k)) in Both ChoiceSays p.answer p.failed p.frames
      by_joined m true = record { whole = All-nil IsOldFrame; cut = All-nil IsOldFrame }
      by_joined m false = by_agent m (kth_of b.scan.agents k)

  old_casts : (event : Event) (st : Step) → old.IsStep network w event st → SilentIn st → CastsIn sent ups home st
  old_casts event (Ok q) is h = λ honest. silent q.0 q.1 h (old_flights P any w ok s r.ranged event (Ok q) is honest before)
  old_casts event (Err fault) is h = tt

  casts_on : (event : Event) (st : Step) → IsReachStep network w event st → CastsIn sent ups home st
  casts_on event st (Fails e fault) = tt
  casts_on event st (Known e t other is none) = old_casts event st is (old_silent w event st is)
  casts_on event st (Rests e answer idle other none) = λ honest. silent _ _ (record { bup = refl; broadcast = refl }) before
  casts_on event st Opens = λ honest. silent _ _ (record { bup = refl; broadcast = refl }) before
  casts_on event st (Bcasts number x datagram there are) = λ honest.
      let d = reaches x (beside_at w number) (Err broadcast_faults.Halted) (λ y. broadcast in_memory y datagram) in
      let by : All (FrameSays (UnitSent (sent ++ one_of (broadcast_sent number x (beside_at w number) datagram d.answer)))) d.frames =
      acts_by (OwnBy sent number x (beside_at w number) datagram are) x (Err broadcast_faults.Halted)
      (with_beside (beside_at w number) (λ y. broadcast in_memory y datagram)) (All-nil (FrameSays (UnitSent (sent ++ []))))
      (λ m here. own_sends sent number x (beside_at w number) datagram are m here (low_at number x m there here) (λ left. next_low number x m there here)) in
      record {
        up = tt;
        from = own_home number x (beside_at w number) datagram d.answer there;
        flights = after_says (UnitSent (sent ++ one_of (broadcast_sent number x (beside_at w number) datagram d.answer))) (running_world w) number d
            (r.sends.broadcasts number x datagram there are) by (wider sent (one_of (broadcast_sent number x (beside_at w number) datagram d.answer)) w.flights
            before);
      }
  casts_on event st (Asks from to x y target there other address) = λ honest.
      silent _ _ (record { bup = refl; broadcast = refl }) (after_says P (running_world w) from
      (reaches x (beside_at w from) (Err ask_faults.Halted) (λ z. ask_path in_memory z target)) (r.sends.asks from x target there)
      (ask_casts x (beside_at w from) target) before)
  casts_on event st (Scans number x m there here) = λ honest. discovered_casts number scan_word (scanning number) (begin_scan m (beside_at w number).scan)
  casts_on event st (Chooses number k x psk there pair) = λ honest.
      silent _ _ (record { bup = refl; broadcast = refl }) (after_as_before P any (running_world w) number
      (reaches x (beside_at w number) (Err choices.Halted) (λ y. choose_agent (identity network x psk) y k w.clock))
      (r.sends.choices number k x psk there pair) (choice_old x (beside_at w number) (identity network x psk) k w.clock) before)
  casts_on event st (Discovers e number x m octets link other there here comes over is) = λ honest.
      discovered_casts number discovery_word (beacon_taken number (discovery_in octets) link)
      (hear_discovery x.role m.station (beside_at w number).scan octets link)
  casts_on event st (Unbelieves e number x octets got a is) = λ honest. silent _ _ (record { bup = refl; broadcast = refl })
      (after_silently P (running_world w) number (stays (after_accepting network x octets) (only answers.Blacklisted)) refl before)
  casts_on event st (Commands e number x octets cost got c a low passes is) = λ honest. commanded_casts event number x octets cost got a c is honest
  casts_on event st (Checked e number x octets cost got a low passes none on) = λ honest. checked_casts event number x octets cost got a
      (checked_honest event number x octets cost got a honest)
  casts_on event st (Hears e number x octets cost got a low passes none off) = λ honest. silent _ _ (record { bup = refl; broadcast = refl })
      (heard_flights event number x octets cost got a (or_parts _ _ honest).0)
  casts_on event st (Ticks seconds) = λ honest. silent _ _ (record { bup = refl; broadcast = refl }) before
  casts_on event st (Restarts number x b there read) = λ honest. silent _ _ (record { bup = refl; broadcast = refl })
      (after_silently P (running_world w) number (restarts x) refl before)

-- # Runs

ups_more : (before : List Entry) (x : Entry) → broadcast_ups (before ++ x ∷ []) ≡ broadcast_ups before ++ one_of x.trace.happenings.bup
ups_more [] x = append-nil (one_of x.trace.happenings.bup)
ups_more (y ∷ before) x = ap (λ xs. one_of y.trace.happenings.bup ++ xs) (ups_more before x) ∙ sym
    (append_assoc (one_of y.trace.happenings.bup) (broadcast_ups before) (one_of x.trace.happenings.bup))

broadcasts_more : (before : List Entry) (x : Entry) → broadcasts (before ++ x ∷ []) ≡ broadcasts before ++ one_of x.trace.further.broadcast
broadcasts_more [] x = append-nil (one_of x.trace.further.broadcast)
broadcasts_more (y ∷ before) x = ap (λ xs. one_of y.trace.further.broadcast ++ xs) (broadcasts_more before x) ∙ sym
    (append_assoc (one_of y.trace.further.broadcast) (broadcasts before) (one_of x.trace.further.broadcast))

all_one : {A : Type 0} (Q : A → Type 0) (o : Option A) → IfSome o Q → All Q (one_of o)
all_one Q None h = All-nil Q
all_one Q (Some a) h = All-cons Q a [] h (All-nil Q)

-- What holds of a run so far: what was sent is at its node's home, and who handed something up is a node of the line.
record CastHolds (home : ℕ → ℕ) (sent : List Broadcasting) (ups : List BroadcastUp) (w : World) : Type 0 where
  from : All (λ (b : Broadcasting). b.address ≡ home b.node) sent
  earlier : All (λ (u : BroadcastUp). u.node < length w.nodes) ups
  marked : MarkedWorld ups w
  flights : All (FlightSays (UnitSent sent)) w.flights

was_sent : (home : ℕ → ℕ) (sent : List Broadcasting) (u : BroadcastUp) → All (λ (b : Broadcasting). b.address ≡ home b.node) sent
    → IsSentAs sent u.origin u.number u.octets → u.origin ≢ home u.node → WasBroadcast u sent
was_sent home sent u from h apart = record {
  place = h.place;
  broadcast = h.broadcast;
  is = h.is;
  other = λ same. apart (sym h.address ∙ at_place (λ (b : Broadcasting). b.address ≡ home b.node) sent h.place h.broadcast h.is from ∙ ap home same);
  address = h.address;
  number = h.count;
  octets = h.same;
}

all_once : (home : ℕ → ℕ) (w : World) → WorldOk w → WorldSpeaks w → LogsKept w → (before : List Entry)
    → CastHolds home (broadcasts before) (broadcast_ups before) w → (entries : List Entry) → AreEvents (events_of entries) → IsRun network w entries
    → All HoldsAfter entries
    → HoldsAlong (λ v. IsInRange v × AreAtHome home v) w entries → AreBroadcastOnceAfter before entries
all_once home w ok s logs before h [] says run holds ranged = tt
all_once home w ok s logs before h (x ∷ xs) says run holds ranged = λ honest.
    let event = All-head IsEvent x.event (events_of xs) says in
    let sent : List Broadcasting = broadcasts before in
    let ups : List BroadcastUp = broadcast_ups before in
    let is : IsReachStep network w x.event (line_step network w x.event) = reach_step_is network w logs x.event event in
    let on : CastsOn sent ups home x.after x.trace = subst (CastsIn sent ups home) run.2
    (casts_on w ok s logs ranged.0.0 home ranged.0.1 sent ups h.marked h.flights x.event (line_step network w x.event) is) honest in
    let marks : MarkedWorld (ups ++ one_of x.trace.happenings.bup) x.after = subst (MarksOn ups) run.2
    (marks_on w ok s.flights logs ups h.marked h.earlier x.event (line_step network w x.event) is) in
    let speaks : WorldSpeaks x.after = subst (SpeaksIn w ok s) run.2 (line_speaks w ok s logs x.event (line_step network w x.event)
    (line_step_is Octets Spelled network network_ranges w ok s.flights logs (octets_speak w ok s logs) x.event event)) in
    let after = All-head HoldsAfter x xs holds in
    let goes = line_steps network w x.after x.event x.trace run.2 in
    let longer = goes.nodes in
    let next : CastHolds home (sent ++ one_of x.trace.further.broadcast) (ups ++ one_of x.trace.happenings.bup) x.after = record {
      from = All-append (λ (b : Broadcasting). b.address ≡ home b.node) sent (one_of x.trace.further.broadcast) h.from
          (all_one (λ (b : Broadcasting). b.address ≡ home b.node) x.trace.further.broadcast on.from);
      earlier = All-append (λ (u : BroadcastUp). u.node < length x.after.nodes) ups (one_of x.trace.happenings.bup)
          (All-weaker (λ (u : BroadcastUp). u.node < length w.nodes) (λ (u : BroadcastUp). u.node < length x.after.nodes) (λ u lt. omega arith) ups h.earlier)
          (all_one (λ (u : BroadcastUp). u.node < length x.after.nodes) x.trace.happenings.bup (node_of x.after x.trace.happenings.bup on.up));
      marked = marks;
      flights = on.flights;
    } in
    let again : CastHolds home (broadcasts (before ++ x ∷ [])) (broadcast_ups (before ++ x ∷ [])) x.after = subst
    (λ b. CastHolds home b (broadcast_ups (before ++ x ∷ [])) x.after) (sym (broadcasts_more before x))
    (subst (λ u. CastHolds home (sent ++ one_of x.trace.further.broadcast) u x.after) (sym (ups_more before x)) next) in (
      up_of x.trace.happenings.bup on.up,
      all_once home x.after after.line speaks after.logs (before ++ x ∷ []) again xs
          (All-tail IsEvent x.event (events_of xs) says) run.3 (All-tail HoldsAfter x xs holds) (ranged.1 honest),
    )
  where
    node_of : (v : World) (o : Option BroadcastUp) → IfSome o (λ (u : BroadcastUp). IsSentAs (broadcasts before) u.origin u.number u.octets ×
        (u.origin ≢ home u.node) × IsFirst u (broadcast_ups before) × (u.node < length v.nodes)) → IfSome o (λ (u : BroadcastUp). u.node < length v.nodes)
    node_of v None f = tt
    node_of v (Some u) f = f.3

    up_of : (o : Option BroadcastUp) → IfSome o (λ (u : BroadcastUp). IsSentAs (broadcasts before) u.origin u.number u.octets × (u.origin ≢ home u.node) ×
        IsFirst u (broadcast_ups before) × (u.node < length x.after.nodes))
        → IfSome o (λ (u : BroadcastUp). WasBroadcast u (broadcasts before) × IsFirst u (broadcast_ups before))
    up_of None f = tt
    up_of (Some u) f = (was_sent home (broadcasts before) u h.from f.0 f.1, f.2)

pub broadcast_once : (home : ℕ → ℕ) → (entries : List Entry) → AreEvents (events_of entries)
    → IsRun network start entries → All HoldsAfter entries → HoldsAlong (λ w. IsInRange w × AreAtHome home w) start entries → AreBroadcastOnce entries
broadcast_once home entries says run holds ranged =
    all_once home start start_ok start_speaks tt [] (record {
      from = All-nil (λ (b : Broadcasting). b.address ≡ home b.node);
      earlier = All-nil
          (λ (u : BroadcastUp). u.node < 0);
      marked = λ n x there. absurd (cc (there));
      flights = All-nil (FlightSays (UnitSent []));
    }) entries says run
    holds ranged
