-- What the history and the report have of further reach is there exactly where the answer says so, event by event, with its frame.
use Rattle.std.proofs.Common.{zero, suc, ◌≡◌, ℕ, ◌+◌, Bool, true, false, List, [], ◌∷◌, ◌++◌, length, drop, map, append-nil, Option, Some, None, Result, Ok}
use Rattle.std.proofs.Common.{Err, refl, sym, ap, ◌∙◌, subst}
use Rattle.std.specs.Prelude.{All, IfSome, is_some, slice_get, if◌then◌else◌}
use Rattle.std.specs.Option.{option_map, option_map_or}
use Rattle.std.proofs.Math.Seq.{drop-append_seam}
use Rattle.std.proofs.lemmas.List.{append_assoc, map-append}
use Rattle.std.proofs.lemmas.List.Elements.{All-head, All-tail}
use Rattle.std.proofs.lemmas.Option.{same_Some}
use Rattle.mesh_header.specs.declared.unit.Unit.TheVariants as units
use Rattle.loadng_messages.specs.declared.message.Message.{Message}
use Rattle.loadng_messages.specs.declared.message.Message.TheVariants.{Rreq, Rrep, Rerr}
use Rattle.neighbour_checks.specs.Acks.{ack_in}
use Rattle.pan_discovery.specs.declared.message.Discovery.{Discovery}
use Rattle.pan_discovery.specs.declared.message.Discovery.TheVariants as discoveries
use Rattle.pan_discovery.specs.Reader.{discovery_in}
use Rattle.pan_discovery.specs.History.{Scanned}
use Rattle.node_rules.specs.Accepted.{Accepted}
use Rattle.node_rules.specs.declared.heard.Reply.{Reply}
use Rattle.node_rules.specs.declared.refusal.Dropped.TheVariants as drops
use Rattle.node_rules.specs.declared.refusal.CoordinatorRefusal.{CoordinatorRefusal}
use Rattle.node_rules.specs.declared.refusal.CoordinatorRefusal.TheVariants as orders
use Rattle.node_rules.specs.declared.refusal.SendRefusal.TheVariants as sends
use Rattle.node_rules.specs.Coordinators as coordinator_rules
use Rattle.node_rules.specs.RestartStates.{memory_of}
use Rattle.node_rules.specs.Calls as calls
use Rattle.node_rules.specs.Ciphers.{network}
use Rattle.node_rules.specs.Frames.{SealedUnit, Sent, Sealed, Up, Down, spelled}
use Rattle.node_rules.specs.Memory.{StationMemory, Memory, Node, Role, address_of, node_address}
use Rattle.node_rules.specs.MemoryDrafts.{in_memory}
use Rattle.node_rules.specs.NodeSteps.{NodeStep, acts, answering, of_station}
use Rattle.node_rules.specs.Plans.{resting}
use Rattle.node_rules.specs.Drafts.{refused}
use Rattle.node_rules.specs.Replies.{first_of, reply_among, reply_of, reply_with, route_message}
use Rattle.reach_rules.specs.declared.heard.CommandHeard.{CommandHeard}
use Rattle.reach_rules.specs.declared.heard.CommandHeard.TheVariants as heard_of
use Rattle.reach_rules.specs.declared.heard.DiscoveryHeard.{DiscoveryHeard}
use Rattle.reach_rules.specs.declared.refusal.DiscoveryDropped.{DiscoveryDropped}
use Rattle.reach_rules.specs.declared.refusal.DiscoveryDropped.TheVariants as discovery_drops
use Rattle.reach_rules.specs.declared.refusal.ReachDropped.{ReachDropped}
use Rattle.reach_rules.specs.declared.refusal.ReachDropped.TheVariants as reach_drops
use Rattle.reach_rules.specs.declared.refusal.AskRefusal.TheVariants as ask_faults
use Rattle.reach_rules.specs.declared.refusal.ChooseRefusal.TheVariants as choices
use Rattle.reach_rules.specs.declared.refusal.BroadcastRefusal.{BroadcastRefusal}
use Rattle.reach_rules.specs.declared.refusal.BroadcastRefusal.TheVariants as broadcast_faults
use Rattle.reach_rules.specs.declared.refusal.ScanRefusal.{ScanRefusal}
use Rattle.reach_rules.specs.declared.refusal.ScanRefusal.TheVariants as scan_faults
use Rattle.reach_rules.specs.PathRequests.{ask_path}
use Rattle.reach_rules.specs.Beacons.{Discovering, beacons, begin_scan, choose_agent, cost_to_coordinator, hear_discovery, hear_discovery_in, is_foreign}
use Rattle.reach_rules.specs.Beacons.{takes_beacon}
use Rattle.reach_rules.specs.Beacons.{takes_beacons, stays as stays_scan}
use Rattle.reach_rules.specs.Broadcasts.{broadcast, broadcast_ends, broadcast_from}
use Rattle.reach_rules.specs.CheckedReplies.{message_of}
use Rattle.reach_rules.specs.ReachingNodes.{Beside, Reaching}
use Rattle.reach_rules.specs.FurtherReceptions.{NeighbourCommand, command_of, hear_command}
use Rattle.line_rules.specs.Answers.{Reception, broadcast_word, command_word, discovery_word, order_word, scan_word, sent_word}
use Rattle.line_events.specs.declared.event.Answer.{Answer}
use Rattle.line_events.specs.declared.event.Event.{Event}
use Rattle.line_events.specs.declared.event.Event.TheVariants as events
use Rattle.line_events.specs.Events.{AreEvents, IsEvent}
use Rattle.line_rules.specs.Further.{acknowledged_by, acknowledged_if, acknowledging, adds_frames, beacon_taken, beside_at, broadcast_sent, broadcast_up}
use Rattle.line_rules.specs.Further.{broadcasts_by, checked, commanded, discovers_by, due, has_discovered, line_step, path_line, reaches, replied, scanning}
use Rattle.line_rules.specs.Further.{sends_nothing, with_beside, with_check}
use Rattle.line_rules.specs.Logs.{LogsKept}
use Rattle.line_rules.specs.Runs.{Entry, IsRun, events_of, one_of}
use Rattle.line_rules.specs.Steps.{Step, node_outcome, allowed_word, flight_by, flights_of, hearing_outcome, identity, is_taken, note_by}
use Rattle.line_rules.specs.Steps.{sent_if, tag_of}
use Rattle.line_rules.specs.Steps.{world_after}
use Rattle.line_rules.specs.Forgery.{Comes}
use Rattle.line_rules.specs.FurtherRuns.{broadcasts}
use Rattle.line_rules.specs.Worlds.{Acknowledged, Broadcasting, Flight, Noticed, Trace, World, start}
use Rattle.line_laws.specs.FurtherLines.{HoldsAfter}
use Rattle.line_laws.specs.ReachTraces.{AckCame, AreReachReported, BroadcastCame, FrameCame, EveryBroadcastIsListed, EveryEventIsReported, HasFrame}
use Rattle.line_laws.specs.ReachTraces.{IsReachReported, ListsBroadcasts, WalkCame, as_bcast, is_acked, is_acknowledged, is_beacon, is_beaconed}
use Rattle.line_laws.specs.ReachTraces.{is_bup}
use Rattle.line_laws.specs.ReachTraces.{is_path, is_scan, is_scanning, link_of, sent_to_all, to_all_of}
use Rattle.line_laws.proofs.FurtherOctets.{every_run_holds}
use Rattle.line_laws.proofs.ReachCame.{Says, acts_says, command_came, command_said}
use Rattle.line_laws.proofs.ReachSteps.{Asks, Bcasts, Checked, Chooses, Commands, Discovers, Fails, Hears, IsAccepted, IsReachStep, Known, Opens, Restarts}
use Rattle.line_laws.proofs.ReachSteps.{Rests, Scans as Begins, Ticks, Unbelieves, after_accepting, heard_node, reach_step_is}
use Rattle.line_laws.proofs.ReachWords.{IsUnsent, NotNew, Quiet, ask_quiet, breaks_quiet, broadcast_quiet, choice_quiet, frame_quiet, hears_quiet}
use Rattle.line_laws.proofs.ReachWords.{idle_quiet, lost_quiet, none_new, not_new, order_quiet, reach_unreported, restart_quiet, sent_quiet, unsent_answer}
use Rattle.line_laws.proofs.ReachWords.{unsent_event, unsent_octets, unsent_word, unreported, word_quiet}
use Rattle.line_laws.proofs.StepKinds as old
use Rattle.line_laws.proofs.TracesRight.{entry}

-- # What tells nothing of further reach

record IsUnreported (event : Event) (t : Trace) : Type 0 where
  word : NotNew t.happenings.answer
  spread : IsUnsent event t.happenings.answer
  bup : t.happenings.bup ≡ None
  path : t.happenings.path ≡ None
  broadcast : t.further.broadcast ≡ None
  noticed : t.further.noticed ≡ None

abbrev UnreportedIn : Event → Step → Type 0
UnreportedIn event (Ok r) = IsUnreported event r.1
UnreportedIn event (Err fault) = Unit {0}

silent : (event : Event) (t : Trace) → Quiet t.happenings.answer → IsUnsent event t.happenings.answer → t.happenings.bup ≡ None → t.happenings.path ≡ None
    → t.further.broadcast ≡ None → t.further.noticed ≡ None → IsUnreported event t
silent event t word spread bup path cast noticed =
    record { word = not_new t.happenings.answer word; spread = spread; bup = bup; path = path; broadcast = cast; noticed = noticed }

-- of an event that sends nothing to all
quietly : (event : Event) (t : Trace) → Quiet t.happenings.answer → as_bcast event ≡ None → t.happenings.bup ≡ None → t.happenings.path ≡ None
    → t.further.broadcast ≡ None → t.further.noticed ≡ None → IsUnreported event t
quietly event t word none = silent event t word (unsent_event event t.happenings.answer none)

sent_unreported : (w : World) (event : Event) (from to : ℕ) (datagram : List ℕ) (tag : ℕ) (t : Bool) (r : World × Trace) → IsUnreported event r.1
    → IsUnreported event (sent_if w from to datagram tag t r).1
sent_unreported w event from to datagram tag true r u =
    record { word = u.word; spread = u.spread; bup = u.bup; path = u.path; broadcast = u.broadcast; noticed = u.noticed }
sent_unreported w event from to datagram tag false r u = u

-- an event without further reach
old_unreported : (w : World) (event : Event) (s : Step) → old.IsStep network w event s → UnreportedIn event s
old_unreported w event s (old.Fails e fault) = tt
old_unreported w event s (old.Makes e x is) = silent e _ refl refl refl refl refl refl
old_unreported w event s (old.Rests e quiet) = silent e _ refl refl refl refl refl refl
old_unreported w event s (old.Shows number x) = silent (events.Show number) _ refl refl refl refl refl refl
old_unreported w event s (old.Acts e number x A halted plan reads there call word asked) =
    let a = (acts x halted plan).answer in
    quietly e _ (word_quiet A reads e word a) (unsent_word A reads e word) refl refl refl refl
old_unreported w event s (old.BreaksLink number next x a there call) =
    quietly (events.Break number next) _ (breaks_quiet x a) refl refl refl refl refl
old_unreported w event s (old.SendsFrom from to datagram x a there call target) =
    let d : NodeStep Answer = answering sent_word (acts x (Err sends.Halted) (λ m. of_station m (calls.send m.station a datagram (w.sends + 1) w.clock))) in
    sent_unreported w (events.Send from to datagram) from to datagram (tag_of x) (is_taken d.answer) (node_outcome network w from d)
    (quietly (events.Send from to datagram) _
    (sent_quiet (acts x (Err sends.Halted) (λ m. of_station m (calls.send m.station a datagram (w.sends + 1) w.clock))).answer)
    refl refl refl refl refl)
old_unreported w event s (old.AllowsMeter number y c psk there call meter) =
    let a = (acts c (Err orders.Halted) (λ m. coordinator_rules.allow m y.eui psk)).answer in
    record {
      word = by_answer a;
      spread = unsent_event (events.Allow number) (allowed_word a) refl;
      bup = refl;
      path = refl;
      broadcast = refl;
      noticed = refl;
    }
  where
    by_answer : (r : Result ℕ CoordinatorRefusal) → NotNew (allowed_word r)
    by_answer (Ok address) = refl
    by_answer (Err reason) = not_new (order_word reason) (order_quiet reason)
old_unreported w event s (old.Sets e quiet number x plan there open_is is) = silent e _ refl refl refl refl refl refl
old_unreported w event s (old.SetsTwo e quiet a b cost x y p q hx hy apart open_is first second fresh near) =
    silent e _ refl refl refl refl refl refl
old_unreported w event s (old.Provides number x c psk g d ne open_is hx hc pair same is) =
    silent (events.Depot number) _ refl refl refl refl refl refl
old_unreported w event s (old.TurnsDown e number x octets reason d there says comes same is) =
    quietly e _ (frame_quiet reason) (unsent_octets comes) refl refl refl refl
old_unreported w event s (old.Hears e number x octets cost got there says comes low is) =
    quietly e _ (hears_quiet network (after_accepting network x octets) got cost (note_by w octets got.path) w.clock) (unsent_octets comes) refl refl refl refl
old_unreported w event s (old.Loses number f there) = silent (events.Lose number) _ refl refl refl refl refl refl
old_unreported w event s (old.Ticks seconds) = silent (events.Tick seconds) _ refl refl refl refl refl refl
old_unreported w event s (old.Restarts number x there) =
    quietly (events.Restart number) _ (restart_quiet (memory_of x.role x.store.records)) refl refl refl refl refl
old_unreported w event s (old.Cuts number nth keeps_new x there) =
    silent (events.Cut number nth keeps_new) _ refl refl refl refl refl refl

abbrev pub QuietIn : Step → Type 0
QuietIn (Ok r) = NotNew r.1.happenings.answer
QuietIn (Err fault) = Unit {0}

-- its word is none of further reach
pub old_quiet : (w : World) (event : Event) (s : Step) → old.IsStep network w event s → QuietIn s
old_quiet w event s is = by_step s (old_unreported w event s is)
  where
    by_step : (s : Step) → UnreportedIn event s → QuietIn s
    by_step (Ok r) u = u.word
    by_step (Err fault) u = tt

-- # Replies among frames

-- a reply is a frame among these
record IsReplyAmong (frames : List Sent) (r : Reply) : Type 0 where
  place : ℕ
  sealed_unit : SealedUnit
  there : slice_get frames place ≡ Some (Sealed sealed_unit)
  to : sealed_unit.to ≡ r.to
  cost : ℕ
  target : ℕ
  carries : route_message sealed_unit.unit ≡ Some (Rrep r.number cost r.origin target)

reply_first : (frame : Sent) (rest : List Sent) (r : Reply) → reply_of frame ≡ Some r → IsReplyAmong (frame ∷ rest) r
unfolding reply_of
reply_first (Up agent from message) rest r e = absurd (cc (e))
reply_first (Down from message) rest r e = absurd (cc (e))
reply_first (Sealed sealed_unit) rest r e = by_message (route_message sealed_unit.unit) refl e
  where
    by_message : (o : Option Message) → route_message sealed_unit.unit ≡ o → reply_with sealed_unit.to o ≡ Some r → IsReplyAmong (Sealed sealed_unit ∷ rest) r
    by_message None is k = absurd (cc (k))
    by_message (Some (Rreq number cost origin dest)) is k = absurd (cc (k))
    by_message (Some (Rerr lost target)) is k = absurd (cc (k))
    by_message (Some (Rrep number cost origin target)) is k = subst (IsReplyAmong (Sealed sealed_unit ∷ rest)) (same_Some _ _ k)
        (record { place = 0; sealed_unit = sealed_unit; there = refl; to = refl; cost = cost; target = target; carries = is })

reply_is : (frames : List Sent) (r : Reply) → reply_among frames ≡ Some r → IsReplyAmong frames r
reply_is [] r e = absurd (cc (e))
reply_is (frame ∷ frames) r e = by_first (reply_is frames r) (reply_of frame) refl e
  where
    by_first : (reply_among frames ≡ Some r → IsReplyAmong frames r) → (o : Option Reply) → reply_of frame ≡ o
        → first_of o (reply_among frames) ≡ Some r → IsReplyAmong (frame ∷ frames) r
    by_first rest (Some q) is k = reply_first frame frames r (is ∙ k)
    by_first rest None is k =
        let h = rest k in
        record { place = suc h.place; sealed_unit = h.sealed_unit; there = h.there; to = h.to; cost = h.cost; target = h.target; carries = h.carries }

-- a frame that was sent is a flight
flown_at : {A B : Type 0} (f : A → B) (xs : List A) (rest : List B) (place : ℕ) (x : A) → slice_get xs place ≡ Some x
    → slice_get (map f xs ++ rest) place ≡ Some (f x)
flown_at f [] rest zero x e = absurd (cc (e))
flown_at f [] rest (suc place) x e = absurd (cc (e))
flown_at f (y ∷ xs) rest zero x e = ap Some (ap f (same_Some _ _ e))
flown_at f (y ∷ xs) rest (suc place) x e = flown_at f xs rest place x e

-- # Events

module _ (w : World) (logs : LogsKept w) (n : ℕ) where
  abbrev ReportedIn : Event → Step → Type 0
  ReportedIn event (Ok r) = IsReachReported w (entry n event r)
  ReportedIn event (Err fault) = Unit {0}

  unreported_is : (event : Event) (v : World) (t : Trace) → IsUnreported event t → IsReachReported w (entry n event (v, t))
  unreported_is event v t u = let q = none_new t.happenings.answer u.word in record {
    broadcast = ap (option_map to_all_of) u.broadcast ∙ sym u.spread;
    bup = ap is_some u.bup ∙ sym q.0;
    bup_came = subst (λ o. IfSome o (BroadcastCame w event)) (sym u.bup) tt;
    path = ap is_some u.path ∙ sym q.1;
    path_came = subst (λ o. IfSome o (WalkCame w event)) (sym u.path) tt;
    acked = ap is_acknowledged u.noticed ∙ sym q.2;
    scans = ap is_scan u.noticed ∙ sym q.3;
    beacons = ap is_beacon u.noticed ∙ sym q.4;
    noticed = subst (λ o. IfSome o (HasFrame w (entry n event (v, t)))) (sym u.noticed) tt;
  }

  old_reported : (event : Event) (s : Step) → UnreportedIn event s → ReportedIn event s
  old_reported event (Ok r) u = unreported_is event r.0 r.1 u
  old_reported event (Err fault) u = tt

  -- # A broadcast

  -- what was sent had an address
  abbrev HasSource : Node → Result (Unit {0}) BroadcastRefusal → Type 0
  HasSource x (Ok u) = (address : ℕ) × (node_address x ≡ Some address)
  HasSource x (Err reason) = Unit {0}

  spreads_from : (number : ℕ) (x : Node) (datagram : List ℕ)
      → HasSource x (reaches x (beside_at w number) (Err broadcast_faults.Halted) (λ y. broadcast in_memory y datagram)).answer
  unfolding resting
  spreads_from number x datagram = acts_says (HasSource x) x (Err broadcast_faults.Halted) (with_beside b (λ y. broadcast in_memory y datagram)) tt by_plan
    where
      b : Beside
      b = beside_at w number

      by_plan : (m : Memory) → x.memory ≡ Some m
          → let p = with_beside b (λ y. broadcast in_memory y datagram) m in HasSource x p.answer × HasSource x p.failed
      by_plan m here = by_address (address_of m.station) refl
        where
          y : Reaching Memory
          y = record { memory = m; beside = b }

          any : (own : ℕ) → node_address x ≡ Some own → (a : Result (Unit {0}) BroadcastRefusal) → HasSource x a
          any own is (Ok u) = (own, is)
          any own is (Err reason) = tt

          by_address : (o : Option ℕ) → address_of m.station ≡ o
              → let p = option_map_or (λ own. broadcast_from in_memory y own datagram) o (refused broadcast_ends y broadcast_faults.NotJoined) in
              HasSource x p.answer × HasSource x p.failed
          by_address None e = (tt, tt)
          by_address (Some own) e =
              let is : node_address x ≡ Some own = rw here e in
              let p = broadcast_from in_memory y own datagram in
              (any own is p.answer, any own is p.failed)

  spreads_reported : (number : ℕ) (x : Node) (datagram : List ℕ)
      → IsReachReported w (entry n (events.Bcast number datagram) (broadcasts_by network w number x datagram))
  spreads_reported number x datagram =
      let a = (reaches x (beside_at w number) (Err broadcast_faults.Halted) (λ y. broadcast in_memory y datagram)).answer in
      let q = unreported (broadcast_word a) (broadcast_quiet a) in
      record {
        broadcast = listed a (spreads_from number x datagram);
        bup = sym q.0;
        bup_came = tt;
        path = sym q.1;
        path_came = tt;
        acked = sym q.2;
        scans = sym q.3;
        beacons = sym q.4;
        noticed = tt;
      }
    where
      listed : (a : Result (Unit {0}) BroadcastRefusal) → HasSource x a
          → option_map to_all_of (broadcast_sent number x (beside_at w number) datagram a) ≡ sent_to_all (events.Bcast number datagram) (broadcast_word a)
      listed (Ok u) h = rw h.1 refl
      listed (Err broadcast_faults.Halted) h = refl
      listed (Err broadcast_faults.NotJoined) h = refl
      listed (Err broadcast_faults.BadSize) h = refl
      listed (Err broadcast_faults.NumberSpent) h = refl
      listed (Err broadcast_faults.CounterSpent) h = refl
      listed (Err broadcast_faults.Store) h = refl

  -- # Scans and beacons

  scans_reported : (number : ℕ) (d : Discovering (Result (Unit {0}) ScanRefusal))
      → IsReachReported w (entry n (events.Scan number) (has_discovered w number scan_word (scanning number) d))
  scans_reported number d = record {
    broadcast = sym (unsent_event (events.Scan number) (scan_word d.answer) refl);
    bup = none_up d.answer;
    bup_came = tt;
    path = no_path d.answer;
    path_came = tt;
    acked = no_ack d.answer;
    scans = scan_is d.answer;
    beacons = no_beacon d.answer;
    noticed = frame_is d.answer;
  }
    where
      none_up : (a : Result (Unit {0}) ScanRefusal) → false ≡ is_bup (scan_word a)
      none_up (Ok u) = refl
      none_up (Err scan_faults.Halted) = refl
      none_up (Err scan_faults.AlreadyJoined) = refl

      no_path : (a : Result (Unit {0}) ScanRefusal) → false ≡ is_path (scan_word a)
      no_path (Ok u) = refl
      no_path (Err scan_faults.Halted) = refl
      no_path (Err scan_faults.AlreadyJoined) = refl

      no_ack : (a : Result (Unit {0}) ScanRefusal) → is_acknowledged (scanning number a) ≡ is_acked (scan_word a)
      no_ack (Ok u) = refl
      no_ack (Err scan_faults.Halted) = refl
      no_ack (Err scan_faults.AlreadyJoined) = refl

      scan_is : (a : Result (Unit {0}) ScanRefusal) → is_scan (scanning number a) ≡ is_scanning (scan_word a)
      scan_is (Ok u) = refl
      scan_is (Err scan_faults.Halted) = refl
      scan_is (Err scan_faults.AlreadyJoined) = refl

      no_beacon : (a : Result (Unit {0}) ScanRefusal) → is_beacon (scanning number a) ≡ is_beaconed (scan_word a)
      no_beacon (Ok u) = refl
      no_beacon (Err scan_faults.Halted) = refl
      no_beacon (Err scan_faults.AlreadyJoined) = refl

      frame_is : (a : Result (Unit {0}) ScanRefusal)
          → IfSome (scanning number a) (HasFrame w (entry n (events.Scan number) (has_discovered w number scan_word (scanning number) d)))
      frame_is (Ok u) = refl
      frame_is (Err reason) = tt

  -- What a node answers to octets of discovery, and what it notices.
  record FindsSo (number link : ℕ) (o : Option Discovery) (a : Result DiscoveryHeard DiscoveryDropped) : Type 0 where
    bup : false ≡ is_bup (discovery_word a)
    path : false ≡ is_path (discovery_word a)
    acked : is_acknowledged (beacon_taken number o link a) ≡ is_acked (discovery_word a)
    scans : is_scan (beacon_taken number o link a) ≡ is_scanning (discovery_word a)
    beacons : is_beacon (beacon_taken number o link a) ≡ is_beaconed (discovery_word a)
    frame : (x : Entry) (octets : List ℕ) → Comes w x.event number octets → link_of x.event ≡ link → discovery_in octets ≡ o
        → IfSome (beacon_taken number o link a) (HasFrame w x)

  loses_so : (number link : ℕ) (o : Option Discovery) (reason : DiscoveryDropped) → beacon_taken number o link (Err reason) ≡ None
      → FindsSo number link o (Err reason)
  loses_so number link o reason none =
      let q = unreported (discovery_word (Err reason)) (lost_quiet reason) in
      record {
        bup = sym q.0;
        path = sym q.1;
        acked = ap is_acknowledged none ∙ sym q.2;
        scans = ap is_scan none ∙ sym q.3;
        beacons = ap is_beacon none ∙ sym q.4;
        frame = λ x octets comes over is. subst (λ t. IfSome t (HasFrame w x)) (sym none) tt;
      }

  finds_so : (number link : ℕ) (r : Role) (l : StationMemory) (scan : Scanned) (o : Option Discovery)
      → FindsSo number link o (hear_discovery_in r l scan o link).answer
  finds_so number link r l scan None = loses_so number link None discovery_drops.Malformed refl
  finds_so number link r l scan (Some (discoveries.Request seq)) = by_address (address_of l)
    where
      request : Option Discovery
      request = Some (discoveries.Request seq)

      by_cost : (own : ℕ) (c : Option ℕ) → FindsSo number link request (beacons scan own c).answer
      by_cost own None = loses_so number link request discovery_drops.NoRoute refl
      by_cost own (Some cost) = record { bup = refl; path = refl; acked = refl; scans = refl; beacons = refl; frame = λ x octets comes over is. tt }

      by_address : (a : Option ℕ) → FindsSo number link request
          (option_map_or (λ own. beacons scan own (cost_to_coordinator r l)) a (stays_scan scan (Err discovery_drops.NotForMe))).answer
      by_address None = loses_so number link request discovery_drops.NotForMe refl
      by_address (Some own) = by_cost own (cost_to_coordinator r l)
  finds_so number link r l scan (Some (discoveries.Beacon seq pan from cost)) = by_tests (is_foreign l pan from) (takes_beacons l scan)
    where
      beacon : Option Discovery
      beacon = Some (discoveries.Beacon seq pan from cost)

      by_tests : (s t : Bool) → FindsSo number link beacon (if s then stays_scan scan (Err discovery_drops.NotForMe) else
          (if t then takes_beacon scan from cost link else stays_scan scan (Err discovery_drops.NotScanning))).answer
      by_tests true t = loses_so number link beacon discovery_drops.NotForMe refl
      by_tests false true = record {
        bup = refl;
        path = refl;
        acked = refl;
        scans = refl;
        beacons = refl;
        frame = λ x octets comes over is. record { octets = octets; comes = comes; seq = seq; pan = pan; read = is; over = over };
      }
      by_tests false false = loses_so number link beacon discovery_drops.NotScanning refl

  finds_reported : (event : Event) (number : ℕ) (x : Node) (m : Memory) (octets : List ℕ) (link : ℕ) → Comes w event number octets → link_of event ≡ link
      → IsReachReported w (entry n event (discovers_by w number x octets link (Some m)))
  finds_reported event number x m octets link comes over =
      let h = finds_so number link x.role m.station (beside_at w number).scan (discovery_in octets) in
      record {
        broadcast = sym (unsent_event event (discovery_word (hear_discovery x.role m.station (beside_at w number).scan octets link).answer)
            (unsent_octets comes));
        bup = h.bup;
        bup_came = tt;
        path = h.path;
        path_came = tt;
        acked = h.acked;
        scans = h.scans;
        beacons = h.beacons;
        noticed = h.frame (entry n event (discovers_by w number x octets link (Some m))) octets comes over refl;
      }

  -- # Octets that were accepted

  module _ (event : Event) (number : ℕ) (x : Node) (octets : List ℕ) (cost : ℕ) (got : Accepted) (a : IsAccepted network w event number x octets got) where
    abbrev d : NodeStep Reception
    d = heard_node network w x octets got cost

    abbrev r : World × Trace
    r = hearing_outcome network w number (after_accepting network x octets) octets got cost

    quiet : Quiet d.answer.answer
    quiet = hears_quiet network (after_accepting network x octets) got cost (note_by w octets got.path) w.clock

    hears_reported : IsReachReported w (entry n event r)
    hears_reported = unreported_is event r.0 r.1 (quietly event r.1 quiet (unsent_octets a.comes) refl refl refl refl)

    -- a command
    module _ (c : NeighbourCommand) (carries : command_of got ≡ Some c) where
      came : FrameCame w event number c.from c.to_all (units.Local c.code c.body)
      came = command_came w event number x octets got c a.there a.comes a.is carries

      came_so : (code : ℕ) (all : Bool) → c.code ≡ code → c.to_all ≡ all → FrameCame w event number c.from all (units.Local code c.body)
      came_so code all is to =
          subst (λ t. FrameCame w event number c.from t (units.Local code c.body)) to
          (subst (λ k. FrameCame w event number c.from c.to_all (units.Local k c.body)) is came)

      abbrev Answer_of : Type 0
      Answer_of = Result CommandHeard ReachDropped

      bup_same : (o : Answer_of) → is_some (broadcast_up number o) ≡ is_bup (command_word o)
      bup_same (Ok heard_of.Acked) = refl
      bup_same (Ok (heard_of.Broadcast origin count body)) = refl
      bup_same (Ok heard_of.Relayed) = refl
      bup_same (Ok heard_of.Answered) = refl
      bup_same (Ok (heard_of.Path walk)) = refl
      bup_same (Err reason) = sym (reach_unreported reason).0

      bup_has : (b : Beside) (o : Answer_of) → Says b c o → IfSome (broadcast_up number o) (BroadcastCame w event)
      bup_has b (Ok heard_of.Acked) s = tt
      bup_has b (Ok (heard_of.Broadcast origin count body)) s = record {
        from = c.from;
        body = c.body;
        came = came_so 4 true s.code s.all;
        broadcast = s.broadcast;
        read = s.read;
        origin = s.origin_is;
        number = s.number_is;
        octets = s.octets_are;
      }
      bup_has b (Ok heard_of.Relayed) s = tt
      bup_has b (Ok heard_of.Answered) s = tt
      bup_has b (Ok (heard_of.Path walk)) s = tt
      bup_has b (Err reason) s = tt

      path_same : (o : Answer_of) → is_some (path_line number o) ≡ is_path (command_word o)
      path_same (Ok heard_of.Acked) = refl
      path_same (Ok (heard_of.Broadcast origin count body)) = refl
      path_same (Ok heard_of.Relayed) = refl
      path_same (Ok heard_of.Answered) = refl
      path_same (Ok (heard_of.Path walk)) = refl
      path_same (Err reason) = sym (reach_unreported reason).1

      path_has : (b : Beside) (o : Answer_of) → Says b c o → IfSome (path_line number o) (WalkCame w event)
      path_has b (Ok heard_of.Acked) s = tt
      path_has b (Ok (heard_of.Broadcast origin count body)) s = tt
      path_has b (Ok heard_of.Relayed) s = tt
      path_has b (Ok heard_of.Answered) s = tt
      path_has b (Ok (heard_of.Path walk)) s = record { from = c.from; body = c.body; came = came_so 5 false s.code s.alone; read = s.read }
      path_has b (Err reason) s = tt

      abbrev noticed_of : Option (ℕ × ℕ) → Option Noticed
      noticed_of o = option_map (λ (ack : ℕ × ℕ). Acknowledged number c.from ack.0 ack.1) o

      ack_same : (b : Beside) (o : Answer_of) → Says b c o → is_acknowledged (acknowledged_by number c o) ≡ is_acked (command_word o)
      ack_same b (Ok heard_of.Acked) s = ap (λ t. is_acknowledged (noticed_of t)) s.read
      ack_same b (Ok (heard_of.Broadcast origin count body)) s = refl
      ack_same b (Ok heard_of.Relayed) s = refl
      ack_same b (Ok heard_of.Answered) s = refl
      ack_same b (Ok (heard_of.Path walk)) s = refl
      ack_same b (Err reason) s = sym (reach_unreported reason).2

      scan_none : (o : Option (ℕ × ℕ)) → is_scan (noticed_of o) ≡ false
      scan_none None = refl
      scan_none (Some ack) = refl

      scan_same : (o : Answer_of) → is_scan (acknowledged_by number c o) ≡ is_scanning (command_word o)
      scan_same (Ok heard_of.Acked) = scan_none (ack_in c.body)
      scan_same (Ok (heard_of.Broadcast origin count body)) = refl
      scan_same (Ok heard_of.Relayed) = refl
      scan_same (Ok heard_of.Answered) = refl
      scan_same (Ok (heard_of.Path walk)) = refl
      scan_same (Err reason) = sym (reach_unreported reason).3

      beacon_none : (o : Option (ℕ × ℕ)) → is_beacon (noticed_of o) ≡ false
      beacon_none None = refl
      beacon_none (Some ack) = refl

      beacon_same : (o : Answer_of) → is_beacon (acknowledged_by number c o) ≡ is_beaconed (command_word o)
      beacon_same (Ok heard_of.Acked) = beacon_none (ack_in c.body)
      beacon_same (Ok (heard_of.Broadcast origin count body)) = refl
      beacon_same (Ok heard_of.Relayed) = refl
      beacon_same (Ok heard_of.Answered) = refl
      beacon_same (Ok (heard_of.Path walk)) = refl
      beacon_same (Err reason) = sym (reach_unreported reason).4

      ack_has : (b : Beside) (y : Entry) (o : Answer_of) → y.event ≡ event → Says b c o → IfSome (acknowledged_by number c o) (HasFrame w y)
      ack_has b y (Ok heard_of.Acked) is s = subst (λ t. IfSome (noticed_of t) (HasFrame w y)) (sym s.read)
          (subst (λ e. AckCame w e number c.from s.number s.origin) (sym is) (record { body = c.body; came = came_so 3 false s.code s.alone; read = s.read }))
      ack_has b y (Ok (heard_of.Broadcast origin count body)) is s = tt
      ack_has b y (Ok heard_of.Relayed) is s = tt
      ack_has b y (Ok heard_of.Answered) is s = tt
      ack_has b y (Ok (heard_of.Path walk)) is s = tt
      ack_has b y (Err reason) is s = tt

      commands_reported : IsReachReported w (entry n event (commanded network number d.node c r))
      commands_reported =
          let b = beside_at r.0 number in
          let halted : Answer_of = Err (reach_drops.Known drops.Store) in
          let o = (reaches d.node b halted (λ y. hear_command in_memory y c)).answer in
          let says : Says b c o = acts_says (Says b c) d.node halted (with_beside b (λ y. hear_command in_memory y c)) tt (λ m here. command_said b m c) in
          record {
            broadcast = sym (unsent_event event (command_word o) (unsent_octets a.comes));
            bup = bup_same o;
            bup_came = bup_has b o says;
            path = path_same o;
            path_came = path_has b o says;
            acked = ack_same b o says;
            scans = scan_same o;
            beacons = beacon_same o;
            noticed = ack_has b (entry n event (commanded network number d.node c r)) o refl says;
          }

    -- where neighbours are checked
    module _ (on : w.checks_on ≡ true) where
      abbrev with_it : World × Trace
      with_it = with_check w number (reply_among d.frames) r

      abbrev flight_of : Sent → Flight
      flight_of frame = flight_by number (spelled network frame)

      -- the reply that a node sent flew
      reply_flew : (y : Entry) (more : List Flight) → y.after.flights ≡ w.flights ++ (map flight_of d.frames ++ more)
          → IfSome (replied number (reply_among d.frames)) (HasFrame w y)
      reply_flew y more flights = by_reply (reply_among d.frames) refl
        where
          by_reply : (o : Option Reply) → reply_among d.frames ≡ o → IfSome (replied number o) (HasFrame w y)
          by_reply None e = tt
          by_reply (Some q) e =
              let h = reply_is d.frames q e in
              record {
                checks = on;
                place = h.place;
                sealed_unit = h.sealed_unit;
                flight = ap (λ fs. slice_get (drop (length w.flights) fs) h.place) flights
                    ∙ ap (λ fs. slice_get fs h.place) (drop-append_seam w.flights (map flight_of d.frames ++ more))
                    ∙ flown_at flight_of d.frames more h.place (Sealed h.sealed_unit) h.there;
                to = h.to;
                cost = h.cost;
                target = h.target;
                carries = h.carries;
              }

      replied_reported : (v : World) (t : Trace) → Quiet t.happenings.answer → t.happenings.bup ≡ None → t.happenings.path ≡ None → t.further.broadcast ≡ None
          → t.further.noticed ≡ replied number (reply_among d.frames)
          → IfSome (replied number (reply_among d.frames)) (HasFrame w (entry n event (v, t))) → IsReachReported w (entry n event (v, t))
      replied_reported v t quiet_is bup path cast noticed frame = record {
        broadcast = ap (option_map to_all_of) cast ∙ sym (unsent_event event t.happenings.answer (unsent_octets a.comes));
        bup = ap is_some bup ∙ sym (unreported t.happenings.answer quiet_is).0;
        bup_came = subst (λ o. IfSome o (BroadcastCame w event)) (sym bup) tt;
        path = ap is_some path ∙ sym (unreported t.happenings.answer quiet_is).1;
        path_came = subst (λ o. IfSome o (WalkCame w event)) (sym path) tt;
        acked = ap is_acknowledged noticed ∙ no_ack (reply_among d.frames) ∙ sym (unreported t.happenings.answer quiet_is).2;
        scans = ap is_scan noticed ∙ no_scan (reply_among d.frames) ∙ sym (unreported t.happenings.answer quiet_is).3;
        beacons = ap is_beacon noticed ∙ no_beacon (reply_among d.frames) ∙ sym (unreported t.happenings.answer quiet_is).4;
        noticed = subst (λ o. IfSome o (HasFrame w (entry n event (v, t)))) (sym noticed) frame;
      }
        where
          no_ack : (o : Option Reply) → is_acknowledged (replied number o) ≡ false
          no_ack None = refl
          no_ack (Some q) = refl

          no_scan : (o : Option Reply) → is_scan (replied number o) ≡ false
          no_scan None = refl
          no_scan (Some q) = refl

          no_beacon : (o : Option Reply) → is_beacon (replied number o) ≡ false
          no_beacon None = refl
          no_beacon (Some q) = refl

      checked_reported : IsReachReported w (entry n event (checked network w number got d r))
      unfolding world_after
      checked_reported = by_due (due got.path (message_of got) d.answer.answer)
        where
          sent_alone : IsReachReported w (entry n event with_it)
          sent_alone = replied_reported with_it.0 with_it.1 quiet refl refl refl refl
              (reply_flew (entry n event with_it) [] (ap (λ fs. w.flights ++ fs) (sym (append-nil (map flight_of d.frames)))))

          by_memory : (reply : Reply) (t : Bool) → let v : World = world_after network with_it.0 number (acknowledging d.node reply) in
              let q : World × Trace = if t then adds_frames v with_it.1 (acknowledging d.node reply) else sends_nothing w (v, with_it.1) in
              IsReachReported w (entry n event q)
          by_memory reply true =
              let k = acknowledging d.node reply in
              let q : World × Trace = adds_frames (world_after network with_it.0 number k) with_it.1 k in
              replied_reported q.0 q.1 quiet refl refl refl refl
              (reply_flew (entry n event q) (flights_of network number k) (append_assoc w.flights (map flight_of d.frames) (flights_of network number k)))
          by_memory reply false =
              let q : World × Trace = sends_nothing w (world_after network with_it.0 number (acknowledging d.node reply), with_it.1) in
              unreported_is event q.0 q.1 (silent event q.1 refl refl refl refl refl refl)

          by_due : (o : Option Reply) → IsReachReported w (entry n event (acknowledged_if network w number d.node o with_it))
          by_due None = sent_alone
          by_due (Some reply) = by_memory reply (is_some (acknowledging d.node reply).node.memory)

  -- # Every event

  reported_in : (event : Event) (s : Step) → IsReachStep network w event s → ReportedIn event s
  reported_in event s (Fails e fault) = tt
  reported_in event s (Known e t other is none) = old_reported e t (old_unreported w e t is)
  reported_in event s (Rests e word idle other none) =
      let q = idle_quiet word idle in
      unreported_is e _ _ (silent e _ q.0 (unsent_answer e word q.1) refl refl refl refl)
  reported_in event s Opens = unreported_is events.Checks _ _ (silent events.Checks _ refl refl refl refl refl refl)
  reported_in event s (Bcasts number x datagram there are) = spreads_reported number x datagram
  reported_in event s (Asks from to x y target there other address) =
      unreported_is (events.Path from to) _ _ (quietly (events.Path from to) _
      (ask_quiet (reaches x (beside_at w from) (Err ask_faults.Halted) (λ z. ask_path in_memory z target)).answer) refl refl refl refl refl)
  reported_in event s (Begins number x m there here) = scans_reported number (begin_scan m (beside_at w number).scan)
  reported_in event s (Chooses number k x psk there pair) =
      unreported_is (events.Choose number k) _ _ (quietly (events.Choose number k) _
      (choice_quiet (reaches x (beside_at w number) (Err choices.Halted) (λ z. choose_agent (identity network x psk) z k w.clock)).answer)
      refl refl refl refl refl)
  reported_in event s (Discovers e number x m octets link other there here comes over is) = finds_reported e number x m octets link comes over
  reported_in event s (Unbelieves e number x octets got a is) =
      record { broadcast = refl; bup = refl; bup_came = tt; path = refl; path_came = tt; acked = refl; scans = refl; beacons = refl; noticed = tt }
  reported_in event s (Commands e number x octets cost got c a low passes is) = commands_reported e number x octets cost got a c is
  reported_in event s (Checked e number x octets cost got a low passes none on) = checked_reported e number x octets cost got a on
  reported_in event s (Hears e number x octets cost got a low passes none off) = hears_reported e number x octets cost got a
  reported_in event s (Ticks seconds) = unreported_is (events.Tick seconds) _ _ (silent (events.Tick seconds) _ refl refl refl refl refl refl)
  reported_in event s (Restarts number x b there read) =
      unreported_is (events.Restart number) _ _ (quietly (events.Restart number) _ (restart_quiet (memory_of x.role x.store.records)) refl refl refl refl refl)

-- # Runs

reported_from : (w : World) → LogsKept w → (entries : List Entry) → AreEvents (events_of entries) → IsRun network w entries → All HoldsAfter entries
    → AreReachReported w entries
reported_from w logs [] says run holds = tt
reported_from w logs (x ∷ xs) says run holds =
    let event = All-head IsEvent x.event (events_of xs) says in
    let is : ReportedIn w logs x.number x.event (Ok (x.after, x.trace)) = subst (ReportedIn w logs x.number x.event) run.2
    (reported_in w logs x.number x.event (line_step network w x.event) (reach_step_is network w logs x.event event)) in (
      is,
      reported_from x.after (All-head HoldsAfter x xs holds).logs xs (All-tail IsEvent x.event (events_of xs) says) run.3 (All-tail HoldsAfter x xs holds),
    )

-- so it is of every run of the network
pub every_reported : EveryEventIsReported
every_reported entries r = reported_from start tt entries r.events r.run (every_run_holds entries r)

-- # The list of broadcasts

list_from : (w : World) (entries : List Entry) → AreReachReported w entries → ListsBroadcasts entries
list_from w [] world_after = refl
list_from w (x ∷ xs) world_after =
    map-append to_all_of (one_of x.trace.further.broadcast) (broadcasts xs) ∙ (λ i. first i ++ list_from x.after xs world_after.1 i)
  where
    by_one : (o : Option Broadcasting) → map to_all_of (one_of o) ≡ one_of (option_map to_all_of o)
    by_one None = refl
    by_one (Some b) = refl

    first : map to_all_of (one_of x.trace.further.broadcast) ≡ one_of (sent_to_all x.event x.trace.happenings.answer)
    first = by_one x.trace.further.broadcast ∙ ap one_of world_after.0.broadcast

pub every_list : EveryBroadcastIsListed
every_list entries r = list_from start entries (every_reported entries r)
