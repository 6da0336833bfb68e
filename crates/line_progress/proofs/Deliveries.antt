-- A flight comes to the node that it is for, which hears what it carries: what that makes of the world.
use Rattle.std.proofs.Common.{◌≡◌, ◌≢◌, ℕ, ◌+◌, ◌<◌, Bool, true, false, List, [], ◌∷◌, ◌++◌, length, map, Option, Some, None, Result, Ok, Err, refl, sym, ap}
use Rattle.std.proofs.Common.{subst, ◌∙◌, arith}
use Rattle.std.specs.Prelude.{if◌then◌else◌, slice_get, slice_set, ◌||◌}
use Rattle.std.specs.List.{list_any}
use Rattle.std.specs.Option.{option_map_or, option_and_then}
use Rattle.std.proofs.lemmas.Bool.{and_right, lt-ltb}
use Rattle.plc_base.specs.Grant.{Granted, key_at}
use Rattle.frame_counters.specs.PeerMarks.{room_for}
use Rattle.mesh_header.specs.declared.unit.Mesh.{Mesh}
use Rattle.mesh_header.specs.declared.unit.Unit.{Unit as MeshUnit}
use Rattle.mesh_header.specs.Reader.{unit_in}
use Rattle.node_rules.specs.Accepted.{Accepted}
use Rattle.node_rules.specs.declared.heard.Heard.{Heard}
use Rattle.node_rules.specs.declared.heard.Reply.{Reply}
use Rattle.node_rules.specs.declared.refusal.FrameRefusal.{FrameRefusal}
use Rattle.node_rules.specs.declared.refusal.FrameRefusal.TheVariants as frames
use Rattle.node_rules.specs.Acceptance.{accept, marking}
use Rattle.node_rules.specs.Ciphers.{Ciphers, OpensWhatItSeals}
use Rattle.node_rules.specs.Frames.{SealedUnit, Sent, Sealed, spelled, arrived, to_all}
use Rattle.node_rules.specs.HearingRules.{hear}
use Rattle.node_rules.specs.Memory.{StationMemory, Memory, Node}
use Rattle.node_rules.specs.MemoryDrafts.{unread, with_station}
use Rattle.node_rules.specs.NodeSteps.{NodeStep, acts, of_station}
use Rattle.node_rules.specs.Replies.{reply_among, route_message}
use Rattle.reach_rules.specs.CheckedReplies.{message_of}
use Rattle.reach_rules.specs.FurtherReceptions.{command_of, command_with}
use Rattle.line_events.specs.declared.event.Answer.{Answer}
use Rattle.line_events.specs.declared.event.Event.TheVariants.{Deliver}
use Rattle.line_events.specs.declared.event.StepFault.TheVariants as faults
use Rattle.line_rules.specs.Answers.{Reception, station_reception}
use Rattle.line_rules.specs.Further.{accepted_further, acknowledged_if, checked, comes, delivers, discovers_by, due, due_of}
use Rattle.line_rules.specs.Further.{hearing_outcome_by, is_dropped, is_reply_taken, line_step, unbelieved, with_check}
use Rattle.line_rules.specs.Steps.{flight_by, forged_by, handed_by, has_begun, hearing_outcome, hearing_step, note_by, on_flight, on_node, received}
use Rattle.line_rules.specs.Steps.{world_after}
use Rattle.line_rules.specs.Worlds.{World, Flight, Trace, node_at, flight_at, is_forged_tag}
use Rattle.line_progress.proofs.WholePlans.{acted, acts_whole}
use Rattle.line_progress.proofs.SealedUnits.{IsSealable, is_no_discovery, unit_whole}
use Rattle.line_progress.proofs.Acceptance.{accepts, got_by, got_of}
use Rattle.line_progress.proofs.Contents.{Content, unit_with, carries_no_message, carries_no_command}
use Rattle.line_progress.proofs.HeardUnits.{Hears, Does, hears_so}

-- What a node did about a frame is in the world and in the report, and the node holds this.
pub record Goes (ciphers : Ciphers) (w : World) (number : ℕ) (answer : Reception) (frames : List Sent) (left : Memory) (r : World × Trace) : Type 0 where
  pub node : Node
  pub memory : node.memory ≡ Some left
  pub spared : node.store.cut ≡ None
  pub nodes : r.0.nodes ≡ slice_set w.nodes number node
  pub flights : r.0.flights ≡ w.flights ++ map (λ (frame : Sent). flight_by number (spelled ciphers frame)) frames
  pub events : r.0.events ≡ w.events + 1
  pub clock : r.0.clock ≡ w.clock
  pub checks : r.0.checks_on ≡ w.checks_on
  pub answer_is : r.1.happenings.answer ≡ answer.answer
  pub up_is : r.1.happenings.up ≡ handed_by number answer.up

module _ (ciphers : Ciphers) (w : World) (number : ℕ) where
  received_goes : (forged : Bool) (d : NodeStep Reception) (answer : Reception) (frames : List Sent) (left : Memory) → Does d answer frames left
      → Goes ciphers w number answer frames left (received ciphers w number forged d)
  unfolding world_after
  received_goes forged d answer frames left did = record {
    node = d.node;
    memory = did.memory_is;
    spared = did.spared_is;
    nodes = refl;
    flights = ap (λ (fs : List Sent). w.flights ++ map (λ (frame : Sent). flight_by number (spelled ciphers frame)) fs) did.frames_is;
    events = refl;
    clock = refl;
    checks = refl;
    answer_is = ap (λ (a : Reception). a.answer) did.answer_is;
    up_is = ap (λ (a : Reception). handed_by number a.up) did.answer_is;
  }

  none_due : (from : ℕ) (taken : Bool) → (if taken then due_of from None else None) ≡ None
  none_due from true = refl
  none_due from false = refl

  -- checks of neighbours add nothing to it
  checked_goes : (got : Accepted) (h : NodeStep Reception) (answer : Reception) (frames : List Sent) (left : Memory) (r : World × Trace)
      → due got.path (message_of got) h.answer.answer ≡ None
      → Goes ciphers w number answer frames left r → Goes ciphers w number answer frames left (checked ciphers w number got h r)
  checked_goes got h answer frames left r none goes =
      subst (λ (o : Option Reply). Goes ciphers w number answer frames left
      (acknowledged_if ciphers w number h.node o (with_check w number (reply_among h.frames) r))) (sym none) (record {
        node = goes.node;
        memory = goes.memory;
        spared = goes.spared;
        nodes = goes.nodes;
        flights = goes.flights;
        events = goes.events;
        clock = goes.clock;
        checks = goes.checks;
        answer_is = goes.answer_is;
        up_is = goes.up_is;
      })

-- a frame that its node accepts is heard by it
module _ (ciphers : Ciphers) (opens : OpensWhatItSeals ciphers) (w : World) (number cost : ℕ) (x : Node) (m : Memory)
    (runs : x.memory ≡ Some m) (spared : x.store.cut ≡ None) (u : SealedUnit) (fits : IsSealable u) (all : Bool)
    (accepted : accept m.station x.eui (arrived ciphers (spelled ciphers (Sealed u)).octets) ≡ marking m.station u.from u.counter (got_by all u))
    (believed : is_dropped w number (got_by all u) ≡ false) (none : command_of (got_by all u) ≡ None) where
  -- the node that has accepted the frame
  abbrev pub taken_by : NodeStep (Result Accepted FrameRefusal)
  taken_by = acted x (of_station m (marking m.station u.from u.counter (got_by all u)))

  -- its station
  abbrev pub marked_by : StationMemory
  marked_by = (marking m.station u.from u.counter (got_by all u)).memory

  -- the octets of the frame, and the note that they have
  abbrev pub octets_by : List ℕ
  octets_by = (spelled ciphers (Sealed u)).octets

  abbrev pub note_so : ℕ
  note_so = note_by w octets_by (got_by all u).path

  pub is_heard : comes ciphers w number x octets_by cost ≡ hearing_outcome_by ciphers w number taken_by.node octets_by (got_by all u) cost None
  unfolding comes marking
  is_heard =
      let y : Node = taken_by.node in
      let accepting = acts_whole x m (Err frames.Halted) (λ n. of_station n (accept n.station x.eui (arrived ciphers octets_by))) runs spared
      ∙ ap (λ p. acted x (of_station m p)) accepted in
      (λ i. if is_no_discovery ciphers opens u fits i then discovers_by w number x octets_by cost x.memory
      else accepted_further ciphers w number octets_by cost
      (acts x (Err frames.Halted) (λ n. of_station n (accept n.station x.eui (arrived ciphers octets_by)))))
      ∙ ap (accepted_further ciphers w number octets_by cost) accepting
      ∙ (λ i. if believed i then unbelieved ciphers w number y octets_by (got_by all u)
      else hearing_outcome_by ciphers w number y octets_by (got_by all u) cost (command_of (got_by all u)))
      ∙ ap (hearing_outcome_by ciphers w number y octets_by (got_by all u) cost) none

  module _ (a : Heard) (sent : List Sent) (left : StationMemory)
      (heard : Hears (hear marked_by (got_by all u) cost note_so w.clock) a sent left) (unread_is : unread (Ok a) ≡ None) where
    pub outcome_goes : Goes ciphers w number (station_reception a) sent (with_station left m)
        (hearing_outcome ciphers w number taken_by.node octets_by (got_by all u) cost)
    unfolding marking
    outcome_goes =
        let d : NodeStep Reception = hearing_step ciphers taken_by.node (got_by all u) cost note_so w.clock in
        received_goes ciphers w number (forged_by w octets_by (got_by all u).path || list_any (is_forged_tag w.made) d.opened) d (station_reception a) sent
        (with_station left m)
        (hears_so ciphers taken_by.node (with_station marked_by m) refl refl (got_by all u) cost note_so w.clock a sent left heard unread_is)

    -- what the node then does is in the world and in the report, where neighbours are not checked
    pub unchecked_comes : w.checks_on ≡ false → Goes ciphers w number (station_reception a) sent (with_station left m) (comes ciphers w number x octets_by cost)
    unchecked_comes off =
        subst (λ r. Goes ciphers w number (station_reception a) sent (with_station left m) r)
        (sym (is_heard ∙ (λ i. if off i then checked ciphers w number (got_by all u)
        (hearing_step ciphers taken_by.node (got_by all u) cost note_so w.clock)
        (hearing_outcome ciphers w number taken_by.node octets_by (got_by all u) cost)
        else hearing_outcome ciphers w number taken_by.node octets_by (got_by all u) cost))) outcome_goes

module _ (ciphers : Ciphers) (opens : OpensWhatItSeals ciphers) (w : World) (number cost : ℕ) (x : Node) (m : Memory) (g : Granted)
    (runs : x.memory ≡ Some m) (spared : x.store.cut ≡ None) (ring : m.station.ring ≡ Some g)
    (u : SealedUnit) (fits : IsSealable u) (mesh : Mesh) (content : Content) (unit_is : u.unit ≡ unit_with mesh content)
    (to : g.address ≡ u.to) (one : u.to ≢ to_all) (apart : g.address ≢ u.from) (key : key_at g u.index ≡ Some u.key)
    (room : room_for m.station.marks u.from u.counter ≡ Ok tt) where
  -- the node that has accepted the frame
  abbrev pub taken : NodeStep (Result Accepted FrameRefusal)
  taken = acted x (of_station m (marking m.station u.from u.counter (got_of u)))

  -- its station
  abbrev pub marked : StationMemory
  marked = (marking m.station u.from u.counter (got_of u)).memory

  pub reads : unit_in (got_of u).payload ≡ Some (unit_with mesh content)
  reads = unit_whole ciphers opens u fits ∙ ap (λ (v : MeshUnit). Some v) unit_is

  no_message : message_of (got_of u) ≡ None
  no_message = ap (option_and_then route_message) reads ∙ carries_no_message mesh content

  no_command : command_of (got_of u) ≡ None
  no_command = ap (command_with u.from false) reads ∙ carries_no_command u.from mesh content

  none_is_due : (answer : Answer) → due (got_of u).path (message_of (got_of u)) answer ≡ None
  none_is_due answer =
      (λ i. if is_reply_taken answer then due_of u.from (no_message i) else None) ∙ none_due ciphers w number u.from (is_reply_taken answer)

  -- the octets of the frame, and the note that they have
  abbrev pub octets_of : List ℕ
  octets_of = (spelled ciphers (Sealed u)).octets

  abbrev pub note_is : ℕ
  note_is = note_by w octets_of (got_of u).path

  module _ (a : Heard) (sent : List Sent) (left : StationMemory)
      (heard : Hears (hear marked (got_of u) cost note_is w.clock) a sent left) (none : unread (Ok a) ≡ None) where
    believed : is_dropped w number (got_of u) ≡ false
    believed = and_right w.checks_on false refl

    accepted : accept m.station x.eui (arrived ciphers octets_of) ≡ marking m.station u.from u.counter (got_of u)
    accepted = accepts ciphers opens u fits m.station x.eui g ring apart key room to one

    outcome : Goes ciphers w number (station_reception a) sent (with_station left m) (hearing_outcome ciphers w number taken.node octets_of (got_of u) cost)
    outcome = outcome_goes ciphers opens w number cost x m runs spared u fits false accepted believed no_command a sent left heard none

    by_checks : (b : Bool) → Goes ciphers w number (station_reception a) sent (with_station left m)
        (if b then checked ciphers w number (got_of u) (hearing_step ciphers taken.node (got_of u) cost note_is w.clock)
        (hearing_outcome ciphers w number taken.node octets_of (got_of u) cost)
        else hearing_outcome ciphers w number taken.node octets_of (got_of u) cost)
    by_checks true =
        checked_goes ciphers w number (got_of u) (hearing_step ciphers taken.node (got_of u) cost note_is w.clock) (station_reception a) sent
        (with_station left m) (hearing_outcome ciphers w number taken.node octets_of (got_of u) cost)
        (none_is_due (hearing_step ciphers taken.node (got_of u) cost note_is w.clock).answer.answer) outcome
    by_checks false = outcome

    -- what the node then does is in the world and in the report
    pub frame_comes : Goes ciphers w number (station_reception a) sent (with_station left m) (comes ciphers w number x octets_of cost)
    frame_comes =
        subst (λ r. Goes ciphers w number (station_reception a) sent (with_station left m) r)
        (sym (is_heard ciphers opens w number cost x m runs spared u fits false accepted believed no_command)) (by_checks w.checks_on)

-- # Steps

pub within : {A : Type 0} (xs : List A) (k : ℕ) (x : A) → slice_get xs k ≡ Some x → 0 < length xs
within [] k x e = absurd (cc)
within (y ∷ ys) k x e = omega arith

-- the delivery of a flight that is not lost, to a node that is there
pub delivered : (ciphers : Ciphers) (w : World) (flight number cost : ℕ) (x : Node) (f : Flight) → node_at w number ≡ Some x
    → flight_at w flight ≡ Some f → f.lost ≡ false
    → line_step ciphers w (Deliver flight number cost) ≡ Ok (comes ciphers w number x f.octets cost)
unfolding delivers
delivered ciphers w flight number cost x f there flown unlost =
    let begun : has_begun w ≡ true = lt-ltb 0 (length w.nodes) (within w.nodes number x there) in
    (λ i. if begun i then on_node w number (λ y. on_flight w flight (λ h. Ok (comes ciphers w number y h.octets cost))) else Err faults.Setup)
    ∙ (λ i. option_map_or (λ y. on_flight w flight (λ h. Ok (comes ciphers w number y h.octets cost))) (there i) (Err faults.Node))
    ∙ (λ i. option_map_or (λ h. if h.lost then Err faults.Flight else Ok (comes ciphers w number x h.octets cost)) (flown i) (Err faults.Flight))
    ∙ (λ i. if unlost i then Err faults.Flight else Ok (comes ciphers w number x f.octets cost))
