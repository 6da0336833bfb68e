-- What an event makes of a unit of a datagram that its node accepts, whatever power is lost.
use Rattle.std.proofs.Common.{◌≡◌, ℕ, Bool, true, false, List, [], ◌∷◌, ◌++◌, map, Option, Some, None, refl, sym, ap}
use Rattle.std.proofs.Common.{subst, ◌∙◌}
use Rattle.std.specs.Prelude.{if◌then◌else◌, ◌&&◌}
use Rattle.std.specs.Option.{option_map_or, option_and_then}
use Rattle.std.proofs.lemmas.Bool.{and_right}
use Rattle.plc_base.specs.declared.key.Key.{Key}
use Rattle.plc_base.specs.Grant.{Granted}
use Rattle.mesh_header.specs.declared.unit.Mesh.{Mesh}
use Rattle.mesh_header.specs.declared.unit.Unit.{Unit as MeshUnit}
use Rattle.mesh_header.specs.declared.unit.Unit.TheVariants as units
use Rattle.mesh_header.specs.Pieces.{Placed}
use Rattle.mesh_header.specs.Reader.{unit_in}
use Rattle.fragment_buffers.specs.Reassembly.{Reassembly}
use Rattle.fragment_buffers.specs.PieceIntake as pieces
use Rattle.node_rules.specs.Accepted.{Accepted}
use Rattle.node_rules.specs.declared.heard.Path.TheVariants as paths
use Rattle.node_rules.specs.declared.heard.Reply.{Reply}
use Rattle.node_rules.specs.declared.refusal.Dropped.{Dropped}
use Rattle.node_rules.specs.declared.refusal.Dropped.TheVariants as drops
use Rattle.node_rules.specs.Ciphers.{Ciphers}
use Rattle.node_rules.specs.Drafts.{sealed_by, sealed_units, sealing_key}
use Rattle.node_rules.specs.Frames.{SealedUnit, Sent, Sealed, spelled}
use Rattle.node_rules.specs.HearingRules.{Hearing, gathered, hear}
use Rattle.node_rules.specs.Memory.{StationMemory, Memory, Node}
use Rattle.node_rules.specs.MemoryDrafts.{unread}
use Rattle.node_rules.specs.NodeSteps.{NodeStep}
use Rattle.node_rules.specs.Plans.{resting}
use Rattle.node_rules.specs.Replies.{reply_among, route_message}
use Rattle.reach_rules.specs.CheckedReplies.{is_unbelieved, message_of}
use Rattle.reach_rules.specs.FurtherReceptions.{command_of, command_on, command_with}
use Rattle.line_events.specs.declared.event.Answer.{Answer}
use Rattle.line_events.specs.declared.event.Answer.TheVariants as answers
use Rattle.line_rules.specs.Answers.{Reception, only, drop_word}
use Rattle.line_rules.specs.Forgery.{accepting}
use Rattle.line_rules.specs.Further.{accepted_further, acknowledged_if, beside_at, checked, comes, discovers_by, due, due_of, hearing_outcome_by, is_dropped}
use Rattle.line_rules.specs.Further.{is_reply_taken, unbelieved, with_check}
use Rattle.line_rules.specs.Steps.{flight_by, handed_by, hearing_outcome, hearing_step, note_by, world_after}
use Rattle.line_rules.specs.Worlds.{World, Flight, Trace}
use Rattle.line_progress.specs.UnitFates.{DeliveryFate, IsUp, IsCompleted, IsHeld, IsRelayed, IsEnded, IsOfDatagram, IsWhole, IsPiece}
use Rattle.line_progress.specs.UnitFates.{UnitFate, HandedUp, TakenIn, WentOn, Ended}
use Rattle.line_progress.specs.UnitFates.{Reported, DeliveriesHaveFates, is_unit_end, one_hop_less}
use Rattle.line_progress.proofs.UnitFates.{unit_fates}
use Rattle.line_progress.proofs.StationReceipts.{Receives, AsPlanned, HasHalted, says, receives}

-- # Fates

-- what comes of a piece is no joining command
gathers_none : (l : StationMemory) (from : ℕ) (held : List Reassembly) (o : pieces.Outcome)
    → unread (gathered l from (record { held = held; outcome = o })).answer ≡ None
unfolding gathered resting
gathers_none l from held pieces.Full = refl
gathers_none l from held pieces.Held = refl
gathers_none l from held (pieces.Whole note octets) = refl

none_unread : (l : StationMemory) (own : ℕ) (mesh : Mesh) (u : MeshUnit) (note now : ℕ) (p : Hearing) → UnitFate l own mesh u note now p
    → unread p.answer ≡ None
none_unread l own mesh u note now p (HandedUp octets of to is) = ap unread is
none_unread l own mesh u note now p (TakenIn piece of to is) =
    let t : pieces.Taking = pieces.taken l.reassemblies mesh.origin piece note now in
    ap (λ (q : Hearing). unread q.answer) is ∙ gathers_none l mesh.origin t.held t.outcome
none_unread l own mesh u note now p (WentOn hop away route is frames) = ap unread is
none_unread l own mesh u note now p (Ended reason one is none) = ap unread is
none_unread l own mesh u note now p (Reported is) = ap unread is

module _ (ciphers : Ciphers) (flights : List Flight) (number own : ℕ) (u : MeshUnit) (note : ℕ) where
  -- what the answer, the datagram that was handed up and the frames of a node give
  abbrev Said : Reception → List Sent → Type 0
  Said r frames =
      DeliveryFate ciphers flights number own u note r.answer (handed_by number r.up)
      (flights ++ map (λ (frame : Sent). flight_by number (spelled ciphers frame)) frames)

  said_of : (r q : Reception) (frames sent : List Sent) → r ≡ q → frames ≡ sent → Said q sent → Said r frames
  said_of r q frames sent a f said = subst (λ s. Said s frames) (sym a) (subst (λ s. Said q s) (sym f) said)

  said_gathered : (mesh : Mesh) (piece : Placed) → u ≡ units.Part mesh piece → mesh.to ≡ own
      → (l : StationMemory) (from : ℕ) (held : List Reassembly) (o : pieces.Outcome)
      → Said (says (gathered l from (record { held = held; outcome = o })).answer) (gathered l from (record { held = held; outcome = o })).frames
  unfolding gathered resting
  said_gathered mesh piece of to l from held pieces.Full = IsEnded answers.BufferFull _ refl
  said_gathered mesh piece of to l from held pieces.Held = IsHeld mesh piece _ of to
  said_gathered mesh piece of to l from held (pieces.Whole n octets) = IsCompleted mesh piece n octets _ of to

  said_ended : (reason : Dropped) (frames : List Sent) → is_unit_end reason ≡ true → Said (only (drop_word reason)) frames
  said_ended drops.NoRoute frames e = IsEnded answers.NoRoute _ refl
  said_ended drops.HopsSpent frames e = IsEnded answers.HopsSpent _ refl
  said_ended drops.CounterSpent frames e = IsEnded answers.CounterSpent _ refl
  said_ended drops.BadUnit frames e = absurd (cc)
  said_ended drops.NotBetter frames e = absurd (cc)
  said_ended drops.CostSpent frames e = absurd (cc)
  said_ended drops.RoutesFull frames e = absurd (cc)
  said_ended drops.NotAllowed frames e = absurd (cc)
  said_ended drops.NoSession frames e = absurd (cc)
  said_ended drops.SessionsFull frames e = absurd (cc)
  said_ended drops.NoRandom frames e = absurd (cc)
  said_ended drops.Form frames e = absurd (cc)
  said_ended drops.OtherSession frames e = absurd (cc)
  said_ended drops.BadMac frames e = absurd (cc)
  said_ended drops.BadChannel frames e = absurd (cc)
  said_ended drops.NoSuccess frames e = absurd (cc)
  said_ended drops.NotHeld frames e = absurd (cc)
  said_ended drops.BufferFull frames e = absurd (cc)
  said_ended drops.SeqSpent frames e = absurd (cc)
  said_ended drops.Store frames e = absurd (cc)

  -- a fate of the unit at the station is one in the event
  said_so : (l : StationMemory) (g : Granted) (k : Key) (mesh : Mesh) (now : ℕ) (p : Hearing) → l.ring ≡ Some g → sealing_key g ≡ Some k
      → UnitFate l own mesh u note now p → Said (says p.answer) p.frames
  said_so l g k mesh now p ring keyed (HandedUp octets of to is) = subst (λ r. Said (says r) p.frames) (sym is) (IsUp mesh octets _ of to)
  said_so l g k mesh now p ring keyed (TakenIn piece of to is) =
      let t : pieces.Taking = pieces.taken l.reassemblies mesh.origin piece note now in
      subst (λ (q : Hearing). Said (says q.answer) q.frames) (sym is) (said_gathered mesh piece of to l mesh.origin t.held t.outcome)
  said_so l g k mesh now p ring keyed (WentOn hop away route is frames) =
      let s : SealedUnit = record {
        to = hop;
        from = g.address;
        counter = l.counter.next;
        index = g.active;
        key = k;
        unit = one_hop_less u;
        note = note;
      } in
      let out = record { to = hop; unit = one_hop_less u; note = note } ∷ [] in
      let sent : p.frames ≡ Sealed s ∷ [] = frames
      ∙ (λ i. sealed_by (ring i) l.counter.next out)
      ∙ (λ i. option_map_or (λ key. sealed_units g key l.counter.next out) (keyed i) []) in
      said_of (says p.answer) (only answers.Relayed) p.frames (Sealed s ∷ []) (ap says is) sent (IsRelayed s refl refl)
  said_so l g k mesh now p ring keyed (Ended reason one is none) = subst (λ r. Said (says r) p.frames) (sym is) (said_ended reason p.frames one)
  said_so l g k mesh now p ring keyed (Reported is) = subst (λ r. Said (says r) p.frames) (sym is) (IsEnded answers.Reported _ refl)

-- # The event

no_message : (mesh : Mesh) (u : MeshUnit) → IsOfDatagram mesh u → route_message u ≡ None
no_message mesh u (IsWhole octets) = refl
no_message mesh u (IsPiece piece) = refl

no_command : (mesh : Mesh) (u : MeshUnit) (from : ℕ) → IsOfDatagram mesh u → command_with from false (Some u) ≡ None
no_command mesh u from (IsWhole octets) = refl
no_command mesh u from (IsPiece piece) = refl

none_due : (from : ℕ) (taken : Bool) → (if taken then due_of from None else None) ≡ None
none_due from true = refl
none_due from false = refl

module _ (ciphers : Ciphers) (w : World) (number cost from : ℕ) (y : Node) (octets : List ℕ) (got : Accepted) (m : Memory) (g : Granted) (key k : Key)
    (mesh : Mesh) (u : MeshUnit) (path : got.path ≡ paths.Sealed from false key) (unit : unit_in got.payload ≡ Some u) (of : IsOfDatagram mesh u)
    (runs : y.memory ≡ Some m) (ring : m.station.ring ≡ Some g) (keyed : sealing_key g ≡ Some k) where
  abbrev note_of : ℕ
  note_of = note_by w octets got.path

  abbrev heard_now : NodeStep Reception
  heard_now = hearing_step ciphers y got cost note_of w.clock

  abbrev FateOf : World × Trace → Type 0
  FateOf r = DeliveryFate ciphers w.flights number g.address u note_of r.1.happenings.answer r.1.happenings.up r.0.flights

  fate_is : UnitFate m.station g.address mesh u note_of w.clock (hear m.station got cost note_of w.clock)
  fate_is = unit_fates m.station g got from key mesh u cost note_of w.clock ring path unit of

  said : Said ciphers w.flights number g.address u note_of heard_now.answer heard_now.frames
  said = by_reception (receives ciphers y m runs got cost note_of w.clock (none_unread m.station g.address mesh u note_of w.clock _ fate_is))
    where
      by_reception : Receives (hear m.station got cost note_of w.clock) heard_now
          → Said ciphers w.flights number g.address u note_of heard_now.answer heard_now.frames
      by_reception (AsPlanned a f e) =
          said_of ciphers w.flights number g.address u note_of heard_now.answer _ heard_now.frames _ a f
          (said_so ciphers w.flights number g.address u note_of m.station g k mesh w.clock (hear m.station got cost note_of w.clock) ring keyed fate_is)
      by_reception (HasHalted a f e) =
          said_of ciphers w.flights number g.address u note_of heard_now.answer (only answers.Store) heard_now.frames heard_now.frames a refl
          (IsEnded answers.Store _ refl)

  heard_fate : FateOf (hearing_outcome ciphers w number y octets got cost)
  unfolding world_after
  heard_fate = said

  message_none : message_of got ≡ None
  message_none = (λ i. option_and_then route_message (unit i)) ∙ no_message mesh u of

  none_is_due : (answer : Answer) → due got.path (message_of got) answer ≡ None
  none_is_due answer =
      (λ i. due (path i) (message_none i) answer) ∙ none_due from (is_reply_taken answer)

  by_checks : (b : Bool) → FateOf
      (if b then checked ciphers w number got heard_now (hearing_outcome ciphers w number y octets got cost)
      else hearing_outcome ciphers w number y octets got cost)
  by_checks true =
      subst (λ (o : Option Reply). FateOf (acknowledged_if ciphers w number heard_now.node o
      (with_check w number (reply_among heard_now.frames) (hearing_outcome ciphers w number y octets got cost))))
      (sym (none_is_due heard_now.answer.answer)) heard_fate
  by_checks false = heard_fate

  outcome_fate : FateOf (if is_dropped w number got then unbelieved ciphers w number y octets got
      else hearing_outcome_by ciphers w number y octets got cost (command_of got))
  outcome_fate =
      let dropped : is_dropped w number got ≡ false =
      (λ i. w.checks_on && is_unbelieved (beside_at w number).checks (path i) (message_of got)) ∙ and_right w.checks_on false refl in
      let command : command_of got ≡ None = (λ i. command_on (path i) (unit i)) ∙ no_command mesh u from of in
      subst (λ b. FateOf (if b then unbelieved ciphers w number y octets got
      else hearing_outcome_by ciphers w number y octets got cost (command_of got))) (sym dropped)
      (subst (λ c. FateOf (hearing_outcome_by ciphers w number y octets got cost c)) (sym command) (by_checks w.checks_on))

pub delivery_fates : DeliveriesHaveFates
unfolding comes
delivery_fates ciphers w number cost from x octets got m g key k mesh u known is path unit of runs ring keyed =
    let d = accepting ciphers x octets in
    let way : comes ciphers w number x octets cost
    ≡ (if is_dropped w number got then unbelieved ciphers w number d.node octets got
    else hearing_outcome_by ciphers w number d.node octets got cost (command_of got)) =
    (λ i. if known i then discovers_by w number x octets cost x.memory else accepted_further ciphers w number octets cost d)
    ∙ (λ i. accepted_further ciphers w number octets cost (record d { answer = is i })) in
    subst (λ (r : World × Trace). DeliveryFate ciphers w.flights number g.address u (note_by w octets got.path) r.1.happenings.answer
    r.1.happenings.up r.0.flights) (sym way) (outcome_fate ciphers w number cost from d.node octets got m g key k mesh u path unit of runs ring keyed)
