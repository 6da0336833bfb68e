-- What one event of a line makes of something that a node holds, by the kinds of events: one fold, for bodies and for pieces.
use Rattle.std.proofs.Common.{◌≡◌, ◌≢◌, ℕ, ◌+◌, ◌==◌, Bool, true, false, List, ◌++◌, map, Option, Some, None, Result, Ok, Err, refl, sym, ap, subst, ◌∙◌}
use Rattle.std.specs.Prelude.{if◌then◌else◌}
use Rattle.std.specs.Option.{option_map, option_map_or, option_and_then}
use Rattle.std.proofs.lemmas.Bool.{eqb-true, eqb-false}
use Rattle.std.proofs.lemmas.Option.{same_Some}
use Rattle.plc_base.specs.declared.key.Key.{Key}
use Rattle.plc_base.specs.Grant.{Granted}
use Rattle.plc_base.specs.Times.{is_within}
use Rattle.mesh_header.specs.declared.unit.Mesh.{Mesh}
use Rattle.mesh_header.specs.declared.unit.Unit.{Unit as MeshUnit}
use Rattle.mesh_header.specs.declared.unit.Unit.TheVariants as units
use Rattle.mesh_header.specs.Pieces.{Placed}
use Rattle.mesh_header.specs.Reader.{unit_in}
use Rattle.fragment_buffers.specs.Loads.{UnsealedUnit}
use Rattle.fragment_buffers.specs.Reassembly.{PlacedPiece, Reassembly, begun, placed}
use Rattle.fragment_buffers.specs.PieceIntake as pieces
use Rattle.fragment_buffers.specs.declared.times.TheConstants.{REASSEMBLY_TIME, WAITING_TIME}
use Rattle.node_rules.specs.Accepted.{Accepted}
use Rattle.node_rules.specs.declared.heard.Path.{Path}
use Rattle.node_rules.specs.declared.heard.Path.TheVariants as paths
use Rattle.node_rules.specs.declared.refusal.Dropped.TheVariants as drops
use Rattle.node_rules.specs.declared.refusal.LeaveRefusal.{LeaveRefusal}
use Rattle.node_rules.specs.declared.refusal.LeaveRefusal.TheVariants as leavings
use Rattle.node_rules.specs.Calls.{tick}
use Rattle.node_rules.specs.Ciphers.{Ciphers}
use Rattle.node_rules.specs.Drafts.{choose, refused, sealing, sealing_key}
use Rattle.node_rules.specs.Frames.{Sent, spelled}
use Rattle.node_rules.specs.HearingRules.{Hearing, drop_it, gather, gathered, hear, hear_plain, hear_sealed, hear_unit_in, is_joining}
use Rattle.node_rules.specs.Memory.{StationMemory, Memory, Node, Body}
use Rattle.node_rules.specs.MemoryDrafts.{in_memory}
use Rattle.node_rules.specs.Meters as meters
use Rattle.node_rules.specs.NodeSteps.{NodeStep, acts, answering}
use Rattle.node_rules.specs.Plans.{Plan, resting}
use Rattle.line_events.specs.declared.event.Event.{Event}
use Rattle.line_events.specs.declared.event.Event.TheVariants as events
use Rattle.line_rules.specs.Answers.{leave_word}
use Rattle.line_rules.specs.Forgery.{Comes, OfFlight, OfScript}
use Rattle.line_rules.specs.Further.{comes, delivers, injects, line_step}
use Rattle.line_rules.specs.Steps.{flight_by, handed_by, leave, node_outcome, note_by, world_after}
use Rattle.line_rules.specs.Worlds.{World, Flight, Trace, node_at}
use Rattle.line_progress.specs.BodyFates.{BodyFate, WaitsOn, Leaves, IsSentAs, IsFlown}
use Rattle.line_progress.specs.EventFates.{BodyFateIn, StillWaits, SetsOut, BodyEnds, EventsKeepBodies, EventsKeepPieces, HasItsKey, MayLeave, hides_a_loss}
use Rattle.line_progress.specs.EventFates.{Ended, TimePassed, Restarted, LeftNetwork, LostPower, LostPowerUnsaid}
use Rattle.line_progress.specs.EventFates.{PieceFateIn, StillGathered, HandedUpWith, Overlapped, PieceEnds}
use Rattle.line_progress.specs.Held.{KeepsHeld, IsElsewhere, may_end_held}
use Rattle.line_progress.specs.Lists.{Among, Here, Later}
use Rattle.line_progress.specs.PieceFates.{PieceFate, StaysHeld, CameUp, Discarded}
use Rattle.line_progress.specs.Stations.{station_at}
use Rattle.line_progress.proofs.WholePlans.{Acted, Whole, Failed, acts_either}
use Rattle.line_progress.proofs.BodyFates.{body_fates}
use Rattle.line_progress.proofs.ComesFates.{IsHeard, comes_so, left_there, station_in}
use Rattle.line_progress.proofs.Events.{StepHas, Taken, outcome_has, once, at_node, at_meter, at_flight}
use Rattle.line_progress.proofs.HaltsSaid.{halts_said}
use Rattle.line_progress.proofs.HeardDatagrams.{Made, Quietly, HandsUp, Takes, Heards, Quiet, ByFrame, heard_so}
use Rattle.line_progress.proofs.HeldElsewhere.{events_leave}
use Rattle.line_progress.proofs.HeldEvents.{events_keep, station_of}
use Rattle.line_progress.proofs.HeldKept.{PlanKeeps, same_held, refuses_it}
use Rattle.line_progress.proofs.PieceFates.{among_front, is_itself, piece_fates}
use Rattle.line_progress.proofs.StationReceipts.{says}
use Rattle.line_progress.proofs.TickEvents.{tick_fates, time_comes}

-- # A meter that leaves

-- it answers so, or it was not joined and keeps all; and where a write fails it answers Store
data Leaving (m : Memory) (p : Plan Memory (Result (Unit {0}) LeaveRefusal)) : Type 0 where
  Goes : p.answer ≡ Ok tt → p.failed ≡ Err leavings.Store → Leaving m p
  Stays : PlanKeeps in_memory m p → p.failed ≡ Err leavings.Store → Leaving m p

leaving : (m : Memory) → Leaving m (meters.leave m)
unfolding choose resting
leaving m = by_joined (meters.is_joined m)
  where
    by_joined : (b : Bool) → Leaving m (if b then sealing in_memory meters.leaving_ends (meters.leaves m) tt
        else refused meters.leaving_ends m leavings.NotJoined)
    by_joined true = Goes refl refl
    by_joined false = Stays (refuses_it m meters.leaving_ends leavings.NotJoined) refl

-- # Each kind of event

module _ (ciphers : Ciphers) (w : World) (number : ℕ) (l : StationMemory) (there : station_at w number ≡ Some l) (P : Event → World × Trace → Type 0)
    (keeps : (event : Event) (r : World × Trace) (now : StationMemory) → station_at r.0 number ≡ Some now → KeepsHeld l now → P event r)
    (ends : (event : Event) (r : World × Trace) → ((since time : ℕ) → Ended w event number since time r) → P event r)
    (ticked : (seconds : ℕ) (r : World × Trace) → station_at r.0 number ≡ Some (tick (w.clock + seconds) l) → P (events.Tick seconds) r)
    (hears : (event : Event) (cost : ℕ) (octets : List ℕ) (x : Node) (r : World × Trace) → node_at w number ≡ Some x → Comes w event number octets
    → IsHeard ciphers w number cost x octets l r → P event r) where
  runs_here : (x : Node) → node_at w number ≡ Some x → station_of x ≡ Some l
  runs_here x e = sym (ap (option_and_then station_of) e) ∙ there

  -- its own memory is that of its station
  by_memory : (Q : Type 0) (x : Node) → node_at w number ≡ Some x → ((m : Memory) → x.memory ≡ Some m → m.station ≡ l → Q) → Q
  by_memory Q x e f = by_option x.memory refl
    where
      by_option : (o : Option Memory) → x.memory ≡ o → Q
      by_option None h = let none : station_of x ≡ None = ap station_in h in let some = runs_here x e in absurd (cc)
      by_option (Some m) h = f m h (same_Some m.station l (sym (ap station_in h) ∙ runs_here x e))

  came_here : (event : Event) (cost : ℕ) (octets : List ℕ) (x : Node) → node_at w number ≡ Some x → Comes w event number octets → MayLeave event number
      → P event (comes ciphers w number x octets cost)
  came_here event cost octets x e came may =
      by_memory (P event (comes ciphers w number x octets cost)) x e (λ m runs is.
      comes_so ciphers w number cost x octets m e runs (P event)
      (λ r now at k. keeps event r now at (subst (λ s. KeepsHeld s now) is k))
      (λ r a at. ends event r (λ since time. LostPower a at))
      (λ r a. ends event r (λ since time. LeftNetwork may a))
      (λ r h. hears event cost octets x r e came (subst (λ s. IsHeard ciphers w number cost x octets s r) is h)))

  delivers_here : (flight cost : ℕ) → StepHas (P (events.Deliver flight number cost)) (delivers ciphers w flight number cost)
  unfolding delivers
  delivers_here flight cost =
      once _ w _ (at_node _ w number _ (λ x e. at_flight _ w flight _ (λ f g.
      Taken _ (came_here (events.Deliver flight number cost) cost f.octets x e (OfFlight flight number cost f g) refl))))

  injects_here : (cost : ℕ) (octets : List ℕ) → StepHas (P (events.Inject number cost octets)) (injects ciphers w number cost octets)
  unfolding injects
  injects_here cost octets =
      once _ w _ (at_node _ w number _ (λ x e.
      Taken _ (came_here (events.Inject number cost octets) cost octets x e (OfScript number cost octets) refl)))

  module _ (x : Node) (e : node_at w number ≡ Some x) where
    abbrev left : NodeStep (Result (Unit {0}) LeaveRefusal)
    left = acts x (Err leavings.Halted) meters.leave

    abbrev outcome : World × Trace
    outcome = node_outcome ciphers w number (answering leave_word left)

    left_at : station_at outcome.0 number ≡ station_of left.node
    unfolding world_after
    left_at = left_there w.nodes number x left.node e

    by_act : (m : Memory) → m.station ≡ l → Leaving m (meters.leave m) → Acted (meters.leave m) left → P (events.Leave number) outcome
    by_act m is (Goes a f) (Whole b g h) = ends (events.Leave number) outcome (λ since time. LeftNetwork refl (ap leave_word (b ∙ a)))
    by_act m is (Goes a f) (Failed b g h) =
        ends (events.Leave number) outcome (λ since time. LostPower (ap leave_word (b ∙ f)) (left_at ∙ ap station_in h))
    by_act m is (Stays k f) (Whole b g h) =
        keeps (events.Leave number) outcome (meters.leave m).memory.station (left_at ∙ ap station_in h)
        (subst (λ s. KeepsHeld s (meters.leave m).memory.station) is k.held)
    by_act m is (Stays k f) (Failed b g h) =
        ends (events.Leave number) outcome (λ since time. LostPower (ap leave_word (b ∙ f)) (left_at ∙ ap station_in h))

    leaves_here : P (events.Leave number) outcome
    leaves_here =
        by_memory (P (events.Leave number) outcome) x e
        (λ m runs is. by_act m is (leaving m) (acts_either x m (Err leavings.Halted) meters.leave runs))

  leave_here : StepHas (P (events.Leave number)) (leave ciphers w number)
  unfolding leave
  leave_here = once _ w _ (at_meter _ w number _ (λ x e. Taken _ (leaves_here x e)))

  module _ (v : World) (d : Trace) where
    abbrev Is : Event → Type 0
    Is event = line_step ciphers w event ≡ Ok (v, d) → P event (v, d)

    mute : (event : Event) → may_end_held event ≡ false → Is event
    mute event kind e = by_station (station_at v number) refl
      where
        by_hiding : (b : Bool) → hides_a_loss event ≡ b → station_at v number ≡ None → P event (v, d)
        by_hiding true h none = ends event (v, d) (λ since time. LostPowerUnsaid h none)
        by_hiding false h none =
            ends event (v, d) (λ since time. LostPower (halts_said ciphers w v event d kind h e number l there none) none)

        by_station : (o : Option StationMemory) → station_at v number ≡ o → P event (v, d)
        by_station (Some now) at = keeps event (v, d) now at (events_keep ciphers w v event d kind e number l now there at)
        by_station None none = by_hiding (hides_a_loss event) refl none

    elsewhere : (event : Event) → IsElsewhere event number → Is event
    elsewhere event away e = keeps event (v, d) l (events_leave ciphers w v event d e number away ∙ there) (same_held l)

    by_place : (node : ℕ) (Q : ℕ → Type 0) → Q number → (number ≢ node → Q node) → Q node
    by_place node Q here away = by_test (number == node) refl
      where
        by_test : (b : Bool) → (number == node) ≡ b → Q node
        by_test true e = subst Q (eqb-true number node e) here
        by_test false e = away (eqb-false number node e)

    each : (event : Event) → Is event
    each (events.Coordinator eui key) = mute _ refl
    each (events.Meter eui psk) = mute _ refl
    each (events.Depot node) = mute _ refl
    each (events.Near a b cost) = mute _ refl
    each (events.Counter node value) = mute _ refl
    each (events.Number node value) = mute _ refl
    each (events.Allow node) = mute _ refl
    each (events.RandomOctets node value) = mute _ refl
    each (events.Join node agent) = mute _ refl
    each (events.Leave node) =
        by_place node (λ n. Is (events.Leave n)) (λ e. outcome_has _ (leave ciphers w number) (v, d) leave_here e) (elsewhere (events.Leave node))
    each (events.Send from to datagram) = mute _ refl
    each (events.Deliver flight node cost) =
        by_place node (λ n. Is (events.Deliver flight n cost))
        (λ e. outcome_has _ (delivers ciphers w flight number cost) (v, d) (delivers_here flight cost) e) (elsewhere (events.Deliver flight node cost))
    each (events.Inject node cost octets) =
        by_place node (λ n. Is (events.Inject n cost octets))
        (λ e. outcome_has _ (injects ciphers w number cost octets) (v, d) (injects_here cost octets) e) (elsewhere (events.Inject node cost octets))
    each (events.Lose flight) = mute _ refl
    each (events.Break node next) = mute _ refl
    each (events.Tick seconds) = λ e. ticked seconds (v, d) (time_comes ciphers w v seconds d e number l there)
    each (events.Restart node) =
        by_place node (λ n. Is (events.Restart n)) (λ e. ends (events.Restart number) (v, d) (λ since time. Restarted refl)) (elsewhere (events.Restart node))
    each (events.Cut node nth keeps_new) = mute _ refl
    each (events.Rekey index key) = mute _ refl
    each (events.Challenge node) = mute _ refl
    each (events.Activate node index) = mute _ refl
    each (events.Kick node) = mute _ refl
    each (events.Show node) = mute _ refl
    each events.Checks = mute _ refl
    each (events.Bcast node datagram) = mute _ refl
    each (events.Scan node) = mute _ refl
    each (events.Choose node k) = mute _ refl
    each (events.Path from to) = mute _ refl

-- # Bodies

pub among_mapped : {A B : Type 0} (f : A → B) (x : A) (xs : List A) → Among x xs → Among (f x) (map f xs)
among_mapped f x xs (Here rest) = Here (map f rest)
among_mapped f x xs (Later y rest more) = Later (f y) (map f rest) (among_mapped f x rest more)

-- a station that is not joined makes nothing of a frame
unjoined : (l : StationMemory) (got : Accepted) (cost note now : ℕ) → l.ring ≡ None → (hear l got cost note now).memory ≡ l
unfolding resting
unjoined l got cost note now none = by_path got.path (unit_in got.payload)
  where
    plain : (answer : List ℕ → _) (o : Option (List ℕ)) → (hear_plain l answer o).memory ≡ l
    plain answer None = refl
    plain answer (Some body) = refl

    by_path : (p : Path) (o : Option MeshUnit) → (hear_unit_in l p o cost note now).memory ≡ l
    by_path p None = refl
    by_path (paths.Sealed from all key) (Some unit) =
        λ i. (option_map_or (λ own. hear_sealed l own from all unit cost note now) (option_map (λ (g : Granted). g.address) (none i))
        (drop_it l drops.BadUnit)).memory
    by_path (paths.Up from) (Some unit) = plain _ (is_joining unit)
    by_path (paths.Down from) (Some unit) = plain _ (is_joining unit)

module _ (ciphers : Ciphers) (w : World) (number : ℕ) (l : StationMemory) (keyed : HasItsKey l) (b : Body) (among : Among b l.waiting) where
  abbrev Fate : Event → World × Trace → Type 0
  Fate event r = BodyFateIn ciphers w event number l b r

  kept_among : (n now : StationMemory) → KeepsHeld n now → Among b n.waiting → Among b now.waiting
  kept_among n now k here = subst (Among b) (sym k.waiting) (among_front b n.waiting k.more here)

  body_ticked : (seconds : ℕ) (r : World × Trace) → station_at r.0 number ≡ Some (tick (w.clock + seconds) l) → Fate (events.Tick seconds) r
  body_ticked seconds r at = by_age (is_within WAITING_TIME (w.clock + seconds) b.since) refl
    where
      by_age : (t : Bool) → is_within WAITING_TIME (w.clock + seconds) b.since ≡ t → Fate (events.Tick seconds) r
      by_age true young = StillWaits (tick (w.clock + seconds) l) at ((tick_fates l (w.clock + seconds)).bodies b among young)
      by_age false old = BodyEnds (TimePassed seconds refl old)

  module _ (event : Event) (cost : ℕ) (octets : List ℕ) (x : Node) (r : World × Trace) (h : IsHeard ciphers w number cost x octets l r) where
    abbrev note_of : ℕ
    note_of = note_by w octets h.got.path

    abbrev plan_of : Hearing
    plan_of = hear h.station h.got cost note_of w.clock

    among_so : Among b h.station.waiting
    among_so = subst (Among b) (sym h.marked.waiting) among

    abbrev new : List Flight
    new = map (λ (frame : Sent). flight_by number (spelled ciphers frame)) plan_of.frames

    flown : (g : Granted) (key : Key) (o : UnsealedUnit) → IsSentAs g key o plan_of.frames → IsFlown ciphers number g key o (new ++ h.more)
    flown g key o sent = record {
      counter = sent.counter;
      is = among_front _ new h.more (among_mapped (λ (frame : Sent). flight_by number (spelled ciphers frame)) _ plan_of.frames sent.is);
    }

    by_fate : (g : Granted) (key : Key) → l.ring ≡ Some g → sealing_key g ≡ Some key → BodyFate g key b plan_of → Fate event r
    by_fate g key ring sealed (WaitsOn here) = StillWaits h.now h.there (kept_among plan_of.memory h.now h.held here)
    by_fate g key ring sealed (Leaves hop all) =
        SetsOut g key hop (new ++ h.more) ring sealed h.flights (λ o in_b. flown g key o (all o in_b))

    body_heard : Fate event r
    body_heard = by_ring l.ring refl
      where
        by_ring : (o : Option Granted) → l.ring ≡ o → Fate event r
        by_ring None e =
            let same : plan_of.memory ≡ h.station = unjoined h.station h.got cost note_of w.clock (h.marked.ring ∙ e) in
            StillWaits h.now h.there (kept_among plan_of.memory h.now h.held (subst (λ (s : StationMemory). Among b s.waiting) (sym same) among_so))
        by_ring (Some g) e =
            let k = keyed g e in
            by_fate g k.0 e k.1 (body_fates h.station g k.0 h.got cost note_of w.clock b (h.marked.ring ∙ e) k.1 among_so)

pub bodies_kept : EventsKeepBodies
bodies_kept ciphers w v event d e number l there keyed b among =
    each ciphers w number l there (Fate ciphers w number l keyed b among)
    (λ event r now at k. StillWaits now at (kept_among ciphers w number l keyed b among l now k among))
    (λ event r ended. BodyEnds (ended b.since WAITING_TIME))
    (body_ticked ciphers w number l keyed b among)
    (λ event cost octets x r at came h. body_heard ciphers w number l keyed b among event cost octets x r h)
    v d event e

-- # Pieces

module _ (ciphers : Ciphers) (w : World) (number : ℕ) (l : StationMemory) (r : Reassembly) (p : PlacedPiece) (among : Among r l.reassemblies)
    (in_r : Among p r.pieces) where
  abbrev FateOf : Event → World × Trace → Type 0
  FateOf event res = PieceFateIn ciphers w event number r p res

  same_among : (now : StationMemory) → now.reassemblies ≡ l.reassemblies → Among r now.reassemblies
  same_among now same = subst (Among r) (sym same) among

  piece_ticked : (seconds : ℕ) (res : World × Trace) → station_at res.0 number ≡ Some (tick (w.clock + seconds) l) → FateOf (events.Tick seconds) res
  piece_ticked seconds res at = by_age (is_within REASSEMBLY_TIME (w.clock + seconds) r.since) refl
    where
      by_age : (t : Bool) → is_within REASSEMBLY_TIME (w.clock + seconds) r.since ≡ t → FateOf (events.Tick seconds) res
      by_age true young =
          StillGathered (tick (w.clock + seconds) l) r at ((tick_fates l (w.clock + seconds)).pieces r among young) (is_itself r) in_r
      by_age false old = PieceEnds (TimePassed seconds refl old)

  module _ (event : Event) (cost : ℕ) (octets : List ℕ) (x : Node) (res : World × Trace) (node : node_at w number ≡ Some x)
      (came : Comes w event number octets) (h : IsHeard ciphers w number cost x octets l res) where
    abbrev noted : ℕ
    noted = note_by w octets h.got.path

    abbrev plan_heard : Hearing
    plan_heard = hear h.station h.got cost noted w.clock

    quiet : plan_heard.memory.reassemblies ≡ h.station.reassemblies → FateOf event res
    quiet same =
        StillGathered h.now r h.there (same_among h.now (h.held.reassemblies ∙ same ∙ h.marked.reassemblies)) (is_itself r) in_r

    up_of : (from : ℕ) (t : pieces.Taking) (n : ℕ) (whole : List ℕ) → t.outcome ≡ pieces.Whole n whole
        → handed_by number (says (gathered h.station from t).answer).up ≡ Some (record { node = number; note = n; octets = whole })
    unfolding gathered resting
    up_of from t n whole out =
        ap (λ (o : pieces.Outcome). handed_by number (says (gathered h.station from (record { held = t.held; outcome = o })).answer).up) out

    held_after : (from : ℕ) (t : pieces.Taking) → (gathered h.station from t).memory.reassemblies ≡ t.held
    unfolding gathered resting
    held_after from t = refl

    module _ (from : ℕ) (key : Key) (mesh : Mesh) (piece : Placed) (path : h.got.path ≡ paths.Sealed from false key)
        (unit : unit_in h.got.payload ≡ Some (units.Part mesh piece)) (is : plan_heard ≡ gather h.station mesh.origin piece noted w.clock) where
      abbrev taking : pieces.Taking
      taking = pieces.taken h.station.reassemblies mesh.origin piece noted w.clock

      by_piece : PieceFate r p (begun mesh.origin piece noted w.clock) (placed piece) taking → FateOf event res
      by_piece (StaysHeld s here same in_s) =
          StillGathered h.now s h.there
          (subst (Among s)
          (sym (h.held.reassemblies ∙ ap (λ (q : Hearing). q.memory.reassemblies) is ∙ held_after mesh.origin taking)) here) same in_s
      by_piece (CameUp s whole same in_s full out) =
          HandedUpWith s whole same in_s full
          (h.up ∙ ap (λ (q : Hearing). handed_by number (says q.answer).up) is ∙ up_of mesh.origin taking s.note whole out
          ∙ ap (λ (k : ℕ). Some (record { node = number; note = k; octets = whole })) same.note)
      by_piece (Discarded named over) =
          Overlapped (placed piece) (record {
            octets = octets;
            comes = came;
            node = x;
            there = node;
            got = h.got;
            accepted = h.accepted;
            from = from;
            key = key;
            path = path;
            mesh = mesh;
            piece = piece;
            unit = unit;
            is = refl;
            name = named;
          }) over

      gathers : FateOf event res
      gathers =
          by_piece (piece_fates h.station.reassemblies mesh.origin piece noted w.clock r p
          (subst (Among r) (sym h.marked.reassemblies) among) in_r)

    by_unit : (own from : ℕ) (key : Key) (u : MeshUnit) → h.got.path ≡ paths.Sealed from false key → unit_in h.got.payload ≡ Some u
        → Made h.station own u noted w.clock plan_heard → FateOf event res
    unfolding resting
    by_unit own from key u path unit (Quietly q) = quiet q.same
    by_unit own from key u path unit (HandsUp mesh whole is to plan) = quiet (ap (λ (q : Hearing). q.memory.reassemblies) plan)
    by_unit own from key u path unit (Takes mesh piece is to plan) = gathers from key mesh piece path (unit ∙ ap Some is) plan

    by_frame : Heards h.station h.got.path (unit_in h.got.payload) noted w.clock plan_heard → FateOf event res
    by_frame (Quiet q) = quiet q.same
    by_frame (ByFrame own from key u path unit here made) = by_unit own from key u path unit made

    piece_heard : FateOf event res
    piece_heard = by_frame (heard_so h.station h.got cost noted w.clock)

pub pieces_kept : EventsKeepPieces
pieces_kept ciphers w v event d e number l there r p among in_r =
    each ciphers w number l there (FateOf ciphers w number l r p among in_r)
    (λ event res now at k. StillGathered now r at (same_among ciphers w number l r p among in_r now k.reassemblies) (is_itself r) in_r)
    (λ event res ended. PieceEnds (ended r.since REASSEMBLY_TIME))
    (piece_ticked ciphers w number l r p among in_r)
    (λ event cost octets x res at came h. piece_heard ciphers w number l r p among in_r event cost octets x res at came h)
    v d event e
