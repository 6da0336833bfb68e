-- What is said of the unit of each flight, as the nodes that open it read it: what nodes without further reach send says nothing that is asked
-- of commands for the neighbours.
use Rattle.std.proofs.Common.{◌≡◌, ℕ, ◌+◌, ◌-◌, Bool, true, false, List, [], ◌∷◌, Some, None, Result, Ok, Err, refl, sym, ap, ◌∙◌, subst}
use Rattle.std.specs.Prelude.{All, ◌==◌, if◌then◌else◌, map, slice_get}
use Rattle.std.proofs.lemmas.Bool.{or_parts}
use Rattle.std.proofs.lemmas.List.Elements.{All-nil, All-cons, All-head, All-tail, All-append, All-set, All-weaker}
use Rattle.std.proofs.lemmas.Option.{same_Some, none-some}
use Rattle.plc_base.specs.declared.key.Key.{Key}
use Rattle.plc_base.specs.Grant.{Granted}
use Rattle.mac_frames.specs.Grammar.{header}
use Rattle.mesh_header.specs.declared.unit.Unit.{Unit as MeshUnit}
use Rattle.mesh_header.specs.Reader.{unit_in}
use Rattle.mesh_header.specs.Grammar.{spelling}
use Rattle.pan_discovery.specs.declared.message.Discovery.{Discovery}
use Rattle.node_rules.specs.Accepted.{Accepted}
use Rattle.node_rules.specs.declared.heard.SentHow.{SentHow}
use Rattle.node_rules.specs.declared.refusal.CoordinatorRefusal.{CoordinatorRefusal}
use Rattle.node_rules.specs.declared.refusal.CoordinatorRefusal.TheVariants as orders
use Rattle.node_rules.specs.declared.refusal.FrameRefusal.{FrameRefusal}
use Rattle.node_rules.specs.declared.refusal.FrameRefusal.TheVariants as frames
use Rattle.node_rules.specs.declared.refusal.SendRefusal.{SendRefusal}
use Rattle.node_rules.specs.declared.refusal.SendRefusal.TheVariants as sends
use Rattle.node_rules.specs.Acceptance.{accept}
use Rattle.node_rules.specs.Calls as calls
use Rattle.node_rules.specs.Ciphers.{network}
use Rattle.node_rules.specs.Coordinators as coordinator_rules
use Rattle.node_rules.specs.Frames.{Arrived, SealedUnit, Sent, Sealed, Up, Down, arrived, arrived_with, head_of, spelled}
use Rattle.node_rules.specs.Memory.{Memory, Node}
use Rattle.node_rules.specs.MemoryDrafts.{with_station}
use Rattle.node_rules.specs.Meters as meters
use Rattle.node_rules.specs.NodeSteps.{NodeStep, acts, answering, changing, of_station, stays}
use Rattle.node_rules.specs.Plans.{Plan}
use Rattle.node_rules.proofs.NetworkOpens.{network_opens_again}
use Rattle.line_rules.specs.Answers.{sent_word}
use Rattle.line_events.specs.declared.event.Answer.{Answer}
use Rattle.line_events.specs.declared.event.Answer.TheVariants as answers
use Rattle.line_events.specs.declared.event.Event.{Event}
use Rattle.line_events.specs.Events.{IsEvent}
use Rattle.line_rules.specs.Forgery.{Comes, accepting}
use Rattle.line_rules.specs.Further.{discovery_flight}
use Rattle.line_rules.specs.Steps.{Step, node_outcome, flight_by, flights_of, forged_by, hearing_outcome, hearing_step, is_taken, note_by, offered_near}
use Rattle.line_rules.specs.Steps.{running_world, restarts, sent_if}
use Rattle.line_rules.specs.Steps.{sending, set_up, tag_of, world_after}
use Rattle.line_rules.specs.Worlds.{World, Flight, flight_at, node_at}
use Rattle.line_laws.specs.SealedUnits.{IsSealedUnit}
use Rattle.line_laws.specs.Lines.{WorldOk}
use Rattle.line_laws.specs.Ranges.{WorldRanged}
use Rattle.line_laws.proofs.FlightFolds.{came_octets, after_silent}
use Rattle.line_laws.proofs.LetterAccepts.{to_of}
use Rattle.line_laws.proofs.LetterSeals.{sealed_unit_arrives, sealed_unit_opens, sealed_unit_unit}
use Rattle.line_laws.proofs.OctetRuns.{WorldSpeaks}
use Rattle.line_laws.proofs.OldUnits.{IsOldFrame, IsOldUnit, call_old, hears_old}
use Rattle.line_laws.proofs.Quiet.{accept_quiet, acts_quiet, depot_quiet, install_quiet, near_quiet}
use Rattle.line_laws.proofs.RangeFrames.{IsSent}
use Rattle.line_laws.proofs.RangeRuns.{call_ranged, heard_did}
use Rattle.line_laws.proofs.StorableGrants.{network_ranges}
use Rattle.line_laws.proofs.Worlds.{at_place}
use Rattle.line_laws.proofs.StoreMarks.{accept_is}
use Rattle.line_laws.proofs.StepKinds.{IsStep, Fails, Makes, Rests, Shows, Acts, BreaksLink, SendsFrom, AllowsMeter, Sets, SetsTwo, Provides, TurnsDown, Hears}
use Rattle.line_laws.proofs.StepKinds.{Loses, Ticks, Restarts, Cuts, preset_call}

module _ (P : ℕ → MeshUnit → Type 0) where
  -- What is said of the unit of a flight, and of the address that it goes to.
  pub record FlightSays (f : Flight) : Type 0 where
    pub says : (key : Key) (a : Arrived) (payload : List ℕ) (u : MeshUnit) → f.key ≡ Some key → arrived network f.octets ≡ Some a → a.opened key ≡ Some payload
        → unit_in payload ≡ Some u → P (to_of a.head) u

  -- of a frame that is sent
  abbrev pub FrameSays : Sent → Type 0
  FrameSays (Sealed l) = P l.to l.unit
  FrameSays (Up agent from message) = Unit {0}
  FrameSays (Down from message) = Unit {0}

  sealed_unit_says : (number : ℕ) (l : SealedUnit) → IsSealedUnit l → P l.to l.unit → FlightSays (flight_by number (spelled network (Sealed l)))
  unfolding spelled
  sealed_unit_says number l fits p = record {
    says = λ key a payload u k is opened read.
        let body : List ℕ = network.seals l.key (head_of l) (spelling l.unit) in
        let came : Arrived = arrived_with network (head_of l) (header (head_of l)) body in
        let same : came ≡ a = same_Some came a (sym (sealed_unit_arrives network network_opens_again l fits) ∙ is) in
        let keys : l.key ≡ key = same_Some l.key key k in
        let payloads : spelling l.unit ≡ payload = same_Some (spelling l.unit) payload
        (sym (sealed_unit_opens network network_opens_again l fits) ∙ ap came.opened keys ∙ ap (λ (x : Arrived). x.opened key) same ∙ opened) in
        let units : l.unit ≡ u = same_Some l.unit u (sym (sealed_unit_unit network network_opens_again l fits) ∙ ap unit_in payloads ∙ read) in
        subst (λ (x : Arrived). P (to_of x.head) u) same (subst (P l.to) units p);
  }

  keyless : (f : Flight) → f.key ≡ None → FlightSays f
  keyless f none = record { says = λ key a payload u k is opened read. absurd (none-some key (sym none ∙ k)) }

  pub frame_flies : (number : ℕ) (f : Sent) → IsSent f → FrameSays f → FlightSays (flight_by number (spelled network f))
  unfolding spelled
  frame_flies number (Sealed l) fits p = sealed_unit_says number l fits p
  frame_flies number (Up agent from message) fits p = keyless _ refl
  frame_flies number (Down from message) fits p = keyless _ refl

  pub discovery_says : (number : ℕ) (frame : Discovery) → FlightSays (discovery_flight number frame)
  discovery_says number frame = keyless _ refl

  lost_says : (f : Flight) → FlightSays f → FlightSays (record f { lost = true })
  lost_says f h = record { says = h.says }

  frames_fly : (number : ℕ) (fs : List Sent) → All IsSent fs → All FrameSays fs → All FlightSays (map (λ frame. flight_by number (spelled network frame)) fs)
  frames_fly number [] fits all = All-nil FlightSays
  frames_fly number (f ∷ fs) fits all = All-cons FlightSays (flight_by number (spelled network f)) _
      (frame_flies number f (All-head IsSent f fs fits) (All-head FrameSays f fs all))
      (frames_fly number fs (All-tail IsSent f fs fits) (All-tail FrameSays f fs all))

  -- one node told what it did
  pub after_says : {A : Type 0} (u : World) (number : ℕ) (d : NodeStep A) → All IsSent d.frames → All FrameSays d.frames → All FlightSays u.flights
      → All FlightSays (world_after network u number d).flights
  unfolding world_after
  after_says u number d fits all before = All-append FlightSays u.flights (flights_of network number d) before (frames_fly number d.frames fits all)

  pub after_silently : {A : Type 0} (u : World) (number : ℕ) (d : NodeStep A) → d.frames ≡ [] → All FlightSays u.flights
      → All FlightSays (world_after network u number d).flights
  after_silently u number d none before = subst (All FlightSays) (sym (after_silent network u number d none)) before

  -- # Without further reach

  module _ (any : (to : ℕ) (u : MeshUnit) → IsOldUnit u → P to u) where
    pub old_says : (f : Sent) → IsOldFrame f → FrameSays f
    old_says (Sealed l) h = any l.to l.unit h
    old_says (Up agent from message) h = tt
    old_says (Down from message) h = tt

    pub after_as_before : {A : Type 0} (u : World) (number : ℕ) (d : NodeStep A) → All IsSent d.frames → All IsOldFrame d.frames → All FlightSays u.flights
        → All FlightSays (world_after network u number d).flights
    after_as_before u number d fits all before = after_says u number d fits (All-weaker IsOldFrame FrameSays old_says d.frames all) before

    module _ (w : World) (ok : WorldOk w) (s : WorldSpeaks w) (r : WorldRanged w) where
      abbrev pub SaysIn : Step → Type 0
      SaysIn (Ok t) = t.1.happenings.forged ≡ false → All FlightSays w.flights → All FlightSays t.0.flights
      SaysIn (Err fault) = Unit {0}

      -- what was heard of octets that were accepted
      pub heard_says : (number : ℕ) (x : Node) (octets : List ℕ) (cost : ℕ) (got : Accepted) (event : Event) → node_at w number ≡ Some x → IsEvent event
          → Comes w event number octets → (accepting network x octets).answer ≡ Ok got → forged_by w octets got.path ≡ false
          → All FlightSays w.flights → All FlightSays (hearing_outcome network w number (accepting network x octets).node octets got cost).0.flights
      heard_says number x octets cost got event there says comes is honest before =
          let d = hearing_step network (accepting network x octets).node got cost (note_by w octets got.path) w.clock in
          after_as_before (running_world w) number d (heard_did w ok s r number x octets cost got there
          (came_octets network network_ranges w ok s.flights event number octets says comes) is honest).frames
          (hears_old network w got cost (note_by w octets got.path) w.clock (accepting network x octets).node) before

      sending_says : (from to : ℕ) (datagram : List ℕ) (x : Node) (d : NodeStep Answer) → All FlightSays (world_after network (running_world w) from d).flights
          → All FlightSays (sending network w from to datagram (tag_of x) d).0.flights
      sending_says from to datagram x d h = by_taken (is_taken d.answer) h
        where
          by_taken : (b : Bool) → All FlightSays (world_after network (running_world w) from d).flights
              → All FlightSays (sent_if w from to datagram (tag_of x) b (node_outcome network w from d)).0.flights
          by_taken true k = k
          by_taken false k = k

      flight_there : (number : ℕ) (f : Flight) → flight_at w number ≡ Some f → slice_get w.flights (number - 1) ≡ Some f
      flight_there number f = by_number (number == 0)
        where
          by_number : (b : Bool) → (if b then None else slice_get w.flights (number - 1)) ≡ Some f → slice_get w.flights (number - 1) ≡ Some f
          by_number true e = absurd (none-some f e)
          by_number false e = e

      pub old_flights : (event : Event) (st : Step) → IsStep network w event st → SaysIn st
      old_flights event st (Fails e fault) = tt
      old_flights event st (Makes e x is) = λ honest before. before
      old_flights event st (Rests e quiet) = λ honest before. before
      old_flights event st (Shows number x) = λ honest before. before
      old_flights event st (Acts e number x A halts plan reads there call word asked) = λ honest before.
          after_as_before (running_world w) number (answering reads (acts x halts plan)) (call_ranged w ok s r number x A halts plan there call).frames
          (call_old network w number x A halts plan call) before
      old_flights event st (BreaksLink number next x a there call) = λ honest before.
          let plan : Memory → Plan Memory Answer = λ m. changing answers.Broken (with_station (calls.broke a m.station) m) in
          after_as_before (running_world w) number (acts x answers.Halted plan) (call_ranged w ok s r number x Answer answers.Halted plan there call).frames
          (call_old network w number x Answer answers.Halted plan call) before
      old_flights event st (SendsFrom from to datagram x a there call asked) = λ honest before.
          let plan : Memory → Plan Memory (Result SentHow SendRefusal) = λ m. of_station m (calls.send m.station a datagram (w.sends + 1) w.clock) in
          sending_says from to datagram x (answering sent_word (acts x (Err sends.Halted) plan))
          (after_as_before (running_world w) from (answering sent_word (acts x (Err sends.Halted) plan))
          (call_ranged w ok s r from x _ (Err sends.Halted) plan there call).frames (call_old network w from x _ (Err sends.Halted) plan call) before)
      old_flights event st (AllowsMeter number y c psk there call meter) = λ honest before.
          let plan : Memory → Plan Memory (Result ℕ CoordinatorRefusal) = λ m. coordinator_rules.allow m y.eui psk in
          after_as_before (running_world w) 0 (acts c (Err orders.Halted) plan) (call_ranged w ok s r 0 c _ (Err orders.Halted) plan there call).frames
          (call_old network w 0 c _ (Err orders.Halted) plan call) before
      old_flights event st (Sets e quiet number x plan there open_is is) = λ honest before.
          let call = preset_call network w number x plan open_is is in
          after_as_before (set_up w) number (acts x (Ok tt) (λ m. of_station m (plan m.station)))
          (call_ranged w ok s r number x _ (Ok tt) (λ m. of_station m (plan m.station)) there call).frames
          (call_old network w number x _ (Ok tt) (λ m. of_station m (plan m.station)) call) before
      old_flights event st (SetsTwo e quiet a b cost x y p q hx hy apart open_is first second fresh far) = λ honest before.
          after_silently (world_after network (set_up w) a (offered_near x q cost w.clock)) b (offered_near y p cost w.clock) (near_frames y p)
          (after_silently (set_up w) a (offered_near x q cost w.clock) (near_frames x q) before)
        where
          near_frames : (z : Node) (to : ℕ) → (offered_near z to cost w.clock).frames ≡ []
          near_frames z to = acts_quiet z (Ok tt) (λ m. of_station m (calls.preset_near m.station to cost w.clock)) (λ m. near_quiet m.station to cost w.clock)
      old_flights event st (Provides number x c psk g d ne open_is hx hc pair same is) = λ honest before.
          let quiet : d.frames ≡ [] = ap (λ (z : NodeStep (Result Granted CoordinatorRefusal)). z.frames) same ∙ acts_quiet c (Err orders.Halted)
          (λ m. coordinator_rules.depot m x.eui psk) (λ m. depot_quiet m x.eui psk) in
          after_silently (world_after network (set_up w) 0 d) number (acts x (Ok tt) (λ m. meters.provision m g))
          (acts_quiet x (Ok tt) (λ m. meters.provision m g) (λ m. install_quiet m.station g)) (after_silently (set_up w) 0 d quiet before)
      old_flights event st (TurnsDown e number x octets reason d there says comes same is) = λ honest before.
          let quiet : d.frames ≡ [] = ap (λ (z : NodeStep (Result Accepted FrameRefusal)). z.frames) same ∙ acts_quiet x (Err frames.Halted)
          (λ m. of_station m (accept m.station x.eui (arrived network octets)))
          (λ m. accept_quiet m.station _ _ (accept_is m.station x.eui (arrived network octets))) in
          after_silently (running_world w) number d quiet before
      old_flights event st (Hears e number x octets cost got there says comes low is) = λ honest before. heard_says number x octets cost got e there says comes
          is (or_parts _ _ honest).0 before
      old_flights event st (Loses number f there) = λ honest before.
          All-set FlightSays w.flights (number - 1) (record f { lost = true })
          (lost_says f (at_place FlightSays w.flights (number - 1) f (flight_there number f there) before)) before
      old_flights event st (Ticks seconds) = λ honest before. before
      old_flights event st (Restarts number x there) = λ honest before. after_silently (running_world w) number (restarts x) refl before
      old_flights event st (Cuts number nth keeps_new x there) = λ honest before.
          after_silently (running_world w) number
          (stays (record x { store = record x.store { cut = Some (record { nth = nth; keeps_new = keeps_new }) } }) answers.Set) refl
          before
