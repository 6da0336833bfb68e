-- What flies is a frame, and its sender is the node that sent it.
use Rattle.std.proofs.Common.{◌≡◌, ℕ, ◌+◌, ◌-◌, ◌<◌, Bool, true, false, List, [], ◌∷◌, ◌++◌, length, map, drop, Option, Some, None, Result, Ok, Err, refl, sym}
use Rattle.std.proofs.Common.{ap, ◌∙◌, subst, append-nil, arith}
use Rattle.std.specs.Prelude.{◌==◌, All, IfSome, if◌then◌else◌, slice_get, slice_set}
use Rattle.std.specs.Option.{option_map, option_and_then}
use Rattle.std.proofs.Math.Seq.{drop-append_seam, drop-length}
use Rattle.std.proofs.lemmas.List.{length-set}
use Rattle.std.proofs.lemmas.List.Elements.{All-nil, All-cons, All-set, All-append, All-map, All-weaker}
use Rattle.std.proofs.lemmas.Option.{same_Some}
use Rattle.plc_base.specs.declared.key.Key.{Key}
use Rattle.plc_base.specs.Grant.{Granted}
use Rattle.store_tables.proofs.SlotTables.{slice_get-set}
use Rattle.group_keys.specs.KeyRing as ring
use Rattle.line_events.specs.declared.event.Answer.{Answer}
use Rattle.line_events.specs.declared.event.Event.{Event}
use Rattle.node_rules.specs.Accepted.{Accepted}
use Rattle.node_rules.specs.declared.refusal.CoordinatorRefusal.TheVariants as orders
use Rattle.node_rules.specs.declared.refusal.FrameRefusal.{FrameRefusal}
use Rattle.node_rules.specs.declared.refusal.FrameRefusal.TheVariants as frames
use Rattle.node_rules.specs.declared.heard.SentHow.{SentHow}
use Rattle.node_rules.specs.declared.refusal.CoordinatorRefusal.{CoordinatorRefusal}
use Rattle.node_rules.specs.declared.refusal.SendRefusal.{SendRefusal}
use Rattle.node_rules.specs.declared.refusal.SendRefusal.TheVariants as sends
use Rattle.line_rules.specs.Answers.{sent_word}
use Rattle.line_events.specs.declared.event.Answer.TheVariants as answers
use Rattle.node_rules.specs.Ciphers.{Ciphers}
use Rattle.node_rules.specs.Frames.{SealedUnit, Sent, Sealed, Up, Down, spelled, arrived}
use Rattle.node_rules.specs.Memory.{Memory, Coordinator, Node, address_of, node_address}
use Rattle.node_rules.specs.Plans.{Plan}
use Rattle.node_rules.specs.Acceptance.{accept}
use Rattle.node_rules.specs.Calls as calls
use Rattle.node_rules.specs.Meters as meters
use Rattle.node_rules.specs.Coordinators as coordinator_rules
use Rattle.node_rules.specs.MemoryDrafts.{with_station}
use Rattle.node_rules.specs.NodeSteps.{NodeStep, acts, stays, answering, changing, of_station}
use Rattle.line_events.specs.Events.{IsEvent}
use Rattle.line_rules.specs.Forgery.{Comes, OfFlight, OfScript, accepting}
use Rattle.line_rules.specs.Worlds.{World, Flight, node_at, flight_at}
use Rattle.line_rules.specs.SafeRuns.{HasAddress}
use Rattle.line_rules.specs.Nonces.{NonceParts, IsSpelled, HasSender}
use Rattle.line_rules.specs.Steps.{Step, set_up, running_world, world_after, made_node, ticked, flights_of, flight_by, node_outcome, sending, sent_if, is_taken}
use Rattle.line_rules.specs.Steps.{tag_of, hearing_step}
use Rattle.line_rules.specs.Steps.{offered_near, hearing_outcome, note_by, identity, restarts}
use Rattle.line_laws.specs.Stores.{IsReadable, IsKept}
use Rattle.line_laws.specs.Owed.{AreOctets, KeepsRanges}
use Rattle.line_laws.proofs.KeptMemory.{Left}
use Rattle.line_laws.specs.Sizes.{IsMemorySized}
use Rattle.line_laws.proofs.Nodes.{PlanOk, NodeOk, DidOk, acts_ok, ring_readable}
use Rattle.line_laws.proofs.NodeCalls.{random_ok, join_ok, leave_ok, send_ok, broke_ok}
use Rattle.line_laws.proofs.StorableGrants.{held}
use Rattle.line_laws.proofs.CoordinatorCalls.{accept_ok, accept_failed, accepted_routes, rekey_ok, activate_self_ok, challenge_ok, activate_ok, kick_ok}
use Rattle.line_laws.proofs.StoreMarks.{accept_is}
use Rattle.line_laws.proofs.Answered.{acts_answered}
use Rattle.line_laws.specs.OwnKeys.{HasOwn, SealsWith}
use Rattle.line_laws.proofs.Senders.{AreFrom, IsFrom, IsOfRing, node_ring}
use Rattle.line_laws.proofs.HeadsSaid.{down_key, down_nonce, sealed_key, sealed_sender_is, up_key, up_nonce}
use Rattle.line_laws.proofs.Worlds.{NodeFits, FlightFits, WorldOk, within as place_within, at_place}
use Rattle.line_laws.proofs.StepsOk.{hears_ok}
use Rattle.line_laws.proofs.NodesOk.{coordinator_acts}
use Rattle.line_laws.proofs.Quiet.{acts_quiet, counter_quiet, number_quiet, near_quiet, install_quiet, allow_quiet, depot_quiet, accept_quiet}
use Rattle.line_laws.proofs.StepKinds.{IsCall, Gives, Joins, Leaves, Sends, Breaks, Nears, Counts, Numbers, Accepts, Provisions, Depots, Allows, Rekeys, Turns}
use Rattle.line_laws.proofs.StepKinds.{Challenges, Activates, Kicks, preset_call, IsStep, Fails, Makes, Rests, Shows, Acts, BreaksLink, SendsFrom, AllowsMeter}
use Rattle.line_laws.proofs.StepKinds.{Sets, SetsTwo, Provides, TurnsDown, Hears, Loses, Ticks, Restarts, Cuts}

-- # What holds of every frame that is sent holds of every flight

module _ (ciphers : Ciphers) (P : Flight → Type 0) (sent : (number : ℕ) (f : Sent) → P (flight_by number (spelled ciphers f)))
    (lost : (f : Flight) → P f → P (record f { lost = true })) where
  pub after_all : {A : Type 0} (u : World) (number : ℕ) (d : NodeStep A) → All P u.flights → All P (world_after ciphers u number d).flights
  unfolding world_after
  after_all u number d all = All-append P u.flights (flights_of ciphers number d) all
      (All-map P (λ frame. flight_by number (spelled ciphers frame)) d.frames (λ k e lt. sent number _))

  sending_all : (w : World) (from to : ℕ) (datagram : List ℕ) (tag : ℕ) (d : NodeStep Answer) → All P w.flights
      → All P (sending ciphers w from to datagram tag d).0.flights
  sending_all w from to datagram tag d all = by_taken (is_taken d.answer) (after_all (running_world w) from d all)
    where
      by_taken : (b : Bool) → All P (world_after ciphers (running_world w) from d).flights
          → All P (sent_if w from to datagram tag b (node_outcome ciphers w from d)).0.flights
      by_taken true k = k
      by_taken false k = k

  abbrev pub AllOf : Step → Type 0
  AllOf (Ok r) = All P r.0.flights
  AllOf (Err fault) = Unit {0}

  flight_is : (w : World) (number : ℕ) (f : Flight) → flight_at w number ≡ Some f → slice_get w.flights (number - 1) ≡ Some f
  flight_is w number f = by_number (number == 0)
    where
      by_number : (b : Bool) → (if b then None else slice_get w.flights (number - 1)) ≡ Some f → slice_get w.flights (number - 1) ≡ Some f
      by_number true e = absurd (cc)
      by_number false e = e

  pub every_flight : (w : World) (event : Event) (s : Step) → IsStep ciphers w event s → All P w.flights → AllOf s
  every_flight w event s (Fails e fault) all = tt
  every_flight w event s (Makes e x is) all = all
  every_flight w event s (Rests e quiet) all = all
  every_flight w event s (Shows number x) all = all
  every_flight w event s (Acts e number x A halted plan reads there call word asked) all = after_all (running_world w) number _ all
  every_flight w event s (BreaksLink number next x a there call) all = after_all (running_world w) number _ all
  every_flight w event s (SendsFrom from to datagram x a there call target) all = sending_all w from to datagram (tag_of x) _ all
  every_flight w event s (AllowsMeter number y c psk there call meter) all = after_all (running_world w) 0 _ all
  every_flight w event s (Sets e quiet number x plan there open_is is) all = after_all (set_up w) number _ all
  every_flight w event s (SetsTwo e quiet a b cost x y p q hx hy apart open_is first second fresh near) all = after_all _ b _ (after_all (set_up w) a _ all)
  every_flight w event s (Provides number x c psk g d ne open_is hx hc pair same is) all = after_all _ number _ (after_all (set_up w) 0 _ all)
  every_flight w event s (TurnsDown e number x octets reason d there says comes same is) all = after_all (running_world w) number _ all
  every_flight w event s (Hears e number x octets cost got there says comes low is) all = after_all (running_world w) number _ all
  every_flight w event s (Loses number f there) all =
      All-set P w.flights (number - 1) (record f { lost = true }) (lost f (at_place P w.flights (number - 1) f (flight_is w number f there) all)) all
  every_flight w event s (Ticks seconds) all = all
  every_flight w event s (Restarts number x there) all = after_all (running_world w) number _ all
  every_flight w event s (Cuts number nth keeps_new x there) all = after_all (running_world w) number _ all

pub lost_spelled : (ciphers : Ciphers) (f : Flight) → IsSpelled ciphers f → IsSpelled ciphers (record f { lost = true })
lost_spelled ciphers f h = record { sealed = h.sealed; plain = h.plain }

-- # Who sent a flight

-- a node that is not halted has an address below FFFE
pub address_low : (x : Node) (a : ℕ) → NodeOk x → node_address x ≡ Some a → a < 0xFFFE
address_low x a h = by_memory x.memory h.kept
  where
    by_ring : (r : ring.Ring) → IfSome r IsReadable → option_map (λ (g : Granted). g.address) r ≡ Some a → a < 0xFFFE
    by_ring None k e = absurd (cc)
    by_ring (Some g) k e = let this : g.address ≡ a = same_Some _ _ e in let low = k.address in omega arith

    by_memory : (o : Option Memory) → Left (IsKept x.role) x.store.records o → option_and_then (λ (m : Memory). address_of m.station) o ≡ Some a → a < 0xFFFE
    by_memory None k e = absurd (cc)
    by_memory (Some m) k e = by_ring m.station.ring k.station.range.ring e

if_parts : (o : Option NonceParts) (P Q : NonceParts → Type 0) → ((p : NonceParts) → P p → Q p) → IfSome o P → IfSome o Q
if_parts None P Q f h = tt
if_parts (Some p) P Q f h = f p h

has_address : (v : World) (number : ℕ) (y : Node) (a : ℕ) → node_at v number ≡ Some y → node_address y ≡ Some a → HasAddress v number a
has_address v number y a there is = rw there is

module _ (ciphers : Ciphers) (v : World) (number : ℕ) (y : Node) (there : node_at v number ≡ Some y) where
  -- the address of a ring is the node's
  ring_address : (r : ring.Ring) → node_ring y ≡ r → (l : SealedUnit) → IsOfRing r l → node_address y ≡ Some l.from
  ring_address r same l h = by_memory y.memory (same ∙ h.is)
    where
      by_memory : (o : Option Memory) → option_and_then (λ (m : Memory). m.station.ring) o ≡ Some h.granted
          → option_and_then (λ (m : Memory). address_of m.station) o ≡ Some l.from
      by_memory None e = absurd (cc)
      by_memory (Some m) e = ap (λ (q : ring.Ring). option_map (λ (g : Granted). g.address) q) e ∙ ap Some h.from

  -- the key of a ring is the node's
  ring_key : (r : ring.Ring) → node_ring y ≡ r → (l : SealedUnit) → IsOfRing r l → SealsWith (node_at v number) l.key
  ring_key r same l h = by_memory y.memory refl (same ∙ h.is)
    where
      by_memory : (o : Option Memory) → y.memory ≡ o → option_and_then (λ (m : Memory). m.station.ring) o ≡ Some h.granted → SealsWith (node_at v number) l.key
      by_memory None runs e = absurd (cc)
      by_memory (Some m) runs e = record { node = y; there = there; memory = m; runs = runs; granted = h.granted; ring = e; active = h.key }

  one_sender : (f : Sent) → IsFrom (node_ring y) f → ((a : ℕ) → node_address y ≡ Some a → a < 0xFFFE) → HasOwn v (flight_by number (spelled ciphers f))
  one_sender (Sealed l) h low =
      let at = ring_address (node_ring y) refl l h in
      let small : l.from < 0xFFFE = low l.from at in (
        if_parts _ (λ p. p.from ≡ l.from) (λ p. HasAddress v number p.from) (λ p e. has_address v number y p.from there (at ∙ ap Some (sym e)))
            (sealed_sender_is ciphers l (omega arith)),
        subst (λ (o : Option Key). IfSome o (SealsWith (node_at v number))) (sealed_key ciphers l) (ring_key (node_ring y) refl l h),
      )
  one_sender (Up agent from message) h low = (
    subst (λ o. IfSome o (λ p. HasAddress v number p.from)) (sym (up_nonce ciphers agent from message)) tt,
    subst (λ (o : Option Key). IfSome o (SealsWith (node_at v number))) (up_key ciphers agent from message) tt,
  )
  one_sender (Down from message) h low = (
    subst (λ o. IfSome o (λ p. HasAddress v number p.from)) (sym (down_nonce ciphers from message)) tt,
    subst (λ (o : Option Key). IfSome o (SealsWith (node_at v number))) (down_key ciphers from message) tt,
  )

  pub all_senders : (fs : List Sent) → AreFrom (node_ring y) fs → ((a : ℕ) → node_address y ≡ Some a → a < 0xFFFE)
      → All (HasOwn v) (map (λ frame. flight_by number (spelled ciphers frame)) fs)
  all_senders [] h low = All-nil (HasOwn v)
  all_senders (f ∷ fs) h low = All-cons (HasOwn v) _ _ (one_sender f h.0 low) (all_senders fs h.1 low)

-- the flights that came in addition have their senders, and are under the keys of these
abbrev pub NewSenders : World → World → Type 0
NewSenders w v = All (HasOwn v) (drop (length w.flights) v.flights)

pub none_new : (w v : World) → length v.flights ≡ length w.flights → NewSenders w v
none_new w v e = subst (λ n. All (HasOwn v) (drop n v.flights)) e (subst (All (HasOwn v)) (sym (drop-length v.flights)) (All-nil (HasOwn v)))

-- they have the addresses of their nodes
pub new_addresses : (w v : World) → NewSenders w v → All (HasSender v) (drop (length w.flights) v.flights)
new_addresses w v new = All-weaker (HasOwn v) (HasSender v) (λ f own. own.0) (drop (length w.flights) v.flights) new

module _ (ciphers : Ciphers) where
  -- one node told what it did
  pub after_senders : {A : Type 0} (w u v : World) (number : ℕ) (x : Node) (d : NodeStep A) → u.flights ≡ w.flights → u.nodes ≡ w.nodes
      → v.nodes ≡ (world_after ciphers u number d).nodes → v.flights ≡ (world_after ciphers u number d).flights → node_at w number ≡ Some x
      → AreFrom (node_ring d.node) d.frames → ((a : ℕ) → node_address d.node ≡ Some a → a < 0xFFFE) → NewSenders w v
  unfolding world_after
  after_senders w u v number x d fs ns vn vf there from low =
      let here : node_at v number ≡ Some d.node = ap (λ nodes. slice_get nodes number) (vn ∙ ap (λ nodes. slice_set nodes number d.node) ns)
      ∙ slice_get-set w.nodes number d.node (place_within w.nodes number x there) in
      let all = all_senders ciphers v number d.node here d.frames from low in
      let flights : v.flights ≡ w.flights ++ flights_of ciphers number d = vf ∙ ap (λ xs. xs ++ flights_of ciphers number d) fs in
      subst (λ xs. All (HasOwn v) (drop (length w.flights) xs)) (sym flights)
      (subst (All (HasOwn v)) (sym (drop-append_seam w.flights (flights_of ciphers number d))) all)

  -- nothing was sent
  pub after_silent : {A : Type 0} (u : World) (number : ℕ) (d : NodeStep A) → d.frames ≡ [] → (world_after ciphers u number d).flights ≡ u.flights
  unfolding world_after
  after_silent u number d none = ap (λ fs. u.flights ++ map (λ frame. flight_by number (spelled ciphers frame)) fs) none ∙ append-nil u.flights

-- A node sent nothing, or it sent from the address that it has, under the key that it seals with.
pub data IsSentFrom {A : Type 0} (d : NodeStep A) : Type 0 where
  Silent : d.frames ≡ [] → IsSentFrom d
  Speaks : AreFrom (node_ring d.node) d.frames → ((a : ℕ) → node_address d.node ≡ Some a → a < 0xFFFE) → IsSentFrom d

pub speaks : {A : Type 0} (x : Node) (d : NodeStep A) → DidOk x d → IsSentFrom d
speaks x d did = Speaks did.from (λ a e. address_low d.node a did.node e)

module _ (ciphers : Ciphers) (fits : KeepsRanges ciphers) (w : World) (ok : WorldOk w) (flown : All FlightFits w.flights) where
  good_at : (number : ℕ) (x : Node) → node_at w number ≡ Some x → NodeOk x
  good_at number x there = at_place NodeOk w.nodes number x there ok.nodes

  given_at : (number : ℕ) (x : Node) → node_at w number ≡ Some x → NodeFits x
  given_at number x there = at_place NodeFits w.nodes number x there ok.fits

  -- octets that come are octets
  pub came_octets : (event : Event) (number : ℕ) (octets : List ℕ) → IsEvent event → Comes w event number octets → AreOctets octets
  came_octets event number octets says (OfFlight flight n cost f e) = at_place FlightFits w.flights (flight - 1) f (flight_place flight f e) flown
    where
      flight_place : (number : ℕ) (f : Flight) → flight_at w number ≡ Some f → slice_get w.flights (number - 1) ≡ Some f
      flight_place number f = by_number (number == 0)
        where
          by_number : (b : Bool) → (if b then None else slice_get w.flights (number - 1)) ≡ Some f → slice_get w.flights (number - 1) ≡ Some f
          by_number true e = absurd (cc)
          by_number false e = e
  came_octets event number octets says (OfScript n cost o) = says.2.2

  order_sent : {A : Type 0} (number : ℕ) (x : Node) (plan : Memory → Plan Memory (Result A _)) → number ≡ 0 → node_at w number ≡ Some x
      → ((m : Memory) → IsMemorySized m → PlanOk Coordinator m (plan m)) → IsSentFrom (acts x (Err orders.Halted) plan)
  order_sent number x plan first there f =
      speaks x _ (coordinator_acts x (Err orders.Halted) plan (ok.first x (ap (slice_get w.nodes) (sym first) ∙ there)) (good_at number x there) f)

  abbrev own_of : Node → coordinator_rules.CoordinatorIdentity
  own_of c = record { eui = c.eui; ciphers = ciphers }

  call_sent : (number : ℕ) (x : Node) (A : Type 0) (halted : A) (plan : Memory → Plan Memory A) → node_at w number ≡ Some x
      → IsCall ciphers w number x A halted plan → IsSentFrom (acts x halted plan)
  call_sent number x A halted plan there (Gives value are) =
      speaks x _ (acts_ok x _ _ (good_at number x there) (λ m here kept sized. random_ok x.role m sized value))
  call_sent number x A halted plan there (Joins psk a ne pair other) =
      speaks x _ (acts_ok x _ _ (good_at number x there) (λ m here kept sized. join_ok x.role m sized ciphers fits (identity ciphers x psk) refl a w.clock))
  call_sent number x A halted plan there (Leaves ne) = speaks x _
      (acts_ok x _ _ (good_at number x there) (λ m here kept sized. leave_ok x.role m sized ciphers fits (identity ciphers x (record { 0 = [] })) refl))
  call_sent number x A halted plan there (Sends a datagram other are) =
      speaks x _ (acts_ok x _ _ (good_at number x there) (λ m here kept sized. send_ok x.role m sized a datagram (w.sends + 1) w.clock))
  call_sent number x A halted plan there (Breaks a other) =
      speaks x _ (acts_ok x _ _ (good_at number x there) (λ m here kept sized. broke_ok x.role m sized a answers.Broken))
  call_sent number x A halted plan there (Nears a cost open_is other low) = Silent (acts_quiet x _ _ (λ m. near_quiet m.station a cost w.clock))
  call_sent number x A halted plan there (Counts value open_is low) = Silent (acts_quiet x _ _ (λ m. counter_quiet m.station value))
  call_sent number x A halted plan there (Numbers value open_is some low) = Silent (acts_quiet x _ _ (λ m. number_quiet m.station value))
  call_sent number x A halted plan there (Accepts octets event says comes) =
      Silent (acts_quiet x _ _ (λ m. accept_quiet m.station _ _ (accept_is m.station x.eui (arrived ciphers octets))))
  call_sent number x A halted plan there (Provisions psk c g ne pair at is) = Silent (acts_quiet x _ _ (λ m. install_quiet m.station g))
  call_sent number x A halted plan there (Depots meter y psk first open_is at pair) = Silent (acts_quiet x _ _ (λ m. depot_quiet m y.eui psk))
  call_sent number x A halted plan there (Allows meter y psk first at pair) = Silent (acts_quiet x _ _ (λ m. allow_quiet m y.eui psk))
  call_sent number x A halted plan there (Rekeys index key first low long) =
      order_sent number x _ first there (λ m sized. rekey_ok ciphers fits (own_of x) m sized index key (held key long.0 long.1))
  call_sent number x A halted plan there (Turns index first low) =
      order_sent number x _ first there (λ m sized. activate_self_ok ciphers fits (own_of x) m sized index low)
  call_sent number x A halted plan there (Challenges meter y first at) =
      order_sent number x _ first there (λ m sized. challenge_ok ciphers fits (own_of x) m sized y.eui w.clock (given_at meter y at.there).eui)
  call_sent number x A halted plan there (Activates meter y index first at low) =
      order_sent number x _ first there (λ m sized. activate_ok ciphers fits (own_of x) m sized y.eui index w.clock)
  call_sent number x A halted plan there (Kicks meter y first at) =
      order_sent number x _ first there (λ m sized. kick_ok ciphers fits (own_of x) m sized y.eui (given_at meter y at.there).eui)

  pub one_after : {A : Type 0} (u v : World) (number : ℕ) (x : Node) (d : NodeStep A) → u.flights ≡ w.flights → u.nodes ≡ w.nodes
      → v.nodes ≡ (world_after ciphers u number d).nodes → v.flights ≡ (world_after ciphers u number d).flights → node_at w number ≡ Some x → IsSentFrom d
      → NewSenders w v
  one_after u v number x d fs ns vn vf there (Silent none) = none_new w v (ap length (vf ∙ after_silent ciphers u number d none ∙ fs))
  one_after u v number x d fs ns vn vf there (Speaks from low) = after_senders ciphers w u v number x d fs ns vn vf there from low

  abbrev pub SendersIn : Step → Type 0
  SendersIn (Ok r) = NewSenders w r.0
  SendersIn (Err fault) = Unit {0}

  sending_senders : (from to : ℕ) (datagram : List ℕ) (x : Node) (d : NodeStep Answer) → node_at w from ≡ Some x → IsSentFrom d
      → NewSenders w (sending ciphers w from to datagram (tag_of x) d).0
  sending_senders from to datagram x d there sent =
      by_taken (is_taken d.answer) (one_after (running_world w) (world_after ciphers (running_world w) from d) from x d refl refl refl refl there sent)
    where
      by_taken : (b : Bool) → NewSenders w (world_after ciphers (running_world w) from d)
          → NewSenders w (sent_if w from to datagram (tag_of x) b (node_outcome ciphers w from d)).0
      by_taken true k = k
      by_taken false k = k

  heard_senders : (event : Event) (number : ℕ) (x : Node) (octets : List ℕ) (cost : ℕ) (got : Accepted) → node_at w number ≡ Some x → IsEvent event
      → Comes w event number octets → (accepting ciphers x octets).answer ≡ Ok got
      → NewSenders w (hearing_outcome ciphers w number (accepting ciphers x octets).node octets got cost).0
  heard_senders event number x octets cost got there says comes is =
      let are = came_octets event number octets says comes in
      let plan : Memory → Plan Memory (Result Accepted FrameRefusal) = λ m. of_station m (accept m.station x.eui (arrived ciphers octets)) in
      let did = acts_ok x (Err frames.Halted) plan (good_at number x there) (λ m here kept sized. accept_ok ciphers fits octets are x.role m x.eui sized) in
      let a = acts_answered x frames.Halted frames.Store plan
      (λ m. accept_failed ciphers fits octets are m.station _ (accept_is m.station x.eui (arrived ciphers octets))) got is in
      let routes = accepted_routes ciphers fits octets are a.memory.station (ring_readable x a.memory (good_at number x there) a.there) _ got
      (accept_is a.memory.station x.eui (arrived ciphers octets)) a.is in
      let y = (accepting ciphers x octets).node in
      let d = hearing_step ciphers y got cost (note_by w octets got.path) w.clock in
      one_after (running_world w) (hearing_outcome ciphers w number y octets got cost).0 number x d refl refl refl refl there
      (speaks y d (hears_ok ciphers fits w ok flown y got cost (note_by w octets got.path) w.clock did.node routes))

  after_one : {A : Type 0} (u : World) (number : ℕ) (x : Node) (d : NodeStep A) → u.flights ≡ w.flights → u.nodes ≡ w.nodes → node_at w number ≡ Some x
      → IsSentFrom d → NewSenders w (world_after ciphers u number d)
  after_one u number x d fs ns there sent = one_after u (world_after ciphers u number d) number x d fs ns refl refl there sent

  answered : {A B : Type 0} (reads : A → B) (d : NodeStep A) → IsSentFrom d → IsSentFrom (answering reads d)
  answered reads d (Silent none) = Silent none
  answered reads d (Speaks from low) = Speaks from low

  pub senders : (event : Event) (s : Step) → IsStep ciphers w event s → SendersIn s
  senders event s (Fails e fault) = tt
  senders event s (Makes e x is) = none_new w (made_node w x).0 refl
  senders event s (Rests e quiet) = none_new w (running_world w) refl
  senders event s (Shows number x) = none_new w (running_world w) refl
  senders event s (Acts e number x A halted plan reads there call word asked) =
      after_one (running_world w) number x (answering reads (acts x halted plan)) refl refl there
      (answered reads (acts x halted plan) (call_sent number x A halted plan there call))
  senders event s (BreaksLink number next x a there call) =
      let plan : Memory → Plan Memory Answer = λ m. changing answers.Broken (with_station (calls.broke a m.station) m) in
      after_one (running_world w) number x (acts x answers.Halted plan) refl refl there (call_sent number x Answer answers.Halted plan there call)
  senders event s (SendsFrom from to datagram x a there call target) =
      let plan : Memory → Plan Memory (Result SentHow SendRefusal) = λ m. of_station m (calls.send m.station a datagram (w.sends + 1) w.clock) in
      sending_senders from to datagram x (answering sent_word (acts x (Err sends.Halted) plan)) there
      (answered sent_word (acts x (Err sends.Halted) plan) (call_sent from x _ (Err sends.Halted) plan there call))
  senders event s (AllowsMeter number y c psk there call meter) =
      let plan : Memory → Plan Memory (Result ℕ CoordinatorRefusal) = λ m. coordinator_rules.allow m y.eui psk in
      after_one (running_world w) 0 c (acts c (Err orders.Halted) plan) refl refl there (call_sent 0 c _ (Err orders.Halted) plan there call)
  senders event s (Sets e quiet number x plan there open_is is) =
      after_one (set_up w) number x (acts x (Ok tt) (λ m. of_station m (plan m.station))) refl refl there
      (call_sent number x _ (Ok tt) (λ m. of_station m (plan m.station)) there (preset_call ciphers w number x plan open_is is))
  senders event s (SetsTwo e quiet a b cost x y p q hx hy apart open_is first second fresh near) =
      let u = world_after ciphers (set_up w) a (offered_near x q cost w.clock) in
      none_new w (world_after ciphers u b (offered_near y p cost w.clock))
      (ap length (after_silent ciphers u b (offered_near y p cost w.clock) (near_frames y p)
      ∙ after_silent ciphers (set_up w) a (offered_near x q cost w.clock) (near_frames x q)))
    where
      near_frames : (z : Node) (to : ℕ) → (offered_near z to cost w.clock).frames ≡ []
      near_frames z to = acts_quiet z (Ok tt) (λ m. of_station m (calls.preset_near m.station to cost w.clock)) (λ m. near_quiet m.station to cost w.clock)
  senders event s (Provides number x c psk g d ne open_is hx hc pair same is) =
      let quiet : d.frames ≡ [] = ap (λ (z : NodeStep (Result Granted CoordinatorRefusal)). z.frames) same
      ∙ acts_quiet c (Err orders.Halted) (λ m. coordinator_rules.depot m x.eui psk) (λ m. depot_quiet m x.eui psk) in
      let u = world_after ciphers (set_up w) 0 d in
      let k = acts x (Ok tt) (λ m. meters.provision m g) in
      none_new w (world_after ciphers u number k) (ap length (after_silent ciphers u number k
      (acts_quiet x (Ok tt) (λ m. meters.provision m g) (λ m. install_quiet m.station g)) ∙ after_silent ciphers (set_up w) 0 d quiet))
  senders event s (TurnsDown e number x octets reason d there says comes same is) =
      let quiet : d.frames ≡ [] = ap (λ (z : NodeStep (Result Accepted FrameRefusal)). z.frames) same
      ∙ acts_quiet x (Err frames.Halted) (λ m. of_station m (accept m.station x.eui (arrived ciphers octets)))
      (λ m. accept_quiet m.station _ _ (accept_is m.station x.eui (arrived ciphers octets))) in
      none_new w (world_after ciphers (running_world w) number d) (ap length (after_silent ciphers (running_world w) number d quiet))
  senders event s (Hears e number x octets cost got there says comes low is) = heard_senders event number x octets cost got there says comes is
  senders event s (Loses number f there) = none_new w (record (running_world w) { flights = slice_set w.flights (number - 1) (record f { lost = true }) })
      (length-set w.flights (number - 1) (record f { lost = true }))
  senders event s (Ticks seconds) = none_new w (record (running_world w) { clock = w.clock + seconds; nodes = map (ticked (w.clock + seconds)) w.nodes }) refl
  senders event s (Restarts number x there) = after_one (running_world w) number x (restarts x) refl refl there (Silent refl)
  senders event s (Cuts number nth keeps_new x there) = after_one (running_world w) number x
      (stays (record x { store = record x.store { cut = Some (record { nth = nth; keeps_new = keeps_new }) } }) answers.Set) refl refl there (Silent refl)
