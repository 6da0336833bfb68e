-- Frames of discovery that are heard, scans, and meters that choose an agent.
use Rattle.std.proofs.Common.{◌≡◌, ◌≢◌, ◌%◌, slice_index_or, ℕ, zero, suc, ◌<◌, ◌≤◌, Bool, true, false, not, ◌&&◌, ◌||◌, List, [], ◌∷◌, length}
use Rattle.std.proofs.Common.{Option, Some, None, Result, Ok, Err, refl, sym, ap, subst, ◌∙◌, if◌then◌else◌, arith}
use Rattle.std.specs.Prelude.{◌==◌, nat_eq, nat_lt, IfSome, is_some, slice_get, unwrap_or}
use Rattle.std.specs.Option.{option_and_then, option_map, option_map_or}
use Rattle.std.proofs.lemmas.Bool.{eq-eqb, ne_eqb, lt-ltb}
use Rattle.std.proofs.lemmas.List.{append-nil, length-append}
use Rattle.std.proofs.lemmas.Option.{get_or_from_slice_get, slice_get_within}
use Rattle.plc_base.specs.declared.address.TheConstants.{PAN}
use Rattle.plc_base.specs.declared.key.Key.{Key}
use Rattle.plc_base.specs.declared.out_frame.Out.{Out}
use Rattle.plc_base.specs.Fields.{octet}
use Rattle.plc_base.specs.Grant.{Granted}
use Rattle.store_tables.specs.Writes.{Written, write, puts_of}
use Rattle.joining_messages.specs.declared.message.JoinBody.TheVariants as body
use Rattle.node_rules.specs.JoiningPackets.{message}
use Rattle.pan_discovery.specs.declared.message.Discovery.{Discovery}
use Rattle.pan_discovery.specs.declared.message.Discovery.TheVariants as discoveries
use Rattle.pan_discovery.specs.Agents.{kth_of}
use Rattle.pan_discovery.specs.History.{Scanned, begun}
use Rattle.node_rules.specs.declared.refusal.JoinRefusal.{JoinRefusal}
use Rattle.node_rules.specs.declared.refusal.JoinRefusal.TheVariants as joins
use Rattle.node_rules.specs.Acceptance.{is_own}
use Rattle.node_rules.specs.Ciphers.{network}
use Rattle.node_rules.specs.Drafts.{choose as choose_plan, empty_draft, refused, sealing}
use Rattle.node_rules.specs.Memory.{ByAgent, Memory, Node, Role, StationMemory, address_of, node_address}
use Rattle.node_rules.specs.MemoryDrafts.{goes_up, in_memory, with_memory_by}
use Rattle.node_rules.specs.Meters as meters
use Rattle.node_rules.specs.NodeSteps.{NodeStep, acts, answering, left_by, stays}
use Rattle.node_rules.specs.Plans.{Plan, carry_out, finished, halted as cut_off, resting, within}
use Rattle.node_rules.proofs.ComposedPlans.{reserve_none}
use Rattle.reach_rules.specs.declared.heard.DiscoveryHeard.TheVariants as discovered
use Rattle.reach_rules.specs.declared.refusal.ChooseRefusal.{ChooseRefusal}
use Rattle.reach_rules.specs.declared.refusal.ChooseRefusal.TheVariants as choices
use Rattle.reach_rules.specs.declared.refusal.DiscoveryDropped.TheVariants as drops
use Rattle.reach_rules.specs.declared.refusal.ScanRefusal.TheVariants as scan_faults
use Rattle.reach_rules.specs.Beacons.{ChosenAgent, Discovering, begin_scan, choose_agent, choosing_ends, chosen, cost_to_coordinator, hear_beacon, hear_request}
use Rattle.reach_rules.specs.Beacons.{joins_by, takes_beacon, takes_beacons}
use Rattle.reach_rules.specs.Beacons as beacons
use Rattle.reach_rules.specs.ReachingNodes.{Beside, Reaching, nothing_beside}
use Rattle.line_events.specs.declared.event.Answer.{Answer}
use Rattle.line_events.specs.declared.event.Answer.TheVariants as answers
use Rattle.line_events.specs.declared.event.StepFault.{StepFault}
use Rattle.line_events.specs.declared.event.TheConstants.{MAX_EVENTS}
use Rattle.line_events.specs.declared.happenings.AgentLine.{AgentLine}
use Rattle.line_events.specs.declared.happenings.Happenings.{Happenings}
use Rattle.line_rules.specs.Answers.{discovery_word, join_word}
use Rattle.line_rules.specs.Further.{agent_line, beacon_taken, beside_after, beside_at, choice_word, choose, chooses_by, discovery_flights}
use Rattle.line_rules.specs.Further.{has_discovered, has_reached, reaches, scan, scanning, scans_by, set_beside, with_beside, without_log}
use Rattle.line_rules.specs.Steps.{happenings, identity, psk_of, running_world, node_trace, world_after}
use Rattle.line_rules.specs.Worlds.{Noticed, Trace, World}
use Rattle.line_world.specs.Bounds.{IsBounded}
use Rattle.line_world.specs.Discovery.{HearsBeacon, TakesBeacon, flies_in, joins_in, taken_by}
use Rattle.line_world.specs.NodeOutcomes.{Did}
use Rattle.line_world.specs.Soundness.{AreBelow, IsBelow}
use Rattle.line_world.specs.Steps.{Steps}
use Rattle.line_world.proofs.HeardCommands.{beside_same, set_same}
use Rattle.line_world.proofs.Orders.{IsMeter, Runs, at_meter}
use Rattle.line_world.proofs.SetupSteps.{bounded_beside}
use Rattle.line_world.proofs.EventSteps.{IsThere, after, bounded_by, is_taken_so, node_acted, begun as begun_so}

-- # Octets of discovery

-- octets by the type in their first one
octets_by : (octets : List ℕ) (first last : Bool) → length octets ≢ 0 → (slice_index_or octets 0 0 % 8 == 0) ≡ first
    → (slice_index_or octets 0 0 % 8 == 3) ≡ last
    → beacons.is_discovery octets ≡ (first || last)
unfolding octet
octets_by [] first last some zeroth third = absurd (some refl)
octets_by (a ∷ rest) first last some zeroth third =
    (let more : nat_lt 0 (length (a ∷ rest)) ≡ true = lt-ltb 0 (length (a ∷ rest)) (omega arith) in rw (more, zeroth, third) refl)

pub first_type : (octets : List ℕ) → length octets ≢ 0 → slice_index_or octets 0 0 % 8 ≡ 0
    → nat_eq (slice_index_or octets 0 0 % 8) 0 ≡ beacons.is_discovery octets
first_type octets some is =
    eq-eqb _ 0 is ∙ sym (octets_by octets true (slice_index_or octets 0 0 % 8 == 3) some (eq-eqb _ 0 is) refl)

pub other_type : (octets : List ℕ) → length octets ≢ 0 → slice_index_or octets 0 0 % 8 ≢ 0
    → nat_eq (slice_index_or octets 0 0 % 8) 3 ≡ beacons.is_discovery octets
other_type octets some other = sym (octets_by octets false (slice_index_or octets 0 0 % 8 == 3) some (ne_eqb _ 0 other) refl)

-- # What flies

-- the bounds after a frame that flew, if one did
flies_bounded : (w : World) (number : ℕ) (frame : Option Discovery) → IsBounded w → w.events < MAX_EVENTS → IsBounded (flies_in w number frame)
flies_bounded w number frame b room = record {
  events = let e = room in omega (arith, e);
  clock = let e = b.clock in omega (arith, e);
  nodes = b.nodes;
  flights = let e = b.flights in let f = few frame in omega (arith, e, f, length-append w.flights (discovery_flights number frame));
  made = let e = b.made in omega (arith, e);
  sends = let e = b.sends in omega (arith, e);
  ups = let e = b.ups in omega (arith, e);
  forged = let e = b.forged in omega (arith, e);
  done = let e = b.done in omega (arith, e);
  uncut = λ is. absurd (cc);
}
  where
    few : (frame : Option Discovery) → length (discovery_flights number frame) ≤ 1
    few None = omega arith
    few (Some frame) = omega arith

-- # What a node did about discovery

module _ {A : Type 0} (w new : World) (number : ℕ) (word : A → Answer) (noticed : A → Option Noticed) (d : Discovering A) (h : Happenings)
    (bounds : IsBounded w) (room : w.events < MAX_EVENTS) where
  discovered_so : h ≡ record (happenings w (word d.answer)) { flights = length (discovery_flights number d.sent) }
      → new ≡ set_beside number (record (beside_at w number) { scan = d.scan }) (flies_in w number d.sent)
      → Steps true w (Ok h) new (Ok (has_discovered w number word noticed d))
  discovered_so said is =
      is_taken_so true w new (Ok (has_discovered w number word noticed d)) (has_discovered w number word noticed d).1 h
      (λ i. Ok (sym is i, (has_discovered w number word noticed d).1)) said
      (subst IsBounded (sym is) (bounded_beside (flies_in w number d.sent) _ (flies_bounded w number d.sent bounds room)))

  -- a frame goes out
  pub discovery_sends : (answer : A) (scan : Scanned) (frame : Discovery) → d ≡ record { answer = answer; scan = scan; sent = Some frame }
      → h ≡ record (happenings w (word answer)) { flights = 1 }
      → new ≡ set_beside number (record (beside_at w number) { scan = scan }) (flies_in w number (Some frame))
      → Steps true w (Ok h) new (Ok (has_discovered w number word noticed d))
  discovery_sends answer scan frame same said is =
      discovered_so (said ∙ (λ i. record (happenings w (word (sym same i).answer)) { flights = length (discovery_flights number (sym same i).sent) }))
      (is ∙ (λ i. set_beside number (record (beside_at w number) { scan = (sym same i).scan }) (flies_in w number (sym same i).sent)))

  nothing_flies : flies_in w number None ≡ running_world w
  nothing_flies = ap (λ fs. record (running_world w) { flights = fs }) (append-nil w.flights)

  -- the scan changes alone
  pub discovery_keeps : (answer : A) (scan : Scanned) → d ≡ record { answer = answer; scan = scan; sent = None } → h ≡ happenings w (word answer)
      → new ≡ set_beside number (record (beside_at w number) { scan = scan }) (running_world w)
      → Steps true w (Ok h) new (Ok (has_discovered w number word noticed d))
  discovery_keeps answer scan same said is =
      discovered_so (said ∙ (λ i. record (happenings w (word (sym same i).answer)) { flights = length (discovery_flights number (sym same i).sent) }))
      (is ∙ ap (λ (v : World). set_beside number (record (beside_at w number) { scan = scan }) v) (sym nothing_flies)
      ∙ (λ i. set_beside number (record (beside_at w number) { scan = (sym same i).scan }) (flies_in w number (sym same i).sent)))

  -- nothing changes
  pub discovery_stays : (answer : A) → d ≡ beacons.stays (beside_at w number).scan answer → h ≡ happenings w (word answer) → new ≡ running_world w
      → Steps true w (Ok h) new (Ok (has_discovered w number word noticed d))
  discovery_stays answer same said is =
      discovery_keeps answer (beside_at w number).scan same said (is ∙ ap (λ bs. record (running_world w) { beside = bs }) (sym (beside_same w.beside number)))

-- the same world where the scan stays and a frame goes out
pub scan_stays : (w : World) (number : ℕ) (frame : Option Discovery)
    → flies_in w number frame ≡ set_beside number (record (beside_at w number) { scan = (beside_at w number).scan }) (flies_in w number frame)
scan_stays w number frame = ap (λ bs. record (flies_in w number frame) { beside = bs }) (sym (beside_same w.beside number))

-- # What is said of the node of a number

-- what is said of each memory that the node of a number may hold
pub by_memory : (nodes : List Node) (number : ℕ) (P : Node → Memory → Type 0)
    → ((x : Node) (m : Memory) → slice_get nodes number ≡ Some x → x.memory ≡ Some m → P x m)
    → IfSome (slice_get nodes number) (λ x. IfSome x.memory (λ m. P x m))
by_memory nodes number P f = by (slice_get nodes number) refl
  where
    held : (x : Node) → slice_get nodes number ≡ Some x → (o : Option Memory) → x.memory ≡ o → IfSome o (λ m. P x m)
    held x at None here = tt
    held x at (Some m) here = f x m at here

    by : (o : Option Node) → slice_get nodes number ≡ o → IfSome o (λ x. IfSome x.memory (λ m. P x m))
    by None at = tt
    by (Some x) at = held x at x.memory refl

-- what is said of the node of a number, and of a meter and its pair key
pub by_node : (nodes : List Node) (number : ℕ) (P : Node → Type 0) → ((x : Node) → slice_get nodes number ≡ Some x → P x) → IfSome (slice_get nodes number) P
by_node nodes number P f = by (slice_get nodes number) refl
  where
    by : (o : Option Node) → slice_get nodes number ≡ o → IfSome o P
    by None at = tt
    by (Some x) at = f x at

pub by_key : (nodes : List Node) (number : ℕ) (P : Node → Key → Type 0)
    → ((x : Node) (psk : Key) → slice_get nodes number ≡ Some x → psk_of x ≡ Some psk → P x psk)
    → IfSome (slice_get nodes number) (λ x. IfSome (psk_of x) (λ psk. P x psk))
by_key nodes number P f = by_node nodes number (λ x. IfSome (psk_of x) (λ psk. P x psk)) (λ x at. held x at (psk_of x) refl)
  where
    held : (x : Node) → slice_get nodes number ≡ Some x → (o : Option Key) → psk_of x ≡ o → IfSome o (λ psk. P x psk)
    held x at None key = tt
    held x at (Some psk) key = f x psk at key

-- what is said of the node that is there
pub at_number : (o : Option Node) (x : Node) (P : Node → Type 0) → o ≡ Some x → IfSome o P → P x
at_number o x P at h = subst (λ (k : Option Node). IfSome k P) at h

-- the cost home of a node that is not halted
pub cost_in : (x : Node) (m : Memory) (o : Option ℕ) → x.memory ≡ Some m → o ≡ option_and_then (λ (k : Memory). cost_to_coordinator x.role k.station) x.memory
    → o ≡ cost_to_coordinator x.role m.station
cost_in x m o here is = is ∙ ap (option_and_then (λ (k : Memory). cost_to_coordinator x.role k.station)) here

-- what is said of what stands beside a node
pub beside_has : (bs : List Beside) (number : ℕ) (P : Beside → Type 0) → number < length bs → IfSome (slice_get bs number) P
    → P (unwrap_or (slice_get bs number) nothing_beside)
beside_has [] number P within h = absurd (omega (arith, within))
beside_has (b ∷ bs) zero P within h = h
beside_has (b ∷ bs) (suc number) P within h = let below : number < length bs = omega (arith, within) in beside_has bs number P below h

-- # Requests

-- the address of a node that is not halted
pub address_in : (x : Node) (m : Memory) (o : Option ℕ) → x.memory ≡ Some m → o ≡ node_address x → o ≡ address_of m.station
address_in x m o there is = is ∙ ap (λ (k : Option Memory). option_and_then (λ (m : Memory). address_of m.station) k) there

request_by : (role : Role) (l : StationMemory) (scan : Scanned) (own : Option ℕ) → own ≡ address_of l
    → option_map_or (λ a. beacons.beacons scan a (cost_to_coordinator role l)) own (beacons.stays scan (Err drops.NotForMe)) ≡ hear_request role l scan
request_by role l scan own is =
    ap (λ (o : Option ℕ). option_map_or (λ a. beacons.beacons scan a (cost_to_coordinator role l)) o (beacons.stays scan (Err drops.NotForMe))) is

pub request_elsewhere : (role : Role) (l : StationMemory) (scan : Scanned) → None ≡ address_of l
    → hear_request role l scan ≡ beacons.stays scan (Err drops.NotForMe)
request_elsewhere role l scan is = sym (request_by role l scan None is)

pub request_routeless : (role : Role) (l : StationMemory) (scan : Scanned) (own : ℕ) → Some own ≡ address_of l → None ≡ cost_to_coordinator role l
    → hear_request role l scan ≡ beacons.stays scan (Err drops.NoRoute)
request_routeless role l scan own is none = sym (request_by role l scan (Some own) is) ∙ ap (λ (o : Option ℕ). beacons.beacons scan own o) (sym none)

pub request_answered : (role : Role) (l : StationMemory) (scan : Scanned) (own cost : ℕ) → Some own ≡ address_of l → Some cost ≡ cost_to_coordinator role l
    → hear_request role l scan ≡ record { answer = Ok discovered.Beacon; scan = scan; sent = Some (discoveries.Beacon 0 PAN own cost) }
request_answered role l scan own cost is some = sym (request_by role l scan (Some own) is) ∙ ap (λ (o : Option ℕ). beacons.beacons scan own o) (sym some)

-- # Beacons

world_stays : (w : World) (number : ℕ) → w ≡ set_beside number (record (beside_at w number) { scan = (beside_at w number).scan }) w
world_stays w number = ap (λ bs. record w { beside = bs }) (sym (beside_same w.beside number))

beacon_stays : (w : World) (number : ℕ) (l : StationMemory) (pan from cost link : ℕ) (answer : _)
    → hear_beacon l (beside_at w number).scan pan from cost link ≡ beacons.stays (beside_at w number).scan answer
    → HearsBeacon w number l pan from cost link (discovery_word answer) w
beacon_stays w number l pan from cost link answer is = record {
  answer_is = ap (λ (d : beacons.Heard). discovery_word d.answer) (sym is);
  world_is = world_stays w number ∙ ap (λ (d : beacons.Heard). set_beside number (record (beside_at w number) { scan = d.scan }) w) (sym is);
}

beacon_by : (l : StationMemory) (scan : Scanned) (pan from cost link : ℕ) (other own scans : Bool) → (pan == PAN) ≡ other → is_own l from ≡ own
    → takes_beacons l scan ≡ scans
    → hear_beacon l scan pan from cost link
    ≡ (if not other || own then beacons.stays scan (Err drops.NotForMe)
    else (if scans then takes_beacon scan from cost link else beacons.stays scan (Err drops.NotScanning)))
beacon_by l scan pan from cost link other own scans a b c =
    λ i. if not (a i) || b i then beacons.stays scan (Err drops.NotForMe)
    else (if c i then takes_beacon scan from cost link else beacons.stays scan (Err drops.NotScanning))

pub beacon_elsewhere : (w : World) (number : ℕ) (l : StationMemory) (pan from cost link : ℕ) → (pan == PAN) ≡ false
    → HearsBeacon w number l pan from cost link answers.NotForMe w
beacon_elsewhere w number l pan from cost link other =
    beacon_stays w number l pan from cost link (Err drops.NotForMe) (beacon_by l (beside_at w number).scan pan from cost link false _ _ other refl refl)

pub beacon_own : (w : World) (number : ℕ) (l : StationMemory) (pan from cost link own : ℕ) → (pan == PAN) ≡ true → Some own ≡ address_of l
    → (own == from) ≡ true
    → HearsBeacon w number l pan from cost link answers.NotForMe w
beacon_own w number l pan from cost link own here at same =
    beacon_stays w number l pan from cost link (Err drops.NotForMe)
    (beacon_by l (beside_at w number).scan pan from cost link true true _ here (ap (λ (o : Option ℕ). option_map_or (λ a. a == from) o false) (sym at) ∙ same)
    refl)

pub beacon_joined : (w : World) (number : ℕ) (l : StationMemory) (pan from cost link own : ℕ) → (pan == PAN) ≡ true → Some own ≡ address_of l
    → (own == from) ≡ false
    → HearsBeacon w number l pan from cost link answers.NotScanning w
beacon_joined w number l pan from cost link own here at other =
    beacon_stays w number l pan from cost link (Err drops.NotScanning)
    (beacon_by l (beside_at w number).scan pan from cost link true false false here
    (ap (λ (o : Option ℕ). option_map_or (λ a. a == from) o false) (sym at) ∙ other)
    (ap (λ (o : Option ℕ). not (is_some o) && (beside_at w number).scan.scanning) (sym at)))

-- a node without an address takes it into its scan
pub beacon_taken_in : (w new : World) (number : ℕ) (l : StationMemory) (pan from cost link : ℕ) (b : Beside) (answer : Answer) → (pan == PAN) ≡ true
    → None ≡ address_of l
    → beside_at w number ≡ b → TakesBeacon w number b from cost link answer new → HearsBeacon w number l pan from cost link answer new
beacon_taken_in w new number l pan from cost link b answer here at held t =
    let same : taken_by (beside_at w number) from cost link ≡ hear_beacon l (beside_at w number).scan pan from cost link =
    sym (beacon_by l (beside_at w number).scan pan from cost link true false (beside_at w number).scan.scanning here
    (ap (λ (o : Option ℕ). option_map_or (λ a. a == from) o false) (sym at))
    (ap (λ (o : Option ℕ). not (is_some o) && (beside_at w number).scan.scanning) (sym at))) in
    let at_b : TakesBeacon w number (beside_at w number) from cost link answer new = subst (λ (k : Beside). TakesBeacon w number k from cost link answer new)
    (sym held) t in
    record {
      answer_is = at_b.answer_is ∙ ap (λ (d : beacons.Heard). discovery_word d.answer) same;
      world_is = at_b.world_is ∙ ap (λ (d : beacons.Heard). set_beside number (record (beside_at w number) { scan = d.scan }) w) same;
    }

-- a beacon makes no node send
pub beacon_unsent : (l : StationMemory) (scan : Scanned) (pan from cost link : ℕ) → (hear_beacon l scan pan from cost link).sent ≡ None
beacon_unsent l scan pan from cost link = by (beacons.is_foreign l pan from) (takes_beacons l scan)
  where
    by : (a b : Bool) → (if a then beacons.stays scan (Err drops.NotForMe)
        else (if b then takes_beacon scan from cost link else beacons.stays scan (Err drops.NotScanning))).sent ≡ None
    by true b = refl
    by false true = refl
    by false false = refl

-- what a beacon leaves once its event counts
pub beacon_counts : (w v new : World) (number : ℕ) (l : StationMemory) (seq pan from cost link : ℕ) (word : Answer) (h : Happenings) → IsBounded w
    → w.events < MAX_EVENTS
    → HearsBeacon w number l pan from cost link word v → h ≡ happenings v word → new ≡ running_world v
    → Steps true w (Ok h) new (Ok (has_discovered w number discovery_word (beacon_taken number (Some (discoveries.Beacon seq pan from cost)) link)
    (hear_beacon l (beside_at w number).scan pan from cost link)))
beacon_counts w v new number l seq pan from cost link word h bounds room hears said is =
    let d = hear_beacon l (beside_at w number).scan pan from cost link in
    let unsent = beacon_unsent l (beside_at w number).scan pan from cost link in
    discovery_keeps w new number discovery_word (beacon_taken number (Some (discoveries.Beacon seq pan from cost)) link) d h bounds room d.answer d.scan
    (λ i. record { answer = d.answer; scan = d.scan; sent = unsent i })
    (said ∙ (λ i. happenings (hears.world_is i) (hears.answer_is i))) (is ∙ ap running_world hears.world_is)

-- # Scans

pub scan_joined : (m : Memory) (scan : Scanned) → meters.is_joined m ≡ true → begin_scan m scan ≡ beacons.stays scan (Err scan_faults.AlreadyJoined)
scan_joined m scan is = ap (λ (b : Bool). if b then beacons.stays scan (Err scan_faults.AlreadyJoined)
    else record { answer = Ok tt; scan = begun; sent = Some (discoveries.Request 0) }) is

pub scan_begins : (m : Memory) (scan : Scanned) → meters.is_joined m ≡ false
    → begin_scan m scan ≡ record { answer = Ok tt; scan = begun; sent = Some (discoveries.Request 0) }
scan_begins m scan is = ap (λ (b : Bool). if b then beacons.stays scan (Err scan_faults.AlreadyJoined)
    else record { answer = Ok tt; scan = begun; sent = Some (discoveries.Request 0) }) is

-- a node is joined where it has an address
pub joined_in : (m : Memory) (o : Option ℕ) → o ≡ address_of m.station → meters.is_joined m ≡ is_some o
joined_in m o is = by m.station.ring ∙ ap is_some (sym is)
  where
    by : (r : Option Granted) → is_some r ≡ is_some (option_map (λ (g : Granted). g.address) r)
    by None = refl
    by (Some g) = refl

-- what a node holds, by whether it is halted
pub none_in : (o : Option Memory) → true ≡ not (is_some o) → o ≡ None
none_in None e = refl
none_in (Some m) e = absurd (cc (e))

pub memory_in : (o : Option Memory) → false ≡ not (is_some o) → (m : Memory) × (o ≡ Some m)
memory_in None e = absurd (cc (e))
memory_in (Some m) e = (m, refl)

-- the rule, of a meter that was found
pub scan_at : {w : World} {number found : ℕ} (r : Runs w) (m : IsMeter w number found) → scan w number ≡ Ok (scans_by w number m.there.node.memory)
unfolding scan
scan_at {w} {number} r m = begun_so w _ r.begun ∙ at_meter m (λ x. Ok (scans_by w number x.memory))

pub choose_at : {w : World} {number found : ℕ} (r : Runs w) (m : IsMeter w number found) (k : ℕ)
    → choose network w number k ≡ Ok (chooses_by network w number m.there.node k (psk_of m.there.node))
unfolding choose
choose_at {w} {number} r m k = begun_so w _ r.begun ∙ at_meter m (λ x. Ok (chooses_by network w number x k (psk_of x)))

-- # Choosing an agent

-- a plan that refuses leaves its node as it is
node_stays : {A : Type 0} (x : Node) (halted : A) (plan : Memory → Plan Memory A) (m : Memory) (answer failed : A) → x.memory ≡ Some m
    → plan m ≡ resting m answer failed
    → acts x halted plan ≡ stays x answer
unfolding acts carry_out resting
node_stays {A} x halted plan m answer failed there is =
    ap (λ (o : Option Memory). option_map_or (λ k. left_by x (carry_out x.store.records x.store.cut (plan k))) o (stays x halted)) there
    ∙ ap (λ (p : Plan Memory A). left_by x (carry_out x.store.records x.store.cut p)) is
    ∙ (λ i. stays (record x { memory = sym there i }) answer)

-- what a plan does, its answer read as another
node_reads : {A B : Type 0} (x : Node) (halted : A) (other : B) (reads : A → B) (p : Memory → Plan Memory A) (q : Memory → Plan Memory B) (m : Memory)
    → x.memory ≡ Some m
    → q m ≡ within (λ n. n) reads (p m) → acts x other q ≡ answering reads (acts x halted p)
unfolding acts carry_out
node_reads {A} {B} x halted other reads p q m there is =
    ap (λ (o : Option Memory). option_map_or (λ k. left_by x (carry_out x.store.records x.store.cut (q k))) o (stays x other)) there
    ∙ ap (λ (r : Plan Memory B). left_by x (carry_out x.store.records x.store.cut r)) is
    ∙ by_whole (write (p m).puts x.store.cut x.store.records) (write (p m).puts x.store.cut x.store.records).whole
    ∙ sym (ap (λ (o : Option Memory). answering reads (option_map_or (λ k. left_by x (carry_out x.store.records x.store.cut (p k))) o (stays x halted))) there)
  where
    by_whole : (w : Written) (b : Bool)
        → left_by x (if b then finished w (within (λ n. n) reads (p m)) else cut_off w (within (λ n. n) reads (p m)))
        ≡ answering reads (left_by x (if b then finished w (p m) else cut_off w (p m)))
    by_whole w true = refl
    by_whole w false = refl

-- a plan that stores nothing is carried out
node_goes_on : {A : Type 0} (x : Node) (halted : A) (p : Memory → Plan Memory A) (m : Memory) → x.memory ≡ Some m → (p m).puts ≡ []
    → is_some (acts x halted p).node.memory ≡ true
unfolding acts carry_out
node_goes_on {A} x halted p m there none =
    ap (λ (o : Option Memory). is_some (option_map_or (λ k. left_by x (carry_out x.store.records x.store.cut (p k))) o (stays x halted)).node.memory) there
    ∙ by_whole (write (p m).puts x.store.cut x.store.records) (write (p m).puts x.store.cut x.store.records).whole
    (ap (λ ps. (write ps x.store.cut x.store.records).whole) none)
  where
    by_whole : (w : Written) (b : Bool) → b ≡ true → is_some (if b then finished w (p m) else cut_off w (p m)).memory ≡ true
    by_whole w true e = refl
    by_whole w false e = absurd (cc (e))

-- the word of a meter that began to join is that of its joining
join_says : (agent : ChosenAgent) (r : Result (Unit {0}) JoinRefusal) → choice_word (chosen agent r) ≡ join_word r
join_says agent (Ok u) = refl
join_says agent (Err joins.Halted) = refl
join_says agent (Err joins.AlreadyJoined) = refl

-- beginning to join stores nothing
joining_stores_nothing : (own : meters.Identity) (m : Memory) (agent now : ℕ) → meters.is_joined m ≡ false → m.station.counter.next ≤ m.station.counter.limit
    → (meters.join own m agent now).puts ≡ []
unfolding choose_plan goes_up with_memory_by empty_draft
joining_stores_nothing own m agent now apart below =
    ap (λ (b : Bool). (if b then refused {H = Unit {0}} meters.joining_ends m joins.AlreadyJoined else sealing in_memory meters.joining_ends
    (goes_up agent own.eui (message own.eui (body.Join []))
    (with_memory_by (meters.with_session (Some (record { session_way = ByAgent agent; peer = None; since = now }))) (empty_draft m))) tt).puts) apart
    ∙ ap puts_of (reserve_none m.station.counter below)

abbrev refusal : ChooseRefusal → Result ChosenAgent ChooseRefusal
refusal reason = Err reason

-- A meter chooses.
module _ (w : World) (number : ℕ) (x : Node) (k : ℕ) (psk : Key) (m : Memory) (at : slice_get w.nodes number ≡ Some x) (there : x.memory ≡ Some m) where
  abbrev plan : Reaching Memory → Plan (Reaching Memory) (Result ChosenAgent ChooseRefusal)
  plan y = choose_agent (identity network x psk) y k w.clock

  abbrev b : Beside
  b = beside_at w number

  abbrev held : Reaching Memory
  held = record { memory = m; beside = b }

  abbrev does : NodeStep (Result ChosenAgent ChooseRefusal)
  does = reaches x b (Err choices.Halted) plan

  abbrev chosen_so : World × Trace
  chosen_so = chooses_by network w number x k (Some psk)

  -- what stands beside it stays
  chooses_beside : (left : Node) → (plan held).memory.beside ≡ b → is_some left.memory ≡ true → beside_after x b plan left ≡ b
  unfolding beside_after
  chooses_beside left keeps up =
      ap (λ (o : Option Memory). option_map_or
      (λ (n : Memory). if is_some left.memory then (plan (record { memory = n; beside = b })).memory.beside else without_log b) o b) there
      ∙ ap (λ (t : Bool). if t then (plan held).memory.beside else without_log b) up ∙ keeps

  -- a meter that can't choose is as it was
  pub choice_refused : (new : World) (h : Happenings) (reason : ChooseRefusal) → IsBounded w → w.events < MAX_EVENTS
      → plan held ≡ refused choosing_ends held reason
      → h ≡ happenings w (choice_word (Err reason)) → new ≡ running_world w → Steps true w (Ok h) new (Ok chosen_so)
  unfolding world_after resting
  choice_refused new h reason bounds room is said left =
      let same : does ≡ stays x (Err reason) =
      node_stays x (Err choices.Halted) (with_beside b plan) m (Err reason) (Err choices.Halted) there
      (ap (λ (p : Plan (Reaching Memory) (Result ChosenAgent ChooseRefusal)). within (λ y. y.memory) (λ a. a) p) is) in
      let keeps : (plan held).memory.beside ≡ b = ap (λ (p : Plan (Reaching Memory) (Result ChosenAgent ChooseRefusal)). p.memory.beside) is in
      let world : chosen_so.0 ≡ running_world w =
      ap (λ (d : NodeStep (Result ChosenAgent ChooseRefusal)). has_reached network (running_world w) number x (Err choices.Halted) plan d) same
      ∙ ap (λ (c : Beside). set_beside number c (world_after network (running_world w) number (stays x (refusal reason))))
      (chooses_beside x keeps (ap is_some there))
      ∙ (λ i. record (running_world w) {
        nodes = set_same w.nodes number x at i;
        flights = append-nil w.flights i;
        made = append-nil w.made i;
        beside = beside_same w.beside number i;
      }) in
      is_taken_so true w new (Ok chosen_so) chosen_so.1 h (λ i. Ok ((world ∙ sym left) i, chosen_so.1))
      (said ∙ (λ i. record (happenings w (choice_word (sym same i).answer))
      { flights = length (sym same i).frames; agent = agent_line number (sym same i).answer }))
      (subst IsBounded (sym left) (bounded_by w w.clock w.nodes w.flights bounds room (omega arith) refl refl))

  pub choice_joined : meters.is_joined m ≡ true → plan held ≡ refused choosing_ends held choices.AlreadyJoined
  unfolding choose_plan
  choice_joined is =
      ap (λ (t : Bool). if t then refused choosing_ends held choices.AlreadyJoined else joins_by (identity network x psk) held w.clock (kth_of b.scan.agents k))
      is

  apart_by : meters.is_joined m ≡ false → plan held ≡ joins_by (identity network x psk) held w.clock (kth_of b.scan.agents k)
  unfolding choose_plan
  apart_by is =
      ap (λ (t : Bool). if t then refused choosing_ends held choices.AlreadyJoined else joins_by (identity network x psk) held w.clock (kth_of b.scan.agents k))
      is

  pub choice_nobody : meters.is_joined m ≡ false → None ≡ kth_of b.scan.agents k → plan held ≡ refused choosing_ends held choices.NoBeacon
  choice_nobody apart none = apart_by apart ∙ ap (λ (o : Option (ℕ × ℕ)). joins_by (identity network x psk) held w.clock o) (sym none)

  -- it joins by the agent that it chose
  pub choice_joins : (address total : ℕ) → meters.is_joined m ≡ false → Some (address, total) ≡ kth_of b.scan.agents k
      → m.station.counter.next ≤ m.station.counter.limit
      → joins_in w number x psk address total ≡ chosen_so
  unfolding world_after
  choice_joins address total apart some below =
      let own : meters.Identity = identity network x psk in
      let agent : ChosenAgent = record { address = address; total = total } in
      let is : plan held ≡ joins_by own held w.clock (Some (address, total)) = apart_by apart
      ∙ ap (λ (o : Option (ℕ × ℕ)). joins_by own held w.clock o) (sym some) in
      let join : Memory → Plan Memory (Result (Unit {0}) JoinRefusal) = λ n. meters.join own n address w.clock in
      let same : does ≡ answering (chosen agent) (acts x (Err joins.Halted) join) =
      node_reads x (Err joins.Halted) (Err choices.Halted) (chosen agent) join (with_beside b plan) m there
      (ap (λ (p : Plan (Reaching Memory) (Result ChosenAgent ChooseRefusal)). within (λ y. y.memory) (λ a. a) p) is) in
      let keeps : (plan held).memory.beside ≡ b = ap (λ (p : Plan (Reaching Memory) (Result ChosenAgent ChooseRefusal)). p.memory.beside) is in
      let up : is_some does.node.memory ≡ true =
      ap (λ (d : NodeStep (Result ChosenAgent ChooseRefusal)). is_some d.node.memory) same
      ∙ node_goes_on x (Err joins.Halted) join m there (joining_stores_nothing own m address w.clock apart below) in
      let d : NodeStep (Result (Unit {0}) JoinRefusal) = acts x (Err joins.Halted) join in
      let world : world_after network (running_world w) number d ≡ chosen_so.0 =
      (λ i. record (world_after network (running_world w) number d) { beside = sym (beside_same w.beside number) i })
      ∙ ap (λ (c : Beside). set_beside number c (world_after network (running_world w) number d)) (sym (chooses_beside does.node keeps up))
      ∙ ap (λ (e : NodeStep (Result ChosenAgent ChooseRefusal)). set_beside number (beside_after x b plan does.node)
      (world_after network (running_world w) number e))
      (sym same) in
      (λ i. (
        world i,
        record (node_trace w (record (answering join_word d) { answer = sym (join_says agent d.answer) i })) {
          happenings = record (node_trace w (record (answering join_word d) { answer = sym (join_says agent d.answer) i })).happenings
              { agent = agent_line number (chosen agent d.answer) };
        },
      )) ∙ ap (λ (e : NodeStep (Result ChosenAgent ChooseRefusal)).
      let trace = node_trace w (answering choice_word e) in
      (chosen_so.0, record trace { happenings = record trace.happenings { agent = agent_line number e.answer } }))
      (sym same)

-- a meter that is halted is as it was
pub choice_halted : (w new : World) (number : ℕ) (x : Node) (k : ℕ) (psk : Key) (h : Happenings) → slice_get w.nodes number ≡ Some x → x.memory ≡ None
    → IsBounded w → w.events < MAX_EVENTS
    → h ≡ happenings w answers.Halted → new ≡ running_world w → Steps true w (Ok h) new (Ok (chooses_by network w number x k (Some psk)))
unfolding acts world_after beside_after
choice_halted w new number x k psk h at none bounds room is left =
    let b : Beside = beside_at w number in
    let plan : Reaching Memory → Plan (Reaching Memory) (Result ChosenAgent ChooseRefusal) = λ y. choose_agent (identity network x psk) y k w.clock in
    let same : reaches x b (Err choices.Halted) plan ≡ stays x (refusal choices.Halted) =
    ap (λ (o : Option Memory). option_map_or (λ n. left_by x (carry_out x.store.records x.store.cut (with_beside b plan n))) o
    (stays x (refusal choices.Halted))) none in
    let keeps : beside_after x b plan x ≡ b =
    ap (λ (o : Option Memory). option_map_or
    (λ (n : Memory). if is_some x.memory then (plan (record { memory = n; beside = b })).memory.beside else without_log b) o b) none in
    let world : (chooses_by network w number x k (Some psk)).0 ≡ running_world w =
    ap (λ (d : NodeStep (Result ChosenAgent ChooseRefusal)). has_reached network (running_world w) number x (Err choices.Halted) plan d) same
    ∙ ap (λ (c : Beside). set_beside number c (world_after network (running_world w) number (stays x (refusal choices.Halted)))) keeps
    ∙ (λ i. record (running_world w) {
      nodes = set_same w.nodes number x at i;
      flights = append-nil w.flights i;
      made = append-nil w.made i;
      beside = beside_same w.beside number i;
    }) in
    let trace = (chooses_by network w number x k (Some psk)).1 in
    is_taken_so true w new (Ok (chooses_by network w number x k (Some psk))) trace h (λ i. Ok ((world ∙ sym left) i, trace))
    (is ∙ (λ i. record (happenings w (choice_word (sym same i).answer))
    { flights = length (sym same i).frames; agent = agent_line number (sym same i).answer }))
    (subst IsBounded (sym left) (bounded_by w w.clock w.nodes w.flights bounds room (omega arith) refl refl))

-- # The report of a meter that joins by an agent

-- what is said of an event at which a node acted, and an agent with it
abbrev pub with_agent : Happenings → Option AgentLine → Happenings
with_agent h agent = record h { agent = agent }

-- the world that a step leaves, and what is said of it
abbrev world_in : World → Result (World × Trace) StepFault → World
world_in w (Ok q) = q.0
world_in w (Err fault) = w

abbrev said_in : Happenings → Result (World × Trace) StepFault → Happenings
said_in h (Ok q) = q.1.happenings
said_in h (Err fault) = h

pub joins_reported : (w new : World) (number : ℕ) (x : Node) (psk : Key) (address total : ℕ) (asked : Result (Unit {0}) JoinRefusal) (out : Out)
    (nodes : List Node)
    (agent : Option AgentLine) (h : Happenings)
    → slice_get w.nodes number ≡ Some x → psk_of x ≡ Some psk
    → IfSome (slice_get w.nodes number) (λ y. IfSome (psk_of y)
    (λ key. Did (acts y (Err joins.Halted) (λ k. meters.join (identity network y key) k address w.clock)) w.nodes number asked out nodes))
    → IsBounded w → w.events < MAX_EVENTS → length out.frames ≤ 24 → length out.tags.made ≤ 2
    → agent ≡ agent_line number (chosen (record { address = address; total = total }) asked)
    → h ≡ record (happenings w (join_word asked)) { flights = length out.frames } → new ≡ after (running_world w) number nodes out
    → Steps true w (Ok (with_agent h agent)) new (Ok (joins_in w number x psk address total))
unfolding world_after
joins_reported w new number x psk address total asked out nodes agent h at key did bounds room frames tags agent_is is left =
    let step : Node → NodeStep (Result (Unit {0}) JoinRefusal) = λ y. acts y (Err joins.Halted) (λ k. meters.join (identity network y psk) k address w.clock) in
    let there : IsThere w number number = record { node = x; at = at; same = refl; within = slice_get_within w.nodes number x at } in
    let by_all : IfSome (psk_of x) (λ key. Did (acts x (Err joins.Halted) (λ k. meters.join (identity network x key) k address w.clock)) w.nodes number asked
    out nodes) =
    at_number _ x (λ y. IfSome (psk_of y)
    (λ key. Did (acts y (Err joins.Halted) (λ k. meters.join (identity network y key) k address w.clock)) w.nodes number asked out nodes)) at did in
    let own : Did (step x) w.nodes number asked out nodes =
    subst (λ (o : Option Key). IfSome o
    (λ key. Did (acts x (Err joins.Halted) (λ k. meters.join (identity network x key) k address w.clock)) w.nodes number asked out nodes)) key by_all in
    let s = node_acted true w new there step join_word asked out nodes h bounds room frames tags
    (subst (λ (o : Option Node). IfSome o (λ y. Did (step y) w.nodes number asked out nodes)) (sym at) own) is left in
    let world : world_after network (running_world w) number (step x) ≡ new = ap (world_in w) s.gives.taken in
    let said_so : h ≡ (node_trace w (answering join_word (step x))).happenings = s.gives.reported ∙ sym (ap (said_in h) s.gives.taken) in
    let agent_so : agent ≡ agent_line number (chosen (record { address = address; total = total }) (step x).answer) =
    agent_is ∙ ap (λ (r : Result (Unit {0}) JoinRefusal). agent_line number (chosen (record { address = address; total = total }) r)) own.answer_is in
    let trace = (joins_in w number x psk address total).1 in
    is_taken_so true w new (Ok (joins_in w number x psk address total)) trace (with_agent h agent) (λ i. Ok (world i, trace))
    (λ i. with_agent (said_so i) (agent_so i)) s.bounds

-- the counter of the node of a number is below its limit
pub below_in : (nodes : List Node) (number : ℕ) (x : Node) (m : Memory) → AreBelow nodes → slice_get nodes number ≡ Some x → x.memory ≡ Some m
    → m.station.counter.next ≤ m.station.counter.limit
below_in nodes number x m below at here =
    subst (λ (o : Option Memory). IfSome o (λ k. k.station.counter.next ≤ k.station.counter.limit)) here
    (subst IsBelow (get_or_from_slice_get nodes number x x at) (below number x (slice_get_within nodes number x at)))
