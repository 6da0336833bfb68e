-- Every event that brings no octets to a node keeps custody as a whole: letters, ranges, sends and places.
use Rattle.std.proofs.Common.{◌≡◌, ◌≢◌, ⊎_elim, ℕ, zero, suc, ◌+◌, ◌-◌, ◌≤◌, ◌<◌, Bool, true, false, List, [], ◌∷◌, length, map, Option, Some, None, Result, Ok}
use Rattle.std.proofs.Common.{Err, refl, sym, ap, ◌∙◌, subst, append-nil, arith}
use Rattle.std.specs.Prelude.{All, IfSome, is_some, if◌then◌else◌, slice_get, slice_set, ◌==◌}
use Rattle.std.specs.List.{sum_by}
use Rattle.std.specs.Option.{option_map, option_map_or, option_and_then}
use Rattle.std.proofs.lemmas.Bool.{cases_eq}
use Rattle.std.proofs.lemmas.List.Elements.{All-nil, All-set, All-append, All-push, All-map, All-weaker}
use Rattle.std.proofs.lemmas.List.Sums.{sum_by-cons, sum_by-append, sum_by-le-sum_by}
use Rattle.std.proofs.lemmas.Option.{same_Some}
use Rattle.plc_base.specs.Grant.{Granted}
use Rattle.plc_base.specs.declared.address.Eui.{Eui}
use Rattle.plc_base.specs.declared.key.Key.{Key}
use Rattle.store_tables.proofs.SlotTables.{slice_get-set, slice_get-set_other}
use Rattle.group_keys.specs.KeyBook as books
use Rattle.group_keys.specs.KeyRing as ring
use Rattle.node_rules.specs.declared.refusal.RingRefusal.{RingRefusal}
use Rattle.node_rules.specs.declared.refusal.RingRefusal.TheVariants as ring_faults
use Rattle.line_events.specs.declared.event.Answer.{Answer}
use Rattle.line_events.specs.declared.event.Answer.TheVariants as answers
use Rattle.line_events.specs.declared.event.Event.{Event}
use Rattle.line_events.specs.declared.happenings.Handed.{Handed}
use Rattle.node_rules.specs.declared.heard.SentHow.{SentHow}
use Rattle.node_rules.specs.declared.refusal.CoordinatorRefusal.{CoordinatorRefusal}
use Rattle.node_rules.specs.declared.refusal.CoordinatorRefusal.TheVariants as orders
use Rattle.node_rules.specs.declared.refusal.SendRefusal.{SendRefusal}
use Rattle.node_rules.specs.declared.refusal.SendRefusal.TheVariants as sends
use Rattle.node_rules.specs.Calls as calls
use Rattle.node_rules.specs.Ciphers.{Ciphers, OpensWhatItSeals}
use Rattle.node_rules.specs.Coordinators as coordinator_rules
use Rattle.node_rules.specs.Drafts.{choose}
use Rattle.node_rules.specs.Memory.{StationMemory, Memory, Role, Coordinator, Meter, Node, address_of, node_address}
use Rattle.node_rules.specs.MemoryDrafts.{with_station}
use Rattle.node_rules.specs.Meters as meters
use Rattle.node_rules.specs.NodeSteps.{NodeStep, acts, stays, of_station, answering, changing}
use Rattle.node_rules.specs.Plans.{Plan, resting}
use Rattle.node_rules.specs.RestartStates.{blank_station, first_grant}
use Rattle.line_rules.specs.Answers.{sent_word}
use Rattle.line_rules.specs.Forgery.{Comes, OfFlight, OfScript}
use Rattle.line_rules.specs.Steps.{Step, set_up, running_world, world_after, flights_of, made_node, blank_node, psk_of, ticked, node_outcome, sending, sent_if}
use Rattle.line_rules.specs.Steps.{is_taken, tag_of}
use Rattle.line_rules.specs.Steps.{offered_near, identity, restarts, memory_by}
use Rattle.line_rules.specs.Worlds.{World, Flight, Sending, node_at, flight_at}
use Rattle.line_laws.specs.SealedUnits.{IsFlight, AreFlights}
use Rattle.line_laws.specs.Owed.{KeepsRanges}
use Rattle.line_laws.specs.Places.{node_keeps, flight_is, live_is, places, issued, IsInCustody, OneNode, LiveFalls}
use Rattle.line_laws.specs.Ranges.{IsStationRanged, IsBody, HasHop}
use Rattle.line_laws.specs.Sends.{SentAs, BodyIsOf, HeldIsOf}
use Rattle.line_laws.specs.Stores.{IsReadable, IsBookKept, IsKept}
use Rattle.line_laws.proofs.AddressPuts.{RingIn}
use Rattle.line_laws.proofs.Answered.{acts_answered, depot_grants}
use Rattle.line_laws.proofs.AgreeSteps.{acts_eui}
use Rattle.line_laws.proofs.CoordinatorCalls.{depot_failed, depot_ok}
use Rattle.line_laws.proofs.CustodyArrives.{FlightIsOf, NodeTrue, fly_true}
use Rattle.line_laws.proofs.CustodyEvents.{word_taken, send_in_custody, tick_in_custody}
use Rattle.line_laws.proofs.CustodyKeeps.{PlanClean, DidClean, acts_clean, random_clean, join_clean, leave_clean, broke_clean, counter_clean, number_clean}
use Rattle.line_laws.proofs.CustodyKeeps.{near_clean, provision_clean, allow_clean, depot_clean, rekey_clean, activate_self_clean, challenge_clean}
use Rattle.line_laws.proofs.CustodyKeeps.{activate_clean, kick_clean, SentDid, sends_did, tick_true}
use Rattle.line_laws.proofs.CustodyQuiet.{restart_kept}
use Rattle.line_laws.proofs.CustodyTags.{Custody}
use Rattle.line_laws.proofs.CustodyTrue.{SentIsOf, StationIsTrue}
use Rattle.line_laws.proofs.CustodyWorld.{custody_after, sent_flies, set_sum, live_less}
use Rattle.line_laws.proofs.FlightFolds.{address_low}
use Rattle.line_laws.proofs.IssueNodes.{acts_whole, depot_address}
use Rattle.line_laws.proofs.IssueWorlds.{after_here}
use Rattle.line_laws.proofs.KeptMemory.{Left}
use Rattle.line_laws.proofs.NodeCalls.{call_given, no_some}
use Rattle.line_laws.proofs.Nodes.{NodeOk}
use Rattle.line_laws.proofs.RangeArrives.{NodeRanged}
use Rattle.line_laws.proofs.RangeCalls.{send_ranged, tick_ranged}
use Rattle.line_laws.proofs.RangeCoordinator.{HasEight, SpeaksWell}
use Rattle.line_laws.proofs.RangeFrames.{IsSent, flights_fit}
use Rattle.line_laws.proofs.RangeHeard.{SaysShort}
use Rattle.line_laws.proofs.RangePlans.{DidRanged, acts_ranged}
use Rattle.line_laws.proofs.StorableGrants.{held, none_held}
use Rattle.line_laws.proofs.NodesOk.{coordinator_acts, read_again}
use Rattle.line_laws.proofs.TagRuns.{at_end}
use Rattle.line_laws.proofs.StepKinds.{IsAddressed, IsAddressedAt, workshop, IsAsked, AskRandom, AskJoin, AskLeave, AskRekey, AskTurn, AskChallenge}
use Rattle.line_laws.proofs.StepKinds.{AskActivate}
use Rattle.line_laws.proofs.StepKinds.{AskKick, IsMade, OfCoordinator, OfMeter, IsPreset, OfCounter, OfNumber, IsBrought, IsStep, Fails, Makes, Rests, Shows}
use Rattle.line_laws.proofs.StepKinds.{Acts, BreaksLink, SendsFrom, AllowsMeter, Sets, SetsTwo, Provides, TurnsDown, Hears, Loses, Ticks, Restarts, Cuts}
use Rattle.line_laws.proofs.Worlds.{NodeFits, WorldOk, at_place, within}
pub use Rattle.line_laws.specs.InCustody.{sent_as}

-- a ring, if there is one, has this address
abbrev pub AtHome : ℕ → ring.Ring → Type 0
AtHome own r = IfSome r (λ (g : Granted). g.address ≡ own)

-- the address of a meter in the coordinator's book is that of its home
pub record HomedAt (home : ℕ → ℕ) (w : World) : Type 0 where
  pub at : (n : ℕ) (x c : Node) (b : books.Book) (a : ℕ) → n ≢ 0 → node_at w n ≡ Some x → node_at w 0 ≡ Some c → IsBookKept b c.store.records
      → books.address_of b x.eui ≡ Some a → home n ≡ a

-- so it is after an event
abbrev pub LaterHomed : (ℕ → ℕ) → Step → Type 0
LaterHomed home (Ok r) = HomedAt home r.0
LaterHomed home (Err fault) = Unit {0}

-- What is owed of the nodes of a world: what they say fits a command and goes to one node, and addresses stand where they are at home.
pub record SpeaksInRange (ciphers : Ciphers) (home : ℕ → ℕ) (w : World) : Type 0 where
  pub short : (number : ℕ) (x : Node) → node_at w number ≡ Some x → (psk : Key) (m : Memory) → x.role ≡ Meter psk → x.memory ≡ Some m
      → SaysShort (identity ciphers x psk) m
  pub speaks : (x : Node) → node_at w 0 ≡ Some x → (m : Memory) → x.memory ≡ Some m → (now : ℕ)
      → SpeaksWell (record { eui = x.eui; ciphers = ciphers }) (call_given 0 0 now) m
  pub roles : (number : ℕ) (x : Node) → number ≢ 0 → node_at w number ≡ Some x → (psk : Key) × (x.role ≡ Meter psk)
  pub homes : (number : ℕ) (x : Node) → node_at w number ≡ Some x → RingIn (AtHome (home number)) x.store.records
  pub first : home 0 ≡ 0

module _ (ciphers : Ciphers) (opens : OpensWhatItSeals ciphers) (S : ℕ → SentAs → Type 0) (home : ℕ → ℕ) where
  -- What holds of a world beside the places.
  record Rest (v : World) : Type 0 where
    flights : AreFlights ciphers v.flights
    ranged : All NodeRanged v.nodes
    sent : All (FlightIsOf ciphers S) v.flights
    nodes : (number : ℕ) (x : Node) → slice_get v.nodes number ≡ Some x → NodeTrue S (home number) x

  nodes_set : (ns : List Node) (number : ℕ) (x y : Node) → slice_get ns number ≡ Some x → ((k : ℕ) (z : Node) → slice_get ns k ≡ Some z → NodeTrue S (home k) z)
      → NodeTrue S (home number) y
      → (k : ℕ) (z : Node) → slice_get (slice_set ns number y) k ≡ Some z → NodeTrue S (home k) z
  nodes_set ns number x y here all is k z there = ⊎_elim
      (λ (e : k ≡ number).
      let got : y ≡ z = same_Some y z (sym (slice_get-set ns number y (within ns number x here)) ∙ ap (slice_get (slice_set ns number y)) (sym e) ∙ there) in
      subst (λ (a : ℕ). NodeTrue S (home a) z) (sym e) (subst (NodeTrue S (home number)) got is))
      (λ (e : k ≢ number). all k z (sym (slice_get-set_other ns number k y e) ∙ there))
      (cases_eq k number)

  after_rest : {A : Type 0} (u : World) (number : ℕ) (x : Node) (d : NodeStep A) → Rest u → slice_get u.nodes number ≡ Some x → NodeRanged d.node
      → All IsSent d.frames → NodeTrue S (home number) d.node → All (SentIsOf S) d.frames → Rest (world_after ciphers u number d)
  unfolding world_after
  after_rest u number x d c here ranged fits station frames = record {
    flights = All-append (IsFlight ciphers) u.flights (flights_of ciphers number d) c.flights (flights_fit ciphers number d fits);
    ranged = All-set NodeRanged u.nodes number d.node ranged c.ranged;
    sent = All-append (FlightIsOf ciphers S) u.flights (flights_of ciphers number d) c.sent (fly_true ciphers opens S number d.frames fits frames);
    nodes = nodes_set u.nodes number x d.node here c.nodes station;
  }

  module _ (L : Flight → Bool) (before : List Handed) where
    -- custody, where these flights are live
    abbrev At : World → Type 0
    At v = Custody ciphers (λ _ f. L f) S home v before

    at_of : (v : World) → Rest v → IsInCustody ciphers (λ _ f. L f) v before → At v
    at_of v r places = record { flights = r.flights; ranged = r.ranged; sent = r.sent; nodes = r.nodes; places = places }

    rest_of : (v : World) → At v → Rest v
    rest_of v c = record { flights = c.flights; ranged = c.ranged; sent = c.sent; nodes = c.nodes }

    all_fall : (u v : World) → LiveFalls (λ _ f. L f) u v None
    all_fall u v = record { falls = λ f h. h; passes = λ place f e. absurd (no_some place e) }

    pub ran_at : (w : World) → At w → At (running_world w)
    ran_at w c = record { flights = c.flights; ranged = c.ranged; sent = c.sent; nodes = c.nodes; places = record { at_most = c.places.at_most } }

    set_at : (w : World) → At w → At (set_up w)
    set_at w c = record { flights = c.flights; ranged = c.ranged; sent = c.sent; nodes = c.nodes; places = record { at_most = c.places.at_most } }

    after_places : {A : Type 0} (u : World) (number : ℕ) (x : Node) (d : NodeStep A) → IsInCustody ciphers (λ _ f. L f) u before
        → slice_get u.nodes number ≡ Some x → DidClean S (home number) x d → IsInCustody ciphers (λ _ f. L f) (world_after ciphers u number d) before
    unfolding world_after
    after_places u number x d c here did = record {
      at_most = λ n i some.
          let v : World = world_after ciphers u number d in
          let fly = sent_flies ciphers opens n i number d.frames did.fits in
          let k = did.kept n i some in
          let node : OneNode u v x d.node (flights_of ciphers number d) = record { number = number; here = here; nodes = refl; flights = refl } in
          subst (λ (us : List Handed). places ciphers (λ _ f. L f) n i v us ≤ issued n v.sends) (append-nil before)
          (custody_after ciphers (λ _ f. L f) n i u v x d.node (flights_of ciphers number d) before [] None 0 node (all_fall u v)
          (record { kept = omega arith }) (omega arith) (c.at_most n i some));
    }

    pub after_at : {A : Type 0} (u : World) (number : ℕ) (x : Node) (d : NodeStep A) → At u → slice_get u.nodes number ≡ Some x → DidClean S (home number) x d
        → At (world_after ciphers u number d)
    after_at u number x d c here did =
        at_of (world_after ciphers u number d) (after_rest u number x d (rest_of u c) here did.ranged did.fits did.station did.frames)
        (after_places u number x d c.places here did)

-- what was live may be live no more
pub falls_on : (ciphers : Ciphers) (live : World → Flight → Bool) (S : ℕ → SentAs → Type 0) (home : ℕ → ℕ) (w v : World) (ups : List Handed)
    → Custody ciphers (λ _ f. live w f) S home v ups → LiveFalls live w v None → Custody ciphers live S home v ups
falls_on ciphers live S home w v ups c falls = record {
  flights = c.flights;
  ranged = c.ranged;
  sent = c.sent;
  nodes = c.nodes;
  places = record {
    at_most = λ n i some.
        let h = c.places.at_most n i some in
        let flights : sum_by (live_is ciphers (live v) n i) v.flights ≤ sum_by (live_is ciphers (live w) n i) v.flights
        = sum_by-le-sum_by (live_is ciphers (live v) n i) (live_is ciphers (live w) n i) v.flights
        (λ f. live_less (live v f) (live w f) (flight_is ciphers n i f) (falls.falls f)) in
        omega arith;
  };
}

-- # What nodes do by themselves

-- the address of a node whose ring is at home
true_address : (S : ℕ → SentAs → Type 0) (own : ℕ) (y : Node) (a : ℕ) → NodeTrue S own y → node_address y ≡ Some a → a ≡ own
true_address S own y a = by_memory y.memory
  where
    by_memory : (o : Option Memory) → IfSome o (λ (m : Memory). StationIsTrue S own m.station)
        → option_and_then (λ (m : Memory). address_of m.station) o ≡ Some a → a ≡ own
    by_memory None h e = absurd (no_some a e)
    by_memory (Some m) h e = h.address a e

ring_home : (own a : ℕ) (r : ring.Ring) → AtHome own r → option_map (λ (g : Granted). g.address) r ≡ Some a → a ≡ own
ring_home own a None h e = absurd (no_some a e)
ring_home own a (Some g) h e = sym (same_Some g.address a e) ∙ h

restart_clean : (S : ℕ → SentAs → Type 0) (own : ℕ) (x : Node) → NodeOk x → RingIn (AtHome own) x.store.records → DidClean S own x (restarts x)
restart_clean S own x ok rings =
    let a = read_again x.role x.store.records x.memory ok.kept in
    let below = a.kept.station.number.below in
    let limit = a.kept.station.range.number.1 in
    let ranged : IsStationRanged a.memory.station = record {
      ring = a.kept.station.range.ring;
      tag = a.kept.station.range.tag;
      hops = a.blank.hops;
      bodies = rw a.blank.waiting (All-nil IsBody);
      number = omega arith;
    } in
    let station : StationIsTrue S own a.memory.station = record {
      address = λ z e. ring_home own z a.memory.station.ring (rings a.memory.station.ring a.kept.station.ring.stored) e;
      bodies = rw a.blank.waiting (All-nil (BodyIsOf S own));
      held = rw a.blank.gathered (All-nil (HeldIsOf S own));
    } in
    record {
      ranged = subst (λ o. IfSome (memory_by o) (λ (m : Memory). IsStationRanged m.station)) (sym a.is) ranged;
      fits = All-nil IsSent;
      station = subst (λ o. IfSome (memory_by o) (λ (m : Memory). StationIsTrue S own m.station)) (sym a.is) station;
      frames = All-nil (SentIsOf S);
      kept = λ n i some. let k = (restart_kept n i x).kept in omega arith;
    }

ticked_ranged : (now : ℕ) (x : Node) → NodeRanged x → NodeRanged (ticked now x)
ticked_ranged now x = by_memory x.memory x.role
  where
    by_memory : (o : Option Memory) (role : Role) → IfSome o (λ (m : Memory). IsStationRanged m.station)
        → NodeRanged (ticked now (record x { role = role; memory = o }))
    by_memory None role h = tt
    by_memory (Some m) Coordinator h = tick_ranged m h now
    by_memory (Some m) (Meter psk) h = tick_ranged m h now

ticked_true : (S : ℕ → SentAs → Type 0) (own now : ℕ) (x : Node) → NodeRanged x → NodeTrue S own x → NodeTrue S own (ticked now x)
ticked_true S own now x = by_memory x.memory x.role
  where
    by_memory : (o : Option Memory) (role : Role) → IfSome o (λ (m : Memory). IsStationRanged m.station)
        → IfSome o (λ (m : Memory). StationIsTrue S own m.station) → NodeTrue S own (ticked now (record x { role = role; memory = o }))
    by_memory None role r h = tt
    by_memory (Some m) Coordinator r h = tick_true S own m r h now
    by_memory (Some m) (Meter psk) r h = tick_true S own m r h now

begin_clean : (S : ℕ → SentAs → Type 0) (own : ℕ) (m : Memory) → IsStationRanged m.station → StationIsTrue S own m.station → (g : Granted) → IsReadable g
    → g.address ≡ own → PlanClean S own m (coordinator_rules.begin m g)
unfolding choose resting
begin_clean S own m ranged station g reads home = by_ring (is_some m.station.ring)
  where
    by_ring : (b : Bool) → PlanClean S own m (if b then resting m (Ok tt) (Err ring_faults.Store) else meters.provision m g)
    by_ring true = record { ranged = ranged; fits = All-nil IsSent; station = station; frames = All-nil (SentIsOf S); kept = λ n i some. omega arith }
    by_ring false = provision_clean S own m ranged station g reads home

-- whose pair key it is
role_of : (x : Node) (psk : Key) → psk_of x ≡ Some psk → x.role ≡ Meter psk
role_of x psk = by_role x.role
  where
    by_role : (role : Role) → psk_of (record x { role = role }) ≡ Some psk → role ≡ Meter psk
    by_role Coordinator e = absurd (no_some _ e)
    by_role (Meter k) e = ap Meter (same_Some _ _ e)

-- a blank station
blank_ranged : IsStationRanged blank_station
blank_ranged = record { ring = tt; tag = omega arith; hops = All-nil HasHop; bodies = All-nil IsBody; number = omega arith }

blank_true : (S : ℕ → SentAs → Type 0) (own : ℕ) → StationIsTrue S own blank_station
blank_true S own = record { address = λ a e. absurd (no_some a e); bodies = All-nil (BodyIsOf S own); held = All-nil (HeldIsOf S own) }

-- What a new node has: nothing.
record IsFresh (S : ℕ → SentAs → Type 0) (own : ℕ) (x : Node) : Type 0 where
  ranged : NodeRanged x
  station : NodeTrue S own x
  none : (n i : ℕ) → 0 < n → node_keeps n i x.memory ≤ 0

-- # Events

module _ (ciphers : Ciphers) (opens : OpensWhatItSeals ciphers) (fits : KeepsRanges ciphers) (S : ℕ → SentAs → Type 0) (home : ℕ → ℕ) (w : World)
    (ok : WorldOk w) (L : Flight → Bool) (lost : (f : Flight) → L (record f { lost = true }) ≡ true → L f ≡ true)
    (before : List Handed) (c : Custody ciphers (λ _ f. L f) S home w before) (owed : SpeaksInRange ciphers home w) where
  abbrev Now : World → Type 0
  Now v = At ciphers opens S home L before v

  ranged_at : (number : ℕ) (x : Node) → node_at w number ≡ Some x → NodeRanged x
  ranged_at number x there = at_place NodeRanged w.nodes number x there c.ranged

  good_at : (number : ℕ) (x : Node) → node_at w number ≡ Some x → NodeOk x
  good_at number x there = at_place NodeOk w.nodes number x there ok.nodes

  eight_at : (number : ℕ) (x : Node) → node_at w number ≡ Some x → HasEight x.eui
  eight_at number x there = (at_place NodeFits w.nodes number x there ok.fits).eui.0

  clean_at : {A : Type 0} (number : ℕ) (x : Node) (halted : A) (plan : Memory → Plan Memory A) → node_at w number ≡ Some x
      → ((m : Memory) → x.memory ≡ Some m → IsStationRanged m.station → StationIsTrue S (home number) m.station → PlanClean S (home number) m (plan m))
      → DidClean S (home number) x (acts x halted plan)
  clean_at number x halted plan there f = acts_clean S (home number) x halted plan (ranged_at number x there) (c.nodes number x there) f

  abbrev own_of : Node → coordinator_rules.CoordinatorIdentity
  own_of x = record { eui = x.eui; ciphers = ciphers }

  at_first : (number : ℕ) (x : Node) → number ≡ 0 → node_at w number ≡ Some x → node_at w 0 ≡ Some x
  at_first number x first there = ap (slice_get w.nodes) (sym first) ∙ there

  asked_clean : (number : ℕ) (x : Node) (A : Type 0) (halts : A) (plan : Memory → Plan Memory A) → node_at w number ≡ Some x
      → IsAsked ciphers w number x A halts plan → DidClean S (home number) x (acts x halts plan)
  asked_clean number x A halts plan there (AskRandom value are) = clean_at number x _ _ there (λ m here r t. random_clean S (home number) m r t value)
  asked_clean number x A halts plan there (AskJoin psk a ne pair to) = clean_at number x _ _ there
      (λ m here r t. join_clean S (home number) m r t (identity ciphers x psk) (owed.short number x there psk m (role_of x psk pair) here) a w.clock)
  asked_clean number x A halts plan there (AskLeave ne) = clean_at number x _ _ there
      (λ m here r t. let role = owed.roles number x ne there in
      leave_clean S (home number) m r t (identity ciphers x role.0) (owed.short number x there role.0 m role.1 here))
  asked_clean number x A halts plan there (AskRekey index key first low is) = clean_at number x _ _ there
      (λ m here r t. rekey_clean S (home number) m r t (own_of x) 0 (owed.speaks x (at_first number x first there) m here 0) index key (held key is.0 is.1))
  asked_clean number x A halts plan there (AskTurn index first low) = clean_at number x _ _ there
      (λ m here r t. activate_self_clean S (home number) m r t (own_of x) 0 (owed.speaks x (at_first number x first there) m here 0) index low)
  asked_clean number x A halts plan there (AskChallenge meter y first is) = clean_at number x _ _ there
      (λ m here r t. challenge_clean S (home number) m r t (own_of x) w.clock (owed.speaks x (at_first number x first there) m here w.clock) y.eui
      (eight_at meter y is.there))
  asked_clean number x A halts plan there (AskActivate meter y index first is low) = clean_at number x _ _ there
      (λ m here r t. activate_clean S (home number) m r t (own_of x) w.clock (owed.speaks x (at_first number x first there) m here w.clock) y.eui index)
  asked_clean number x A halts plan there (AskKick meter y first is) = clean_at number x _ _ there
      (λ m here r t. kick_clean S (home number) m r t (own_of x) 0 (owed.speaks x (at_first number x first there) m here 0) y.eui (eight_at meter y is.there))

  preset_clean : (number : ℕ) (x : Node) (plan : StationMemory → calls.Presetting) → node_at w number ≡ Some x → IsPreset plan
      → DidClean S (home number) x (acts x (Ok tt) (λ m. of_station m (plan m.station)))
  preset_clean number x plan there (OfCounter value low) = clean_at number x _ _ there (λ m here r t. counter_clean S (home number) m r t value)
  preset_clean number x plan there (OfNumber value low high) = clean_at number x _ _ there (λ m here r t. number_clean S (home number) m r t value high)

  read_as : {A B : Type 0} (number : ℕ) (x : Node) (reads : A → B) (d : NodeStep A) → DidClean S (home number) x d
      → DidClean S (home number) x (answering reads d)
  read_as number x reads d h = record { ranged = h.ranged; fits = h.fits; station = h.station; frames = h.frames; kept = h.kept }

  near_low : (a : ℕ) → IsAddressed w a → a < 0xFFFE
  near_low a at = address_low at.node a (good_at at.number at.node at.there) at.address

  -- one node did something
  ran_after : {A : Type 0} (number : ℕ) (x : Node) (d : NodeStep A) → node_at w number ≡ Some x → DidClean S (home number) x d
      → Now (world_after ciphers (running_world w) number d)
  ran_after number x d there did = after_at ciphers opens S home L before (running_world w) number x d (ran_at ciphers opens S home L before w c) there did

  set_after : {A : Type 0} (number : ℕ) (x : Node) (d : NodeStep A) → node_at w number ≡ Some x → DidClean S (home number) x d
      → Now (world_after ciphers (set_up w) number d)
  set_after number x d there did = after_at ciphers opens S home L before (set_up w) number x d (set_at ciphers opens S home L before w c) there did

  other_there : {A : Type 0} (number other : ℕ) (d : NodeStep A) (y : Node) → other ≢ number → node_at w other ≡ Some y
      → node_at (world_after ciphers (set_up w) number d) other ≡ Some y
  unfolding world_after
  other_there number other d y ne there = slice_get-set_other w.nodes number other d.node ne ∙ there

  -- # A node more

  fresh : (event : Event) (x : Node) → IsMade w event x → IsFresh S (home (length w.nodes)) x
  fresh event x (OfMeter eui psk some room new known long) =
      record { ranged = blank_ranged; station = blank_true S (home (length w.nodes)); none = λ n i some. omega arith }
  fresh event x (OfCoordinator eui key none known long) =
      let own : ℕ = home (length w.nodes) in
      let here : 0 ≡ own = sym owed.first ∙ sym (ap (λ (ns : List Node). home (length ns)) none) in
      let reads : IsReadable (first_grant key) =
      record { grant = record { index = omega arith; held = refl }; address = omega arith; key0 = held key long.0 long.1; key1 = none_held } in
      let did = acts_clean S own (blank_node Coordinator eui) (Ok tt) (λ m. coordinator_rules.begin m (first_grant key)) blank_ranged (blank_true S own)
      (λ m there r t. begin_clean S own m r t (first_grant key) reads here) in
      record { ranged = did.ranged; station = did.station; none = λ n i some. let k = did.kept n i some in omega arith }

  made_at : (event : Event) (x : Node) → IsMade w event x → Now (made_node w x).0
  made_at event x is =
      let f = fresh event x is in
      record {
        flights = c.flights;
        ranged = All-push NodeRanged w.nodes x c.ranged f.ranged;
        sent = c.sent;
        nodes = λ k y there. ⊎_elim (λ (h : slice_get w.nodes k ≡ Some y). c.nodes k y h)
            (λ (h : (x ≡ y) × (k ≡ length w.nodes)). subst (λ (n : ℕ). NodeTrue S (home n) y) (sym h.1)
            (subst (NodeTrue S (home (length w.nodes))) h.0 f.station)) (at_end w.nodes x k y there);
        places = record {
          at_most = λ n i some.
              let h = c.places.at_most n i some in
              let none = f.none n i some in
              let both = sum_by-append (λ (y : Node). node_keeps n i y.memory) w.nodes (x ∷ []) in
              let one = sum_by-cons (λ (y : Node). node_keeps n i y.memory) x [] in
              omega arith;
        };
      }

  -- # A send

  send_at : (from to : ℕ) (datagram : List ℕ) (x : Node) (a : ℕ) → node_at w from ≡ Some x → IsAddressedAt w to a
      → let d : NodeStep (Result SentHow SendRefusal) = acts x (Err sends.Halted) (λ m. of_station m (calls.send m.station a datagram (w.sends + 1) w.clock)) in
      ((s : Sending) → (sending ciphers w from to datagram (tag_of x) (answering sent_word d)).1.sent ≡ Some s → S (w.sends + 1) (sent_as home s))
      → Now (sending ciphers w from to datagram (tag_of x) (answering sent_word d)).0
  send_at from to datagram x a there target is_sent = at_of ciphers opens S home L before v rest places
    where
      d : NodeStep (Result SentHow SendRefusal)
      d = acts x (Err sends.Halted) (λ m. of_station m (calls.send m.station a datagram (w.sends + 1) w.clock))

      v : World
      v = (sending ciphers w from to datagram (tag_of x) (answering sent_word d)).0

      at_home : a ≡ home to
      at_home = true_address S (home to) target.node a (c.nodes to target.node target.there) target.address

      low : a < 0xFFFE
      low = address_low target.node a (good_at to target.node target.there) target.address

      ranged : DidRanged d
      ranged = acts_ranged x (Err sends.Halted) (λ m. of_station m (calls.send m.station a datagram (w.sends + 1) w.clock)) (ranged_at from x there)
          (λ m here r. send_ranged m r a datagram (w.sends + 1) w.clock low)

      after_of : (h : SentHow) → d.answer ≡ Ok h
          → (sending ciphers w from to datagram (tag_of x) (answering sent_word d)).1.sent
          ≡ Some (record { from = from; to = to; datagram = datagram; tag = tag_of x })
      after_of h e = ap (λ (b : Bool). (sent_if w from to datagram (tag_of x) b (node_outcome ciphers w from (answering sent_word d))).1.sent)
          (ap (λ r. is_taken (sent_word r)) e ∙ word_taken h)

      is_of : (h : SentHow) → d.answer ≡ Ok h → (m : Memory) → x.memory ≡ Some m
          → S (w.sends + 1) (record { origin = home from; to = a; octets = datagram; tag = m.station.next_tag })
      is_of h e m here =
          let tag : tag_of x ≡ m.station.next_tag = ap (λ (o : Option Memory). option_map_or (λ m. m.station.next_tag) o 0) here in
          subst (λ (k : ℕ). S (w.sends + 1) (record { origin = home from; to = a; octets = datagram; tag = k })) tag
          (subst (λ (k : ℕ). S (w.sends + 1) (record { origin = home from; to = k; octets = datagram; tag = tag_of x })) (sym at_home)
          (is_sent (record { from = from; to = to; datagram = datagram; tag = tag_of x }) (after_of h e)))

      did : SentDid S (home from) d
      did = sends_did S (home from) x a datagram (w.sends + 1) w.clock (ranged_at from x there) (c.nodes from x there) is_of

      after_so : Rest ciphers opens S home (world_after ciphers (running_world w) from (answering sent_word d))
      after_so = after_rest ciphers opens S home (running_world w) from x (answering sent_word d)
          (rest_of ciphers opens S home L before (running_world w) (ran_at ciphers opens S home L before w c)) there ranged.station ranged.frames did.station
          did.frames

      rest : Rest ciphers opens S home v
      rest = by_taken (is_taken (sent_word d.answer))
        where
          by_taken : (b : Bool) → Rest ciphers opens S home (sent_if w from to datagram (tag_of x) b (node_outcome ciphers w from (answering sent_word d))).0
          by_taken true = record { flights = after_so.flights; ranged = after_so.ranged; sent = after_so.sent; nodes = after_so.nodes }
          by_taken false = after_so

      places : IsInCustody ciphers (λ _ f. L f) v before
      places =
          send_in_custody ciphers (λ _ f. L f) opens w from to datagram x there a before c.places ranged.frames (all_fall ciphers opens S home L before w v)

  -- # Flights and time

  lost_place : (number : ℕ) (f : Flight) → flight_at w number ≡ Some f → slice_get w.flights (number - 1) ≡ Some f
  lost_place number f = by_number (number == 0)
    where
      by_number : (b : Bool) → (if b then None else slice_get w.flights (number - 1)) ≡ Some f → slice_get w.flights (number - 1) ≡ Some f
      by_number true e = absurd (no_some f e)
      by_number false e = e

  lost_at : (number : ℕ) (f : Flight) → slice_get w.flights (number - 1) ≡ Some f
      → Now (record (running_world w) { flights = slice_set w.flights (number - 1) (record f { lost = true }) })
  lost_at number f there =
      let g : Flight = record f { lost = true } in
      let is : IsFlight ciphers f = at_place (IsFlight ciphers) w.flights (number - 1) f there c.flights in
      let of : FlightIsOf ciphers S f = at_place (FlightIsOf ciphers S) w.flights (number - 1) f there c.sent in
      record {
        flights = All-set (IsFlight ciphers) w.flights (number - 1) g
            (record {
              sealed = λ key e. let s = is.sealed key e in
                  record { sealed_unit = s.sealed_unit; fits = s.fits; key_is = s.key_is; octets = s.octets; note = s.note };
              plain = is.plain;
            }) c.flights;
        ranged = c.ranged;
        sent = All-set (FlightIsOf ciphers S) w.flights (number - 1) g (record { unit = of.unit }) c.sent;
        nodes = c.nodes;
        places = record {
          at_most = λ n i some.
              let h = c.places.at_most n i some in
              let less : live_is ciphers L n i g ≤ live_is ciphers L n i f = live_less (L g) (L f) (flight_is ciphers n i f) (lost f) in
              let both : sum_by (live_is ciphers L n i) (slice_set w.flights (number - 1) g) + live_is ciphers L n i f
              ≡ sum_by (live_is ciphers L n i) w.flights + live_is ciphers L n i g = set_sum (live_is ciphers L n i) w.flights (number - 1) f g there in
              omega arith;
        };
      }

  ticked_at : (now : ℕ) (xs : List Node) (k : ℕ) (y : Node) → slice_get (map (ticked now) xs) k ≡ Some y
      → (x : Node) × (slice_get xs k ≡ Some x) × (ticked now x ≡ y)
  ticked_at now [] k y e = absurd (no_some y e)
  ticked_at now (x ∷ xs) zero y e = (x, refl, same_Some _ _ e)
  ticked_at now (x ∷ xs) (suc k) y e = ticked_at now xs k y e

  tick_at : (seconds : ℕ) → Now (record (running_world w) { clock = w.clock + seconds; nodes = map (ticked (w.clock + seconds)) w.nodes })
  tick_at seconds = record {
    flights = c.flights;
    ranged = All-map NodeRanged (ticked (w.clock + seconds)) w.nodes
        (All-weaker NodeRanged (λ x. NodeRanged (ticked (w.clock + seconds) x)) (ticked_ranged (w.clock + seconds)) w.nodes c.ranged);
    sent = c.sent;
    nodes = λ k y there. let p = ticked_at (w.clock + seconds) w.nodes k y there in
        subst (NodeTrue S (home k)) p.2 (ticked_true S (home k) (w.clock + seconds) p.0 (ranged_at k p.0 p.1) (c.nodes k p.0 p.1));
    places = tick_in_custody ciphers (λ _ f. L f) w seconds before c.places
        (all_fall ciphers opens S home L before w (record (running_world w) { clock = w.clock + seconds; nodes = map (ticked (w.clock + seconds)) w.nodes }));
  }

  -- # The workshop

  grant_reads : (x : Node) (cn : Node) (psk : Key) (g : Granted) → (number : ℕ) → node_at w number ≡ Some x → node_at w 0 ≡ Some cn → x.role ≡ Meter psk
      → (workshop cn x.eui psk).answer ≡ Ok g → IsReadable g
  grant_reads x cn psk g number hx hc role e =
      let fit = at_place NodeFits w.nodes number x hx ok.fits in
      let a = acts_answered cn orders.Halted orders.Store (λ m. coordinator_rules.depot m x.eui psk)
      (λ m. depot_failed ciphers fits (own_of cn) m x.eui psk fit.eui (fit.psk psk role)) g e in
      let good = good_at 0 cn hc in
      let kept : Left (IsKept Coordinator) cn.store.records (Some a.memory) = subst (λ o. Left (IsKept Coordinator) cn.store.records o) a.there
      (subst (λ r. Left (IsKept r) cn.store.records cn.memory) (ok.first cn hc) good.kept) in
      depot_grants a.memory x.eui psk g kept.station.range.ring kept.book.table.short a.is

  after_other : {A : Type 0} (u : World) (number other : ℕ) (d : NodeStep A) (y : Node) → other ≢ number → node_at u other ≡ Some y
      → node_at (world_after ciphers u number d) other ≡ Some y
  unfolding world_after
  after_other u number other d y apart there = slice_get-set_other u.nodes number other d.node apart ∙ there

  -- the grant of the workshop has the address that the book gives then
  grant_home : (number : ℕ) (x cn : Node) (psk : Key) (g : Granted) → number ≢ 0 → node_at w number ≡ Some x → node_at w 0 ≡ Some cn → x.role ≡ Meter psk
      → (workshop cn x.eui psk).answer ≡ Ok g
      → HomedAt home (world_after ciphers (world_after ciphers (set_up w) 0 (workshop cn x.eui psk)) number (acts x (Ok tt) (λ m. meters.provision m g)))
      → g.address ≡ home number
  grant_home number x cn psk g ne hx hc role e later =
      let plan : Memory → Plan Memory (Result Granted CoordinatorRefusal) = λ m. coordinator_rules.depot m x.eui psk in
      let d : NodeStep (Result Granted CoordinatorRefusal) = workshop cn x.eui psk in
      let p : NodeStep (Result (Unit {0}) RingRefusal) = acts x (Ok tt) (λ m. meters.provision m g) in
      let u : World = world_after ciphers (set_up w) 0 d in
      let fit = at_place NodeFits w.nodes number x hx ok.fits in
      let good = good_at 0 cn hc in
      let first : cn.role ≡ Coordinator = ok.first cn hc in
      let did = coordinator_acts cn (Err orders.Halted) plan first good
      (λ m sized. depot_ok ciphers fits (own_of cn) m sized x.eui psk fit.eui (fit.psk psk role)) in
      let a = acts_whole cn orders.Halted orders.Store plan (λ m. depot_failed ciphers fits (own_of cn) m x.eui psk fit.eui (fit.psk psk role)) g e in
      let kept : Left (IsKept Coordinator) d.node.store.records (Some (plan a.memory).memory) = subst (λ o. Left (IsKept Coordinator) d.node.store.records o)
      a.leaves (subst (λ r. Left (IsKept r) d.node.store.records d.node.memory) (did.role ∙ first) did.node.kept) in
      let there : node_at (world_after ciphers u number p) number ≡ Some p.node = after_here ciphers u number x p (other_there 0 number d x ne hx) in
      let here : node_at (world_after ciphers u number p) 0
      ≡ Some d.node = after_other u number 0 p d.node (λ z. ne (sym z)) (after_here ciphers (set_up w) 0 cn d hc) in
      let eui : p.node.eui ≡ x.eui = acts_eui x (Ok tt) (λ m. meters.provision m g) in
      let address : books.address_of (plan a.memory).memory.book x.eui ≡ Some g.address = depot_address a.memory x.eui psk g a.is in
      sym (later.at number p.node d.node (plan a.memory).memory.book g.address ne there here kept.book
      (subst (λ (z : Eui). books.address_of (plan a.memory).memory.book z ≡ Some g.address) (sym eui) address))

  -- # Every event

  abbrev pub Kept : Step → Type 0
  Kept (Ok r) = ((s : Sending) → r.1.sent ≡ Some s → S (w.sends + 1) (sent_as home s)) → Now r.0
  Kept (Err fault) = Unit {0}

  came_brought : (event : Event) (number : ℕ) (octets : List ℕ) → Comes w event number octets → IsBrought event
  came_brought event number octets (OfFlight flight n cost f e) = tt
  came_brought event number octets (OfScript n cost o) = tt

  pub event_at : (event : Event) (s : Step) → IsStep ciphers w event s → (IsBrought event → ⊥) → LaterHomed home s → Kept s
  event_at event s (Fails e fault) silent later = tt
  event_at event s (Makes e x is) silent later = λ sent. made_at e x is
  event_at event s (Rests e quiet) silent later = λ sent. ran_at ciphers opens S home L before w c
  event_at event s (Shows number x) silent later = λ sent. ran_at ciphers opens S home L before w c
  event_at event s (Acts e number x A halts plan reads there call word asked) silent later = λ sent. ran_after number x (answering reads (acts x halts plan))
      there (read_as number x reads (acts x halts plan) (asked_clean number x A halts plan there asked))
  event_at event s (BreaksLink number next x a there call) silent later = λ sent.
      let plan : Memory → Plan Memory Answer = λ m. changing answers.Broken (with_station (calls.broke a m.station) m) in
      ran_after number x (acts x answers.Halted plan) there
      (clean_at number x answers.Halted plan there (λ m here r t. broke_clean S (home number) m r t a answers.Broken))
  event_at event s (SendsFrom from to datagram x a there call target) silent later = send_at from to datagram x a there target
  event_at event s (AllowsMeter number y cn psk there call meter) silent later = λ sent.
      ran_after 0 cn (acts cn (Err orders.Halted) (λ m. coordinator_rules.allow m y.eui psk)) there
      (clean_at 0 cn _ _ there (λ m here r t. allow_clean S (home 0) m r t (own_of cn) 0 (owed.speaks cn there m here 0) y.eui psk (eight_at number y meter)))
  event_at event s (Sets e quiet number x plan there open_is is) silent later =
      λ sent. set_after number x (acts x (Ok tt) (λ m. of_station m (plan m.station))) there (preset_clean number x plan there is)
  event_at event s (SetsTwo e quiet a b cost x y p q hx hy apart open_is first second fresh near) silent later = λ sent.
      let low = near.low in
      let one = set_after a x (offered_near x q cost w.clock) hx (read_as a x (λ _. tt) _
      (clean_at a x (Ok tt) (λ m. of_station m (calls.preset_near m.station q cost w.clock)) hx
      (λ m here r t. near_clean S (home a) m r t q cost w.clock (near_low q near.second) (omega arith)))) in
      after_at ciphers opens S home L before (world_after ciphers (set_up w) a (offered_near x q cost w.clock)) b y (offered_near y p cost w.clock) one
      (other_there a b (offered_near x q cost w.clock) y apart hy)
      (read_as b y (λ _. tt) _ (clean_at b y (Ok tt) (λ m. of_station m (calls.preset_near m.station p cost w.clock)) hy
      (λ m here r t. near_clean S (home b) m r t p cost w.clock (near_low p near.first) (omega arith))))
  event_at event s (Provides number x cn psk g d ne open_is hx hc pair same is) silent later = λ sent.
      let role = role_of x psk pair in
      let answered : (workshop cn x.eui psk).answer ≡ Ok g = ap (λ (z : NodeStep (Result Granted CoordinatorRefusal)). z.answer) (sym same) ∙ is in
      let did : DidClean S (home 0) cn d = subst (λ (z : NodeStep (Result Granted CoordinatorRefusal)). DidClean S (home 0) cn z) (sym same)
      (clean_at 0 cn (Err orders.Halted) (λ m. coordinator_rules.depot m x.eui psk) hc
      (λ m here r t. depot_clean S (home 0) m r t (own_of cn) 0 (owed.speaks cn hc m here 0) x.eui psk (eight_at number x hx))) in
      after_at ciphers opens S home L before (world_after ciphers (set_up w) 0 d) number x (acts x (Ok tt) (λ m. meters.provision m g))
      (set_after 0 cn d hc did)
      (other_there 0 number d x ne hx)
      (clean_at number x (Ok tt) (λ m. meters.provision m g) hx (λ m here r t. provision_clean S (home number) m r t g
      (grant_reads x cn psk g number hx hc role answered) (grant_home number x cn psk g ne hx hc role answered
      (subst (λ (z : NodeStep (Result Granted CoordinatorRefusal)). HomedAt home
      (world_after ciphers (world_after ciphers (set_up w) 0 z) number (acts x (Ok tt) (λ m. meters.provision m g)))) same later))))
  event_at event s (TurnsDown e number x octets reason d there says comes same is) silent later = absurd (silent (came_brought e number octets comes))
  event_at event s (Hears e number x octets cost got there says comes low is) silent later = absurd (silent (came_brought e number octets comes))
  event_at event s (Loses number f there) silent later = λ sent. lost_at number f (lost_place number f there)
  event_at event s (Ticks seconds) silent later = λ sent. tick_at seconds
  event_at event s (Restarts number x there) silent later =
      λ sent. ran_after number x (restarts x) there (restart_clean S (home number) x (good_at number x there) (owed.homes number x there))
  event_at event s (Cuts number nth keeps_new x there) silent later = λ sent.
      ran_after number x (stays (record x { store = record x.store { cut = Some (record { nth = nth; keeps_new = keeps_new }) } }) answers.Set) there
      (record {
        ranged = ranged_at number x there;
        fits = All-nil IsSent;
        station = c.nodes number x there;
        frames = All-nil (SentIsOf S);
        kept = λ n i some. omega arith;
      })
