-- The account of ranks of every call of a node.
use Rattle.std.proofs.Common.{◌≡◌, inl, ℕ, ◌+◌, ◌<◌, Bool, true, false, List, length, Option, Some, None, Result, Ok, Err, refl, sym, subst, arith}
use Rattle.std.specs.Prelude.{is_some, if◌then◌else◌, nat_le}
use Rattle.std.specs.Option.{option_map_or}
use Rattle.std.proofs.lemmas.Option.{same_Some}
use Rattle.std.proofs.lemmas.List.Elements.{All-nil}
use Rattle.store_tables.specs.Writes.{puts_of}
use Rattle.store_tables.specs.SlotTables as slots
use Rattle.store_tables.proofs.SlotTables.{found}
use Rattle.plc_base.specs.declared.address.Eui.{Eui}
use Rattle.plc_base.specs.declared.key.Key.{Key}
use Rattle.plc_base.specs.declared.key.RandomOctets.{RandomOctets}
use Rattle.plc_base.specs.Grant.{Granted}
use Rattle.frame_counters.specs.PeerMarks as marks
use Rattle.frame_counters.proofs.Tables.{room_new}
use Rattle.node_rules.specs.declared.refusal.RingRefusal.TheVariants.{Store as RingStore}
use Rattle.routing_set.specs.declared.rank.Rank.{Rank}
use Rattle.routing_set.specs.RoutingSet as routing
use Rattle.node_rules.specs.Accepted.{Accepted}
use Rattle.node_rules.specs.declared.heard.Heard.{Heard}
use Rattle.node_rules.specs.declared.heard.MeterHeard.TheVariants as meter_heard
use Rattle.node_rules.specs.declared.heard.CoordinatorHeard.TheVariants as coordinator_heard
use Rattle.node_rules.specs.Frames.{Arrived}
use Rattle.node_rules.specs.Memory.{StationMemory, Memory, address_of}
use Rattle.node_rules.specs.Plans.{Plan, resting, within}
use Rattle.node_rules.specs.Acceptance.{Accepting, accept, marking}
use Rattle.node_rules.specs.Drafts.{Draft, Ends, alone, empty_draft, choose}
use Rattle.node_rules.specs.HearingRules.{dropped, hear}
use Rattle.node_rules.specs.MemoryDrafts.{in_memory, with_station, give_random, given_ends}
use Rattle.node_rules.specs.Calls as calls
use Rattle.node_rules.specs.Meters as meters
use Rattle.node_rules.specs.Coordinators as coordinators
use Rattle.node_rules.specs.RestartStates.{first_grant}
use Rattle.node_rules.specs.NodeSteps.{of_station}
use Rattle.node_rules.proofs.MemoryDraftShapes.{whole, reading}
use Rattle.line_laws.proofs.StoreMarks.{Accepts, Turned, Plain, Marked, accept_is}
use Rattle.line_laws.proofs.Planned.{Planned, Refuses, Keeps, Ended}
use Rattle.line_laws.proofs.Made.{RingWord, Install, Given, Offered, ByRequest, ByReply, ByItself, Made}
use Rattle.line_laws.proofs.MadeIn.{MadeIn, Station}
use Rattle.line_laws.proofs.HearingForms.{Handed, HandsUp, HandsOn, Gathers, Completes, hear_is}
use Rattle.line_laws.proofs.MemoryDraftForms.{AnyAnswer, HandedIn, ByStation, MadeBy, within_planned}
use Rattle.line_laws.proofs.MeterForms.{RingCause, ByPacket, IsTaken, meter_is, joins_is, leaves_is}
use Rattle.line_laws.proofs.CoordinatorForms.{IsGranted, coordinator_is, allow_is, depot_is, rekey_is, activate_self_is, challenge_is, activate_is, kick_is}
use Rattle.line_laws.proofs.CallForms.{Nothing, send_is, install_is, near_is, random_is}
use Rattle.line_laws.proofs.NodeCalls.{heard_given, call_given, no_some}
use Rattle.line_laws.proofs.StoreRanks.{EntryFits}
use Rattle.line_laws.proofs.RankAccount.{account_same, ended_account}
use Rattle.line_laws.proofs.RankWrites.{IsAway, AreAway, away_leads}
use Rattle.line_laws.proofs.RankFold.{IsAt, OfferFits, ended_leads}
use Rattle.line_laws.proofs.RankSaid.{FrameBacked}
use Rattle.line_laws.proofs.RankPlans.{PlanRanks, resting_ranks, planned_ranks}

abbrev NoGrant : Granted → Type 0
NoGrant granted = ⊥

abbrev NoPair : Eui → Key → Type 0
NoPair eui psk = ⊥

abbrev NoEui : Eui → Type 0
NoEui eui = ⊥

abbrev NoWord : RingWord → Type 0
NoWord w = ⊥

-- a call that is given no frame and no neighbour offers nothing
no_offers : (cost note now : ℕ) (address : Option ℕ) (by origin : ℕ) (rank : Rank) → Offered (call_given cost note now) address by origin rank → ⊥
no_offers cost note now address by origin rank (ByRequest own number c o dest here apart few came_so) = no_some _ came_so.came.is
no_offers cost note now address by origin rank (ByReply own number c o to here apart few came_so) = no_some _ came_so.came.is
no_offers cost note now address by origin rank (ByItself none) = no_some _ none

abbrev near_given : (to cost now : ℕ) → Given
near_given to cost now = record { got = None; cost = cost; note = 0; now = now; near = Some to }

-- the coordinator's words install nothing
NoInstall : RingWord → Type 0
NoInstall (Install granted) = ⊥
NoInstall w = Unit {0}

abbrev Anyone : Eui → Type 0
Anyone eui = Unit {0}

abbrev AnyPair : Eui → Key → Type 0
AnyPair eui psk = Unit {0}

module _ (At Own : ℕ → Type 0) (C : ℕ → ℕ → Rank → Type 0) (m : Memory) (here : IsAt At (address_of m.station)) where
  abbrev Ranked : {A : Type 0} → Plan Memory A → Type 0
  Ranked p = PlanRanks At Own C m p

  of_station_planned : {H F : Type 0} {ends : Ends F} (W : RingWord → Type 0) (g : Given) (D : Draft StationMemory → H → Type 0)
      → ((d : Draft StationMemory) (a : H) → D d a → Made W g (empty_draft m.station) d)
      → (p : Plan StationMemory (Result H F)) → Planned alone ends m.station Nothing D p
      → Planned in_memory ends m Nothing (λ d (a : H). MadeIn W NoGrant NoPair NoEui g m d) (of_station m p)
  unfolding resting
  of_station_planned W g D made p (Refuses reason) = Refuses reason
  of_station_planned W g D made p (Keeps n answer k) = absurd k
  of_station_planned W g D made p (Ended d answer done left) = Ended (whole m d) answer (Station d (made d answer done)) left

  -- a plan that is made of words without an offer
  quiet : {H F : Type 0} (ends : Ends F) (cost note now : ℕ) (W : RingWord → Type 0) (L : Granted → Type 0) (P : Eui → Key → Type 0) (E : Eui → Type 0)
      (D : Draft Memory → H → Type 0)
      → ((granted : Granted) → W (Install granted) → At granted.address)
      → ((d : Draft Memory) (answer : H) → D d answer → MadeIn W L P E (call_given cost note now) m d)
      → (p : Plan Memory (Result H F)) → Planned in_memory ends m Nothing D p → Ranked p
  quiet ends cost note now W L P E D installs made p s =
      planned_ranks At Own C W L P E (call_given cost note now) m installs
      (λ address at by origin rank o. absurd (no_offers cost note now address by origin rank o)) ends Nothing D (λ n answer k. absurd k) made p s here

  pub send_ranks : (to : ℕ) (datagram : List ℕ) (note now : ℕ) → Ranked (of_station m (calls.send m.station to datagram note now))
  unfolding NoInstall
  send_ranks to datagram note now = quiet calls.sending_ends 0 note now NoInstall NoGrant NoPair NoEui _ (λ granted none. absurd none) (λ d a x. x) _
      (of_station_planned NoInstall (call_given 0 note now) _ (λ d a x. x.0) _
      (send_is NoInstall (call_given 0 note now) m.station to datagram (λ some short. tt)))

  pub near_ranks : (to cost now : ℕ) → EntryFits (routing.offered_entry to (calls.near_rank cost) to now) → ¬ (Own to) → C to to (calls.near_rank cost)
      → Ranked (of_station m (calls.preset_near m.station to cost now))
  near_ranks to cost now fits apart cause = planned_ranks At Own C NoWord NoGrant NoPair NoEui (near_given to cost now) m (λ granted none. absurd none) offers
      calls.presetting_ends Nothing _ (λ n answer k. absurd k) (λ d a x. x) _
      (of_station_planned NoWord (near_given to cost now) _ (λ d a x. x.0) _ (near_is NoWord (near_given to cost now) m.station to refl)) here
    where
      offers : (address : Option ℕ) → IsAt At address → (by origin : ℕ) (rank : Rank) → Offered (near_given to cost now) address by origin rank
          → OfferFits Own C by origin rank now
      offers address at by origin rank (ByRequest own number c o dest there other few came_so) = absurd (no_some _ came_so.came.is)
      offers address at by origin rank (ByReply own number c o q there other few came_so) = absurd (no_some _ came_so.came.is)
      offers address at by origin rank (ByItself is) =
          let same : to ≡ by = same_Some _ _ is in
          subst (λ (k : ℕ). OfferFits Own C k k (calls.near_rank cost) now) same (record { fits = fits; apart = apart; cause = cause })

  -- a value of the workshop
  pub counter_ranks : (value : ℕ) → Ranked (of_station m (calls.preset_counter m.station value))
  unfolding resting
  counter_ranks value = record {
    leads = λ first. away_leads Own C first m.station.routing _ (record { floors = omega arith; ranks = inl (omega arith) }, tt);
    account = λ sound. account_same m.station.routing sound;
    backed = λ sound. All-nil (FrameBacked At m.station.routing);
    here = here;
  }

  pub number_ranks : (value : ℕ) → Ranked (of_station m (calls.preset_number m.station value))
  unfolding resting
  number_ranks value = record {
    leads = λ first. away_leads Own C first m.station.routing _ (record { floors = omega arith; ranks = inl (omega arith) }, tt);
    account = λ sound. account_same m.station.routing sound;
    backed = λ sound. All-nil (FrameBacked At m.station.routing);
    here = here;
  }

  pub broke_ranks : {A : Type 0} (next : ℕ) (answer : A) → Ranked (resting (with_station (calls.broke next m.station) m) answer answer)
  unfolding resting
  broke_ranks next answer = record {
    leads = λ first. ended_leads At Own C NoWord (call_given 0 0 0) (λ granted none. absurd none)
        (λ address at by origin rank o. absurd (no_offers 0 0 0 address by origin rank o)) first m.station.routing (routing.goes_by next);
    account = λ sound. ended_account m.station.routing (routing.goes_by next) sound;
    backed = λ sound. All-nil (FrameBacked At _);
    here = here;
  }

  -- a grant of the workshop
  pub provision_ranks : (granted : Granted) → At granted.address → Ranked (meters.provision m granted)
  provision_ranks granted at =
      quiet calls.ringing_ends 0 0 0 Is NoGrant NoPair NoEui _ (λ g e. subst (λ (w : RingWord). IsCoordinatorAddress w) (sym e) at) (λ d a x. x) _
      (of_station_planned Is (call_given 0 0 0) _ (λ d a x. x.0) _ (install_is Is (call_given 0 0 0) m.station granted refl))
    where
      Is : RingWord → Type 0
      Is w = w ≡ Install granted

      IsCoordinatorAddress : RingWord → Type 0
      IsCoordinatorAddress (Install g) = At g.address
      IsCoordinatorAddress w = Unit {0}

  pub begin_ranks : (key : Key) → At 0 → Ranked (coordinators.begin m (first_grant key))
  unfolding choose
  begin_ranks key at = by_ring (is_some m.station.ring)
    where
      by_ring : (b : Bool) → Ranked (if b then resting m (Ok tt) (Err RingStore)
          else within (λ l. with_station l m) (λ r. r) (calls.install m.station (first_grant key)))
      by_ring true = resting_ranks At Own C m m _ _ refl refl here
      by_ring false = provision_ranks (first_grant key) at

  pub random_ranks : (value : RandomOctets) → Ranked (give_random m value)
  random_ranks value = quiet given_ends 0 0 0 NoWord NoGrant NoPair NoEui _ (λ granted none. absurd none) (λ d a x. x.0) _
      (random_is NoWord NoGrant NoPair NoEui (call_given 0 0 0) m value)

  -- # A meter

  -- joining and leaving do not look at packets
  deaf : meters.Identity → meters.Identity
  deaf x = record x { ciphers = record x.ciphers { granted = λ psk peer packet. None } }

  deaf_installs : (g : Given) (x : meters.Identity) (granted : Granted) → RingCause g (deaf x) m (Install granted) → At granted.address
  unfolding deaf
  deaf_installs g x granted (ByPacket given taken) = absurd (no_some _ taken.is)

  pub join_ranks : (x : meters.Identity) (agent now : ℕ) → Ranked (meters.join x m agent now)
  unfolding deaf
  join_ranks x agent now = quiet meters.joining_ends 0 0 now (RingCause (call_given 0 0 now) (deaf x) m) NoGrant NoPair NoEui _
      (deaf_installs (call_given 0 0 now) x) (λ d a k. k.0) _ (joins_is NoGrant NoPair NoEui (call_given 0 0 now) (deaf x) m agent)

  pub leave_ranks : (x : meters.Identity) → Ranked (meters.leave m)
  unfolding deaf
  leave_ranks x = quiet meters.leaving_ends 0 0 0 (RingCause (call_given 0 0 0) (deaf x) m) NoGrant NoPair NoEui _ (deaf_installs (call_given 0 0 0) x)
      (λ d a k. k.0) _ (leaves_is NoGrant NoPair NoEui (call_given 0 0 0) (deaf x) m)

  -- what is gathered and handed up is beside ranks and ring
  handed_same : {H : Type 0} (word : Heard → H) (g : Given) (n : Memory) (answer : H) → HandedIn word g m n answer
      → (n.station.routing ≡ m.station.routing) × (n.station.ring ≡ m.station.ring)
  handed_same word g n answer (ByStation l a k) = by_station l a k
    where
      by_station : (l : StationMemory) (a : Heard) → Handed g m.station l a → (l.routing ≡ m.station.routing) × (l.ring ≡ m.station.ring)
      by_station l a (HandsUp by own mesh octets came there mine) = (refl, refl)
      by_station l a (HandsOn x none) = (refl, refl)
      by_station l a (Gathers by own mesh piece came there mine e) = (refl, refl)
      by_station l a (Completes by own mesh piece note octets came there mine e) = (refl, refl)

  module _ (got : Accepted) (cost note now : ℕ)
      (offers : (address : Option ℕ) → IsAt At address → (by origin : ℕ) (rank : Rank) → Offered (heard_given got cost note now) address by origin rank
      → OfferFits Own C by origin rank now) where
    -- what the line makes of a frame, whoever reads it
    pub hear_ranks : {H : Type 0} (word : Heard → H) → Ranked (within (λ l. with_station l m) (reading word) (hear m.station got cost note now))
    hear_ranks word = planned_ranks At Own C NoWord NoGrant NoPair NoEui (heard_given got cost note now) m (λ granted none. absurd none) offers dropped
        (HandedIn word (heard_given got cost note now) m) _
        (handed_same word (heard_given got cost note now)) (λ d a x. x.0) _
        (within_planned NoWord NoGrant NoPair NoEui (heard_given got cost note now) m AnyAnswer word _ (λ h none. tt)
        (hear_is NoWord (heard_given got cost note now) m.station got refl)) here

    pub meter_hears_ranks : (x : meters.Identity) → ((granted : Granted) → IsTaken (heard_given got cost note now) x m granted → At granted.address)
        → Ranked (meters.hear_meter x m got cost note now)
    meter_hears_ranks x grants = planned_ranks At Own C (RingCause (heard_given got cost note now) x m) NoGrant NoPair NoEui (heard_given got cost note now) m
        installs offers dropped (HandedIn meter_heard.Station (heard_given got cost note now) m) _
        (handed_same meter_heard.Station (heard_given got cost note now)) (λ d a k. k.0) _
        (meter_is NoGrant NoPair NoEui (heard_given got cost note now) x m got refl) here
      where
        installs : (granted : Granted) → RingCause (heard_given got cost note now) x m (Install granted) → At granted.address
        installs granted (ByPacket g taken) = grants granted taken

    pub coordinator_hears_ranks : (own : coordinators.CoordinatorIdentity) → Ranked (coordinators.hear_coordinator own m got cost note now)
    unfolding NoInstall
    coordinator_hears_ranks own = planned_ranks At Own C NoInstall (IsGranted m) AnyPair Anyone (heard_given got cost note now) m (λ granted none. absurd none)
        offers dropped (HandedIn coordinator_heard.Station (heard_given got cost note now) m) _
        (handed_same coordinator_heard.Station (heard_given got cost note now)) (λ d a k. k.0) _
        (coordinator_is NoInstall AnyPair Anyone (heard_given got cost note now) own m (λ to there join said. tt) got refl (λ u join e read. tt)) here

  -- # Orders

  module _ (own : coordinators.CoordinatorIdentity) where
    order : {H F : Type 0} (ends : Ends F) (now : ℕ) (p : Plan Memory (Result H F))
        → Planned in_memory ends m Nothing (MadeBy NoInstall (IsGranted m) AnyPair Anyone (call_given 0 0 now) m AnyAnswer) p → Ranked p
    unfolding NoInstall
    order ends now p s = quiet ends 0 0 now NoInstall (IsGranted m) AnyPair Anyone _ (λ granted none. absurd none) (λ d a k. k.0) p s

    pub allow_ranks : (eui : Eui) (psk : Key) → Ranked (coordinators.allow m eui psk)
    unfolding NoInstall
    allow_ranks eui psk = order coordinators.orders 0 _ (allow_is NoInstall AnyPair Anyone (call_given 0 0 0) own m (λ to there join said. tt) eui psk tt tt)

    pub depot_ranks : (eui : Eui) (psk : Key) → Ranked (coordinators.depot m eui psk)
    unfolding NoInstall
    depot_ranks eui psk = order coordinators.orders 0 _ (depot_is NoInstall AnyPair Anyone (call_given 0 0 0) own m (λ to there join said. tt) eui psk tt tt)

    pub rekey_ranks : (index : ℕ) (key : Key) → Ranked (coordinators.rekey m index key)
    unfolding NoInstall
    rekey_ranks index key = order coordinators.orders 0 _ (rekey_is NoInstall AnyPair Anyone (call_given 0 0 0) own m (λ to there join said. tt) index key tt)

    pub activate_self_ranks : (index : ℕ) → Ranked (coordinators.activate_self m index)
    unfolding NoInstall
    activate_self_ranks index =
        order coordinators.orders 0 _ (activate_self_is NoInstall AnyPair Anyone (call_given 0 0 0) own m (λ to there join said. tt) index tt)

    pub challenge_ranks : (eui : Eui) (now : ℕ) → Ranked (coordinators.challenge own.eui m eui now)
    unfolding NoInstall
    challenge_ranks eui now =
        order coordinators.orders now _ (challenge_is NoInstall AnyPair Anyone (call_given 0 0 now) own m (λ to there join said. tt) eui tt)

    pub activate_ranks : (eui : Eui) (index now : ℕ) → Ranked (coordinators.activate m eui index now)
    unfolding NoInstall
    activate_ranks eui index now =
        order coordinators.orders now _ (activate_is NoInstall AnyPair Anyone (call_given 0 0 now) own m (λ to there join said. tt) eui index)

    pub kick_ranks : (eui : Eui) → Ranked (coordinators.kick m eui)
    unfolding NoInstall
    kick_ranks eui = order coordinators.orders 0 _ (kick_is NoInstall AnyPair Anyone (call_given 0 0 0) own m (λ to there join said. tt) eui tt)

  -- # Accepting a frame

  mark_away : (place : ℕ) (octets : List ℕ) → place < 64 → IsAway (record { slot = 0x0100 + place; octets = octets })
  mark_away place octets low = record { floors = omega arith; ranks = inl (omega arith) }

  keep_away : (t : marks.Table) (from counter : ℕ) → slots.IsTable marks.peers t → marks.room_for t from counter ≡ Ok (tt {0})
      → AreAway (puts_of (marks.keep_write t from counter))
  keep_away t from counter table room = by_place (marks.place_of t from) refl
    where
      by_stored : (place : ℕ) (b : Bool) → place < 64
          → AreAway (puts_of (if b then None else Some (slots.entry_write marks.peers place (marks.peer_ahead from counter))))
      by_stored place true low = tt
      by_stored place false low = (mark_away place _ low, tt)

      by_place : (o : Option ℕ) → marks.place_of t from ≡ o
          → AreAway (puts_of (option_map_or (λ place. if nat_le counter (marks.peer_at t place).stored then None
          else Some (slots.entry_write marks.peers place (marks.peer_ahead from counter))) o
          (Some (slots.entry_write marks.peers (length t) (marks.peer_ahead from counter)))))
      by_place (Some place) at =
          let there = found marks.peers t from place (record { address = 0; mark = 0; stored = 0 }) at in
          let short = table.short in
          by_stored place (nat_le counter (marks.peer_at t place).stored) (omega arith)
      by_place None at = (mark_away (length t) _ (room_new t from counter table.short at room), tt)

  accepting_ranks : (a : Option Arrived) (p : Accepting) → Accepts m.station a p → slots.IsTable marks.peers m.station.marks → Ranked (of_station m p)
  unfolding resting marking
  accepting_ranks a p (Turned reason) table = resting_ranks At Own C m m _ _ refl refl here
  accepting_ranks a p (Plain got plain) table = resting_ranks At Own C m m _ _ refl refl here
  accepting_ranks a p (Marked from counter got x) table = record {
    leads = λ first. away_leads Own C first m.station.routing _ (keep_away m.station.marks from counter table x.room);
    account = λ sound. account_same m.station.routing sound;
    backed = λ sound. All-nil (FrameBacked At m.station.routing);
    here = here;
  }

  pub accept_ranks : (own : Eui) (a : Option Arrived) → slots.IsTable marks.peers m.station.marks → Ranked (of_station m (accept m.station own a))
  accept_ranks own a table = accepting_ranks a _ (accept_is m.station own a) table
