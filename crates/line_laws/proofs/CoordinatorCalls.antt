-- Every call of the coordinator, and accepting a frame, keep memory and records, and stay within the sizes.
use Rattle.line_laws.proofs.Planned.{planned_failed}
use Rattle.std.proofs.Common.{◌≡◌, Bool, true, false, None, ℕ, ◌≤◌, ◌<◌, ◌^◌, List, [], Option, Some, Result, Ok, Err, refl, sym, ap, ◌∙◌, subst, arith}
use Rattle.std.specs.Prelude.{if◌then◌else◌, ◌==◌, IfSome}
use Rattle.std.proofs.lemmas.List.Elements.{All-tail}
use Rattle.std.proofs.lemmas.Option.{same_Some}
use Rattle.group_keys.specs.KeyRing as ring
use Rattle.mesh_header.specs.declared.unit.Unit.TheVariants as units
use Rattle.loadng_messages.proofs.Readings.{message_spelled}
use Rattle.mesh_header.proofs.UnitOctets.{read_octets as unit_octets}
use Rattle.joining_messages.proofs.JoinOctets.{read_octets}
use Rattle.node_rules.proofs.NetworkOpens.{arrived_octets}
use Rattle.plc_base.specs.Keeper.{Records}
use Rattle.plc_base.specs.declared.address.Eui.{Eui}
use Rattle.plc_base.specs.declared.key.Key.{Key}
use Rattle.plc_base.specs.Grant.{Granted}
use Rattle.frame_counters.specs.PeerMarks as marks
use Rattle.joining_messages.specs.declared.message.JoinMessage.{JoinMessage}
use Rattle.joining_messages.specs.Reader.{join_in}
use Rattle.mesh_header.specs.Reader.{unit_in}
use Rattle.routing_set.specs.declared.rank.Rank.{Rank}
use Rattle.routing_set.specs.RoutingSet as routing
use Rattle.node_rules.specs.Accepted.{Accepted}
use Rattle.node_rules.specs.declared.heard.CoordinatorHeard.TheVariants as coordinator_heard
use Rattle.node_rules.specs.declared.refusal.FrameRefusal.TheVariants as frames
use Rattle.node_rules.specs.Ciphers.{Ciphers}
use Rattle.node_rules.specs.Frames.{arrived}
use Rattle.node_rules.specs.Memory.{StationMemory, Memory, Role, Coordinator}
use Rattle.node_rules.specs.Plans.{Plan, resting}
use Rattle.node_rules.specs.Acceptance.{Accepting, accept, marking}
use Rattle.node_rules.specs.Drafts.{Ends}
use Rattle.node_rules.specs.HearingRules as station_rules
use Rattle.node_rules.specs.HearingRules.{dropped}
use Rattle.node_rules.specs.MemoryDrafts.{Unread, unread}
use Rattle.line_laws.proofs.HeardOctets.{unread_octets}
use Rattle.node_rules.specs.MemoryDrafts.{in_memory}
use Rattle.node_rules.specs.Coordinators as coordinators
use Rattle.node_rules.specs.NodeSteps.{of_station}
use Rattle.line_laws.specs.Stores.{IsHeld, IsReadable, IsKept, HasEui, IsPair}
use Rattle.line_laws.specs.Sizes.{IsMemorySized}
use Rattle.line_laws.specs.Owed.{AreOctets, KeepsRanges}
use Rattle.line_laws.proofs.HeadsSaid.{head_ranges}
use Rattle.joining_messages.proofs.JoinRanges.{read_fits}
use Rattle.line_laws.proofs.KeptMemory.{leads_beside}
use Rattle.line_laws.proofs.StoreRanks.{EntryFits}
use Rattle.line_laws.proofs.StoreFold.{WordFits}
use Rattle.line_laws.proofs.StoreBook.{Rest, rest_lasts, station_leads}
use Rattle.line_laws.proofs.StoreMarks.{IsAdmitted, IsPlain, IsPlainCame, Accepts, Turned, Plain, Marked, accept_is, marks_lead}
use Rattle.line_laws.proofs.Planned.{Planned, planned_weaker}
use Rattle.line_laws.proofs.Made.{RingWord, Given, Offered}
use Rattle.line_laws.proofs.MemoryDraftForms.{AnyAnswer, HandedIn, MadeBy}
use Rattle.line_laws.proofs.CoordinatorForms.{HandsNothingUp, IsGranted, coordinator_is, allow_is, depot_is, rekey_is, activate_self_is, challenge_is}
use Rattle.line_laws.proofs.CoordinatorForms.{activate_is, kick_is}
use Rattle.line_laws.proofs.CallForms.{Nothing}
use Rattle.line_laws.proofs.Nodes.{PlanOk, plan_ok}
use Rattle.line_laws.proofs.MarkWrites.{away_leads}
use Rattle.line_laws.proofs.MarkNodes.{accept_marks}
use Rattle.line_laws.proofs.Frontiers.{marks_high}
use Rattle.line_laws.proofs.NodeCalls.{handed_same, RoutesFit, heard_given, call_given, heard_offers, call_offers, granted_keys, few_of, handed_kept}
use Rattle.line_laws.proofs.NodeCalls.{handed_within}

-- # The coordinator

-- the EUI of a joining message that is heard
pub heard_euis : (m : Memory) (got : Accepted) (cost note now : ℕ) → RoutesFit got → (u : Unread) (join : JoinMessage)
    → unread (station_rules.hear m.station got cost note now).answer ≡ Some u → join_in u.body ≡ Some join → HasEui join.eui
heard_euis m got cost note now routes u join e read =
    ((read_fits join u.body read).eui, (read_octets join u.body (unread_octets m.station got cost note now u routes.payload e) read).eui)

-- a pair key of a line
abbrev HasPair : Eui → Key → Type 0
HasPair eui psk = IsPair psk

-- what an order does to the coordinator's ring
abbrev Ordered : RingWord → Type 0
Ordered w = WordFits w

module _ (ciphers : Ciphers) (fits : KeepsRanges ciphers) (own : coordinators.CoordinatorIdentity) (m : Memory) (h : IsMemorySized m) where
  L : Granted → Type 0
  L granted = IsGranted m granted

  coordinator_ok : {H F : Type 0} (g : Given)
      → ((address : Option ℕ) (by origin : ℕ) (rank : Rank) → Offered g address by origin rank → EntryFits (routing.offered_entry origin rank by g.now))
      → (ends : Ends F) (K : Memory → H → Type 0) (N : H → Type 0)
      → ((n : Memory) (answer : H) → K n answer → (r : Records) → IsKept Coordinator m r → IsKept Coordinator n r)
      → ((n : Memory) (answer : H) → K n answer → IsMemorySized m → IsMemorySized n)
      → ((n : Memory) (answer : H) → K n answer → (n.station.counter ≡ m.station.counter) × (n.station.marks ≡ m.station.marks))
      → (p : Plan Memory (Result H F)) → Planned in_memory ends m K (MadeBy Ordered (IsGranted m) HasPair HasEui g m N) p → PlanOk Coordinator m p
  coordinator_ok g offers ends K N kept sized same p s = plan_ok Coordinator Ordered (IsGranted m) HasPair HasEui g m (λ w k. k) offers (λ eui k. k)
      (λ eui psk k. k) (λ b e change. refl) (granted_keys Coordinator m) ends K kept sized same p
      (planned_weaker p (λ n answer k. k) (few_of N m Ordered (IsGranted m) HasPair HasEui g) s) h

  order_ok : {H F : Type 0} (now : ℕ) (ends : Ends F) (p : Plan Memory (Result H F))
      → Planned in_memory ends m Nothing (MadeBy Ordered (IsGranted m) HasPair HasEui (call_given 0 0 now) m AnyAnswer) p → PlanOk Coordinator m p
  order_ok now ends p s = coordinator_ok (call_given 0 0 now) (call_offers 0 0 now) ends Nothing AnyAnswer (λ n answer k. absurd k) (λ n answer k. absurd k)
      (λ n answer k. absurd k) p s

  pub coordinator_hears_ok : (got : Accepted) (cost note now : ℕ) → RoutesFit got → PlanOk Coordinator m (coordinators.hear_coordinator own m got cost note now)
  coordinator_hears_ok got cost note now routes = coordinator_ok (heard_given got cost note now) (heard_offers got cost note now routes) dropped
      (HandedIn coordinator_heard.Station (heard_given got cost note now) m) HandsNothingUp
      (handed_kept Coordinator m h coordinator_heard.Station (heard_given got cost note now))
      (handed_within Coordinator m h coordinator_heard.Station (heard_given got cost note now))
      (handed_same m coordinator_heard.Station (heard_given got cost note now)) _
      (coordinator_is Ordered HasPair HasEui (heard_given got cost note now) own m (λ to there join said. omega arith) got refl
      (heard_euis m got cost note now routes))

  pub allow_ok : (eui : Eui) (psk : Key) → HasEui eui → HasPair eui psk → PlanOk Coordinator m (coordinators.allow m eui psk)
  allow_ok eui psk known pair =
      order_ok 0 coordinators.orders _ (allow_is Ordered HasPair HasEui (call_given 0 0 0) own m (λ to there join said. omega arith) eui psk known pair)

  pub depot_ok : (eui : Eui) (psk : Key) → HasEui eui → HasPair eui psk → PlanOk Coordinator m (coordinators.depot m eui psk)
  depot_ok eui psk known pair =
      order_ok 0 coordinators.orders _ (depot_is Ordered HasPair HasEui (call_given 0 0 0) own m (λ to there join said. omega arith) eui psk known pair)

  pub rekey_ok : (index : ℕ) (key : Key) → IsHeld (Some key) → PlanOk Coordinator m (coordinators.rekey m index key)
  rekey_ok index key held =
      order_ok 0 coordinators.orders _ (rekey_is Ordered HasPair HasEui (call_given 0 0 0) own m (λ to there join said. omega arith) index key held)

  pub activate_self_ok : (index : ℕ) → index ≤ 1 → PlanOk Coordinator m (coordinators.activate_self m index)
  activate_self_ok index low =
      order_ok 0 coordinators.orders _ (activate_self_is Ordered HasPair HasEui (call_given 0 0 0) own m (λ to there join said. omega arith) index low)

  pub challenge_ok : (eui : Eui) (now : ℕ) → HasEui eui → PlanOk Coordinator m (coordinators.challenge own.eui m eui now)
  challenge_ok eui now known =
      order_ok now coordinators.orders _ (challenge_is Ordered HasPair HasEui (call_given 0 0 now) own m (λ to there join said. omega arith) eui known)

  pub activate_ok : (eui : Eui) (index now : ℕ) → PlanOk Coordinator m (coordinators.activate m eui index now)
  activate_ok eui index now =
      order_ok now coordinators.orders _ (activate_is Ordered HasPair HasEui (call_given 0 0 now) own m (λ to there join said. omega arith) eui index)

  pub kick_ok : (eui : Eui) → HasEui eui → PlanOk Coordinator m (coordinators.kick m eui)
  kick_ok eui known = order_ok 0 coordinators.orders _ (kick_is Ordered HasPair HasEui (call_given 0 0 0) own m (λ to there join said. omega arith) eui known)

pub depot_failed : (ciphers : Ciphers) → KeepsRanges ciphers → (own : coordinators.CoordinatorIdentity) (m : Memory) (eui : Eui) (psk : Key) → HasEui eui
    → HasPair eui psk → (coordinators.depot m eui psk).failed ≡ Err coordinators.orders.store
depot_failed ciphers fits own m eui psk known pair =
    planned_failed _ (depot_is Ordered HasPair HasEui (call_given 0 0 0) own m (λ to there join said. omega arith) eui psk known pair)

-- # Accepting a frame

held_key_octets : (k : Option Key) (key : Key) → IsHeld k → k ≡ Some key → AreOctets key.0
held_key_octets None key h e = absurd (cc)
held_key_octets (Some k) key h e = subst (λ (x : Key). AreOctets x.0) (same_Some k key e) (All-tail (λ n. n < 256) 1 k.0 h.1)

-- the keys of a ring are octets
pub ring_key_octets : (r : ring.Ring) (index : ℕ) (key : Key) → IfSome r IsReadable → ring.key_in_ring r index ≡ Some key → AreOctets key.0
ring_key_octets None index key h e = absurd (cc)
ring_key_octets (Some g) index key h e = by_index (index == 0) e
  where
    by_index : (b : Bool) → (if b then g.key0 else g.key1) ≡ Some key → AreOctets key.0
    by_index true e = held_key_octets g.key0 key h.key0 e
    by_index false e = held_key_octets g.key1 key h.key1 e

module _ (ciphers : Ciphers) (fits : KeepsRanges ciphers) (octets : List ℕ) (are : AreOctets octets) where
  pub admitted_fits : (l : StationMemory) (from counter : ℕ) (got : Accepted) → IsAdmitted l (arrived ciphers octets) from counter got
      → (from < 0xFFFE) × (counter < 2 ^ 32)
  admitted_fits l from counter got a = head_ranges ciphers octets a.frame a.head.0 a.head.1 a.head.2 a.to from counter a.index are a.is a.head.3

  -- what a key of the ring opens
  admitted_octets : (l : StationMemory) → IfSome l.ring IsReadable → (from counter : ℕ) (got : Accepted)
      → (a : IsAdmitted l (arrived ciphers octets) from counter got) → AreOctets a.payload
  admitted_octets l reads from counter got a = fits.opened octets a.frame a.key a.payload are (ring_key_octets l.ring a.index a.key reads a.held) a.is a.opened

  -- the path of what is accepted sealed, and its payload
  admitted_routes : (l : StationMemory) → IfSome l.ring IsReadable → (from counter : ℕ) (got : Accepted)
      → IsAdmitted l (arrived ciphers octets) from counter got → RoutesFit got
  admitted_routes l reads from counter got a = record {
    payload = subst (λ (x : Accepted). AreOctets x.payload) (sym a.got_is) (admitted_octets l reads from counter got a);
    run = λ by all key code body message path unit read.
        let heard = unit_octets (units.Local code body) a.payload (admitted_octets l reads from counter got a)
        (ap (λ (x : Accepted). unit_in x.payload) (sym a.got_is) ∙ unit) in
        (message_spelled message body heard.1 read).0;
  }

  plain_routes : (got : Accepted) → IsPlainCame (arrived ciphers octets) got → RoutesFit got
  plain_routes got plain = record {
    payload = subst AreOctets (sym plain.payload) (arrived_octets ciphers octets plain.frame are plain.is);
    run = λ from all key code body message path unit read. absurd (subst IsPlain path plain.path);
  }

  accepting_ok : (role : Role) (m : Memory) (p : Accepting) → Accepts m.station (arrived ciphers octets) p → IsMemorySized m → PlanOk role m (of_station m p)
  unfolding resting marking
  accepting_ok role m p (Turned reason) h = record {
    leads = leads_beside (IsKept role) m m (λ r k. k);
    sized = h;
    few = omega arith;
    rises = λ fits. record { high = tt; with_own_number = omega arith };
    from = tt;
    marked = λ first. away_leads first m m [] tt refl;
  }
  accepting_ok role m p (Plain got plain) h = record {
    leads = leads_beside (IsKept role) m m (λ r k. k);
    sized = h;
    few = omega arith;
    rises = λ fits. record { high = tt; with_own_number = omega arith };
    from = tt;
    marked = λ first. away_leads first m m [] tt refl;
  }
  accepting_ok role m p (Marked from counter got a) h =
      let in_range = admitted_fits m.station from counter got a in
      record {
        leads = station_leads role m m.station (record m.station { marks = marks.kept_after m.station.marks from counter }) _
            (marks_lead (Rest role m) (rest_lasts role m) m.station from counter in_range.0 in_range.1 a.room);
        sized = record {
          station = record {
            reassemblies = h.station.reassemblies;
            waiting = record { bodies = h.station.waiting.bodies; blocks = h.station.waiting.blocks; datagrams = h.station.waiting.datagrams };
            loads = h.station.loads;
            tag = h.station.tag;
          };
          sessions = h.sessions;
          randoms = h.randoms;
        };
        few = omega arith;
        rises = λ fits. record { high = marks_high m.station.counter.limit m.station.marks from counter; with_own_number = omega arith };
        from = tt;
        marked = λ first. accept_marks first m from counter in_range.0 in_range.1 a.room;
      }

  pub accept_ok : (role : Role) (m : Memory) (own : Eui) → IsMemorySized m → PlanOk role m (of_station m (accept m.station own (arrived ciphers octets)))
  accept_ok role m own h = accepting_ok role m _ (accept_is m.station own (arrived ciphers octets)) h

  -- route messages of what is accepted are in range
  pub accepted_routes : (l : StationMemory) → IfSome l.ring IsReadable → (p : Accepting) (got : Accepted) → Accepts l (arrived ciphers octets) p
      → p.answer ≡ Ok got → RoutesFit got
  unfolding resting marking
  accepted_routes l reads p got (Turned reason) e = absurd (cc)
  accepted_routes l reads p got (Plain x plain) e = let same : x ≡ got = cc in subst RoutesFit same (plain_routes x plain)
  accepted_routes l reads p got (Marked from counter x a) e = let same : x ≡ got = cc in subst RoutesFit same (admitted_routes l reads from counter x a)

  -- the word of a failed write
  pub accept_failed : (l : StationMemory) (p : Accepting) → Accepts l (arrived ciphers octets) p → p.failed ≡ Err frames.Store
  unfolding resting marking
  accept_failed l p (Turned reason) = refl
  accept_failed l p (Plain x plain) = refl
  accept_failed l p (Marked from counter x a) = refl
