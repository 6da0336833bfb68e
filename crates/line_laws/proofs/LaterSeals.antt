-- What a plan does that seals a command alone of code 03, 04 or 05: it takes a counter, and nothing else is kept or brought.
use Rattle.std.proofs.Common.{zero-le, ◌≡◌, ℕ, ◌+◌, ◌≤◌, Bool, true, false, [], ◌∷◌, ⊎_elim, Option, Some, None, Result, Ok, Err, refl, arith}
use Rattle.std.specs.Prelude.{All, IfSome, nat_lt, if◌then◌else◌}
use Rattle.std.specs.List.{sum_by}
use Rattle.std.specs.Option.{option_map, option_map_or}
use Rattle.std.proofs.lemmas.Bool.{ltb-true, ltb-false}
use Rattle.std.proofs.lemmas.List.Elements.{All-nil, All-cons}
use Rattle.std.proofs.lemmas.List.Sums.{sum_by-cons}
use Rattle.plc_base.specs.Grant.{Granted}
use Rattle.store_tables.specs.Writes.{puts_of}
use Rattle.plc_base.specs.declared.key.Key.{Key}
use Rattle.frame_counters.specs.SendCounter as counter
use Rattle.group_keys.specs.KeyBook as books
use Rattle.group_keys.specs.KeyRing as ring
use Rattle.mac_frames.specs.Grammar.{IsTarget}
use Rattle.mesh_header.specs.declared.unit.Unit.{Unit as MeshUnit}
use Rattle.mesh_header.specs.declared.unit.Unit.TheVariants as units
use Rattle.routing_set.specs.RoutingSet as routing
use Rattle.routing_set.specs.declared.rank.Rank.{Rank}
use Rattle.node_rules.specs.Drafts.{Ends, UnsealedUnit, alone, counters_left, empty_draft, goes, refused, sealed, sealed_by, sealing, sealing_key}
use Rattle.node_rules.specs.Frames.{Sent, Sealed}
use Rattle.node_rules.specs.Laws.{IsWhole, IsCutOff}
use Rattle.node_rules.specs.Memory.{Memory, Role, Coordinator, Node, address_of}
use Rattle.node_rules.specs.MemoryDrafts.{with_station}
use Rattle.node_rules.specs.NodeSteps.{acts, left_by, of_station, stays}
use Rattle.node_rules.specs.Plans.{Plan, carry_out, resting}
use Rattle.node_rules.proofs.FailedWrites.{clean}
use Rattle.line_laws.specs.Custody.{content_is, sent_is, weigh}
use Rattle.line_laws.specs.Later.{IsBeside, MayBeSealed, seals}
use Rattle.line_laws.specs.SealedUnits.{GoesToOne, IsRoute}
use Rattle.line_laws.specs.Ranges.{IsOut, IsStationRanged}
use Rattle.line_laws.specs.InCustody.{StationIsTrue}
use Rattle.line_laws.specs.Ranked.{UnitBacked, IsOther}
use Rattle.line_laws.specs.Sends.{SentAs, UnitIsOf}
use Rattle.line_laws.specs.Sizes.{IsMemorySized}
use Rattle.line_laws.specs.Stores.{IsReadable}
use Rattle.line_laws.proofs.AddressBook.{Grown, station_grown}
use Rattle.line_laws.proofs.AddressPuts as rings
use Rattle.line_laws.proofs.AddressPuts.{RingWrites}
use Rattle.line_laws.proofs.Beside.{low_when}
use Rattle.line_laws.proofs.CustodyCalls.{zero_weight}
use Rattle.line_laws.proofs.CustodyKeeps.{PlanClean}
use Rattle.line_laws.proofs.CustodyTrue.{SentIsOf}
use Rattle.line_laws.proofs.Frontiers.{reserve_high, sealed_numbered}
use Rattle.line_laws.proofs.IssueCalls.{Quietly}
use Rattle.line_laws.proofs.IssueWords.{Each}
use Rattle.line_laws.proofs.KeptMemory.{Leads, leads_beside}
use Rattle.line_laws.proofs.MarkWrites.{away_leads, reserve_away}
use Rattle.line_laws.proofs.Nodes.{PlanOk, sealed_few}
use Rattle.line_laws.proofs.OctetDrafts.{OutSpeaks, SentOctets, sealed_speak}
use Rattle.line_laws.proofs.RangeFrames.{IsSent, sealed_fit}
use Rattle.line_laws.proofs.RangePlans.{RangeOk}
use Rattle.line_laws.proofs.RankAccount.{account_same}
use Rattle.line_laws.proofs.RankFold as ranks
use Rattle.line_laws.proofs.RankFold.{IsAt}
use Rattle.line_laws.proofs.RankPlans.{PlanRanks, resting_ranks}
use Rattle.line_laws.proofs.RankSaid.{FrameBacked}
use Rattle.line_laws.proofs.RankWrites as rank_writes
use Rattle.line_laws.proofs.Senders.{sealed_from}
use Rattle.line_laws.proofs.NodesOk.{resting_ok}
use Rattle.line_laws.proofs.StoreBook.{Rest, rest_lasts, station_leads}
use Rattle.line_laws.proofs.StoreWords.{counter_leads}
use Rattle.line_laws.proofs.TagPuts as tag_puts
use Rattle.line_laws.proofs.TagPuts.{Away, away_so}

-- # The unit

pub no_route : (u : MeshUnit) → IsBeside u → IsRoute u
no_route (units.Local code body) h = λ e. absurd (omega arith)
no_route (units.Whole mesh octets) h = absurd h
no_route (units.Part mesh piece) h = absurd h
no_route (units.Carried mesh body) h = absurd h

pub goes_beside : (to : ℕ) (u : MeshUnit) → IsBeside u → GoesToOne to u
goes_beside to (units.Local code body) h = tt
goes_beside to (units.Whole mesh octets) h = absurd h
goes_beside to (units.Part mesh piece) h = absurd h
goes_beside to (units.Carried mesh body) h = absurd h

no_send : (S : ℕ → SentAs → Type 0) (u : MeshUnit) → IsBeside u → UnitIsOf S 0 u
no_send S (units.Local code body) h = tt
no_send S (units.Whole mesh octets) h = absurd h
no_send S (units.Part mesh piece) h = absurd h
no_send S (units.Carried mesh body) h = absurd h

no_rank : (At : ℕ → Type 0) (t : routing.Routing) (u : MeshUnit) → IsBeside u → UnitBacked At t u
no_rank At t (units.Local code body) h = IsOther code body (λ e. absurd (omega arith))
no_rank At t (units.Whole mesh octets) h = absurd h
no_rank At t (units.Part mesh piece) h = absurd h
no_rank At t (units.Carried mesh body) h = absurd h

no_weight : (n i : ℕ) (u : MeshUnit) → IsBeside u → weigh n 0 (content_is i u) ≤ 0
no_weight n i (units.Local code body) h = zero_weight n 0
no_weight n i (units.Whole mesh octets) h = absurd h
no_weight n i (units.Part mesh piece) h = absurd h
no_weight n i (units.Carried mesh body) h = absurd h

-- # The plan

module _ {E : Type 0} (ends : Ends E) (to : ℕ) (unit : MeshUnit) where
  abbrev pub one : UnsealedUnit
  one = record { to = to; unit = unit; note = 0 }

  abbrev pub plan : Memory → Plan Memory (Result (Unit {0}) E)
  plan m = of_station m (seals ends to unit m.station)

  -- where a counter is left
  abbrev pub goes_out : Memory → Plan Memory (Result (Unit {0}) E)
  goes_out m = record {
    answer = Ok tt;
    failed = Err ends.store;
    puts = puts_of (counter.reserve_write m.station.counter 1);
    memory = with_station (record m.station { counter = counter.reserved m.station.counter 1 }) m;
    frames = sealed_by m.station.ring m.station.counter.next (one ∷ []);
    made = [];
    opened = [];
  }

  pub by_room : (Q : Plan Memory (Result (Unit {0}) E) → Type 0) (m : Memory) → Q (resting m (Err ends.spent) (Err ends.store))
      → (1 ≤ counters_left m.station → Q (goes_out m)) → Q (plan m)
  unfolding sealed goes empty_draft resting
  by_room Q m rests leaves = by_test (nat_lt (counters_left m.station) 1) refl
    where
      by_test : (b : Bool) → nat_lt (counters_left m.station) 1 ≡ b
          → Q (of_station m (if b then refused ends m.station ends.spent else sealing alone ends (goes to unit 0 (empty_draft m.station)) tt))
      by_test true e = rests
      by_test false e = leaves (ltb-false _ _ e)

  pub goes_out_is : (m : Memory) → 1 ≤ counters_left m.station → plan m ≡ goes_out m
  unfolding sealed goes empty_draft resting
  goes_out_is m left = by_test (nat_lt (counters_left m.station) 1) refl
    where
      by_test : (b : Bool) → nat_lt (counters_left m.station) 1 ≡ b
          → of_station m (if b then refused ends m.station ends.spent else sealing alone ends (goes to unit 0 (empty_draft m.station)) tt) ≡ goes_out m
      by_test true e = absurd (let less = ltb-true _ _ e in omega arith)
      by_test false e = refl

  -- it makes no pair tag, and leaves all slots alone but that of the counter
  pub plan_makes : (m : Memory) → (plan m).made ≡ []
  unfolding resting
  plan_makes m = by_room (λ p. p.made ≡ []) m refl (λ left. refl)

  pub plan_away : (m : Memory) → Each Away (plan m).puts
  unfolding resting
  plan_away m = by_room (λ p. Each Away p.puts) m tt (λ left. tag_puts.counter_away Away away_so m.station.counter 1)

  plan_session : (m : Memory) → (plan m).memory.session ≡ m.session
  unfolding resting
  plan_session m = by_room (λ p. p.memory.session ≡ m.session) m refl (λ left. refl)

  plan_ring : (m : Memory) (S : ring.Ring → Type 0) → RingWrites S (plan m).puts
  unfolding resting
  plan_ring m S = by_room (λ p. RingWrites S p.puts) m tt (λ left. rings.counter_away S m.station.counter 1)

  plan_grown : (m : Memory) (V : books.Book → Type 0) → Leads (Grown V) m (plan m).puts (plan m).memory
  unfolding resting
  plan_grown m V = by_room (λ p. Leads (Grown V) m p.puts p.memory) m (leads_beside (Grown V) m m (λ r k. k)) (λ left.
      station_grown V m m.station (record m.station { counter = counter.reserved m.station.counter 1 }) _
      (low_when (Rest Coordinator m) (rest_lasts Coordinator m) _ _ _ (λ r k.
      let below = k.counter.below in
      let fits = k.range.counter in
      counter_leads (Rest Coordinator m) (rest_lasts Coordinator m) m.station 1 (omega arith) (omega arith))))

  pub plan_quietly : (m : Memory) → Quietly m (plan m)
  plan_quietly m = record { leads = plan_grown m; ring = λ S none here reads. plan_ring m S; session = plan_session m; made = plan_makes m }

  -- stores, sizes, marks and counters
  pub plan_ok : (role : Role) (m : Memory) → IsMemorySized m → PlanOk role m (plan m)
  unfolding resting
  plan_ok role m h = by_room (PlanOk role m) m (resting_ok role m h (Err ends.spent) (Err ends.store)) (λ left. record {
    leads = station_leads role m m.station (record m.station { counter = counter.reserved m.station.counter 1 }) _
        (low_when (Rest role m) (rest_lasts role m) _ _ _ (λ r k.
        let below = k.counter.below in
        let fits = k.range.counter in
        counter_leads (Rest role m) (rest_lasts role m) m.station 1 (omega arith) (omega arith)));
    sized = record {
      station = record {
        reassemblies = h.station.reassemblies;
        waiting = record { bodies = h.station.waiting.bodies; blocks = h.station.waiting.blocks; datagrams = h.station.waiting.datagrams };
        loads = h.station.loads;
        tag = h.station.tag;
      };
      sessions = h.sessions;
      randoms = h.randoms;
    };
    few = let few = sealed_few m.station.ring m.station.counter.next (one ∷ []) in omega arith;
    rises = λ fits. record {
      high = reserve_high m.station.counter 1 m.station.counter.limit (omega arith) fits;
      with_own_number = sealed_numbered m.station.ring m.station.counter.next (m.station.counter.next + 1) (one ∷ []) (omega arith);
    };
    from = sealed_from m.station.ring m.station.counter.next (one ∷ []);
    marked = λ first. away_leads first m (goes_out m).memory _ (reserve_away m.station.counter 1) refl;
  })

  module _ (target : IsTarget to) (may : MayBeSealed unit) where
    -- ranges
    outs : All IsOut (one ∷ [])
    outs = All-cons IsOut one []
        (record { to = target; unit = may.fit; route = no_route unit may.beside; one = goes_beside to unit may.beside }) (All-nil IsOut)

    pub plan_ranged : (m : Memory) → IsStationRanged m.station → RangeOk (plan m)
    unfolding resting
    plan_ranged m h = by_room RangeOk m (record { station = h; frames = All-nil IsSent }) (λ left. record {
      station = record { ring = h.ring; tag = h.tag; hops = h.hops; bodies = h.bodies; number = h.number };
      frames = sealed_fit m.station.ring m.station.counter.next (one ∷ []) h.ring left outs;
    })

    pub plan_octets : (m : Memory) → IfSome m.station.ring IsReadable → All SentOctets (plan m).frames
    unfolding resting
    plan_octets m reads = by_room (λ p. All SentOctets p.frames) m (All-nil SentOctets)
        (λ left. sealed_speak m.station.ring m.station.counter.next (one ∷ []) reads (All-cons OutSpeaks one [] may.octets (All-nil OutSpeaks)))

    -- sends and custody
    pub sealed_true : (S : ℕ → SentAs → Type 0) (r : ring.Ring) (first : ℕ) → All (SentIsOf S) (sealed_by r first (one ∷ []))
    sealed_true S None first = All-nil (SentIsOf S)
    sealed_true S (Some g) first = by_key (sealing_key g)
      where
        by_key : (key : Option Key) → All (SentIsOf S)
            (option_map_or (λ k. Sealed (record { to = to; from = g.address; counter = first; index = g.active; key = k; unit = unit; note = 0 }) ∷ []) key [])
        by_key None = All-nil (SentIsOf S)
        by_key (Some key) = All-cons (SentIsOf S) _ [] (no_send S unit may.beside) (All-nil (SentIsOf S))

    pub sealed_weighs : (n i : ℕ) (r : ring.Ring) (first : ℕ) → sum_by (sent_is n i) (sealed_by r first (one ∷ [])) ≤ 0
    sealed_weighs n i None first = zero-le
    sealed_weighs n i (Some g) first = by_key (sealing_key g)
      where
        by_key : (key : Option Key) → sum_by (sent_is n i) (option_map_or
            (λ k. Sealed (record { to = to; from = g.address; counter = first; index = g.active; key = k; unit = unit; note = 0 }) ∷ []) key []) ≤ 0
        by_key None = zero-le
        by_key (Some key) =
            let none = no_weight n i unit may.beside in
            rw (sum_by-cons (sent_is n i) (Sealed (record { to = to; from = g.address; counter = first; index = g.active; key = key; unit = unit; note = 0 }))
            []) (omega arith)

    pub plan_clean : (S : ℕ → SentAs → Type 0) (own : ℕ) (m : Memory) → IsStationRanged m.station → StationIsTrue S own m.station → PlanClean S own m (plan m)
    unfolding resting
    plan_clean S own m h is = by_room (PlanClean S own m) m
        (record { ranged = h; fits = All-nil IsSent; station = is; frames = All-nil (SentIsOf S); kept = λ n i some. omega arith }) (λ left. record {
          ranged = record { ring = h.ring; tag = h.tag; hops = h.hops; bodies = h.bodies; number = h.number };
          fits = sealed_fit m.station.ring m.station.counter.next (one ∷ []) h.ring left outs;
          station = record { address = is.address; bodies = is.bodies; held = is.held };
          frames = sealed_true S m.station.ring m.station.counter.next;
          kept = λ n i some. let none = sealed_weighs n i m.station.ring m.station.counter.next in omega arith;
        })

    -- ranks and routes
    module _ (At Own : ℕ → Type 0) (C : ℕ → ℕ → Rank → Type 0) where
      pub sealed_backed : (t : routing.Routing) (r : ring.Ring) (first : ℕ) → IsAt At (option_map (λ (g : Granted). g.address) r)
          → All (FrameBacked At t) (sealed_by r first (one ∷ []))
      sealed_backed t None first h = All-nil (FrameBacked At t)
      sealed_backed t (Some g) first h = by_key (sealing_key g)
        where
          by_key : (key : Option Key) → All (FrameBacked At t) (option_map_or
              (λ k. Sealed (record { to = to; from = g.address; counter = first; index = g.active; key = k; unit = unit; note = 0 }) ∷ []) key [])
          by_key None = All-nil (FrameBacked At t)
          by_key (Some key) = All-cons (FrameBacked At t) _ [] (h, no_rank At t unit may.beside) (All-nil (FrameBacked At t))

      pub plan_ranks : (m : Memory) → IsAt At (address_of m.station) → PlanRanks At Own C m (plan m)
      plan_ranks m h = by_room (PlanRanks At Own C m) m (resting_ranks At Own C m m (Err ends.spent) (Err ends.store) refl refl h) (λ left. record {
        leads = λ first. rank_writes.away_leads Own C first m.station.routing _ (ranks.counter_away m.station.counter 1);
        account = λ sound. account_same m.station.routing sound;
        backed = λ sound. sealed_backed m.station.routing m.station.ring m.station.counter.next h;
        here = h;
      })

-- # What is sent

-- of all that a plan sends, and so of what the node sends that carries it out
pub acts_send : {A : Type 0} (P : Sent → Type 0) (x : Node) (halted : A) (plan : Memory → Plan Memory A)
    → ((m : Memory) → x.memory ≡ Some m → All P (plan m).frames) → All P (acts x halted plan).frames
unfolding acts
acts_send {A = A} P x halted plan f = by_memory x.memory refl
  where
    by_memory : (o : Option Memory) → x.memory ≡ o
        → All P (option_map_or (λ m. left_by x (carry_out x.store.records x.store.cut (plan m))) o (stays x halted)).frames
    by_memory None e = All-nil P
    by_memory (Some m) e = ⊎_elim
        (λ (w : IsWhole x.store.records x.store.cut (plan m) (carry_out x.store.records x.store.cut (plan m))). rw w.frames (f m e))
        (λ (c : IsCutOff x.store.records x.store.cut (plan m) (carry_out x.store.records x.store.cut (plan m))). rw c.frames (All-nil P))
        (clean x.store.records x.store.cut (plan m))
