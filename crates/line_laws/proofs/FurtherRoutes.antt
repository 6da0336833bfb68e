-- Every event of a line with further reach keeps ranks and routes, unless it is forged: no stored rank falls, and valid routes lead nearer.
use Rattle.std.proofs.Common.{⊎_elim, inl, ◌≡◌, ◌≢◌, ℕ, Bool, true, false, List, [], ◌∷◌, ◌++◌, Option, Some, None, Result, Ok, Err}
use Rattle.std.proofs.Common.{refl, sym, ap, ◌∙◌, subst, arith}
use Rattle.std.specs.Prelude.{if◌then◌else◌, All, slice_get, slice_set}
use Rattle.std.specs.Option.{option_and_then}
use Rattle.std.proofs.lemmas.Bool.{cases_eq}
use Rattle.std.proofs.lemmas.List.Elements.{All-append, All-cons, All-nil, All-weaker}
use Rattle.std.proofs.lemmas.Option.{same_Some, none-some}
use Rattle.store_tables.proofs.SlotTables.{slice_get-set, slice_get-set_other}
use Rattle.routing_set.specs.declared.rank.Rank.{Rank}
use Rattle.pan_discovery.specs.Agents.{kth_of}
use Rattle.pan_discovery.specs.Messages.{IsDiscovery}
use Rattle.node_rules.specs.Accepted.{Accepted}
use Rattle.node_rules.specs.declared.refusal.FrameRefusal.{FrameRefusal}
use Rattle.node_rules.specs.declared.refusal.FrameRefusal.TheVariants as frames
use Rattle.node_rules.specs.Acceptance.{accept}
use Rattle.node_rules.specs.Ciphers.{network}
use Rattle.node_rules.specs.Drafts.{choose as choose_plan, refused}
use Rattle.node_rules.specs.Frames.{arrived}
use Rattle.node_rules.specs.Memory.{Memory, Node, address_of, node_address}
use Rattle.node_rules.specs.Meters as meters
use Rattle.node_rules.specs.NodeSteps.{NodeStep, acts, of_station, stays}
use Rattle.node_rules.specs.Plans.{Plan, resting}
use Rattle.reach_rules.specs.declared.refusal.ChooseRefusal.{ChooseRefusal}
use Rattle.reach_rules.specs.declared.refusal.ChooseRefusal.TheVariants as choices
use Rattle.reach_rules.specs.Beacons.{ChosenAgent, choose_agent, choosing_ends, joins_by}
use Rattle.reach_rules.specs.ReachingNodes.{Beside}
use Rattle.line_events.specs.declared.event.Answer.TheVariants as answers
use Rattle.line_events.specs.declared.event.Event.{Event}
use Rattle.line_rules.specs.Answers.{only}
use Rattle.line_events.specs.Events.{IsEvent}
use Rattle.line_rules.specs.Forgery.{accepting}
use Rattle.line_rules.specs.Further.{beside_at, discovery_flight, line_step, of_memory, reaches, with_beside}
use Rattle.line_rules.specs.Logs.{LogsKept}
use Rattle.line_rules.specs.Steps.{Step, identity, running_world, world_after}
use Rattle.line_rules.specs.Worlds.{World, Issued, Trace, node_at}
use Rattle.line_laws.specs.Keyed.{Keyed}
use Rattle.line_laws.specs.Later.{flown as flown_world}
use Rattle.line_laws.specs.Lines.{NodeOk, WorldOk}
use Rattle.line_laws.specs.Loops.{Later, stored}
use Rattle.line_laws.specs.Ranges.{NodeRanged, WorldRanged}
use Rattle.line_laws.specs.Ranked.{At, FlightBacked, Homes, IsNearer, IsPlain, Own, RoutingHolds, homes_of}
use Rattle.group_keys.specs.KeyBook as books
use Rattle.line_laws.proofs.AddressBook.{one_book}
use Rattle.line_laws.proofs.FurtherAddresses.{moved_addressed, moved_length}
use Rattle.line_laws.proofs.FurtherKeyed.{moved_keyed, old_keyed}
use Rattle.line_laws.proofs.Homes.{addressed, at_length}
use Rattle.line_laws.proofs.FurtherRanges.{choice_ranged, moved_ranged, one_speaks}
use Rattle.line_laws.proofs.FurtherSame.{OldStep, line_step_same, of_old}
use Rattle.line_laws.proofs.FurtherSeals.{IsOne, further_ranged, further_ranks}
use Rattle.line_laws.proofs.FurtherStepKinds.{After, Anew, Besides, Carries, Chooses, Flies, IsLineStepBy, Known, Moves, Opens, Stays, Turns, Unbelieves}
use Rattle.line_laws.proofs.FurtherStepKinds.{Unsends, moved_ok}
use Rattle.line_laws.proofs.Homed.{Addressed, DepotFits, HomesFit}
use Rattle.line_laws.proofs.LettersRead.{FrameRead, sent_read}
use Rattle.line_laws.proofs.OctetRuns.{WorldSpeaks}
use Rattle.line_laws.proofs.RangeFrames.{IsSent}
use Rattle.line_laws.proofs.RangePlans.{acts_ranged}
use Rattle.line_laws.proofs.RangeRuns.{calls_read, event_ranged}
use Rattle.line_laws.proofs.RankCalls.{accept_ranks, join_ranks}
use Rattle.line_laws.proofs.RankFold.{IsAt}
use Rattle.line_laws.proofs.RankPlans.{NodeRanks, PlanRanks, acts_ranks, resting_ranks, same_ranks}
use Rattle.line_laws.proofs.RankSaid.{FrameBacked}
use Rattle.line_laws.proofs.StorableGrants.{network_ranges}
use Rattle.line_laws.proofs.RouteNodes.{acts_memory}
use Rattle.line_laws.proofs.RouteParts.{From, Reached, flight_later, nearer_later, reach, after_step}
use Rattle.line_laws.proofs.RouteSteps.{Fails, StepHolds, Taken, counts_hold, event_holds}
use Rattle.line_laws.proofs.StepsOk.{ran_ok as steps_ran_ok}
use Rattle.line_laws.proofs.Worlds.{at_place, within as place_within}

-- a choice of an agent says of ranks what a joining says
chosen_ranks : (At Own : ℕ → Type 0) (C : ℕ → ℕ → Rank → Type 0) (m : Memory) (here : IsAt At (address_of m.station)) (b : Beside) (own : meters.Identity)
    (k now : ℕ) → PlanRanks At Own C m (with_beside b (λ y. choose_agent own y k now) m)
unfolding choose_plan resting
chosen_ranks At Own C m here b own k now = by_joined (meters.is_joined m)
  where
    none_ranks : (reason : ChooseRefusal) → PlanRanks At Own C m
        (of_memory (refused {H = ChosenAgent} choosing_ends (record { memory = m; beside = b }) reason))
    none_ranks reason = of_refused (Err reason) (Err choices.Halted)
      where
        of_refused : (answer failed : Result ChosenAgent ChooseRefusal) → PlanRanks At Own C m (resting m answer failed)
        of_refused answer failed = resting_ranks At Own C m m answer failed refl refl here

    by_agent : (o : Option (ℕ × ℕ)) → PlanRanks At Own C m (of_memory (joins_by own (record { memory = m; beside = b }) now o))
    by_agent None = none_ranks choices.NoBeacon
    by_agent (Some (address, total)) = let j = join_ranks At Own C m here own address now in
        record { leads = j.leads; account = j.account; backed = j.backed; here = j.here }

    by_joined : (t : Bool) → PlanRanks At Own C m
        (of_memory (if t then refused choosing_ends (record { memory = m; beside = b }) choices.AlreadyJoined else joins_by own
        (record { memory = m; beside = b }) now (kth_of b.scan.agents k)))
    by_joined true = none_ranks choices.AlreadyJoined
    by_joined false = by_agent (kth_of b.scan.agents k)

module _ (h : Homes) where
  -- the address that a node has is its home
  at_home : (v : World) (addressed : Addressed h v) (i : ℕ) (x : Node) (m : Memory) → node_at v i ≡ Some x → x.memory ≡ Some m
      → IsAt (At h i) (address_of m.station)
  at_home v addressed i x m there is = by_address (address_of m.station) refl
    where
      by_address : (o : Option ℕ) → address_of m.station ≡ o → IsAt (At h i) o
      by_address None e = tt
      by_address (Some a) e = addressed.home i x there a (ap (option_and_then (λ (n : Memory). address_of n.station)) is ∙ e)

  -- and that of a node from what its memory has
  from_memory : (i : ℕ) (y : Node) → ((n : Memory) → y.memory ≡ Some n → IsAt (At h i) (address_of n.station)) → (a : ℕ) → node_address y ≡ Some a
      → h i ≡ Some a
  from_memory i y f a e = by_memory y.memory refl e
    where
      by_address : (o : Option ℕ) → IsAt (At h i) o → o ≡ Some a → h i ≡ Some a
      by_address None k is = absurd (none-some a is)
      by_address (Some b) k is = k ∙ is

      by_memory : (o : Option Memory) → y.memory ≡ o → option_and_then (λ (n : Memory). address_of n.station) o ≡ Some a → h i ≡ Some a
      by_memory None there is = absurd (none-some a is)
      by_memory (Some n) there is = by_address (address_of n.station) (f n there) is

  after_addressed : {A : Type 0} (v : World) (number : ℕ) (x : Node) (d : NodeStep A) → node_at v number ≡ Some x
      → ((n : Memory) → d.node.memory ≡ Some n → IsAt (At h number) (address_of n.station)) → Addressed h v → Addressed h (world_after network v number d)
  unfolding world_after
  after_addressed v number x d there f addressed = record { home = home; apart = addressed.apart; low = addressed.low }
    where
      home : (i : ℕ) (y : Node) → slice_get (slice_set v.nodes number d.node) i ≡ Some y → (a : ℕ) → node_address y ≡ Some a → h i ≡ Some a
      home i y is a e = ⊎_elim
          (λ (same : i ≡ number).
          let this : d.node ≡ y = same_Some _ _ (sym (slice_get-set v.nodes number d.node (place_within v.nodes number x there))
          ∙ ap (slice_get (slice_set v.nodes number d.node)) (sym same) ∙ is) in
          ap h same ∙ from_memory number d.node f a (ap node_address this ∙ e))
          (λ (ne : i ≢ number). addressed.home i y (sym (slice_get-set_other v.nodes number i d.node ne) ∙ is) a e)
          (cases_eq i number)

  -- What is kept through moves, from the world b on.
  record Keeps (b v : World) : Type 0 where
    addressed : Addressed h v
    ranged : WorldRanged v
    reached : Reached network h b v

  -- what one node did
  after_keeps : {A : Type 0} (b v : World) (number : ℕ) (x : Node) (d : NodeStep A) → node_at v number ≡ Some x
      → NodeRanks (At h number) (Own h number) (IsNearer h v) x d.node d.frames → All IsSent d.frames → Reached network h b v
      → Reached network h b (world_after network v number d)
  after_keeps b v number x d there ranks sent r =
      reach network h v (world_after network v number d)
      (after_step network h v number x d there ranks (All-weaker IsSent (FrameRead network) sent_read d.frames sent))
      r

  -- nodes and homes as before
  same_addressed : (v u : World) → u.nodes ≡ v.nodes → Addressed h v → Addressed h u
  same_addressed v u e addressed = record {
    home = λ i y there a is. addressed.home i y (sym (ap (λ ns. slice_get ns i) e) ∙ there) a is;
    apart = addressed.apart;
    low = addressed.low;
  }

  moved_keeps : (b v u : World) → Moves IsOne IsDiscovery network v u → WorldOk v → v.running ≡ true → Keeps b v → Keeps b u
  moved_keeps b v u (Stays z) ok runs k = k
  moved_keeps b v u (Carries z number x A halted does there is) ok runs k =
      let good = at_place NodeOk v.nodes number x there ok.nodes in
      let ranks : (m : Memory) → x.memory ≡ Some m → PlanRanks (At h number) (Own h number) (IsNearer h v) m (does m) =
      λ m here. further_ranks m (At h number) (Own h number) (IsNearer h v) (does m) (is m here) (at_home v k.addressed number x m there here) in
      let did = acts_ranged x halted does (at_place NodeRanged v.nodes number x there k.ranged.nodes)
      (λ m here in_range. further_ranged m (does m) (is m here) in_range) in
      record {
        addressed = after_addressed v number x (acts x halted does) there (acts_memory (λ n. IsAt (At h number) (address_of n.station)) x halted does
            (λ m here. (ranks m here).here)) k.addressed;
        ranged = moved_ranged v _ (Carries v number x A halted does there is) k.ranged;
        reached = after_keeps b v number x (acts x halted does) there (acts_ranks (At h number) (Own h number) (IsNearer h v) x halted does good
            (λ m here kept. ranks m here)) did.frames k.reached;
      }
  moved_keeps b v u (Flies z number x frame there known) ok runs k = record {
    addressed = same_addressed v (flown_world number frame v) refl k.addressed;
    ranged = moved_ranged v _ (Flies v number x frame there known) k.ranged;
    reached = reach network h v (flown_world number frame v) (record {
      forward = forward;
      back = λ i y is. From y [] is (same_ranks (At h i) (Own h i) (IsNearer h v) y);
      flights = λ old. All-append (FlightBacked network h (flown_world number frame v)) v.flights (discovery_flight number frame ∷ [])
          (All-weaker (FlightBacked network h v) (FlightBacked network h (flown_world number frame v))
          (λ g s. flight_later network h v (flown_world number frame v) forward g s) v.flights old)
          (All-cons (FlightBacked network h (flown_world number frame v)) (discovery_flight number frame) [] (IsPlain refl)
          (All-nil (FlightBacked network h (flown_world number frame v))));
    }) k.reached;
  }
    where
      forward : (i : ℕ) (y : Node) → node_at v i ≡ Some y → Later (flown_world number frame v) i y
      forward i y is = record { node = y; there = is; above = λ dest. inl refl }
  moved_keeps b v u (Besides z on bs) ok runs k = record {
    addressed = same_addressed v (record v { checks_on = on; beside = bs }) refl k.addressed;
    ranged = record { nodes = k.ranged.nodes; flights = k.ranged.flights };
    reached = counts_hold network h v (record v { checks_on = on; beside = bs }) refl refl k.reached;
  }
  moved_keeps b v u (Turns z between y first rest) ok runs k =
      let m = moved_ok IsOne IsDiscovery network network_ranges v between first ok runs in
      moved_keeps b between u rest m.0 m.1 (moved_keeps b v between first ok runs k)

  -- where the flights are those of the world before
  unsent_reached : (w v u : World) → RoutingHolds network h w → u.nodes ≡ v.nodes → u.flights ≡ w.flights → Reached network h w v → Reached network h w u
  unsent_reached w v u good nodes flights r = record {
    holds = record {
      ranks = record {
        backed = subst (All (FlightBacked network h u)) (sym flights) (All-weaker (FlightBacked network h w) (FlightBacked network h u)
            (λ g s. flight_later network h w u later g s) w.flights good.ranks.backed);
        not_own = λ i y there dest own. r.holds.ranks.not_own i y (back i y there) dest own;
      };
      routes = record {
        routes = λ i y there dest next e.
            let g = r.holds.routes.routes i y (back i y there) dest next e in
            record { rank = g.rank; kept = g.kept; nearer = nearer_later network h v u on next dest g.rank g.nearer };
      };
    };
    later = later;
  }
    where
      back : (i : ℕ) (y : Node) → node_at u i ≡ Some y → node_at v i ≡ Some y
      back i y there = sym (ap (λ ns. slice_get ns i) nodes) ∙ there

      on : (i : ℕ) (y : Node) → node_at v i ≡ Some y → Later u i y
      on i y there = record { node = y; there = ap (λ ns. slice_get ns i) nodes ∙ there; above = λ dest. inl refl }

      later : (i : ℕ) (y : Node) → node_at w i ≡ Some y → Later u i y
      later i y there = let l = r.later i y there in record { node = l.node; there = ap (λ ns. slice_get ns i) nodes ∙ l.there; above = l.above }

-- # Events

module _ (h : Homes) (w : World) (ok : WorldOk w) (s : WorldSpeaks w) (r : WorldRanged w) (given : List Issued) (k : Keyed w given)
    (homes : HomesFit network h w) (good : RoutingHolds network h w) where
  start_here : Reached network h w w
  start_here = record { holds = good; later = λ i x there. record { node = x; there = there; above = λ dest. inl refl } }

  ran_reached : Reached network h w (running_world w)
  ran_reached = counts_hold network h w (running_world w) refl refl start_here

  good_at : (number : ℕ) (x : Node) → node_at w number ≡ Some x → NodeOk x
  good_at number x there = at_place NodeOk w.nodes number x there ok.nodes

  -- a node that accepted octets and does nothing more
  rests_reached : {A : Type 0} (answer : A) (number : ℕ) (x : Node) (octets : List ℕ) → node_at w number ≡ Some x
      → Reached network h w (world_after network (running_world w) number (stays (accepting network x octets).node answer))
  rests_reached answer number x octets there =
      let plan : Memory → Plan Memory (Result Accepted FrameRefusal) = λ m. of_station m (accept m.station x.eui (arrived network octets)) in
      let ranks = acts_ranks (At h number) (Own h number) (IsNearer h (running_world w)) x (Err frames.Halted) plan (good_at number x there)
      (λ m here kept. accept_ranks (At h number) (Own h number) (IsNearer h (running_world w)) m (at_home h w homes.addressed number x m there here) x.eui
      (arrived network octets) kept.station.range.marks) in
      after_keeps h w (running_world w) number x (stays (accepting network x octets).node answer) there
      (record {
        above = ranks.above;
        not_own = ranks.not_own;
        routes = ranks.routes;
        backed = All-nil (FrameBacked (At h number) (stored (accepting network x octets).node));
      }) (All-nil IsSent) ran_reached

  chosen_reached : (number k : ℕ) (x : Node) (psk : _) → node_at w number ≡ Some x
      → Reached network h w (world_after network (running_world w) number
      (reaches x (beside_at w number) (Err choices.Halted) (λ y. choose_agent (identity network x psk) y k w.clock)))
  chosen_reached number k x psk there =
      after_keeps h w (running_world w) number x (reaches x (beside_at w number) (Err choices.Halted) (λ y. choose_agent (identity network x psk) y k w.clock))
      there
      (acts_ranks (At h number) (Own h number) (IsNearer h (running_world w)) x (Err choices.Halted)
      (with_beside (beside_at w number) (λ y. choose_agent (identity network x psk) y k w.clock)) (good_at number x there)
      (λ m here kept. chosen_ranks (At h number) (Own h number) (IsNearer h (running_world w)) m (at_home h w homes.addressed number x m there here)
      (beside_at w number)
      (identity network x psk) k w.clock))
      (choice_ranged w ok s r number k x psk there).frames ran_reached

  -- the homes are those of the book after the event
  abbrev pub AreHomesOf : Step → Type 0
  AreHomesOf (Ok q) = (more : List Issued) × (l : Keyed q.0 more) × WorldOk q.0 × (h ≡ homes_of l.book q.0)
  AreHomesOf (Err fault) = Unit {0}

  same_homes : (b : books.Book) (v u : World) → u.nodes ≡ v.nodes → (i : ℕ) → homes_of b u i ≡ homes_of b v i
  unfolding homes_of
  same_homes b v u e i = rw e refl

  module _ (event : Event) (says : IsEvent event) (depot : DepotFits network h w event) where
    old_holds : (st : Step) → OldStep network w event st → StepHolds network h w st
    old_holds st old = of_old network w event (StepHolds network h w) (λ fault. Fails fault) (event_holds network network_ranges h w (calls_read w ok s r) ok
        s.flights homes good event says depot) st old

    reached_then : (q : World × Trace) → StepHolds network h w (Ok q) → q.1.happenings.forged ≡ false → Reached network h w q.0
    reached_then q (Taken z f) honest = f honest

    -- the homes fit the world that the event without further reach leads to
    addressed_then : (q : World × Trace) (v u : World) → OldStep network w event (Ok q) → WorldOk q.0 → q.0.running ≡ true
        → Moves IsOne IsDiscovery network q.0 v → q.1.happenings.forged ≡ false → u.nodes ≡ v.nodes
        → (more : List Issued) (l : Keyed u more) → WorldOk u → h ≡ homes_of l.book u → Addressed h q.0
    addressed_then q v u old fine runs moves honest nodes more l good_u is =
        let kq = old_keyed network network_ranges w ok s.flights given k event says q old honest in
        let kv = moved_keyed IsOne IsDiscovery network network_ranges q.0 v moves fine runs (given ++ q.1.issued) kq in
        let at_q : Addressed (homes_of kv.book v) q.0 = moved_addressed IsOne IsDiscovery network network_ranges q.0 v moves fine runs (given ++ q.1.issued)
        (given ++ q.1.issued) kq kv in
        let at_u : Addressed h u = subst (λ j. Addressed j u) (sym is) (addressed u more good_u l) in
        record {
          home = λ i x there a e.
              let inside = place_within q.0.nodes i x there in
              let same = moved_length IsOne IsDiscovery network network_ranges q.0 v moves in
              let c = at_length v.nodes 0 (omega arith) in
              let one : kv.book ≡ l.book = one_book kv.book l.book c.one.store.records (kv.coordinator c.one c.is).book_kept
              (l.coordinator c.one (ap (λ ns. slice_get ns 0) nodes ∙ c.is)).book_kept in
              ap (λ j. j i) is ∙ same_homes l.book v u nodes i ∙ ap (λ b. homes_of b v i) (sym one) ∙ at_q.home i x there a e;
          apart = at_u.apart;
          low = at_u.low;
        }

    old_keeps : (q : World × Trace) → OldStep network w event (Ok q) → q.1.happenings.forged ≡ false → Addressed h q.0 → Keeps h w q.0
    old_keeps q old honest fit = record {
      addressed = fit;
      ranged = event_ranged w ok s r event (Ok q) old.is honest;
      reached = reached_then q (old_holds (Ok q) old) honest;
    }

  pub line_holds_is : (event : Event) → IsEvent event → DepotFits network h w event → (st : Step) → IsLineStepBy (OldStep network w) IsOne IsDiscovery network w
      event st → AreHomesOf st → StepHolds network h w st
  line_holds_is event says depot st (Known e z old) are = old_holds event says depot st old
  line_holds_is event says depot st (Opens begun) are = Taken _ (λ honest. counts_hold network h w _ refl refl start_here)
  line_holds_is event says depot st (Anew e v t moves silent) are = Taken (v, t) (λ honest.
      (moved_keeps h w (running_world w) v moves (steps_ran_ok network network_ranges w ok s.flights) refl
      (record {
        addressed = same_addressed h w (running_world w) refl homes.addressed;
        ranged = record { nodes = r.nodes; flights = r.flights };
        reached = ran_reached;
      })).reached)
  line_holds_is event says depot st (After e q v t old fine runs moves same_words) are = Taken (v, t) (λ honest.
      let unforged = sym same_words.forged ∙ honest in
      (moved_keeps h w q.0 v moves fine runs (old_keeps event says depot q old unforged (addressed_then event says depot q v v old fine runs moves unforged refl
      are.0 are.1 are.2 are.3))).reached)
  line_holds_is event says depot st (Unsends e q v t old fine runs moves same_words) are = Taken _ (λ honest.
      let unforged = sym same_words.forged ∙ honest in
      unsent_reached h w v _ good refl refl (moved_keeps h w q.0 v moves fine runs
      (old_keeps event says depot q old unforged (addressed_then event says depot q v _ old fine runs moves unforged refl are.0 are.1 are.2
      are.3))).reached)
  line_holds_is event says depot st (Unbelieves e number x octets got there known comes is) are = Taken _ (λ honest.
      counts_hold network h (world_after network (running_world w) number (stays (accepting network x octets).node (only answers.Blacklisted))) _ refl refl
      (rests_reached (only answers.Blacklisted) number x octets there))
  line_holds_is event says depot st (Chooses number count x psk ne there pair) are = Taken _ (λ honest.
      counts_hold network h (world_after network (running_world w) number
      (reaches x (beside_at w number) (Err choices.Halted) (λ y. choose_agent (identity network x psk) y count w.clock))) _ refl refl
      (chosen_reached number count x psk there))

  pub line_holds : (event : Event) → IsEvent event → DepotFits network h w event → LogsKept w → AreHomesOf (line_step network w event)
      → StepHolds network h w (line_step network w event)
  line_holds event says depot logs are = line_holds_is event says depot (line_step network w event)
      (line_step_same IsOne IsDiscovery network network_ranges w ok s.flights logs (one_speaks w ok s r logs) event says) are
