-- A world in which a node seals a command alone of code 03, 04 or 05 holds as the one before.
use Rattle.std.proofs.Common.{zero-le, inl, append-nil, ◌≡◌, ◌≢◌, ⊎_elim, ℕ, ◌≤◌, ◌<◌, true, false, List, [], ◌∷◌, ◌++◌, length, get_or, Option, Some, None}
use Rattle.std.proofs.Common.{Result, Err, refl, sym, ap, ◌∙◌, subst, arith}
use Rattle.std.specs.Prelude.{All, slice_get, slice_set}
use Rattle.std.specs.Option.{option_and_then}
use Rattle.std.proofs.lemmas.Bool.{cases_eq}
use Rattle.std.proofs.lemmas.List.{length-set}
use Rattle.std.proofs.Math.Seq.{drop-length}
use Rattle.std.proofs.lemmas.List.Sums.{sum_by-cons}
use Rattle.plc_base.specs.declared.address.Eui.{Eui}
use Rattle.std.proofs.lemmas.List.Elements.{All-nil, All-cons, All-append, All-map, All-set, All-weaker}
use Rattle.std.proofs.lemmas.Option.{same_Some}
use Rattle.store_tables.proofs.SlotTables.{slice_get-set, slice_get-set_other}
use Rattle.group_keys.specs.KeyBook as books
use Rattle.mac_frames.specs.Grammar.{IsTarget}
use Rattle.mesh_header.specs.declared.unit.Unit.{Unit as MeshUnit}
use Rattle.node_rules.specs.Ciphers.{network}
use Rattle.node_rules.specs.Drafts.{Ends}
use Rattle.node_rules.specs.Frames.{Sent, Sealed, Up, Down, spelled}
use Rattle.node_rules.specs.Memory.{Memory, Node, address_of}
use Rattle.node_rules.specs.NodeSteps.{NodeStep}
use Rattle.node_rules.specs.Plans.{Plan}
use Rattle.line_rules.specs.Laws.{KeepsFlights}
use Rattle.line_rules.specs.Nonces.{HasSender, IsSpelled}
use Rattle.line_rules.specs.Steps.{flight_by, flights_of, running_world, world_after}
use Rattle.line_rules.specs.Worlds.{World, Flight, Issued, Pairing, Sending, node_at}
use Rattle.line_events.specs.declared.happenings.Handed.{Handed}
use Rattle.line_laws.specs.Agreed.{Confirmed}
use Rattle.line_laws.specs.InCustody.{Custody, SentUnder}
use Rattle.line_laws.specs.Custody.{sent_is}
use Rattle.line_laws.specs.Keyed.{CoordinatorOk, Keyed}
use Rattle.line_laws.specs.Later.{GoesOn, Holds, IsOfLog, MayBeSealed, PlainKeeps, RunningKeeps, SealingKeeps, StoringKeeps, seals_at, sends_plain, stores}
use Rattle.line_laws.specs.Later.{stores_at}
use Rattle.plc_base.specs.Keeper.{Write}
use Rattle.line_laws.specs.Later.{Keeps}
use Rattle.node_rules.specs.NodeSteps.{acts}
use Rattle.line_laws.proofs.FurtherForms.{AnyUnits, IsFurther, further_ok}
use Rattle.line_laws.proofs.FurtherSeals.{IsOne, further_away, further_clean, further_makes, further_octets, further_quietly, further_ranged, further_ranks}
use Rattle.line_laws.proofs.IssueWords.{Each}
use Rattle.line_laws.proofs.LaterStores.{log_away, log_ranks, stores_ok, stores_quietly}
use Rattle.line_laws.proofs.RankAccount.{account_same}
use Rattle.line_laws.proofs.RankWrites as rank_writes
use Rattle.line_laws.specs.SealedUnits.{IsFlight, IsPlainFrame}
use Rattle.line_laws.specs.Lines.{FlightFits, NodeOk, WorldOk, frontier}
use Rattle.line_laws.specs.Live.{book_of, live, marks_of}
use Rattle.line_laws.specs.Loops.{stored}
use Rattle.line_laws.specs.Owed.{AreOctets}
use Rattle.line_laws.specs.Places.{LiveFalls}
use Rattle.line_laws.specs.Ranges.{NodeRanged, WorldRanged}
use Rattle.line_laws.specs.Ranked.{At, Own, IsNearer, RoutingHolds, homes_of}
use Rattle.line_laws.specs.Sends.{SentAs}
use Rattle.line_laws.specs.Shut.{BookShut, ShutAt}
use Rattle.line_laws.specs.Sizes.{IsMemorySized}
use Rattle.line_laws.specs.Tags.{TagOf, TagsOk}
use Rattle.line_laws.proofs.AddressBook.{Grows}
use Rattle.line_laws.proofs.AgreeSteps.{acts_nothing, after_nothing}
use Rattle.line_laws.proofs.BookGrowth.{BookGrows, Goes, quiet_grows, self_goes, goes_after}
use Rattle.line_laws.proofs.CustodyKeeps.{DidClean, acts_clean}
use Rattle.line_laws.proofs.CustodySteps.{falls_on, ran_at, after_at}
use Rattle.line_laws.proofs.FlightFolds.{address_low, after_senders, new_addresses}
use Rattle.line_laws.proofs.HeadsSaid.{spelled_well}
use Rattle.line_laws.proofs.Homed as homed
use Rattle.line_laws.proofs.Homes.{addressed, at_length, homes_grow}
use Rattle.line_laws.proofs.CustodyTrue.{SentIsOf}
use Rattle.line_laws.proofs.Frontiers.{Numbered, same_low}
use Rattle.line_laws.proofs.IssueCalls.{Quietly}
use Rattle.line_laws.proofs.IssueSteps.{quiet_after}
use Rattle.line_laws.proofs.IssueWorlds.{after_coordinator, after_meter}
use Rattle.line_laws.proofs.MarkOrder.{raised_same}
use Rattle.line_laws.proofs.RankSaid.{FrameBacked}
use Rattle.line_laws.proofs.RouteSteps.{counts_hold}
use Rattle.line_laws.proofs.Senders.{AreFrom, node_ring}
use Rattle.line_laws.proofs.ShutSteps.{quiet_shut, after_shut}
use Rattle.line_laws.proofs.LaterSeals.{acts_send, plan, plan_away, plan_clean, plan_makes, plan_octets, plan_ok, plan_quietly, plan_ranged, plan_ranks}
use Rattle.node_rules.proofs.NetworkOpens.{network_opens_again}
use Rattle.line_laws.proofs.LettersRead.{FrameRead, sent_read}
use Rattle.line_laws.proofs.LiveRuns.{none_falls, some_book}
use Rattle.line_laws.proofs.LoopRuns.{grow_homes}
use Rattle.line_laws.proofs.MarkSteps.{Follows, marks_rise, of_did, same_follows, after_follows, after_nodes}
use Rattle.line_laws.proofs.Nodes.{DidOk, acts_ok, ring_readable}
use Rattle.line_laws.proofs.NonceRuns.{later_homes}
use Rattle.line_laws.proofs.OctetDrafts.{SentOctets}
use Rattle.line_laws.proofs.RangeFrames.{IsSent}
use Rattle.line_laws.proofs.RangePlans.{DidRanged, acts_ranged, did_flights}
use Rattle.line_laws.proofs.RankFold.{IsAt}
use Rattle.line_laws.proofs.RankPlans.{NodeRanks, acts_ranks, same_ranks}
use Rattle.line_laws.proofs.StorableGrants.{network_ranges}
use Rattle.line_laws.proofs.RouteParts.{StationStep, step_holds, after_step}
use Rattle.line_laws.proofs.TagRuns.{TagStays, acts_stays}
use Rattle.line_laws.proofs.Worlds.{at_place, counts_ok, ok_after, within}

-- flights stay where more come after them
keeps_more : (fs gs : List Flight) → KeepsFlights fs (fs ++ gs)
keeps_more [] gs = tt
keeps_more (f ∷ fs) gs = (record { from = refl; octets = refl; key = refl; note = refl; lost = λ e. e }, keeps_more fs gs)

not_both : (w : World) → w.running ≡ true → w.running ≡ false → ⊥
not_both w e f = cc (e, f)

module _ (given : List Issued) (sent : List Sending) (taken : List Pairing) (all : List Sending) (home : ℕ → ℕ) (ups : List Handed) (w : World)
    (h : Holds given sent taken all home ups w) where
  abbrev S : ℕ → SentAs → Type 0
  S = SentUnder home all

  abbrev old_homes : homed.Homes
  old_homes = homes_of h.keyed.book w

  good_at : (number : ℕ) (x : Node) → node_at w number ≡ Some x → NodeOk x
  good_at number x there = at_place NodeOk w.nodes number x there h.line.nodes

  -- What a node did that has only sent a frame beside: each account of it.
  record SentBeside (number : ℕ) (x : Node) {A : Type 0} (d : NodeStep A) : Type 0 where
    did : DidOk x d
    ranged : DidRanged d
    clean : DidClean S (home number) x d
    octets : All SentOctets d.frames
    stays : TagStays x d.node
    keyed : Keyed (world_after network w number d) given
    made : d.made ≡ []
    book : number ≡ 0 → BookGrows network network_ranges w h.line h.octets given h.keyed d.node
    shut : (eui : Eui) → ShutAt eui w → number ≡ 0 → BookShut eui d.node
    ranks : NodeRanks (At old_homes number) (Own old_homes number) (IsNearer old_homes w) x d.node d.frames

  -- # What nodes do

  -- a node that seals a unit
  seals_beside : {E : Type 0} (ends : Ends E) (halted : E) (to : ℕ) (unit : MeshUnit) → IsTarget to → MayBeSealed unit → (number : ℕ) (x : Node)
      → node_at w number ≡ Some x → SentBeside number x (seals_at ends halted to unit x)
  seals_beside {E = E} ends halted to unit target may number x there = record {
    did = acts_ok x (Err halted) does good (λ m here kept sized. plan_ok ends to unit x.role m sized);
    ranged = acts_ranged x (Err halted) does ranged (λ m here k. plan_ranged ends to unit target may m k);
    clean = acts_clean S (home number) x (Err halted) does ranged (h.custody.nodes number x there)
        (λ m here k is. plan_clean ends to unit target may S (home number) m k is);
    octets = acts_send SentOctets x (Err halted) does (λ m here. plan_octets ends to unit target may m (ring_readable x m good here));
    stays = acts_stays x (Err halted) does (λ m. plan_away ends to unit m);
    keyed = quiet_after network network_ranges w given h.keyed number x there good (Err halted) does quietly;
    made = acts_nothing x (Err halted) does (λ m here. plan_makes ends to unit m);
    book = λ first. quiet_grows network network_ranges w h.line h.octets given h.keyed number x (Err halted) does first there quietly;
    shut = λ eui out. quiet_shut eui network network_ranges w h.line h.octets out number x (Err halted) does there quietly;
    ranks = acts_ranks (At old_homes number) (Own old_homes number) (IsNearer old_homes w) x (Err halted) does good
        (λ m here kept. plan_ranks ends to unit target may (At old_homes number) (Own old_homes number) (IsNearer old_homes w) m (at_home m here));
  }
    where
      does : Memory → Plan Memory (Result (Unit {0}) E)
      does = plan ends to unit

      good : NodeOk x
      good = good_at number x there

      ranged : NodeRanged x
      ranged = at_place NodeRanged w.nodes number x there h.ranged.nodes

      quietly : (m : Memory) → IsMemorySized m → Quietly m (plan ends to unit m)
      quietly m sized = plan_quietly ends to unit m

      at_home : (m : Memory) → x.memory ≡ Some m → IsAt (At old_homes number) (address_of m.station)
      at_home m here = by_address (address_of m.station) refl
        where
          by_address : (o : Option ℕ) → address_of m.station ≡ o → IsAt (At old_homes number) o
          by_address None e = tt
          by_address (Some a) e =
              (addressed w given h.line h.keyed).home number x there a (ap (option_and_then (λ (n : Memory). address_of n.station)) here ∙ e)

  -- a node that stores its log of broadcasts
  stores_beside : (ps : List Write) → Each IsOfLog ps → (number : ℕ) (x : Node) → node_at w number ≡ Some x → SentBeside number x (stores_at ps x)
  stores_beside ps is number x there = record {
    did = acts_ok x tt does good (λ m here kept sized. stores_ok ps is x.role m sized);
    ranged = acts_ranged x tt does ranged (λ m here k. record { station = k; frames = All-nil IsSent });
    clean = acts_clean S (home number) x tt does ranged (h.custody.nodes number x there)
        (λ m here k true_is. record { ranged = k; fits = All-nil IsSent; station = true_is; frames = All-nil (SentIsOf S); kept = λ n i some. omega arith });
    octets = acts_send SentOctets x tt does (λ m here. All-nil SentOctets);
    stays = acts_stays x tt does (λ m. log_away ps is);
    keyed = quiet_after network network_ranges w given h.keyed number x there good tt does quietly;
    made = acts_nothing x tt does (λ m here. refl);
    book = λ first. quiet_grows network network_ranges w h.line h.octets given h.keyed number x tt does first there quietly;
    shut = λ eui out. quiet_shut eui network network_ranges w h.line h.octets out number x tt does there quietly;
    ranks = acts_ranks (At old_homes number) (Own old_homes number) (IsNearer old_homes w) x tt does good
        (λ m here kept. record {
          leads = λ first. rank_writes.away_leads (Own old_homes number) (IsNearer old_homes w) first m.station.routing ps (log_ranks ps is);
          account = λ sound. account_same m.station.routing sound;
          backed = λ sound. All-nil (FrameBacked (At old_homes number) m.station.routing);
          here = at_home m here;
        });
  }
    where
      does : Memory → Plan Memory (Unit {0})
      does = stores tt tt ps

      good : NodeOk x
      good = good_at number x there

      ranged : NodeRanged x
      ranged = at_place NodeRanged w.nodes number x there h.ranged.nodes

      quietly : (m : Memory) → IsMemorySized m → Quietly m (does m)
      quietly m sized = stores_quietly ps is m

      at_home : (m : Memory) → x.memory ≡ Some m → IsAt (At old_homes number) (address_of m.station)
      at_home m here = by_address (address_of m.station) refl
        where
          by_address : (o : Option ℕ) → address_of m.station ≡ o → IsAt (At old_homes number) o
          by_address None e = tt
          by_address (Some a) e =
              (addressed w given h.line h.keyed).home number x there a (ap (option_and_then (λ (n : Memory). address_of n.station)) here ∙ e)

  -- a node that carries out a plan of its further rules
  further_beside : {A : Type 0} (halted : A) (does : Memory → Plan Memory A) → ((m : Memory) → IsFurther AnyUnits m (does m)) → (number : ℕ) (x : Node)
      → ((m : Memory) → x.memory ≡ Some m → IsFurther IsOne m (does m)) → node_at w number ≡ Some x
      → SentBeside number x (acts x halted does)
  further_beside halted does is number x one there = record {
    did = acts_ok x halted does good (λ m here kept sized. further_ok AnyUnits x.role m sized (does m) (is m));
    ranged = acts_ranged x halted does ranged (λ m here k. further_ranged m (does m) (one m here) k);
    clean = acts_clean S (home number) x halted does ranged (h.custody.nodes number x there)
        (λ m here k true_is. further_clean m S (home number) (does m) (one m here) k true_is);
    octets = acts_send SentOctets x halted does (λ m here. further_octets m (does m) (one m here) (ring_readable x m good here));
    stays = acts_stays x halted does (λ m. further_away m (does m) (is m));
    keyed = quiet_after network network_ranges w given h.keyed number x there good halted does quietly;
    made = acts_nothing x halted does (λ m here. further_makes m (does m) (is m));
    book = λ first. quiet_grows network network_ranges w h.line h.octets given h.keyed number x halted does first there quietly;
    shut = λ eui out. quiet_shut eui network network_ranges w h.line h.octets out number x halted does there quietly;
    ranks = acts_ranks (At old_homes number) (Own old_homes number) (IsNearer old_homes w) x halted does good
        (λ m here kept. further_ranks m (At old_homes number) (Own old_homes number) (IsNearer old_homes w) (does m) (one m here) (at_home m here));
  }
    where
      good : NodeOk x
      good = good_at number x there

      ranged : NodeRanged x
      ranged = at_place NodeRanged w.nodes number x there h.ranged.nodes

      quietly : (m : Memory) → IsMemorySized m → Quietly m (does m)
      quietly m sized = further_quietly m (does m) (is m)

      at_home : (m : Memory) → x.memory ≡ Some m → IsAt (At old_homes number) (address_of m.station)
      at_home m here = by_address (address_of m.station) refl
        where
          by_address : (o : Option ℕ) → address_of m.station ≡ o → IsAt (At old_homes number) o
          by_address None e = tt
          by_address (Some a) e =
              (addressed w given h.line h.keyed).home number x there a (ap (option_and_then (λ (n : Memory). address_of n.station)) here ∙ e)

  -- a node that sends a plain frame
  plain_beside : (frame : Sent) → IsPlainFrame frame → AreOctets (spelled network frame).octets → (number : ℕ) (x : Node) → node_at w number ≡ Some x
      → SentBeside number x (sends_plain frame x)
  plain_beside frame plain are number x there = record {
    did = record {
      node = good_at number x there;
      role = refl;
      eui = refl;
      few = omega arith;
      rises = numbered frame plain;
      from = from frame plain;
      marked = raised_same (marks_of x);
    };
    ranged = record { station = ranged; frames = one IsSent (sent_plain frame plain) };
    clean = record {
      ranged = ranged;
      fits = one IsSent (sent_plain frame plain);
      station = h.custody.nodes number x there;
      frames = one (SentIsOf S) (of_no_send frame plain);
      kept = λ n i some. let none = weighs_none frame plain n i in rw (sum_by-cons (sent_is n i) frame []) (omega arith);
    };
    octets = one SentOctets are;
    stays = λ t e. e;
    keyed = ⊎_elim
        (λ (e : number ≡ 0). subst (Keyed _) (append-nil given) (after_coordinator network w number x (sends_plain frame x) there refl given [] h.keyed e
        (record { book = h.keyed.book; node = coordinator e; grows = λ u a k. k; eui = refl; made = tt })))
        (λ (ne : number ≢ 0). after_meter network w number x (sends_plain frame x) there refl given h.keyed ne
        (record { node = h.keyed.meters number x ne there; eui = refl; role = refl; made = tt }))
        (cases_eq number 0);
    made = refl;
    book = λ first. record { book = h.keyed.book; kept = (coordinator first).book_kept; grows = λ u a k. k };
    shut = λ eui out first. out x (ap (slice_get w.nodes) (sym first) ∙ there);
    ranks = let same = same_ranks (At old_homes number) (Own old_homes number) (IsNearer old_homes w) x in
        record {
          above = same.above;
          not_own = same.not_own;
          routes = same.routes;
          backed = one (FrameBacked (At old_homes number) (stored x)) (backed frame plain);
        };
  }
    where
      ranged : NodeRanged x
      ranged = at_place NodeRanged w.nodes number x there h.ranged.nodes

      coordinator : number ≡ 0 → CoordinatorOk h.keyed.book x
      coordinator first = h.keyed.coordinator x (ap (slice_get w.nodes) (sym first) ∙ there)

      one : (P : Sent → Type 0) → P frame → All P (frame ∷ [])
      one P p = All-cons P frame [] p (All-nil P)

      numbered : (f : Sent) → IsPlainFrame f → Numbered (frontier x) (frontier x) (f ∷ [])
      numbered (Sealed l) p = absurd p
      numbered (Up agent from message) p = same_low (frontier x)
      numbered (Down from message) p = same_low (frontier x)

      from : (f : Sent) → IsPlainFrame f → AreFrom (node_ring x) (f ∷ [])
      from (Sealed l) p = absurd p
      from (Up agent own message) p = (tt, tt)
      from (Down own message) p = (tt, tt)

      sent_plain : (f : Sent) → IsPlainFrame f → IsSent f
      sent_plain (Sealed l) p = absurd p
      sent_plain (Up agent own message) p = tt
      sent_plain (Down own message) p = tt

      of_no_send : (f : Sent) → IsPlainFrame f → SentIsOf S f
      of_no_send (Sealed l) p = absurd p
      of_no_send (Up agent own message) p = tt
      of_no_send (Down own message) p = tt

      weighs_none : (f : Sent) → IsPlainFrame f → (n i : ℕ) → sent_is n i f ≤ 0
      weighs_none (Sealed l) p n i = absurd p
      weighs_none (Up agent own message) p n i = zero-le
      weighs_none (Down own message) p n i = zero-le

      backed : (f : Sent) → IsPlainFrame f → FrameBacked (At old_homes number) (stored x) f
      backed (Sealed l) p = absurd p
      backed (Up agent own message) p = tt
      backed (Down own message) p = tt

  -- # The world after it

  module _ {A : Type 0} (number : ℕ) (x : Node) (d : NodeStep A) (runs : w.running ≡ true) (there : node_at w number ≡ Some x) (f : SentBeside number x d) where
    abbrev v : World
    v = world_after network w number d

    -- # The parts

    nodes : v.nodes ≡ slice_set w.nodes number d.node
    nodes = after_nodes network w number d

    flights : v.flights ≡ w.flights ++ flights_of network number d
    unfolding world_after
    flights = refl

    line : WorldOk v
    line = ok_after network network_ranges w number x d h.line there f.did (λ e. absurd (not_both w runs e))

    all_flights : (P : Flight → Type 0) → All P w.flights → All P (flights_of network number d) → All P v.flights
    all_flights P old new = subst (All P) (sym flights) (All-append P w.flights (flights_of network number d) old new)

    flown : All FlightFits v.flights
    flown = all_flights FlightFits h.octets (All-map FlightFits (λ frame. flight_by number (spelled network frame)) d.frames f.octets)

    spelt : All (IsSpelled network) v.flights
    spelt = all_flights (IsSpelled network) h.spelled (All-map (IsSpelled network) (λ frame. flight_by number (spelled network frame)) d.frames
        (λ k e lt. spelled_well network number (get_or d.frames k e)))

    in_range : WorldRanged v
    in_range = record {
      nodes = subst (All NodeRanged) (sym nodes) (All-set NodeRanged w.nodes number d.node f.ranged.station h.ranged.nodes);
      flights = all_flights (IsFlight network) h.ranged.flights (did_flights network number d f.ranged);
    }

    joinings : Confirmed v taken
    joinings = after_nothing network w number x d there f.did.eui taken h.joinings f.made

    -- # Books and homes

    on : Goes network network_ranges w h.line h.octets given h.keyed v
    on = goes_after network network_ranges w h.line h.octets given h.keyed w v number x d (self_goes network network_ranges w h.line h.octets given h.keyed)
        nodes there f.did.eui f.book

    same_length : length v.nodes ≡ length w.nodes
    same_length = ap length nodes ∙ length-set w.nodes number d.node

    grows : 0 < length w.nodes → Grows h.keyed.book f.keyed.book
    grows some =
        let same = same_length in
        let c = at_length v.nodes 0 (omega arith) in
        on.grows c.one c.is f.keyed.book (f.keyed.coordinator c.one c.is).book_kept

    euis : 0 < length w.nodes → (n : ℕ) (y : Node) → n < length w.nodes → node_at v n ≡ Some y → (z : Node) × (node_at w n ≡ Some z) × (z.eui ≡ y.eui)
    euis some = on.euis

    grown : homed.Grows old_homes (homes_of f.keyed.book v)
    grown = homes_grow w v given given h.line line h.keyed f.keyed (let same = same_length in omega arith) grows euis

    -- # Ranks and routes

    reads : All (FrameRead network) d.frames
    reads = All-weaker IsSent (FrameRead network) sent_read d.frames f.ranged.frames

    station : StationStep network old_homes w v
    station = after_step network old_homes w number x d there f.ranks reads

    routes : RoutingHolds network (homes_of f.keyed.book v) v
    routes = grow_homes network old_homes (homes_of f.keyed.book v) grown v (step_holds network old_homes w v station h.routes)

    -- # Marks and live flights

    follows : Follows w v
    follows = after_follows w w v number x d (same_follows w w refl) there nodes (of_did x d f.did)

    falls : LiveFalls live w v None
    falls = none_falls w v follows (λ some.
        let same = same_length in
        subst (λ (b : books.Book). Grows b (book_of v)) (sym (some_book w given h.line h.keyed some))
        (subst (Grows h.keyed.book) (sym (some_book v given line f.keyed (omega arith))) (grows some)))

    -- # Tags

    set_nodes : (P : ℕ → Node → Type 0) → ((n : ℕ) (y : Node) → node_at w n ≡ Some y → P n y) → P number d.node → (n : ℕ) (y : Node) → node_at v n ≡ Some y
        → P n y
    set_nodes P old new n y is =
        let at : slice_get (slice_set w.nodes number d.node) n ≡ Some y = ap (λ ns. slice_get ns n) (sym nodes) ∙ is in
        ⊎_elim
        (λ (e : n ≡ number).
        let got : d.node ≡ y = same_Some _ _
        (sym (slice_get-set w.nodes number d.node (within w.nodes number x there)) ∙ ap (slice_get (slice_set w.nodes number d.node)) (sym e) ∙ at) in
        subst (P n) got (subst (λ k. P k d.node) (sym e) new))
        (λ (ne : n ≢ number). old n y (sym (slice_get-set_other w.nodes number n d.node ne) ∙ at))
        (cases_eq n number)

    events : v.events ≡ w.events
    unfolding world_after
    events = refl

    tags : TagsOk v sent
    tags = record {
      nodes = set_nodes (λ n y. TagOf sent n v.events y) (λ n y is. still n y (h.tags.nodes n y is))
          (let o = h.tags.nodes number x there in
          record { tag = o.tag; is = f.stays o.tag o.is; few = let le = o.few in let same = events in omega arith; under = o.under });
      homes = subst (λ k. All (λ (s : Sending). s.from < k) sent) (sym same_length) h.tags.homes;
      pairs = h.tags.pairs;
    }
      where
        still : (n : ℕ) (y : Node) → TagOf sent n w.events y → TagOf sent n v.events y
        still n y o = record { tag = o.tag; is = o.is; few = let le = o.few in let same = events in omega arith; under = o.under }

    -- # Custody

    custody : Custody network live S home v ups
    custody = falls_on network live S home w v ups (after_at network network_opens_again S home (live w) ups w number x d
        (record {
          flights = h.custody.flights;
          ranged = h.custody.ranged;
          sent = h.custody.sent;
          nodes = h.custody.nodes;
          places = record { at_most = h.custody.places.at_most };
        }) there f.clean) falls

    -- # All of it

    holds : Holds given sent taken all home ups v
    holds = record {
      line = line;
      octets = flown;
      spelled = spelt;
      ranged = in_range;
      keyed = f.keyed;
      senders = later_homes w v given given h.keyed f.keyed line grows euis
          (subst (KeepsFlights w.flights) (sym flights) (keeps_more w.flights (flights_of network number d))) h.line.rising.homes h.senders
          (new_addresses w v (after_senders network w w v number x d refl refl refl refl there f.did.from (λ a e. address_low d.node a f.did.node e)));
      joinings = joinings;
      routes = routes;
      tags = tags;
      custody = custody;
    }

    goes_on : GoesOn w v
    goes_on = record {
      marks = marks_rise w v follows;
      live = falls;
      ranks = station.forward;
      shut = λ eui out. after_shut eui w v number x d out nodes there (f.shut eui out);
      senders = new_addresses w v (after_senders network w w v number x d refl refl refl refl there f.did.from (λ a e. address_low d.node a f.did.node e));
    }

-- # Events

pub sealing_keeps : {E : Type 0} → SealingKeeps E
sealing_keeps ends halted to unit target may w number x runs there given sent taken all home ups h =
    let f = seals_beside given sent taken all home ups w h ends halted to unit target may number x there in (
      holds given sent taken all home ups w h number x (seals_at ends halted to unit x) runs there f,
      goes_on given sent taken all home ups w h number x (seals_at ends halted to unit x) runs there f,
    )

pub plain_keeps : PlainKeeps
plain_keeps frame plain are w number x runs there given sent taken all home ups h =
    let f = plain_beside given sent taken all home ups w h frame plain are number x there in (
      holds given sent taken all home ups w h number x (sends_plain frame x) runs there f,
      goes_on given sent taken all home ups w h number x (sends_plain frame x) runs there f,
    )

pub storing_keeps : StoringKeeps
storing_keeps ps is w number x runs there given sent taken all home ups h =
    let f = stores_beside given sent taken all home ups w h ps is number x there in (
      holds given sent taken all home ups w h number x (stores_at ps x) runs there f,
      goes_on given sent taken all home ups w h number x (stores_at ps x) runs there f,
    )

-- a node that carries out a plan of its further rules keeps all of it
pub further_keeps : {A : Type 0} (halted : A) (does : Memory → Plan Memory A) → ((m : Memory) → IsFurther AnyUnits m (does m))
    → (w : World) (number : ℕ) (x : Node) → ((m : Memory) → x.memory ≡ Some m → IsFurther IsOne m (does m))
    → w.running ≡ true → node_at w number ≡ Some x → Keeps w (world_after network w number (acts x halted does))
further_keeps halted does is w number x one runs there given sent taken all home ups h =
    let f = further_beside given sent taken all home ups w h halted does is number x one there in (
      holds given sent taken all home ups w h number x (acts x halted does) runs there f,
      goes_on given sent taken all home ups w h number x (acts x halted does) runs there f,
    )

ran_homes : (b : books.Book) (w : World) → homed.Grows (homes_of b w) (homes_of b (running_world w))
unfolding homes_of
ran_homes b w i a e = e

-- an event of no setup kind was taken
pub running_keeps : RunningKeeps
running_keeps w given sent taken all home ups h = (
  record {
    line = counts_ok w (running_world w) h.line refl refl (λ e. absurd (true_false e));
    octets = h.octets;
    spelled = h.spelled;
    ranged = record { nodes = h.ranged.nodes; flights = h.ranged.flights };
    keyed = record {
      book = k.book;
      coordinator = k.coordinator;
      meters = k.meters;
      made = k.made;
      roles = k.roles;
      apart = k.apart;
      still = k.still;
      named = k.named;
    };
    senders = h.senders;
    joinings = h.joinings;
    routes = routes;
    tags = record {
      nodes = λ n y is. let o = h.tags.nodes n y is in record { tag = o.tag; is = o.is; few = let le = o.few in omega arith; under = o.under };
      homes = h.tags.homes;
      pairs = h.tags.pairs;
    };
    custody = falls_on network live (SentUnder home all) home w (running_world w) ups
        (ran_at network network_opens_again (SentUnder home all) home (live w) ups w
        (record {
          flights = h.custody.flights;
          ranged = h.custody.ranged;
          sent = h.custody.sent;
          nodes = h.custody.nodes;
          places = record { at_most = h.custody.places.at_most };
        })) falls;
  },
  record {
    marks = marks_rise w (running_world w) follows;
    live = falls;
    ranks = λ i x there. record { node = x; there = there; above = λ dest. inl refl };
    shut = λ eui out c is. out c is;
    senders = subst (All (HasSender (running_world w))) (sym (drop-length w.flights)) (All-nil (HasSender (running_world w)));
  },
)
  where
    k : Keyed w given
    k = h.keyed

    true_false : true ≡ false → ⊥
    true_false e = cc (e)

    follows : Follows w (running_world w)
    follows = same_follows w (running_world w) refl

    falls : LiveFalls live w (running_world w) None
    falls = none_falls w (running_world w) follows (λ some u a e. e)

    routes : RoutingHolds network (homes_of h.keyed.book (running_world w)) (running_world w)
    routes = grow_homes network (homes_of h.keyed.book w) (homes_of h.keyed.book (running_world w)) (ran_homes h.keyed.book w) (running_world w)
        (counts_hold network (homes_of h.keyed.book w) {b = w} w (running_world w) refl refl
        (record { holds = h.routes; later = λ i x there. record { node = x; there = there; above = λ dest. inl refl } })).holds
