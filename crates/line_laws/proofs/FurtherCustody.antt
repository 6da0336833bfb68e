-- Every event of a line with further reach keeps where the octets of each datagram are, unless it is forged: its moves carry none.
use Rattle.std.proofs.Common.{⊎_elim, inl, inr, ◌≡◌, ◌⊎◌, ℕ, ◌+◌, ◌≤◌, ◌<◌, Bool, true, false, cond, List, [], ◌∷◌, ◌++◌, length, Option, Some, None}
use Rattle.std.proofs.Common.{Result, Ok, Err, append-nil, refl, sym, ap, ◌∙◌, subst, arith}
use Rattle.std.specs.Prelude.{if◌then◌else◌, map, All, AllPairs, IfSome, slice_get}
use Rattle.std.specs.List.{sum_by}
use Rattle.std.specs.Option.{option_to_list}
use Rattle.std.proofs.lemmas.List.{append_assoc}
use Rattle.std.proofs.lemmas.List.Elements.{All-nil, All-push}
use Rattle.std.proofs.lemmas.List.Sums.{sum_by-append, sum_by-cons}
use Rattle.plc_base.specs.declared.key.Key.{Key}
use Rattle.pan_discovery.specs.declared.message.Discovery.{Discovery}
use Rattle.pan_discovery.specs.Agents.{kth_of}
use Rattle.pan_discovery.specs.Messages.{IsDiscovery}
use Rattle.node_rules.specs.Accepted.{Accepted}
use Rattle.node_rules.specs.declared.refusal.FrameRefusal.{FrameRefusal}
use Rattle.node_rules.specs.declared.refusal.FrameRefusal.TheVariants as frames
use Rattle.node_rules.specs.Acceptance.{Accepting, accept, marking}
use Rattle.node_rules.specs.Ciphers.{Ciphers, network}
use Rattle.node_rules.specs.Drafts.{choose as choose_plan, refused}
use Rattle.node_rules.specs.Frames.{Arrived, arrived}
use Rattle.node_rules.specs.Memory.{Memory, Node}
use Rattle.node_rules.specs.Meters as meters
use Rattle.node_rules.specs.NodeSteps.{NodeStep, acts, of_station, stays}
use Rattle.node_rules.specs.Plans.{Plan, resting}
use Rattle.node_rules.proofs.NetworkOpens.{network_opens_again}
use Rattle.plc_base.specs.declared.address.Eui.{Eui}
use Rattle.reach_rules.specs.declared.refusal.ChooseRefusal.{ChooseRefusal}
use Rattle.reach_rules.specs.declared.refusal.ChooseRefusal.TheVariants as choices
use Rattle.reach_rules.specs.Beacons.{ChosenAgent, choose_agent, choosing_ends, joins_by}
use Rattle.reach_rules.specs.ReachingNodes.{Beside}
use Rattle.line_events.specs.declared.event.Answer.TheVariants as answers
use Rattle.line_events.specs.declared.event.Event.{Event}
use Rattle.line_events.specs.declared.event.Event.TheVariants as events
use Rattle.line_events.specs.declared.happenings.Handed.{Handed}
use Rattle.line_rules.specs.Answers.{only}
use Rattle.line_events.specs.Events.{IsEvent}
use Rattle.line_rules.specs.Forgery.{accepting}
use Rattle.line_rules.specs.Further.{beside_at, discovery_flight, line_step, of_memory, reaches, with_beside}
use Rattle.line_rules.specs.Logs.{LogsKept}
use Rattle.line_rules.specs.Runs.{Entry, issued}
use Rattle.line_rules.specs.Steps.{Step, node_outcome, flights_of, identity, made_node, offered_near, running_world, sent_if, set_up, step, ticked, world_after}
use Rattle.line_rules.specs.Traces.{ComesTo}
use Rattle.line_rules.specs.Worlds.{World, Flight, Issued, Trace, Sending, node_at}
use Rattle.line_laws.specs.InCustody.{Custody, FlightIsOf, StationIsTrue, SentUnder, sent_as}
use Rattle.line_laws.specs.Keyed.{Keyed}
use Rattle.line_laws.specs.Later.{flown as flown_world}
use Rattle.line_laws.specs.SealedUnits.{IsFlight}
use Rattle.line_laws.specs.Lines.{WorldOk}
use Rattle.line_laws.specs.Places.{LiveFalls, flight_is, live_is}
use Rattle.line_laws.specs.Ranges.{IsStationRanged, NodeRanged, WorldRanged}
use Rattle.line_laws.specs.Sends.{SentAs}
use Rattle.line_laws.specs.Tags.{TagRises}
use Rattle.line_laws.proofs.CustodyCalls.{zero_weight}
use Rattle.line_laws.proofs.CustodyKeeps.{PlanClean, acts_clean, join_clean}
use Rattle.line_laws.proofs.CustodyRuns.{After as AfterOld, Owed, after_event}
use Rattle.line_laws.proofs.CustodySteps.{HomedAt, falls_on, ran_at, after_at}
use Rattle.line_laws.proofs.CustodyTrue.{SentIsOf}
use Rattle.line_laws.proofs.FurtherAddresses.{moved_homed}
use Rattle.line_laws.proofs.FurtherKeyed.{moved_keyed, old_keyed}
use Rattle.line_laws.proofs.FurtherRanges.{one_speaks}
use Rattle.line_laws.proofs.FurtherSame.{OldStep, line_step_same}
use Rattle.line_laws.proofs.FurtherSeals.{IsOne, further_clean}
use Rattle.line_laws.proofs.FurtherStepKinds.{After, Anew, Besides, Carries, Chooses, Flies, IsLineStepBy, Known, Moves, Opens, Stays, Turns, Unbelieves}
use Rattle.line_laws.proofs.FurtherStepKinds.{Unsends}
use Rattle.line_laws.proofs.LaterMoves.{is_flight}
use Rattle.line_laws.proofs.OctetRuns.{WorldSpeaks}
use Rattle.line_laws.proofs.RangeFrames.{IsSent}
use Rattle.line_laws.proofs.RangeHeard.{SaysShort}
use Rattle.line_laws.proofs.RangeRuns.{short_at}
use Rattle.line_laws.proofs.StorableGrants.{network_ranges}
use Rattle.line_laws.proofs.StoreMarks.{Accepts, Marked, Plain, Turned, accept_is}
use Rattle.line_laws.proofs.StepKinds as step_kinds
use Rattle.line_laws.proofs.StepKinds.{IsStep}
use Rattle.line_laws.proofs.Worlds.{at_place}

none_some : {A : Type 0} (x : A) → None ≡ Some x → ⊥
none_some x e = cc

-- # Flights that come after

-- what flew before is there still, and more comes after
abbrev pub Appends : World → World → Type 0
Appends w v = (more : List Flight) × (v.flights ≡ w.flights ++ more)

appends_both : (w v u : World) → Appends w v → Appends v u → Appends w u
appends_both w v u one two = (one.0 ++ two.0, two.1 ∙ ap (λ fs. fs ++ two.0) one.1 ∙ append_assoc w.flights one.0 two.0)

after_appends : {A : Type 0} (ciphers : Ciphers) (w : World) (number : ℕ) (d : NodeStep A) → Appends w (world_after ciphers w number d)
unfolding world_after
after_appends ciphers w number d = (flights_of ciphers number d, refl)

same_appends : (w v : World) → v.flights ≡ w.flights → Appends w v
same_appends w v e = ([], e ∙ sym (append-nil w.flights))

pub moved_appends : (U : _) (D : Discovery → Type 0) (ciphers : Ciphers) (v u : World) → Moves U D ciphers v u → Appends v u
moved_appends U D ciphers v u (Stays z) = same_appends v v refl
moved_appends U D ciphers v u (Carries z number x A halted does there is) = after_appends ciphers v number (acts x halted does)
moved_appends U D ciphers v u (Flies z number x frame there known) = (discovery_flight number frame ∷ [], refl)
moved_appends U D ciphers v u (Besides z on bs) = same_appends v (record v { checks_on = on; beside = bs }) refl
moved_appends U D ciphers v u (Turns z between y first rest) = appends_both v between u (moved_appends U D ciphers v between first)
    (moved_appends U D ciphers between u rest)

-- a flight is lost in it
abbrev pub IsLoss : Event → Type 0
IsLoss (events.Lose number) = Unit {0}
IsLoss _ = ⊥

pub is_loss : (event : Event) → IsLoss event ⊎ (IsLoss event → ⊥)
is_loss (events.Lose number) = inl tt
is_loss _ = inr (λ b. b)

abbrev AppendsBy : World → Step → Type 0
AppendsBy w (Ok r) = Appends w r.0
AppendsBy w (Err fault) = Unit {0}

sent_appends : (w : World) (from to : ℕ) (datagram : List ℕ) (tag : ℕ) (b : Bool) (r : World × Trace) → Appends w r.0
    → Appends w (sent_if w from to datagram tag b r).0
sent_appends w from to datagram tag true r h = h
sent_appends w from to datagram tag false r h = h

-- in every other event without further reach
pub step_appends : (ciphers : Ciphers) (w : World) (event : Event) (s : Step) → IsStep ciphers w event s → (IsLoss event → ⊥) → AppendsBy w s
step_appends ciphers w event s (step_kinds.Fails e fault) kept = tt
step_appends ciphers w event s (step_kinds.Makes e x is) kept = same_appends w (made_node w x).0 refl
step_appends ciphers w event s (step_kinds.Rests e quiet) kept = same_appends w (running_world w) refl
step_appends ciphers w event s (step_kinds.Shows number x) kept = same_appends w (running_world w) refl
step_appends ciphers w event s (step_kinds.Acts e number x A halted plan reads there call word asked) kept = after_appends ciphers (running_world w) number _
step_appends ciphers w event s (step_kinds.BreaksLink number next x a there call) kept = after_appends ciphers (running_world w) number _
step_appends ciphers w event s (step_kinds.SendsFrom from to datagram x a there call target) kept =
    sent_appends w from to datagram _ _ (node_outcome ciphers w from _)
    (after_appends ciphers (running_world w) from _)
step_appends ciphers w event s (step_kinds.AllowsMeter number y c psk there call meter) kept = after_appends ciphers (running_world w) 0 _
step_appends ciphers w event s (step_kinds.Sets e quiet number x plan there open_is is) kept = after_appends ciphers (set_up w) number _
step_appends ciphers w event s (step_kinds.SetsTwo e quiet a b cost x y p q hx hy apart open_is first second fresh near) kept =
    let v : World = world_after ciphers (set_up w) a (offered_near x q cost w.clock) in
    appends_both (set_up w) v (world_after ciphers v b (offered_near y p cost w.clock)) (after_appends ciphers (set_up w) a (offered_near x q cost w.clock))
    (after_appends ciphers v b (offered_near y p cost w.clock))
step_appends ciphers w event s (step_kinds.Provides number x c psk g d ne open_is hx hc pair same is) kept =
    let v : World = world_after ciphers (set_up w) 0 d in
    let p = acts x (Ok tt) (λ m. meters.provision m g) in
    appends_both (set_up w) v (world_after ciphers v number p) (after_appends ciphers (set_up w) 0 d) (after_appends ciphers v number p)
step_appends ciphers w event s (step_kinds.TurnsDown e number x octets reason d there says comes same is) kept =
    after_appends ciphers (running_world w) number d
step_appends ciphers w event s (step_kinds.Hears e number x octets cost got there says comes low is) kept = after_appends ciphers (running_world w) number _
step_appends ciphers w event s (step_kinds.Loses number f there) kept = absurd (kept tt)
step_appends ciphers w event s (step_kinds.Ticks seconds) kept =
    same_appends w (record (running_world w) { clock = w.clock + seconds; nodes = map (ticked (w.clock + seconds)) w.nodes }) refl
step_appends ciphers w event s (step_kinds.Restarts number x there) kept = after_appends ciphers (running_world w) number _
step_appends ciphers w event s (step_kinds.Cuts number nth keeps_new x there) kept = after_appends ciphers (running_world w) number _

-- # What nodes do

-- accepting moves nothing
accept_clean : (S : ℕ → SentAs → Type 0) (own : ℕ) (m : Memory) → IsStationRanged m.station → StationIsTrue S own m.station → (eui : Eui) (a : Option Arrived)
    → PlanClean S own m (of_station m (accept m.station eui a))
unfolding resting marking
accept_clean S own m h is eui a = by_form _ (accept_is m.station eui a)
  where
    by_form : (p : Accepting) → Accepts m.station a p → PlanClean S own m (of_station m p)
    by_form p (Turned reason) = record { ranged = h; fits = All-nil IsSent; station = is; frames = All-nil (SentIsOf S); kept = λ n i some. omega arith }
    by_form p (Plain got plain) = record { ranged = h; fits = All-nil IsSent; station = is; frames = All-nil (SentIsOf S); kept = λ n i some. omega arith }
    by_form p (Marked from counter got marked) = record {
      ranged = record { ring = h.ring; tag = h.tag; hops = h.hops; bodies = h.bodies; number = h.number };
      fits = All-nil IsSent;
      station = record { address = is.address; bodies = is.bodies; held = is.held };
      frames = All-nil (SentIsOf S);
      kept = λ n i some. omega arith;
    }

-- a choice of an agent is a joining, or nothing
chosen_clean : (S : ℕ → SentAs → Type 0) (own : ℕ) (m : Memory) → IsStationRanged m.station → StationIsTrue S own m.station → (b : Beside) (x : meters.Identity)
    → SaysShort x m → (k now : ℕ) → PlanClean S own m (with_beside b (λ y. choose_agent x y k now) m)
unfolding choose_plan resting
chosen_clean S own m h is b x short k now = by_joined (meters.is_joined m)
  where
    none_clean : (reason : ChooseRefusal) → PlanClean S own m (of_memory (refused {H = ChosenAgent} choosing_ends (record { memory = m; beside = b }) reason))
    none_clean reason = record { ranged = h; fits = All-nil IsSent; station = is; frames = All-nil (SentIsOf S); kept = λ n i some. omega arith }

    by_agent : (o : Option (ℕ × ℕ)) → PlanClean S own m (of_memory (joins_by x (record { memory = m; beside = b }) now o))
    by_agent None = none_clean choices.NoBeacon
    by_agent (Some (address, total)) = let j = join_clean S own m h is x short address now in
        record { ranged = j.ranged; fits = j.fits; station = j.station; frames = j.frames; kept = j.kept }

    by_joined : (t : Bool) → PlanClean S own m
        (of_memory (if t then refused choosing_ends (record { memory = m; beside = b }) choices.AlreadyJoined else joins_by x
        (record { memory = m; beside = b }) now (kth_of b.scan.agents k)))
    by_joined true = none_clean choices.AlreadyJoined
    by_joined false = by_agent (kth_of b.scan.agents k)

-- # Moves

module _ (S : ℕ → SentAs → Type 0) (home : ℕ → ℕ) (L : Flight → Bool) (before : List Handed) where
  -- custody, where these flights are live
  abbrev Now : World → Type 0
  Now v = Custody network (λ _ f. L f) S home v before

  -- the same nodes and flights
  same_now : (v u : World) → u.nodes ≡ v.nodes → u.flights ≡ v.flights → u.sends ≡ v.sends → Now v → Now u
  same_now v u nodes flights sends c = record {
    flights = subst (All (IsFlight network)) (sym flights) c.flights;
    ranged = subst (All NodeRanged) (sym nodes) c.ranged;
    sent = subst (All (FlightIsOf network S)) (sym flights) c.sent;
    nodes = λ number x there. c.nodes number x (sym (ap (λ ns. slice_get ns number) nodes) ∙ there);
    places = record { at_most = λ n i some. rw (nodes, flights, sends) (c.places.at_most n i some) };
  }

  flies_now : (v : World) (number : ℕ) (frame : Discovery) → Now v → Now (flown_world number frame v)
  flies_now v number frame c = record {
    flights = All-push (IsFlight network) v.flights f c.flights (is_flight number frame);
    ranged = c.ranged;
    sent = All-push (FlightIsOf network S) v.flights f c.sent (record { unit = λ u e. absurd (none_some u e) });
    nodes = c.nodes;
    places = record {
      at_most = λ n i some.
          let old = c.places.at_most n i some in
          let both = sum_by-append (live_is network L n i) v.flights (f ∷ []) in
          let none = weightless n i some in
          rw both (omega arith);
    };
  }
    where
      f : Flight
      f = discovery_flight number frame

      by_live : (n i : ℕ) (b : Bool) → cond b (flight_is network n i f) 0 ≤ 0
      by_live n i true = zero_weight n 0
      by_live n i false = omega arith

      weightless : (n i : ℕ) → 0 < n → sum_by (live_is network L n i) (f ∷ []) ≤ 0
      weightless n i some = let none = by_live n i (L f) in rw (sum_by-cons (live_is network L n i) f []) (omega arith)

  pub moved_now : (v u : World) → Moves IsOne IsDiscovery network v u → Now v → Now u
  moved_now v u (Stays z) c = c
  moved_now v u (Carries z number x A halted does there is) c =
      after_at network network_opens_again S home L before v number x (acts x halted does) c there
      (acts_clean S (home number) x halted does (at_place NodeRanged v.nodes number x there c.ranged) (c.nodes number x there)
      (λ m here h own. further_clean m S (home number) (does m) (is m here) h own))
  moved_now v u (Flies z number x frame there known) c = flies_now v number frame c
  moved_now v u (Besides z on bs) c = same_now v (record v { checks_on = on; beside = bs }) refl refl refl c
  moved_now v u (Turns z between y first rest) c = moved_now between u rest (moved_now v between first c)

  -- where fewer flights were sent
  unsent_now : (w v u : World) → Appends w v → All (IsFlight network) w.flights → All (FlightIsOf network S) w.flights → u.nodes ≡ v.nodes
      → u.flights ≡ w.flights → u.sends ≡ v.sends → Now v → Now u
  unsent_now w v u on flights sent nodes same sends c = record {
    flights = subst (All (IsFlight network)) (sym same) flights;
    ranged = subst (All NodeRanged) (sym nodes) c.ranged;
    sent = subst (All (FlightIsOf network S)) (sym same) sent;
    nodes = λ number x there. c.nodes number x (sym (ap (λ ns. slice_get ns number) nodes) ∙ there);
    places = record {
      at_most = λ n i some.
          let old = c.places.at_most n i some in
          let long : sum_by (live_is network L n i) v.flights ≡ sum_by (live_is network L n i) w.flights + sum_by (live_is network L n i) on.0 =
          ap (sum_by (live_is network L n i)) on.1 ∙ sum_by-append (live_is network L n i) w.flights on.0 in
          rw (nodes, same, sends) (omega arith);
    };
  }

-- # Events

-- An event as an entry of no number.
abbrev pub entry_of : Event → World × Trace → Entry
entry_of event q = record { number = 0; event = event; trace = q.1; after = q.0 }

-- for any set of live flights of which this is owed: at an event as it is without further reach, and where nodes then only do things by themselves
module _ (live : World → Flight → Bool) (lost : (w : World) (f : Flight) → live w (record f { lost = true }) ≡ true → live w f ≡ true)
    (home : ℕ → ℕ) (apart : (i j : ℕ) → home i ≡ home j → i ≡ j) (sent : List Sending) (rises : AllPairs TagRises sent)
    (some : All (λ (s : Sending). 0 < length s.datagram) sent) (w : World) (before : List Handed)
    (c : Custody network live (SentUnder home sent) home w before) (ok : WorldOk w) (s : WorldSpeaks w) (r : WorldRanged w) (past : List Entry)
    (k : Keyed w (issued past)) (first : home 0 ≡ 0) (homed : HomedAt home w)
    (moved : (v u : World) → Moves IsOne IsDiscovery network v u → WorldOk v → v.running ≡ true → (given : List Issued) → Keyed v given → Keyed u given
    → LiveFalls live v u None)
    (unsent : (v : World) (f : Flight) → live (record v { flights = w.flights; made = w.made; beside = w.beside }) f ≡ true → live v f ≡ true) where
  abbrev S : ℕ → SentAs → Type 0
  S = SentUnder home sent

  -- what holds after an event, and of what it hands up
  abbrev pub HoldsThen : Event → World → Option Handed → Type 0
  HoldsThen event v up = AfterOld network network_opens_again network_ranges live lost home apart sent rises some w event before v up

  -- where no flight comes to life, homes are those after it, what it hands up comes to its node, and what it sends is of the sends
  abbrev pub Done : Event → Step → Type 0
  Done event (Ok q) =
      LiveFalls live w q.0 None → HomedAt home q.0 → IfSome q.1.happenings.up (λ (u : Handed). ComesTo event u.node)
      → ((z : Sending) → q.1.sent ≡ Some z → S (w.sends + 1) (sent_as home z)) → q.1.happenings.forged ≡ false
      → HoldsThen event q.0 q.1.happenings.up
  Done event (Err fault) = Unit {0}

  -- custody of the world before, where what was live then is live
  held : Custody network (λ _ f. live w f) S home w before
  held = record { flights = c.flights; ranged = c.ranged; sent = c.sent; nodes = c.nodes; places = record { at_most = c.places.at_most } }

  ran_held : Custody network (λ _ f. live w f) S home (running_world w) before
  ran_held = ran_at network network_opens_again S home (live w) before w held

  -- nothing is handed up
  silent : (event : Event) (v : World) (up : Option Handed) → up ≡ None → Custody network live S home v before → HoldsThen event v up
  silent event v up none h = record {
    custody = subst (λ o. Custody network live S home v (before ++ option_to_list o)) (sym none)
        (subst (Custody network live S home v) (sym (append-nil before)) h);
    handed = λ u e. absurd (none_some u (sym none ∙ e));
  }

  rests_held : {A : Type 0} (answer : A) (number : ℕ) (x : Node) (octets : List ℕ) → node_at w number ≡ Some x
      → Custody network (λ _ f. live w f) S home (world_after network (running_world w) number (stays (accepting network x octets).node answer)) before
  rests_held answer number x octets there =
      let plan : Memory → Plan Memory (Result Accepted FrameRefusal) = λ m. of_station m (accept m.station x.eui (arrived network octets)) in
      let did = acts_clean S (home number) x (Err frames.Halted) plan (at_place NodeRanged w.nodes number x there c.ranged) (c.nodes number x there)
      (λ m here h own. accept_clean S (home number) m h own x.eui (arrived network octets)) in
      after_at network network_opens_again S home (live w) before (running_world w) number x (stays (accepting network x octets).node answer) ran_held there
      (record {
        ranged = did.ranged;
        fits = All-nil IsSent;
        station = did.station;
        frames = All-nil (SentIsOf S);
        kept = λ n i some. let less = did.kept n i
            some in omega arith;
      })

  chosen_held : (number count : ℕ) (x : Node) (psk : Key) → node_at w number ≡ Some x
      → Custody network (λ _ f. live w f) S home
      (world_after network (running_world w) number
      (reaches x (beside_at w number) (Err choices.Halted) (λ y. choose_agent (identity network x psk) y count w.clock)))
      before
  chosen_held number count x psk there =
      after_at network network_opens_again S home (live w) before (running_world w) number x
      (reaches x (beside_at w number) (Err choices.Halted) (λ y. choose_agent (identity network x psk) y count w.clock)) ran_held there
      (acts_clean S (home number) x (Err choices.Halted) (with_beside (beside_at w number) (λ y. choose_agent (identity network x psk) y count w.clock))
      (at_place NodeRanged w.nodes number x there c.ranged) (c.nodes number x there)
      (λ m here h own. chosen_clean S (home number) m h own (beside_at w number) (identity network x psk) (short_at w ok s r number x psk there m here) count
      w.clock))

  module _ (event : Event) (says : IsEvent event)
      (owed : (q : World × Trace) → step network w event ≡ Ok q → Owed network live w (entry_of event q)) where
    -- as without further reach
    same_done : (q : World × Trace) → step network w event ≡ Ok q → HomedAt home q.0 → IfSome q.1.happenings.up (λ (u : Handed). ComesTo event u.node)
        → ((z : Sending) → q.1.sent ≡ Some z → S (w.sends + 1) (sent_as home z)) → q.1.happenings.forged ≡ false → HoldsThen event q.0 q.1.happenings.up
    same_done q is later up_at is_sent honest =
        after_event network network_opens_again network_ranges live lost home apart sent rises some w before c ok s.flights (entry_of event q) says is
        up_at is_sent (owed q is) (issued past) k first homed later honest

    -- and then moves
    then_done : (q : World × Trace) (v : World) (up : Option Handed) → up ≡ q.1.happenings.up → Moves IsOne IsDiscovery network q.0 v
        → HoldsThen event q.0 q.1.happenings.up
        → Custody network (λ _ f. live q.0 f) S home v (before ++ option_to_list up)
    then_done q v up same moves h =
        let now : Custody network (λ _ f. live q.0 f) S home q.0 (before ++ option_to_list q.1.happenings.up) =
        record {
          flights = h.custody.flights;
          ranged = h.custody.ranged;
          sent = h.custody.sent;
          nodes = h.custody.nodes;
          places = record { at_most = h.custody.places.at_most };
        } in
        subst (λ o. Custody network (λ _ f. live q.0 f) S home v (before ++ option_to_list o)) (sym same)
        (moved_now S home (live q.0) (before ++ option_to_list q.1.happenings.up) q.0 v moves now)

    module _ (q : World × Trace) (v : World) (old : OldStep network w event (Ok q)) (fine : WorldOk q.0) (runs : q.0.running ≡ true)
        (moves : Moves IsOne IsDiscovery network q.0 v) (honest : q.1.happenings.forged ≡ false) where
      keyed_then : Keyed q.0 (issued past ++ q.1.issued)
      keyed_then = old_keyed network network_ranges w ok s.flights (issued past) k event says q old honest

      keyed_last : Keyed v (issued past ++ q.1.issued)
      keyed_last = moved_keyed IsOne IsDiscovery network network_ranges q.0 v moves fine runs (issued past ++ q.1.issued) keyed_then

      falls_then : LiveFalls live q.0 v None
      falls_then = moved q.0 v moves fine runs (issued past ++ q.1.issued) keyed_then keyed_last

      homed_then : HomedAt home v → HomedAt home q.0
      homed_then h = moved_homed IsOne IsDiscovery network network_ranges q.0 v moves fine runs (issued past ++ q.1.issued) (issued past ++ q.1.issued)
          keyed_then keyed_last home h

    -- where a flight is lost, all is as without further reach
    lost_done : (st : Step) → step network w event ≡ st → Done event st
    lost_done (Ok q) e = λ falls later up_at is_sent honest. same_done q e later up_at is_sent honest
    lost_done (Err fault) e = tt

    as_before : (e : Event) → IsLoss e → line_step network w e ≡ step network w e
    as_before (events.Lose number) loss = refl
    as_before _ loss = absurd loss

  pub line_done_is : (event : Event) → IsEvent event
      → ((q : World × Trace) → step network w event ≡ Ok q → Owed network live w (entry_of event q)) → (IsLoss event → ⊥) → (st : Step)
      → IsLineStepBy (OldStep network w) IsOne IsDiscovery network w event st
      → Done event st
  line_done_is event says owed kept (Ok q) (Known e z old) =
      λ falls later up_at is_sent honest. same_done event says owed q (old.same q refl) later up_at is_sent honest
  line_done_is event says owed kept (Err fault) (Known e z old) = tt
  line_done_is event says owed kept st (Opens begun) = λ falls later up_at is_sent honest.
      silent event _ None refl (falls_on network live S home w _ before (same_now S home (live w) before w _ refl refl refl held) falls)
  line_done_is event says owed kept st (Anew e v t moves quiet) = λ falls later up_at is_sent honest.
      silent event v t.happenings.up quiet.up
      (falls_on network live S home w v before (moved_now S home (live w) before (running_world w) v moves ran_held) falls)
  line_done_is event says owed kept st (After e q v t old fine runs moves same_words) = λ falls later up_at is_sent honest.
      let unforged = sym same_words.forged ∙ honest in
      let was = same_done event says owed q (old.same q refl) (homed_then event says owed q v old fine runs moves unforged later)
      (subst (λ o. IfSome o (λ (u : Handed). ComesTo event u.node)) same_words.up up_at) (λ z is. is_sent z (same_words.sent ∙ is)) unforged in
      record {
        custody =
            falls_on network live S home q.0 v (before ++ option_to_list t.happenings.up)
            (then_done event says owed q v t.happenings.up same_words.up moves was) (falls_then event says owed q v old fine runs moves unforged);
        handed = λ u is. was.handed u (sym same_words.up ∙ is);
      }
  line_done_is event says owed kept st (Unsends e q v t old fine runs moves same_words) = λ falls later up_at is_sent honest.
      let unforged = sym same_words.forged ∙ honest in
      let was = same_done event says owed q (old.same q refl) (homed_then event says owed q v old fine runs moves unforged (record { at = later.at }))
      (subst (λ o. IfSome o (λ (u : Handed). ComesTo event u.node)) same_words.up up_at) (λ z is. is_sent z (same_words.sent ∙ is)) unforged in
      let on : Appends w v = appends_both w q.0 v (step_appends network w event (Ok q) old.is kept) (moved_appends IsOne IsDiscovery network q.0 v moves) in
      let down = falls_then event says owed q v old fine runs moves unforged in
      record {
        custody = falls_on network live S home q.0 _ (before ++ option_to_list t.happenings.up)
            (unsent_now S home (live q.0) (before ++ option_to_list t.happenings.up) w v _ on c.flights c.sent refl refl refl
            (then_done event says owed q v t.happenings.up same_words.up moves was))
            (record { falls = λ f h. down.falls f (unsent v f h); passes = λ place g is. absurd (none_some place is) });
        handed = λ u is. was.handed u (sym same_words.up ∙ is);
      }
  line_done_is event says owed kept st (Unbelieves e number x octets got there known comes is) = λ falls later up_at is_sent honest.
      silent event _ None refl (falls_on network live S home w _ before
      (same_now S home (live w) before (world_after network (running_world w) number (stays (accepting network x octets).node (only answers.Blacklisted))) _
      refl refl refl
      (rests_held (only answers.Blacklisted) number x octets there)) falls)
  line_done_is event says owed kept st (Chooses number count x psk ne there pair) = λ falls later up_at is_sent honest.
      silent event _ None refl (falls_on network live S home w _ before
      (same_now S home (live w) before (world_after network (running_world w) number
      (reaches x (beside_at w number) (Err choices.Halted) (λ y. choose_agent (identity network x psk) y count w.clock))) _ refl refl refl
      (chosen_held number count x psk there)) falls)

  pub line_done : LogsKept w → (event : Event) → IsEvent event
      → ((q : World × Trace) → step network w event ≡ Ok q → Owed network live w (entry_of event q)) → Done event (line_step network w event)
  line_done logs event says owed =
      let made = line_step_same IsOne IsDiscovery network network_ranges w ok s.flights logs (one_speaks w ok s r logs) event says in
      ⊎_elim (λ (loss : IsLoss event). lost_done event says owed (line_step network w event) (sym (as_before event says owed event loss)))
      (λ (kept : IsLoss event → ⊥). line_done_is event says owed kept (line_step network w event) made) (is_loss event)
