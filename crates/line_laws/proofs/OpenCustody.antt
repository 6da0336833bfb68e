-- Custody where the open flights count, by the account of events for any set of live flights.
use Rattle.std.proofs.Common.{zero-le, ◌≡◌, ℕ, suc, ◌+◌, ◌<◌, Bool, true, false, List, [], ◌∷◌, ◌++◌, length, Option, Some, None, Result, Ok, Err}
use Rattle.std.proofs.Common.{refl, sym, ap, subst, ◌∙◌, arith}
use Rattle.std.specs.Prelude.{All, AllPairs, cond, eqb, if◌then◌else◌, slice_get, ◌≤◌}
use Rattle.std.specs.Option.{option_and_then, option_map, option_to_list}
use Rattle.std.proofs.lemmas.Bool.{and_parts, eq-eqb, ne_eqb}
use Rattle.std.proofs.lemmas.List.{append_assoc, length-append}
use Rattle.std.proofs.lemmas.List.Elements.{All-head, All-tail}
use Rattle.std.proofs.lemmas.Option.{same_Some}
use Rattle.std.proofs.lemmas.Slice.Eq.{bytes_eq-Decides}
use Rattle.plc_base.specs.declared.key.Key.{Key}
use Rattle.mac_frames.specs.Reader.{head_in}
use Rattle.pan_discovery.specs.Messages.{IsDiscovery}
use Rattle.node_rules.specs.Accepted.{Accepted}
use Rattle.node_rules.specs.declared.heard.Path.{Path}
use Rattle.node_rules.specs.declared.heard.Path.TheVariants as paths
use Rattle.node_rules.specs.declared.refusal.FrameRefusal.{FrameRefusal}
use Rattle.node_rules.specs.Ciphers.{network}
use Rattle.node_rules.specs.Memory.{Node}
use Rattle.node_rules.proofs.NetworkOpens.{network_opens_again}
use Rattle.line_events.specs.declared.event.Event.{Event}
use Rattle.line_events.specs.declared.event.Event.TheVariants as events
use Rattle.line_events.specs.declared.happenings.Handed.{Handed}
use Rattle.line_events.specs.Events.{AreEvents, IsEvent}
use Rattle.line_rules.specs.Forgery.{AcceptsSealed, ByFrame, Comes, IsForgedRight, OfFlight, OfScript, accepting}
use Rattle.line_rules.specs.Runs.{Entry, IsRun, events_of, one_of, sends as sends_of, ups as ups_of}
use Rattle.line_rules.specs.Steps.{step, world_after}
use Rattle.line_rules.specs.Traces.{AreTracedRight, CountsRight}
use Rattle.line_rules.specs.Worlds.{World, Flight, Sending, Trace, flight_at, has_octets, is_forged_frame, node_at, start}
use Rattle.line_rules.proofs.StepsOn.{line_steps, steps}
use Rattle.line_laws.specs.InCustody.{Custody, SentUnder}
use Rattle.line_laws.specs.Live.{FlightsAlwaysFall, FlightsFall, is_live, live}
use Rattle.line_laws.specs.OpenFlights.{EveryRunStaysInOpenCustody, Opening, StayInOpenCustody, is_open, opening, opening_at, opening_by, opening_on}
use Rattle.line_laws.specs.Places.{LiveFalls, first_place, issued as issued_so, opened_at, opened_by, places}
use Rattle.line_laws.specs.Sends.{SentAs}
use Rattle.line_laws.specs.Tags.{TagRises}
use Rattle.line_laws.proofs.CustodyDeliver.{flown}
use Rattle.line_laws.proofs.CustodyHomes.{HomedAlong, homed_here}
use Rattle.line_laws.proofs.CustodyRuns.{After, ArrivesBy, ByFlight, ByScript, Owed}
use Rattle.line_laws.proofs.ForgeryRight.{none_flew}
use Rattle.line_laws.proofs.FurtherCustody.{Done, entry_of, line_done}
use Rattle.line_laws.proofs.FurtherHomes.{falls, reach_homes}
use Rattle.line_laws.proofs.FurtherOctets.{every_flight}
use Rattle.line_laws.proofs.FurtherSeals.{IsOne}
use Rattle.line_laws.proofs.FurtherStates.{Sound, sound_on, start_sound}
use Rattle.line_laws.proofs.FurtherStepKinds.{Besides, Carries, Flies, Moves, Stays, Turns}
use Rattle.line_laws.proofs.FurtherUps.{one_list, sent_under, start_guarded}
use Rattle.line_laws.proofs.IssueRuns.{all_of_one}
use Rattle.line_laws.proofs.KeyedRuns.{every_fall}
use Rattle.line_laws.proofs.LawRuns.{every_count, every_forgery, every_send, every_tag, every_trace}
use Rattle.line_laws.proofs.StorableGrants.{network_ranges}
use Rattle.line_laws.proofs.UpsSent.{owed_at}

-- # Openings

true_not : (b : Bool) → b ≡ true → b ≡ false → ⊥
true_not b e f = cc

-- with one opening more no flight is open that was not
less_open : (o : Option Opening) (opened : List Opening) (f : Flight) → is_open (one_of o ++ opened) f ≡ true → is_open opened f ≡ true
less_open None opened f e = e
less_open (Some p) opened f e = by_test (has_octets p.octets p.key f) e
  where
    by_test : (b : Bool) → (if b then false else is_open opened f) ≡ true → is_open opened f ≡ true
    by_test true e = absurd (cc)
    by_test false e = e

open_lost : (opened : List Opening) (f : Flight) → is_open opened (record f { lost = true }) ≡ is_open opened f
open_lost [] f = refl
open_lost (o ∷ rest) f = ap (λ b. if has_octets o.octets o.key f then false else b) (open_lost rest f)

-- the flight that is opened has the octets, under the key
place_has : (fs : List Flight) (octets : List ℕ) (key : Key) (place : ℕ) (f : Flight) → first_place fs octets key ≡ Some place
    → slice_get fs place ≡ Some f → has_octets octets key f ≡ true
unfolding first_place
place_has [] octets key place f e there = absurd (cc)
place_has (g ∷ fs) octets key place f e there = by_test (has_octets octets key g) refl (λ k. place_has fs octets key k f) e
  where
    by_rest : (o : Option ℕ) → first_place fs octets key ≡ o → ((k : ℕ) → first_place fs octets key ≡ Some k → slice_get fs k ≡ Some f
        → has_octets octets key f ≡ true) → option_map (λ (k : ℕ). suc k) o ≡ Some place → has_octets octets key f ≡ true
    by_rest None is rest h = absurd (cc)
    by_rest (Some k) is rest h =
        let same : suc k ≡ place = same_Some (suc k) place h in rest k is (ap (slice_get (g ∷ fs)) same ∙ there)

    by_test : (b : Bool) → has_octets octets key g ≡ b → ((k : ℕ) → first_place fs octets key ≡ Some k → slice_get fs k ≡ Some f
        → has_octets octets key f ≡ true) → (if b then Some 0 else option_map (λ (k : ℕ). suc k) (first_place fs octets key)) ≡ Some place
        → has_octets octets key f ≡ true
    by_test true is rest h =
        let same : 0 ≡ place = same_Some 0 place h in
        let this : g ≡ f = same_Some g f (ap (slice_get (g ∷ fs)) same ∙ there) in
        subst (λ (x : Flight). has_octets octets key x ≡ true) this is
    by_test false is rest h = by_rest (first_place fs octets key) refl rest h

-- Octets that a node opened in an event, and how.
pub record Opens (w : World) (event : Event) (p : Opening) : Type 0 where
  pub number : ℕ
  pub comes : Comes w event number p.octets
  pub node : Node
  pub there : node_at w number ≡ Some node
  pub got : Accepted
  pub is : (accepting network node p.octets).answer ≡ Ok got
  pub from : ℕ
  pub path : got.path ≡ paths.Sealed from false p.key

opens_on : (octets : List ℕ) (path : Path) (p : Opening) → opening_on octets path ≡ Some p
    → (octets ≡ p.octets) × ((from : ℕ) × (path ≡ paths.Sealed from false p.key))
opens_on octets (paths.Sealed from true key) p e = absurd (cc)
opens_on octets (paths.Sealed from false key) p e =
    let same : record { octets = octets; key = key } ≡ p = same_Some _ p e in
    (ap (λ (p : Opening). p.octets) same, (from, ap (λ (p : Opening). paths.Sealed from false p.key) same))
opens_on octets (paths.Up from) p e = absurd (cc)
opens_on octets (paths.Down from) p e = absurd (cc)

opens_at : (w : World) (event : Event) (number : ℕ) (octets : List ℕ) (p : Opening) → Comes w event number octets → opening_at w number octets ≡ Some p
    → Opens w event p
opens_at w event number octets p comes e = by_node (node_at w number) refl e
  where
    by_answer : (x : Node) → node_at w number ≡ Some x → (a : Result Accepted FrameRefusal) → (accepting network x octets).answer ≡ a
        → opening_by octets a ≡ Some p → Opens w event p
    by_answer x there (Err reason) is e = absurd (cc)
    by_answer x there (Ok got) is e =
        let h = opens_on octets got.path p e in record {
          number = number;
          comes = subst (Comes w event number) h.0 comes;
          node = x;
          there = there;
          got = got;
          is = subst (λ o. (accepting network x o).answer ≡ Ok got) h.0 is;
          from = h.1.0;
          path = h.1.1;
        }

    by_node : (o : Option Node) → node_at w number ≡ o → option_and_then (λ (x : Node). opening_by octets (accepting network x octets).answer) o ≡ Some p
        → Opens w event p
    by_node None there e = absurd (cc)
    by_node (Some x) there e = by_answer x there (accepting network x octets).answer refl e

pub opens_in : (w : World) (event : Event) (p : Opening) → opening w event ≡ Some p → Opens w event p
opens_in w (events.Deliver flight number cost) p e = by_flight (flight_at w flight) refl e
  where
    by_flight : (o : Option Flight) → flight_at w flight ≡ o → option_and_then (λ (f : Flight). opening_at w number f.octets) o ≡ Some p
        → Opens w (events.Deliver flight number cost) p
    by_flight None there e = absurd (cc)
    by_flight (Some f) there e = opens_at w (events.Deliver flight number cost) number f.octets p (OfFlight flight number cost f there) e
opens_in w (events.Inject number cost octets) p e = opens_at w (events.Inject number cost octets) number octets p (OfScript number cost octets) e
opens_in w _ p e = absurd (cc)

-- what comes to a node is opened by it
opening_is : (w : World) (event : Event) (number : ℕ) (octets : List ℕ) (cost : ℕ) → ArrivesBy w event number octets cost
    → opening w event ≡ opening_at w number octets
opening_is w event number octets cost (ByFlight flight n c f there) = ap (option_and_then (λ (f : Flight). opening_at w number f.octets)) there
opening_is w event number octets cost (ByScript n c o) = refl

opened_so : (w : World) (octets : List ℕ) (a : Result Accepted FrameRefusal) (place : ℕ) → opened_at w octets a ≡ Some place
    → (key : Key) × (opening_by octets a ≡ Some (record { octets = octets; key = key })) × (first_place w.flights octets key ≡ Some place)
opened_so w octets (Err reason) place e = absurd (cc)
opened_so w octets (Ok got) place e = by_path got.path e
  where
    by_path : (path : Path) → opened_by w octets path ≡ Some place
        → (key : Key) × (opening_on octets path ≡ Some (record { octets = octets; key = key })) × (first_place w.flights octets key ≡ Some place)
    by_path (paths.Sealed from true key) e = absurd (cc)
    by_path (paths.Sealed from false key) e = (key, refl, e)
    by_path (paths.Up from) e = absurd (cc)
    by_path (paths.Down from) e = absurd (cc)

-- # Moves count no event

moved_events : (v u : World) → Moves IsOne IsDiscovery network v u → u.events ≡ v.events
unfolding world_after
moved_events v u (Stays z) = refl
moved_events v u (Carries z number x A halted does there is) = refl
moved_events v u (Flies z number x frame there known) = refl
moved_events v u (Besides z on bs) = refl
moved_events v u (Turns z between y first rest) = moved_events between u rest ∙ moved_events v between first

-- # One event

module _ (w : World) (opened : List Opening) (event : Event) where
  abbrev next : List Opening
  next = one_of (opening w event) ++ opened

  -- the flights that are open in this world, and in those after the event
  abbrev counts : World → Flight → Bool
  counts u f = cond (eqb u.events w.events) (is_open opened f) (is_open next f)

  counts_lost : (u : World) (f : Flight) → counts u (record f { lost = true }) ≡ true → counts u f ≡ true
  counts_lost u f e =
      (λ i. cond (eqb u.events w.events) (sym (open_lost opened f) i) (sym (open_lost next f) i)) ∙ e

  here : eqb w.events w.events ≡ true
  here = eq-eqb w.events w.events refl

  later : (u : World) → u.events ≡ w.events + 1 → eqb u.events w.events ≡ false
  later u e = ne_eqb u.events w.events (λ (h : u.events ≡ w.events). omega arith)

  counts_here : (f : Flight) → counts w f ≡ is_open opened f
  counts_here f = ap (λ b. cond b (is_open opened f) (is_open next f)) here

  counts_later : (u : World) → u.events ≡ w.events + 1 → (f : Flight) → counts u f ≡ is_open next f
  counts_later u e f = ap (λ b. cond b (is_open opened f) (is_open next f)) (later u e)

  falls_so : (u : World) → u.events ≡ w.events + 1 → (f : Flight) → counts u f ≡ true → counts w f ≡ true
  falls_so u e f h = counts_here f ∙ less_open (opening w event) opened f (sym (counts_later u e f) ∙ h)

  quiet_so : (u : World) → u.events ≡ w.events + 1 → LiveFalls counts w u None
  quiet_so u e = record { falls = falls_so u e; passes = λ place f is. absurd (none_here place is) }
    where
      none_here : (place : ℕ) → None ≡ Some place → ⊥
      none_here place e = cc

  moved_counts : (v u : World) → Moves IsOne IsDiscovery network v u → LiveFalls counts v u None
  moved_counts v u moves = record {
    falls = λ f h. subst (λ (n : ℕ). cond (eqb n w.events) (is_open opened f) (is_open next f) ≡ true) (moved_events v u moves) h;
    passes = λ place f is. absurd (none_here place is);
  }
    where
      none_here : (place : ℕ) → None ≡ Some place → ⊥
      none_here place e = cc

  -- the flight that is opened is open before the event, and not after it
  module _ (past : (f : Flight) → is_open opened f ≡ false → live w f ≡ false) (number : ℕ) (y : Node) (octets : List ℕ) (cost : ℕ)
      (there : node_at w number ≡ Some y) (by : ArrivesBy w event number octets cost) (u : World) (on : u.events ≡ w.events + 1)
      (fell : LiveFalls live w u (opened_at w octets (accepting network y octets).answer)) where
    passes_so : (place : ℕ) (f : Flight) → opened_at w octets (accepting network y octets).answer ≡ Some place → slice_get w.flights place ≡ Some f
        → (counts w f ≡ true) × (counts u f ≡ false)
    passes_so place f e found =
        let o = opened_so w octets (accepting network y octets).answer place e in
        let is : opening w event ≡ Some (record { octets = octets; key = o.0 }) =
        opening_is w event number octets cost by
        ∙ ap (option_and_then (λ (x : Node). opening_by octets (accepting network x octets).answer)) there
        ∙ o.1 in
        let has = place_has w.flights octets o.0 place f o.2 found in
        let shut : is_open next f ≡ false =
        ap (λ p. is_open (one_of p ++ opened) f) is ∙ ap (λ b. if b then false else is_open opened f) has in
        (counts_here f ∙ was (is_open opened f) refl, counts_later u on f ∙ shut)
      where
        was : (b : Bool) → is_open opened f ≡ b → b ≡ true
        was true is = refl
        was false is = absurd (true_not (live w f) (fell.passes place f e found).0 (past f is))

    arrival_falls : LiveFalls counts w u (opened_at w octets (accepting network y octets).answer)
    arrival_falls = record { falls = falls_so u on; passes = passes_so }

octets_of : (p : Opening) (f : Flight) → has_octets p.octets p.key f ≡ true → f.octets ≡ p.octets
octets_of p f e = (bytes_eq-Decides f.octets p.octets).0 (and_parts _ _ e).0

-- no flight that was opened is live
past_on : (w : World) (opened : List Opening) (x : Entry)
    → ((octets : List ℕ) (key : Key) → AcceptsSealed network w x.event octets key → is_forged_frame w.flights octets key ≡ true → ⊥)
    → FlightsFall network w x → ((f : Flight) → is_open opened f ≡ false → live w f ≡ false)
    → (f : Flight) → is_open (one_of (opening w x.event) ++ opened) f ≡ false → live x.after f ≡ false
past_on w opened x flew fell past f e = by_opening (opening w x.event) refl e
  where
    stays_past : live w f ≡ false → live x.after f ≡ false
    stays_past e = by_live (live x.after f) refl
      where
        by_live : (b : Bool) → live x.after f ≡ b → b ≡ false
        by_live true is = absurd (true_not (live w f) (fell.falls.falls f is) e)
        by_live false is = refl

    by_flown : (p : Opening) → Opens w x.event p → has_octets p.octets p.key f ≡ true → (b : Bool) → is_forged_frame w.flights p.octets p.key ≡ b
        → live x.after f ≡ false
    by_flown p o has true forged =
        absurd (flew p.octets p.key
        (record { number = o.number; comes = o.comes; node = o.node; there = o.there; got = o.got; is = o.is; from = o.from; to_all = false; path = o.path })
        forged)
    by_flown p o has false unforged =
        let g = flown w.flights p.octets p.key unforged in
        let at : opened_at w p.octets (accepting network o.node p.octets).answer ≡ Some g.place =
        ap (opened_at w p.octets) o.is ∙ ap (opened_by w p.octets) o.path ∙ g.at in
        let shut = ((fell.opened o.number p.octets o.node o.comes o.there).passes g.place g.flight at g.there).1 in
        let same : g.flight.octets ≡ f.octets = g.octets_are ∙ sym (octets_of p f has) in
        subst (λ (octets : List ℕ). is_live x.after (head_in octets) ≡ false) same shut

    by_opening : (o : Option Opening) → opening w x.event ≡ o → is_open (one_of o ++ opened) f ≡ false → live x.after f ≡ false
    by_opening None is e = stays_past (past f e)
    by_opening (Some p) is e = by_has (has_octets p.octets p.key f) refl e
      where
        by_has : (b : Bool) → has_octets p.octets p.key f ≡ b → (if b then false else is_open opened f) ≡ false → live x.after f ≡ false
        by_has true has e = by_flown p (opens_in w x.event p is) has (is_forged_frame w.flights p.octets p.key) refl
        by_has false has e = stays_past (past f e)

-- # Runs

module _ (home : ℕ → ℕ) (apart : (i j : ℕ) → home i ≡ home j → i ≡ j) (first : home 0 ≡ 0) (sent : List Sending) (rises : AllPairs TagRises sent)
    (some : All (λ (s : Sending). 0 < length s.datagram) sent) where
  abbrev S : ℕ → SentAs → Type 0
  S = SentUnder home sent

  abbrev OpenAt : List Opening → World → List Handed → Type 0
  OpenAt opened w ups = Custody network (λ _ f. is_open opened f) S home w ups

  -- What holds of a world of a run.
  record IsOpen (opened : List Opening) (w : World) (before : List Entry) : Type 0 where
    count : w.sends ≡ length (sends_of before)
    custody : OpenAt opened w (ups_of before)
    past : (f : Flight) → is_open opened f ≡ false → live w f ≡ false

  module _ (opened : List Opening) (w : World) (before : List Entry) (o : Sound w before) (h : IsOpen opened w before) (x : Entry) (xs : List Entry)
      (says : AreEvents (events_of (x ∷ xs))) (run : IsRun network w (x ∷ xs)) (same : sent ≡ sends_of before ++ sends_of (x ∷ xs))
      (homed : HomedAlong home w (x ∷ xs)) (counted : CountsRight w (x ∷ xs)) (traced : AreTracedRight w (x ∷ xs))
      (forging : IsForgedRight network w (x ∷ xs)) (falling : FlightsAlwaysFall network w (x ∷ xs)) (honest : x.trace.happenings.forged ≡ false) where
    event : IsEvent x.event
    event = All-head IsEvent x.event (events_of xs) says

    abbrev L : World → Flight → Bool
    L = counts w opened x.event

    abbrev after : List Opening
    after = next w opened x.event

    held_before : Custody network L S home w (ups_of before)
    held_before =
        let c = h.custody in record {
          flights = c.flights;
          ranged = c.ranged;
          sent = c.sent;
          nodes = c.nodes;
          places = record {
            at_most = λ n i some.
                subst (λ (b : Bool). places network (λ _ f. cond b (is_open opened f) (is_open after f)) n i w (ups_of before) ≤ issued_so n w.sends)
                (sym (here w opened x.event)) (c.places.at_most n i some);
          };
        }

    owed_so : (q : World × Trace) → step network w x.event ≡ Ok q → Owed network L w (entry_of x.event q)
    owed_so q is =
        let owed = owed_at w before (record { ok = o.stands.ok; speaks = o.stands.speaks; ranged = o.ranged; keyed = o.keyed }) (entry_of x.event q) event is in
        let on = (steps network w q.0 x.event q.1 is).events in
        record {
          quiet = λ none. quiet_so w opened x.event q.0 on;
          falls = λ number y octets cost there by.
              arrival_falls w opened x.event h.past number y octets cost there by q.0 on (owed.falls number y octets cost there by);
          says = owed.says;
          joins = owed.joins;
        }

    on_events : x.after.events ≡ w.events + 1
    on_events = (line_steps network w x.after x.event x.trace run.2).events

    left : After network network_opens_again network_ranges L (counts_lost w opened x.event) home apart sent rises some w x.event (ups_of before) x.after
        x.trace.happenings.up
    left =
        let done = subst (Done L (counts_lost w opened x.event) home apart sent rises some w (ups_of before) held_before o.stands.ok o.stands.speaks o.ranged
        before o.keyed first homed.0 (λ v u moves fine runs given kv ku. moved_counts w opened x.event v u moves) (λ v f e. e) x.event)
        run.2
        (line_done L (counts_lost w opened x.event) home apart sent rises some w (ups_of before) held_before o.stands.ok o.stands.speaks o.ranged before
        o.keyed first homed.0 (λ v u moves fine runs given kv ku. moved_counts w opened x.event v u moves) (λ v f e. e) o.stands.logs x.event event owed_so)
        in
        done (quiet_so w opened x.event x.after on_events) (homed_here home x.after xs (homed.1 honest)) traced.0.up_at
        (sent_under home apart first sent rises some w before x xs h.count same) honest

    ups_now : ups_of before ++ option_to_list x.trace.happenings.up ≡ ups_of (before ++ x ∷ [])
    ups_now = ap (λ (us : List Handed). ups_of before ++ us) (one_list x.trace.happenings.up) ∙ sym (all_of_one (λ d. one_of d.happenings.up) before x)

    held_after : OpenAt after x.after (ups_of (before ++ x ∷ []))
    held_after =
        let c : Custody network L S home x.after (ups_of (before ++ x ∷ [])) = subst (Custody network L S home x.after) ups_now left.custody in record {
          flights = c.flights;
          ranged = c.ranged;
          sent = c.sent;
          nodes = c.nodes;
          places = record {
            at_most = λ n i some.
                subst (λ (b : Bool). places network (λ _ f. cond b (is_open opened f) (is_open after f)) n i x.after (ups_of (before ++ x ∷ []))
                ≤ issued_so n x.after.sends)
                (later w opened x.event x.after on_events) (c.places.at_most n i some);
          };
        }

    sends_now : sends_of (before ++ x ∷ []) ≡ sends_of before ++ one_of x.trace.sent
    sends_now = all_of_one (λ d. one_of d.sent) before x

    open_on : IsOpen after x.after (before ++ x ∷ [])
    open_on =
        let longer = length-append (sends_of before) (one_of x.trace.sent) in
        let adds = counted.0.sends in
        let length_now : length (sends_of (before ++ x ∷ [])) ≡ length (sends_of before ++ one_of x.trace.sent) = ap length sends_now in
        let was = h.count in
        record {
          count = omega arith;
          custody = held_after;
          past = past_on w opened x none_forged falling.0 h.past;
        }
      where
        none_forged : (octets : List ℕ) (key : Key) → AcceptsSealed network w x.event octets key → is_forged_frame w.flights octets key ≡ true → ⊥
        none_forged octets key accepts e =
            true_not x.trace.happenings.forged (forging.0.1 (ByFrame octets key accepts (none_flew w.flights octets key e))) honest

  open_from : (opened : List Opening) (w : World) (before : List Entry) → Sound w before → IsOpen opened w before → (entries : List Entry)
      → AreEvents (events_of entries) → IsRun network w entries → sent ≡ sends_of before ++ sends_of entries → HomedAlong home w entries
      → CountsRight w entries → AreTracedRight w entries → IsForgedRight network w entries → FlightsAlwaysFall network w entries
      → StayInOpenCustody opened before w entries
  open_from opened w before o h [] says run same homed counted traced forging falling = tt
  open_from opened w before o h (x ∷ xs) says run same homed counted traced forging falling = λ honest.
      let sends_then = same ∙ sym (append_assoc (sends_of before) (one_of x.trace.sent) (sends_of xs))
      ∙ ap (λ (ss : List Sending). ss ++ sends_of xs) (sym (all_of_one (λ d. one_of d.sent) before x)) in
      let now = open_on opened w before o h x xs says run same homed counted traced forging falling honest in (
        now.custody.places,
        open_from (one_of (opening w x.event) ++ opened) x.after (before ++ x ∷ [])
            (sound_on w before o x (All-head IsEvent x.event (events_of xs) says) run.2 honest) now xs (All-tail IsEvent x.event (events_of xs) says) run.3
            sends_then (homed.1 honest) counted.1 traced.1 forging.1 (falling.1 honest),
      )

-- in every run of the network
pub every_open : EveryRunStaysInOpenCustody
every_open entries r =
    let fly = every_flight entries r in
    let rises = every_tag network network_ranges entries r fly in
    let some = every_send network entries r in
    let h = reach_homes start [] start_sound entries r.events r.run in
    let g = start_guarded h.home h.apart h.first (sends_of entries) rises some in
    open_from h.home h.apart h.first (sends_of entries) rises some [] start [] start_sound
    (record {
      count = refl;
      custody = record {
        flights = g.custody.flights;
        ranged = g.custody.ranged;
        sent = g.custody.sent;
        nodes = g.custody.nodes;
        places = record { at_most = λ n i some. zero-le };
      };
      past = λ f e. absurd (true_not true refl e);
    })
    entries r.events r.run refl h.along (every_count network entries r) (every_trace network entries r) (every_forgery network entries r)
    (every_fall network network_ranges entries r fly)
