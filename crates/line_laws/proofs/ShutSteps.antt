-- Every event but one that allows the meter keeps it shut out, once setup is over; a kick shuts it out.
use Rattle.std.proofs.Common.{◌≡◌, ◌≢◌, ⊎_elim, ℕ, ◌+◌, ◌-◌, ◌<◌, Bool, true, false, not, List, length, Option, Some, None, Result, Ok, Err, refl, sym, ap, ◌∙◌}
use Rattle.std.proofs.Common.{subst, arith}
use Rattle.std.specs.Prelude.{if◌then◌else◌, ◌==◌, All, slice_get, slice_set}
use Rattle.std.specs.Option.{option_map, option_map_or}
use Rattle.std.proofs.lemmas.Bool.{cases_eq, eqb-false, and_parts}
use Rattle.std.proofs.lemmas.Option.{same_Some}
use Rattle.store_tables.proofs.SlotTables.{slice_get-set, slice_get-set_other, slice_get-map, slice_get-push_other}
use Rattle.plc_base.specs.declared.address.Eui.{Eui}
use Rattle.group_keys.specs.KeyBook as books
use Rattle.line_rules.specs.Agreement.{is_allow_of}
use Rattle.line_rules.specs.Answers.{Reception, coordinator_reception, meter_reception, ordered_word, order_word, sent_word}
use Rattle.line_events.specs.Events.{IsEvent}
use Rattle.line_rules.specs.Forgery.{Comes, accepting}
use Rattle.line_rules.specs.Steps.{Step, running_world, world_after, node_outcome, allow, kick, by_coordinator, takes_setup, has_begun, sending, sent_if}
use Rattle.line_rules.specs.Steps.{is_taken, tag_of}
use Rattle.line_rules.specs.Steps.{hearing_step}
use Rattle.line_rules.specs.Steps.{hearing_outcome, note_by, identity, psk_of, restarts, ticked, step}
use Rattle.line_rules.specs.Worlds.{World, Trace, node_at}
use Rattle.line_events.specs.declared.event.Answer.{Answer}
use Rattle.line_events.specs.declared.event.Answer.TheVariants as answers
use Rattle.line_events.specs.declared.event.Event.{Event}
use Rattle.line_events.specs.declared.event.Event.TheVariants as events
use Rattle.line_events.specs.declared.event.StepFault.{StepFault}
use Rattle.line_events.specs.declared.event.StepFault.TheVariants as faults
use Rattle.node_rules.specs.Acceptance.{accept}
use Rattle.node_rules.specs.Calls as calls
use Rattle.node_rules.specs.Ciphers.{Ciphers}
use Rattle.node_rules.specs.Coordinators as coordinator_rules
use Rattle.node_rules.specs.Frames.{arrived}
use Rattle.node_rules.specs.Memory.{Memory, Role, Coordinator, Meter, Node}
use Rattle.node_rules.specs.Meters as meters
use Rattle.node_rules.specs.NodeSteps.{NodeStep, acts, stays, answering, of_station, changing}
use Rattle.node_rules.specs.MemoryDrafts.{with_station}
use Rattle.node_rules.specs.Plans.{Plan}
use Rattle.node_rules.specs.Accepted.{Accepted}
use Rattle.node_rules.specs.declared.heard.SentHow.{SentHow}
use Rattle.node_rules.specs.declared.refusal.CoordinatorRefusal.{CoordinatorRefusal}
use Rattle.node_rules.specs.declared.refusal.CoordinatorRefusal.TheVariants as orders
use Rattle.node_rules.specs.declared.refusal.Dropped.TheVariants as drops
use Rattle.node_rules.specs.declared.refusal.FrameRefusal.{FrameRefusal}
use Rattle.node_rules.specs.declared.refusal.FrameRefusal.TheVariants as frames
use Rattle.node_rules.specs.declared.refusal.SendRefusal.{SendRefusal}
use Rattle.node_rules.specs.declared.refusal.SendRefusal.TheVariants as sends
use Rattle.line_laws.specs.Owed.{KeepsRanges}
use Rattle.line_laws.specs.Sizes.{IsMemorySized}
use Rattle.line_laws.specs.Stores.{IsBookKept, IsKept}
use Rattle.line_laws.proofs.AddressBook.{one_book}
use Rattle.line_laws.proofs.Answered.{acts_answered}
use Rattle.line_laws.proofs.BookGrowth.{psk_meter}
use Rattle.line_laws.proofs.CoordinatorCalls.{accept_ok, accept_failed, accepted_routes}
use Rattle.line_laws.proofs.FlightFolds.{came_octets}
use Rattle.line_laws.proofs.IssueCalls.{Quietly, send_quietly, broke_quietly, random_quietly, accept_quietly}
use Rattle.line_laws.proofs.IssueNodes.{acts_whole}
use Rattle.line_laws.proofs.IssueWorlds.{after_here}
use Rattle.line_laws.proofs.Nodes.{NodeOk, acts_ok, node_kept, ring_readable}
use Rattle.line_laws.proofs.NodeCalls.{RoutesFit}
use Rattle.line_laws.proofs.StorableGrants.{held}
use Rattle.line_laws.proofs.ShutBook.{Shut}
use Rattle.line_laws.proofs.ShutCalls.{BookShut, acts_shut, hears_shut, allow_shut, rekey_shut, activate_self_shut, challenge_shut, activate_shut, kick_shut}
use Rattle.line_laws.proofs.ShutCalls.{kick_leaves_shut, kick_failed}
use Rattle.line_laws.proofs.StoreMarks.{accept_is}
use Rattle.line_laws.proofs.StepKinds.{IsStep, Fails, Makes, Rests, Shows, Acts, BreaksLink, SendsFrom, AllowsMeter, Sets, SetsTwo, Provides, TurnsDown, Hears}
use Rattle.line_laws.proofs.StepKinds.{Loses, Ticks, Restarts, Cuts, IsAsked, AskRandom, AskJoin, AskLeave, AskRekey, AskTurn, AskChallenge, AskActivate}
use Rattle.line_laws.proofs.StepKinds.{AskKick, step_is}
use Rattle.line_laws.proofs.Worlds.{NodeFits, FlightFits, WorldOk, within as place_within, at_place}
pub use Rattle.line_laws.specs.Shut.{ShutAt}

-- # What holds of a step by its tests

module _ (P : Step → Type 0) (fails : (fault : StepFault) → P (Err fault)) where
  begun : (b : Bool) (s : Step) → P s → P (if b then s else Err faults.Setup)
  begun true s h = h
  begun false s h = fails faults.Setup

  no_first : (b : Bool) (s : Step) → (b ≡ false → P s) → P (if b then Err faults.Node else s)
  no_first true s h = fails faults.Node
  no_first false s h = h refl

  found_one : {X : Type 0} (o : Option X) (f : X → Step) → ((x : X) → o ≡ Some x → P (f x)) → P (option_map_or f o (Err faults.Node))
  found_one None f h = fails faults.Node
  found_one (Some x) f h = h x refl

module _ (eui : Eui) where
  pub same_shut : (u v : World) → v.nodes ≡ u.nodes → ShutAt eui u → ShutAt eui v
  same_shut u v e shut c there = shut c (sym (ap (λ ns. slice_get ns 0) e) ∙ there)

  pub after_shut : {A : Type 0} (u v : World) (number : ℕ) (x : Node) (d : NodeStep A) → ShutAt eui u → v.nodes ≡ slice_set u.nodes number d.node
      → node_at u number ≡ Some x → (number ≡ 0 → BookShut eui d.node) → ShutAt eui v
  after_shut u v number x d shut nodes there book c is = ⊎_elim
      (λ (e : number ≡ 0).
      let same : d.node ≡ c = same_Some _ _ (sym (slice_get-set u.nodes number d.node (place_within u.nodes number x there))
      ∙ sym (ap (λ ns. slice_get ns number) nodes) ∙ ap (node_at v) e ∙ is) in
      subst (BookShut eui) same (book e))
      (λ (ne : number ≢ 0). shut c (sym (slice_get-set_other u.nodes number 0 d.node (λ e. ne (sym e))) ∙ sym (ap (λ ns. slice_get ns 0) nodes) ∙ is))
      (cases_eq number 0)

  abbrev pub ShutBy : Step → Type 0
  ShutBy (Ok r) = ShutAt eui r.0
  ShutBy (Err fault) = Unit {0}

  shut_failed : (fault : StepFault) → ShutBy (Err fault)
  shut_failed fault = tt

  module _ (ciphers : Ciphers) (fits : KeepsRanges ciphers) (w : World) (ok : WorldOk w) (flown : All FlightFits w.flights) (shut : ShutAt eui w) where
    good_at : (number : ℕ) (x : Node) → node_at w number ≡ Some x → NodeOk x
    good_at number x there = at_place NodeOk w.nodes number x there ok.nodes

    given_at : (number : ℕ) (x : Node) → node_at w number ≡ Some x → NodeFits x
    given_at number x there = at_place NodeFits w.nodes number x there ok.fits

    abbrev own_of : Node → coordinator_rules.CoordinatorIdentity
    own_of c = record { eui = c.eui; ciphers = ciphers }

    first_role : (number : ℕ) (x : Node) → number ≡ 0 → node_at w number ≡ Some x → x.role ≡ Coordinator
    first_role number x first there = ok.first x (ap (slice_get w.nodes) (sym first) ∙ there)

    first_shut : (number : ℕ) (x : Node) → number ≡ 0 → node_at w number ≡ Some x → BookShut eui x
    first_shut number x first there = shut x (ap (slice_get w.nodes) (sym first) ∙ there)

    pub quiet_shut : {A : Type 0} (number : ℕ) (x : Node) (halted : A) (plan : Memory → Plan Memory A) → node_at w number ≡ Some x
        → ((m : Memory) → IsMemorySized m → Quietly m (plan m)) → number ≡ 0 → BookShut eui (acts x halted plan).node
    quiet_shut number x halted plan there q first = acts_shut eui x halted plan (good_at number x there) (first_role number x first there)
        (first_shut number x first there) (λ m sized. (q m sized).leads (Shut eui))

    asked_shut : (number : ℕ) (x : Node) (A : Type 0) (halted : A) (plan : Memory → Plan Memory A) → node_at w number ≡ Some x
        → IsAsked ciphers w number x A halted plan → number ≡ 0 → BookShut eui (acts x halted plan).node
    asked_shut number x A halted plan there (AskRandom value are) first = quiet_shut number x _ _ there (λ m sized. random_quietly m sized value) first
    asked_shut number x A halted plan there (AskJoin psk a ne pair other) first = absurd (ne first)
    asked_shut number x A halted plan there (AskLeave ne) first = absurd (ne first)
    asked_shut number x A halted plan there (AskRekey index key zero_is low long) first = acts_shut eui x _ _ (good_at number x there)
        (first_role number x first there) (first_shut number x first there) (λ m sized. rekey_shut eui (own_of x) m sized index key (held key long.0 long.1))
    asked_shut number x A halted plan there (AskTurn index zero_is low) first = acts_shut eui x _ _ (good_at number x there) (first_role number x first there)
        (first_shut number x first there) (λ m sized. activate_self_shut eui (own_of x) m sized index low)
    asked_shut number x A halted plan there (AskChallenge meter y zero_is at) first = acts_shut eui x _ _ (good_at number x there)
        (first_role number x first there) (first_shut number x first there)
        (λ m sized. challenge_shut eui (own_of x) m sized y.eui w.clock (given_at meter y at.there).eui)
    asked_shut number x A halted plan there (AskActivate meter y index zero_is at low) first = acts_shut eui x _ _ (good_at number x there)
        (first_role number x first there) (first_shut number x first there) (λ m sized. activate_shut eui (own_of x) m sized y.eui index w.clock)
    asked_shut number x A halted plan there (AskKick meter y zero_is at) first = acts_shut eui x _ _ (good_at number x there) (first_role number x first there)
        (first_shut number x first there) (λ m sized. kick_shut eui (own_of x) m sized y.eui (given_at meter y at.there).eui)

    after_nodes : {A : Type 0} (u : World) (number : ℕ) (d : NodeStep A) → (world_after ciphers u number d).nodes ≡ slice_set u.nodes number d.node
    unfolding world_after
    after_nodes u number d = refl

    -- # A frame

    pub accepted_shut : (event : Event) (number : ℕ) (x : Node) (octets : List ℕ) → node_at w number ≡ Some x → IsEvent event → Comes w event number octets
        → number ≡ 0 → BookShut eui (accepting ciphers x octets).node
    accepted_shut event number x octets there says comes first =
        quiet_shut number x (Err frames.Halted) (λ m. of_station m (accept m.station x.eui (arrived ciphers octets))) there
        (λ m sized. accept_quietly ciphers fits octets (came_octets ciphers fits w ok flown event number octets says comes) m x.eui) first

    hears_at : (y : Node) (got : Accepted) (cost note now : ℕ) → NodeOk y → y.role ≡ Coordinator → BookShut eui y → RoutesFit got
        → BookShut eui (hearing_step ciphers y got cost note now).node
    hears_at y got cost note now good role before routes = by_role y.role role
      where
        hears_as : Role → NodeStep Reception
        hears_as Coordinator = answering coordinator_reception
            (acts y (Err drops.Store) (λ m. coordinator_rules.hear_coordinator (record { eui = y.eui; ciphers = ciphers }) m got cost note now))
        hears_as (Meter psk) = answering meter_reception (acts y (Err drops.Store) (λ m. meters.hear_meter (identity ciphers y psk) m got cost note now))

        by_role : (r : Role) → r ≡ Coordinator → BookShut eui (hears_as r).node
        by_role Coordinator e = acts_shut eui y (Err drops.Store) (λ m. coordinator_rules.hear_coordinator (record { eui = y.eui; ciphers = ciphers }) m got
            cost note now) good role before (λ m sized. hears_shut eui (record { eui = y.eui; ciphers = ciphers }) m sized got cost note now routes)
        by_role (Meter psk) e = absurd (cc)

    heard_shut : (event : Event) (number : ℕ) (x : Node) (octets : List ℕ) (cost : ℕ) (got : Accepted) → node_at w number ≡ Some x → IsEvent event
        → Comes w event number octets → (accepting ciphers x octets).answer ≡ Ok got
        → ShutAt eui (hearing_outcome ciphers w number (accepting ciphers x octets).node octets got cost).0
    heard_shut event number x octets cost got there says comes is =
        let are = came_octets ciphers fits w ok flown event number octets says comes in
        let plan : Memory → Plan Memory (Result Accepted FrameRefusal) = λ m. of_station m (accept m.station x.eui (arrived ciphers octets)) in
        let did = acts_ok x (Err frames.Halted) plan (good_at number x there) (λ m here kept sized. accept_ok ciphers fits octets are x.role m x.eui sized) in
        let a = acts_answered x frames.Halted frames.Store plan
        (λ m. accept_failed ciphers fits octets are m.station _ (accept_is m.station x.eui (arrived ciphers octets))) got is in
        let routes = accepted_routes ciphers fits octets are a.memory.station (ring_readable x a.memory (good_at number x there) a.there) _ got
        (accept_is a.memory.station x.eui (arrived ciphers octets)) a.is in
        let y = (accepting ciphers x octets).node in
        let d = hearing_step ciphers y got cost (note_by w octets got.path) w.clock in
        after_shut (running_world w) (hearing_outcome ciphers w number y octets got cost).0 number x d (same_shut w (running_world w) refl shut)
        (after_nodes (running_world w) number d) there
        (λ first. hears_at y got cost (note_by w octets got.path) w.clock did.node (did.role ∙ first_role number x first there)
        (accepted_shut event number x octets there says comes first) routes)

    -- # Events

    sent_nodes : (from to : ℕ) (datagram : List ℕ) (tag : ℕ) (d : NodeStep Answer)
        → (sending ciphers w from to datagram tag d).0.nodes ≡ (world_after ciphers (running_world w) from d).nodes
    sent_nodes from to datagram tag d = by_taken (is_taken d.answer)
      where
        by_taken : (b : Bool) → (sent_if w from to datagram tag b (node_outcome ciphers w from d)).0.nodes
            ≡ (world_after ciphers (running_world w) from d).nodes
        by_taken true = refl
        by_taken false = refl

    -- another meter is allowed
    allows_shut : (n number : ℕ) (z : Node) → n ≢ number → node_at w number ≡ Some z → z.eui ≡ eui
        → ((i j : ℕ) (x y : Node) → node_at w i ≡ Some x → node_at w j ≡ Some y → books.eui_number x.eui ≡ books.eui_number y.eui → i ≡ j)
        → ShutBy (allow ciphers w n)
    unfolding allow
    allows_shut n number z ne there named apart = begun ShutBy shut_failed (has_begun w) _
        (no_first ShutBy shut_failed (n == 0) _ (λ other. found_one ShutBy shut_failed (node_at w n) _
        (λ y hy. found_one ShutBy shut_failed (node_at w 0) _ (λ c hc. found_one ShutBy shut_failed (psk_of y) _ (λ psk pair.
        let d = acts c (Err orders.Halted) (λ m. coordinator_rules.allow m y.eui psk) in
        let fit = given_at n y hy in
        after_shut (running_world w) (world_after ciphers (running_world w) 0 d) 0 c d (same_shut w (running_world w) refl shut)
        (after_nodes (running_world w) 0 d) hc
        (λ first. acts_shut eui c (Err orders.Halted) (λ m. coordinator_rules.allow m y.eui psk) (good_at 0 c hc) (first_role 0 c refl hc)
        (first_shut 0 c refl hc)
        (λ m sized. allow_shut eui (own_of c) m sized y.eui psk fit.eui
        (fit.psk psk (psk_meter y psk pair), λ same. ne (apart n number y z hy there (same ∙ ap books.eui_number (sym named)))))))))))

    -- setup is over
    pub over : w.running ≡ true → takes_setup w ≡ true → ⊥
    over running open_is = by_running w.running running (and_parts _ _ open_is).1
      where
        by_running : (b : Bool) → b ≡ true → not b ≡ true → ⊥
        by_running true e h = cc (h)
        by_running false e h = cc (e)

    module _ (meter : ℕ) (z : Node) (there : node_at w meter ≡ Some z) (named : z.eui ≡ eui)
        (apart : ((i j : ℕ) (x y : Node) → node_at w i ≡ Some x → node_at w j ≡ Some y → books.eui_number x.eui ≡ books.eui_number y.eui → i ≡ j)) where
      stays_shut : (event : Event) (s : Step) → IsStep ciphers w event s → ((n : ℕ) → event ≡ events.Allow n → s ≡ step ciphers w event)
          → is_allow_of meter event ≡ false → w.running ≡ true → 0 < length w.nodes → ShutBy s
      stays_shut event s (Fails e fault) e_is other running some = tt
      stays_shut event s (Makes e x is) e_is other running some =
          λ c there. shut c (sym (slice_get-push_other w.nodes 0 x (λ (z : 0 ≡ length w.nodes). omega arith)) ∙ there)
      stays_shut event s (Rests e quiet) e_is other running some = same_shut w (running_world w) refl shut
      stays_shut event s (Shows number x) e_is other running some = same_shut w (running_world w) refl shut
      stays_shut event s (Acts e number x A halted plan reads there call word asked) e_is other running some =
          after_shut (running_world w) (world_after ciphers (running_world w) number (answering reads (acts x halted plan))) number x
          (answering reads (acts x halted plan))
          (same_shut w (running_world w) refl shut) (after_nodes (running_world w) number (answering reads (acts x halted plan))) there
          (asked_shut number x A halted plan there asked)
      stays_shut event s (BreaksLink number next x a there call) e_is other running some =
          let plan : Memory → Plan Memory Answer = λ m. changing answers.Broken (with_station (calls.broke a m.station) m) in
          after_shut (running_world w) (world_after ciphers (running_world w) number (acts x answers.Halted plan)) number x (acts x answers.Halted plan)
          (same_shut w (running_world w) refl shut)
          (after_nodes (running_world w) number (acts x answers.Halted plan)) there
          (quiet_shut number x answers.Halted plan there (λ m sized. broke_quietly m sized a answers.Broken))
      stays_shut event s (SendsFrom from to datagram x a there call target) e_is other running some =
          let plan : Memory → Plan Memory (Result SentHow SendRefusal) = λ m. of_station m (calls.send m.station a datagram (w.sends + 1) w.clock) in
          let d = answering sent_word (acts x (Err sends.Halted) plan) in
          after_shut (running_world w) (sending ciphers w from to datagram (tag_of x) d).0 from x d (same_shut w (running_world w) refl shut)
          (sent_nodes from to datagram (tag_of x) d ∙ after_nodes (running_world w) from d) there
          (quiet_shut from x (Err sends.Halted) plan there (λ m sized. send_quietly m sized a datagram (w.sends + 1) w.clock))
      stays_shut event s (AllowsMeter number y c psk hc call hy) e_is other running some =
          subst ShutBy (sym (e_is number refl)) (allows_shut number meter z (eqb-false _ _ other) there named apart)
      stays_shut event s (Sets e quiet number x plan there open_is is) e_is other running some = absurd (over running open_is)
      stays_shut event s (SetsTwo e quiet a b cost x y p q hx hy apart open_is first second fresh near) e_is other running some = absurd (over running open_is)
      stays_shut event s (Provides number x c psk g d ne open_is hx hc pair same is) e_is other running some = absurd (over running open_is)
      stays_shut event s (TurnsDown e number x octets reason d there says comes same is) e_is other running some =
          after_shut (running_world w) (world_after ciphers (running_world w) number d) number x d (same_shut w (running_world w) refl shut)
          (after_nodes (running_world w) number d) there
          (λ first. subst (λ (z : NodeStep _). BookShut eui z.node) (sym same) (accepted_shut e number x octets there says comes first))
      stays_shut event s (Hears e number x octets cost got there says comes low is) e_is other running some =
          heard_shut e number x octets cost got there says comes is
      stays_shut event s (Loses number f there) e_is other running some =
          same_shut w (record (running_world w) { flights = slice_set w.flights (number - 1) (record f { lost = true }) }) refl shut
      stays_shut event s (Ticks seconds) e_is other running some =
          λ c there. ticked_shut c (slice_get w.nodes 0) refl (sym (slice_get-map (ticked (w.clock + seconds)) w.nodes 0) ∙ there)
        where
          ticked_shut : (c : Node) (o : Option Node) → slice_get w.nodes 0 ≡ o → option_map (ticked (w.clock + seconds)) o ≡ Some c → BookShut eui c
          ticked_shut c None at e = absurd (cc)
          ticked_shut c (Some x) at e = λ b kept. shut x at b (subst (λ (z : Node). IsBookKept b z.store.records) (sym (same_Some _ _ e)) kept)
      stays_shut event s (Restarts number x there) e_is other running some =
          after_shut (running_world w) (world_after ciphers (running_world w) number (restarts x)) number x (restarts x)
          (same_shut w (running_world w) refl shut) (after_nodes (running_world w) number (restarts x)) there (λ first. first_shut number x first there)
      stays_shut event s (Cuts number nth keeps_new x there) e_is other running some =
          let d : NodeStep Answer = stays (record x { store = record x.store { cut = Some (record { nth = nth; keeps_new = keeps_new }) } }) answers.Set in
          after_shut (running_world w) (world_after ciphers (running_world w) number d) number x d (same_shut w (running_world w) refl shut)
          (after_nodes (running_world w) number d) there
          (λ first. first_shut number x first there)

    -- every event but one that allows the meter
    pub event_shut : (event : Event) (number : ℕ) (z : Node) → IsEvent event → is_allow_of number event ≡ false → w.running ≡ true → node_at w number ≡ Some z
        → z.eui ≡ eui
        → ((i j : ℕ) (x y : Node) → node_at w i ≡ Some x → node_at w j ≡ Some y → books.eui_number x.eui ≡ books.eui_number y.eui → i ≡ j)
        → ShutBy (step ciphers w event)
    event_shut event number z says e running there named apart =
        let inside = place_within w.nodes number z there in
        stays_shut number z there named apart event (step ciphers w event) (step_is ciphers w event says) (λ n q. refl) e running (omega arith)

    -- every event of another kind, by how it is made
    pub other_shut : (event : Event) (r : World × Trace) → IsStep ciphers w event (Ok r) → (number : ℕ) (z : Node) → ((n : ℕ) → event ≡ events.Allow n → ⊥)
        → is_allow_of number event ≡ false → w.running ≡ true → node_at w number ≡ Some z → z.eui ≡ eui
        → ((i j : ℕ) (x y : Node) → node_at w i ≡ Some x → node_at w j ≡ Some y → books.eui_number x.eui ≡ books.eui_number y.eui → i ≡ j) → ShutAt eui r.0
    other_shut event r is number z other e running there named apart =
        let inside = place_within w.nodes number z there in
        stays_shut number z there named apart event (Ok r) is (λ n q. absurd (other n q)) e running (omega arith)

-- # The kick

abbrev IsShutOut : ℕ → Ciphers → World → Step → Type 0
IsShutOut number ciphers w (Ok r) =
    r.1.happenings.answer ≡ answers.Kicked → WorldOk r.0 → (number ≢ 0) × ((z : Node) × (node_at w number ≡ Some z) × (ShutAt z.eui r.0) × (r.0.running ≡ true))
IsShutOut number ciphers w (Err fault) = Unit {0}

kicked_word : (r : Result (Unit {0}) CoordinatorRefusal) → ordered_word answers.Kicked r ≡ answers.Kicked → r ≡ Ok tt
kicked_word (Ok tt) e = refl
kicked_word (Err reason) e = absurd (by_reason reason e)
  where
    by_reason : (x : CoordinatorRefusal) → order_word x ≡ answers.Kicked → ⊥
    by_reason orders.Halted e = cc
    by_reason orders.MetersFull e = cc
    by_reason orders.NotAllowed e = cc
    by_reason orders.IndexActive e = cc
    by_reason orders.NotHeld e = cc
    by_reason orders.NotIssued e = cc
    by_reason orders.SessionsFull e = cc
    by_reason orders.NoRandom e = cc
    by_reason orders.WaitingFull e = cc
    by_reason orders.SeqSpent e = cc
    by_reason orders.CounterSpent e = cc
    by_reason orders.Store e = cc

module _ (ciphers : Ciphers) (w : World) (ok : WorldOk w) where
  coordinator_kicks : (number : ℕ) (y c : Node) → node_at w number ≡ Some y → node_at w 0 ≡ Some c
      → (by_coordinator ciphers w c answers.Kicked (λ m. coordinator_rules.kick m y.eui)).1.happenings.answer ≡ answers.Kicked → (v : World)
      → v ≡ (by_coordinator ciphers w c answers.Kicked (λ m. coordinator_rules.kick m y.eui)).0 → WorldOk v → ShutAt y.eui v
  coordinator_kicks number y c hy hc e v same okv k there b kept =
      let plan : Memory → Plan Memory (Result (Unit {0}) CoordinatorRefusal) = λ m. coordinator_rules.kick m y.eui in
      let fit = at_place NodeFits w.nodes number y hy ok.fits in
      let d = acts c (Err orders.Halted) plan in
      let a = acts_whole c orders.Halted orders.Store plan (λ m. kick_failed (record { eui = c.eui; ciphers = ciphers }) m y.eui fit.eui) tt
      (kicked_word d.answer e) in
      let good = at_place NodeOk w.nodes 0 c hc ok.nodes in
      let before : IsKept Coordinator a.memory c.store.records = subst (λ r. IsKept r a.memory c.store.records) (ok.first c hc)
      (node_kept c a.memory good a.there) in
      let this : d.node ≡ k = same_Some _ _
      (sym (after_here ciphers (running_world w) 0 c (answering (ordered_word answers.Kicked) d) hc) ∙ ap (λ (u : World). node_at u 0) (sym same) ∙ there) in
      let left : k.memory ≡ Some (plan a.memory).memory = ap (λ (z : Node). z.memory) (sym this) ∙ a.leaves in
      let after : IsKept Coordinator (plan a.memory).memory k.store.records = subst (λ r. IsKept r (plan a.memory).memory k.store.records) (okv.first k there)
      (node_kept k (plan a.memory).memory (at_place NodeOk v.nodes 0 k there okv.nodes) left) in
      subst (Shut y.eui) (one_book (plan a.memory).memory.book b k.store.records after.book kept) (kick_leaves_shut y.eui a.memory before.book.table a.is)

  after_running : (c : Node) (plan : Memory → Plan Memory (Result (Unit {0}) CoordinatorRefusal))
      → (by_coordinator ciphers w c answers.Kicked plan).0.running ≡ true
  unfolding world_after
  after_running c plan = refl

  kick_shuts : (number : ℕ) → IsShutOut number ciphers w (kick ciphers w number)
  unfolding kick
  kick_shuts number = begun P fails (has_begun w) _
      (no_first P fails (number == 0) _ (λ other. found_one P fails (node_at w number) _ (λ y hy. found_one P fails (node_at w 0) _ (λ c hc.
      λ e okv. (eqb-false _ _ other, (y, hy, coordinator_kicks number y c hy hc e _ refl okv, after_running c (λ m. coordinator_rules.kick m y.eui)))))))
    where
      P : Step → Type 0
      P s = IsShutOut number ciphers w s

      fails : (fault : StepFault) → P (Err fault)
      fails fault = tt

  pub kicked_out : (number : ℕ) (v : World) (d : Trace) → kick ciphers w number ≡ Ok (v, d) → d.happenings.answer ≡ answers.Kicked → WorldOk v
      → (number ≢ 0) × ((z : Node) × (node_at w number ≡ Some z) × (ShutAt z.eui v) × (v.running ≡ true))
  kicked_out number v d e = subst (IsShutOut number ciphers w) e (kick_shuts number)
