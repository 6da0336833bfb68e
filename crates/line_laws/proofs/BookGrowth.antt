-- No event takes an address back, whatever writes fail: the book that the coordinator's records give only grows, and nodes keep their EUIs.
use Rattle.std.proofs.Common.{◌≡◌, ◌≢◌, ⊎_elim, ℕ, ◌+◌, ◌<◌, Bool, true, false, List, [], length, Option, Some, None, Result, Ok, Err, refl, sym, ap, ◌∙◌}
use Rattle.std.proofs.Common.{subst, arith}
use Rattle.std.specs.Prelude.{All, IfSome, slice_get, slice_set}
use Rattle.std.specs.Option.{option_map}
use Rattle.std.proofs.lemmas.Bool.{cases_eq}
use Rattle.std.proofs.lemmas.Option.{same_Some}
use Rattle.store_tables.proofs.SlotTables.{slice_get-set, slice_get-set_other, slice_get-map, slice_get-push_other}
use Rattle.plc_base.specs.declared.key.Key.{Key}
use Rattle.group_keys.specs.KeyBook as books
use Rattle.line_events.specs.declared.event.Answer.{Answer}
use Rattle.line_events.specs.declared.event.Answer.TheVariants as answers
use Rattle.line_events.specs.declared.event.Event.{Event}
use Rattle.node_rules.specs.Accepted.{Accepted}
use Rattle.node_rules.specs.declared.heard.CoordinatorHeard.{CoordinatorHeard}
use Rattle.node_rules.specs.declared.refusal.CoordinatorRefusal.{CoordinatorRefusal}
use Rattle.node_rules.specs.declared.refusal.CoordinatorRefusal.TheVariants as orders
use Rattle.node_rules.specs.declared.refusal.Dropped.{Dropped}
use Rattle.node_rules.specs.declared.refusal.Dropped.TheVariants as drops
use Rattle.node_rules.specs.declared.refusal.FrameRefusal.{FrameRefusal}
use Rattle.node_rules.specs.declared.refusal.FrameRefusal.TheVariants as frames
use Rattle.node_rules.specs.declared.heard.SentHow.{SentHow}
use Rattle.node_rules.specs.declared.refusal.SendRefusal.{SendRefusal}
use Rattle.node_rules.specs.declared.refusal.SendRefusal.TheVariants as sends
use Rattle.line_rules.specs.Answers.{sent_word}
use Rattle.node_rules.specs.Ciphers.{Ciphers}
use Rattle.node_rules.specs.Frames.{arrived}
use Rattle.node_rules.specs.Memory.{Memory, Role, Coordinator, Meter, Node}
use Rattle.node_rules.specs.Plans.{Plan}
use Rattle.node_rules.specs.Acceptance.{accept}
use Rattle.node_rules.specs.Calls as calls
use Rattle.node_rules.specs.Meters as meters
use Rattle.node_rules.specs.Coordinators as coordinator_rules
use Rattle.node_rules.specs.NodeSteps.{NodeStep, acts, stays, answering, of_station}
use Rattle.line_rules.specs.Answers.{coordinator_reception, meter_reception, Reception}
use Rattle.line_events.specs.Events.{IsEvent}
use Rattle.line_rules.specs.Forgery.{Comes, accepting}
use Rattle.line_rules.specs.Worlds.{World, Issued, node_at}
use Rattle.line_rules.specs.Steps.{Step, set_up, running_world, world_after, node_outcome, sending, sent_if, is_taken, tag_of, hearing_step, offered_near}
use Rattle.line_rules.specs.Steps.{hearing_outcome, note_by, identity}
use Rattle.line_rules.specs.Steps.{issued_of}
use Rattle.line_rules.specs.Steps.{psk_of, restarts, ticked}
use Rattle.line_laws.specs.Stores.{IsReadable, IsBookKept}
use Rattle.line_laws.specs.Sizes.{IsMemorySized}
use Rattle.line_laws.specs.Owed.{KeepsRanges}
use Rattle.line_laws.proofs.Nodes.{NodeOk, acts_ok, ring_readable}
use Rattle.line_laws.proofs.NodeCalls.{RoutesFit}
use Rattle.line_laws.proofs.StorableGrants.{held}
use Rattle.line_laws.proofs.CoordinatorCalls.{accept_ok, accept_failed, accepted_routes}
use Rattle.line_laws.proofs.StoreMarks.{accept_is}
use Rattle.line_laws.proofs.Answered.{acts_answered}
use Rattle.line_laws.proofs.Worlds.{NodeFits, FlightFits, WorldOk, within as place_within, at_place}
use Rattle.line_laws.proofs.AddressBook.{Grows, one_book}
use Rattle.line_laws.proofs.AgreeSteps.{acts_eui}
use Rattle.line_laws.proofs.IssueNodes.{CoordinatorOk, CoordinatorDid, CoordinatorPlan, Nought, coordinator_acts}
use Rattle.line_laws.proofs.IssueCalls.{Quietly, quiet_coordinator, send_quietly, near_quietly, counter_quietly, number_quietly, broke_quietly, random_quietly}
use Rattle.line_laws.proofs.IssueCalls.{accept_quietly, hears_coordinator, allow_coordinator, depot_coordinator, rekey_coordinator, activate_self_coordinator}
use Rattle.line_laws.proofs.IssueCalls.{challenge_coordinator, activate_coordinator, kick_coordinator}
use Rattle.line_laws.proofs.IssueSteps.{keyed_same}
use Rattle.line_laws.proofs.IssueWorlds.{Keyed}
use Rattle.line_laws.proofs.FlightFolds.{address_low, came_octets}
use Rattle.line_laws.proofs.StepKinds.{IsCall, Gives, Joins, Leaves, Sends, Breaks, Nears, Counts, Numbers, Accepts, Provisions, Depots, Allows, Rekeys, Turns}
use Rattle.line_laws.proofs.StepKinds.{Challenges, Activates, Kicks, preset_call, IsStep, Fails, Makes, Rests, Shows, Acts, BreaksLink, SendsFrom, AllowsMeter}
use Rattle.line_laws.proofs.StepKinds.{Sets, SetsTwo, Provides, TurnsDown, Hears, Loses, Ticks, Restarts, Cuts}

-- the pair key of a meter
pub psk_meter : (x : Node) (psk : Key) → psk_of x ≡ Some psk → x.role ≡ Meter psk
psk_meter x psk = by_role x.role
  where
    by_role : (role : Role) → psk_of (record x { role = role }) ≡ Some psk → role ≡ Meter psk
    by_role Coordinator e = absurd (cc)
    by_role (Meter key) e = ap Meter (same_Some _ _ e)

module _ (ciphers : Ciphers) (fits : KeepsRanges ciphers) (w : World) (ok : WorldOk w) (flown : All FlightFits w.flights) (given : List Issued)
    (k : Keyed w given) where
  -- the records of the coordinator give a book with each address of the earlier one
  pub record BookGrows (y : Node) : Type 0 where
    pub book : books.Book
    pub kept : IsBookKept book y.store.records
    pub grows : Grows k.book book

  good_at : (number : ℕ) (x : Node) → node_at w number ≡ Some x → NodeOk x
  good_at number x there = at_place NodeOk w.nodes number x there ok.nodes

  given_at : (number : ℕ) (x : Node) → node_at w number ≡ Some x → NodeFits x
  given_at number x there = at_place NodeFits w.nodes number x there ok.fits

  coordinator_at : (number : ℕ) (x : Node) → number ≡ 0 → node_at w number ≡ Some x → CoordinatorOk k.book x
  coordinator_at number x first there = k.coordinator x (ap (slice_get w.nodes) (sym first) ∙ there)

  sized_in : (x : Node) (m : Memory) → NodeOk x → x.memory ≡ Some m → IsMemorySized m
  sized_in x m good here = subst (λ o. IfSome o IsMemorySized) here good.sized

  abbrev own_of : Node → coordinator_rules.CoordinatorIdentity
  own_of c = record { eui = c.eui; ciphers = ciphers }

  pub quiet_grows : {A : Type 0} (number : ℕ) (x : Node) (halted : A) (plan : Memory → Plan Memory A) → number ≡ 0 → node_at w number ≡ Some x
      → ((m : Memory) → IsMemorySized m → Quietly m (plan m)) → BookGrows (acts x halted plan).node
  quiet_grows {A = A} number x halted plan first there q =
      let good = good_at number x there in
      let c = coordinator_at number x first there in
      let did : CoordinatorDid k.book given [] x (acts x halted plan) = coordinator_acts k.book given x halted plan [] good c (λ a. None) (λ m here said. refl)
      (λ m here kept. quiet_coordinator k.book None m (plan m) (q m (sized_in x m good here)) (c.ring m.station.ring kept.station.ring.stored)
      kept.station.range.ring) in
      record { book = did.book; kept = did.node.book_kept; grows = did.grows }

  order_grows : {A : Type 0} (number : ℕ) (x : Node) (plan : Memory → Plan Memory (Result A CoordinatorRefusal)) → number ≡ 0 → node_at w number ≡ Some x
      → ((m : Memory) → IsMemorySized m → (b : books.Book) → Nought m.station.ring → IfSome m.station.ring IsReadable → CoordinatorPlan b m None (plan m))
      → BookGrows (acts x (Err orders.Halted) plan).node
  order_grows {A = A} number x plan first there f =
      let good = good_at number x there in
      let c = coordinator_at number x first there in
      let did : CoordinatorDid k.book given [] x (acts x (Err orders.Halted) plan) = coordinator_acts k.book given x (Err orders.Halted) plan [] good c
      (λ a. None) (λ m here said. refl)
      (λ m here kept. f m (sized_in x m good here) k.book (c.ring m.station.ring kept.station.ring.stored) kept.station.range.ring) in
      record { book = did.book; kept = did.node.book_kept; grows = did.grows }

  call_grows : (number : ℕ) (x : Node) (A : Type 0) (halted : A) (plan : Memory → Plan Memory A) → node_at w number ≡ Some x
      → IsCall ciphers w number x A halted plan → number ≡ 0 → BookGrows (acts x halted plan).node
  call_grows number x A halted plan there (Gives value are) first = quiet_grows number x _ _ first there (λ m sized. random_quietly m sized value)
  call_grows number x A halted plan there (Joins psk a ne pair other) first = absurd (ne first)
  call_grows number x A halted plan there (Leaves ne) first = absurd (ne first)
  call_grows number x A halted plan there (Sends a datagram other are) first =
      quiet_grows number x _ _ first there (λ m sized. send_quietly m sized a datagram (w.sends + 1) w.clock)
  call_grows number x A halted plan there (Breaks a other) first = quiet_grows number x _ _ first there (λ m sized. broke_quietly m sized a answers.Broken)
  call_grows number x A halted plan there (Nears a cost open_is other low) first =
      let small : a < 0xFFFE = address_low other.node a (good_at other.number other.node other.there) other.address in
      quiet_grows number x _ _ first there (λ m sized. near_quietly m sized a cost w.clock small (omega arith))
  call_grows number x A halted plan there (Counts value open_is low) first = quiet_grows number x _ _ first there (λ m sized. counter_quietly m sized value low)
  call_grows number x A halted plan there (Numbers value open_is some low) first =
      quiet_grows number x _ _ first there (λ m sized. number_quietly m sized value some low)
  call_grows number x A halted plan there (Accepts octets event says comes) first = quiet_grows number x _ _ first there
      (λ m sized. accept_quietly ciphers fits octets (came_octets ciphers fits w ok flown event number octets says comes) m x.eui)
  call_grows number x A halted plan there (Provisions psk c g ne pair at is) first = absurd (ne first)
  call_grows number x A halted plan there (Depots meter y psk zero_is open_is at pair) first =
      order_grows number x _ first there (λ m sized b nought reads. depot_coordinator ciphers fits (own_of x) m sized b nought reads y.eui psk
      (given_at meter y at.there).eui ((given_at meter y at.there).psk psk (psk_meter y psk pair)))
  call_grows number x A halted plan there (Allows meter y psk zero_is at pair) first =
      order_grows number x _ first there (λ m sized b nought reads. allow_coordinator ciphers fits (own_of x) m sized b nought reads y.eui psk
      (given_at meter y at.there).eui ((given_at meter y at.there).psk psk (psk_meter y psk pair)))
  call_grows number x A halted plan there (Rekeys index key zero_is low long) first = order_grows number x _ first there
      (λ m sized b nought reads. rekey_coordinator ciphers fits (own_of x) m sized b nought reads index key (held key long.0 long.1))
  call_grows number x A halted plan there (Turns index zero_is low) first =
      order_grows number x _ first there (λ m sized b nought reads. activate_self_coordinator ciphers fits (own_of x) m sized b nought reads index low)
  call_grows number x A halted plan there (Challenges meter y zero_is at) first = order_grows number x _ first there
      (λ m sized b nought reads. challenge_coordinator ciphers fits (own_of x) m sized b nought reads y.eui w.clock (given_at meter y at.there).eui)
  call_grows number x A halted plan there (Activates meter y index zero_is at low) first =
      order_grows number x _ first there (λ m sized b nought reads. activate_coordinator ciphers fits (own_of x) m sized b nought reads y.eui index w.clock)
  call_grows number x A halted plan there (Kicks meter y zero_is at) first = order_grows number x _ first there
      (λ m sized b nought reads. kick_coordinator ciphers fits (own_of x) m sized b nought reads y.eui (given_at meter y at.there).eui)

  -- # What a node makes of a frame

  hears_eui : (y : Node) (got : Accepted) (cost note now : ℕ) → (hearing_step ciphers y got cost note now).node.eui ≡ y.eui
  hears_eui y got cost note now = by_role y.role
    where
      hears_as : Role → NodeStep Reception
      hears_as Coordinator = answering coordinator_reception
          (acts y (Err drops.Store) (λ m. coordinator_rules.hear_coordinator (record { eui = y.eui; ciphers = ciphers }) m got cost note now))
      hears_as (Meter psk) = answering meter_reception (acts y (Err drops.Store) (λ m. meters.hear_meter (identity ciphers y psk) m got cost note now))

      by_role : (role : Role) → (hears_as role).node.eui ≡ y.eui
      by_role Coordinator =
          acts_eui y (Err drops.Store) (λ m. coordinator_rules.hear_coordinator (record { eui = y.eui; ciphers = ciphers }) m got cost note now)
      by_role (Meter psk) = acts_eui y (Err drops.Store) (λ m. meters.hear_meter (identity ciphers y psk) m got cost note now)

  hears_grows : (y : Node) (got : Accepted) (cost note now : ℕ) (b : books.Book) → NodeOk y → CoordinatorOk b y → Grows k.book b → RoutesFit got
      → BookGrows (hearing_step ciphers y got cost note now).node
  hears_grows y got cost note now b good c before routes = by_role y.role c.role
    where
      hears_as : Role → NodeStep Reception
      hears_as Coordinator = answering coordinator_reception
          (acts y (Err drops.Store) (λ m. coordinator_rules.hear_coordinator (record { eui = y.eui; ciphers = ciphers }) m got cost note now))
      hears_as (Meter psk) = answering meter_reception (acts y (Err drops.Store) (λ m. meters.hear_meter (identity ciphers y psk) m got cost note now))

      plan : Memory → Plan Memory (Result CoordinatorHeard Dropped)
      plan m = coordinator_rules.hear_coordinator (record { eui = y.eui; ciphers = ciphers }) m got cost note now

      did : CoordinatorDid b given (issued_of (coordinator_reception (acts y (Err drops.Store) plan).answer).keyed) y (acts y (Err drops.Store) plan)
      did = coordinator_acts b given y (Err drops.Store) plan (issued_of (coordinator_reception (acts y (Err drops.Store) plan).answer).keyed) good c
          (λ r. (coordinator_reception r).keyed)
          (λ m here same. ap (λ r. issued_of (coordinator_reception r).keyed) (sym same))
          (λ m here kept. (hears_coordinator ciphers fits (record { eui = y.eui; ciphers = ciphers }) m (sized_in y m good here) b
          (c.ring m.station.ring kept.station.ring.stored) kept.station.range.ring got cost note now routes
          (λ r. (coordinator_reception r).keyed) (λ r. (coordinator_reception r).done) (λ a. (keyed_same a).0) (λ a. (keyed_same a).1) (λ f. refl)).0)

      by_role : (role : Role) → role ≡ Coordinator → BookGrows (hears_as role).node
      by_role Coordinator e = record { book = did.book; kept = did.node.book_kept; grows = λ u a h. did.grows u a (before u a h) }
      by_role (Meter psk) e = absurd (cc)

  -- # Worlds

  -- A world later: its coordinator's book has each address, and each node that was there is there with its EUI.
  pub record Goes (v : World) : Type 0 where
    pub grows : (c : Node) → node_at v 0 ≡ Some c → (b : books.Book) → IsBookKept b c.store.records → Grows k.book b
    pub euis : (n : ℕ) (y : Node) → n < length w.nodes → node_at v n ≡ Some y → (x : Node) × (node_at w n ≡ Some x) × (x.eui ≡ y.eui)

  pub self_goes : Goes w
  self_goes = record {
    grows = λ c there b kept. subst (Grows k.book) (one_book k.book b c.store.records (k.coordinator c there).book_kept kept) (λ u a h. h);
    euis = λ n y lt there. (y, there, refl);
  }

  same_goes : (u v : World) → v.nodes ≡ u.nodes → Goes u → Goes v
  same_goes u v e g = record {
    grows = λ c there b kept. g.grows c (sym (ap (λ ns. slice_get ns 0) e) ∙ there) b kept;
    euis = λ n y lt there. g.euis n y lt (sym (ap (λ ns. slice_get ns n) e) ∙ there);
  }

  pub goes_after : {A : Type 0} (u v : World) (number : ℕ) (x : Node) (d : NodeStep A) → Goes u → v.nodes ≡ slice_set u.nodes number d.node
      → node_at u number ≡ Some x → d.node.eui ≡ x.eui → (number ≡ 0 → BookGrows d.node) → Goes v
  goes_after u v number x d g nodes there eui book = record { grows = grows; euis = euis }
    where
      here_is : (y : Node) → node_at v number ≡ Some y → d.node ≡ y
      here_is y is =
          same_Some _ _ (sym (slice_get-set u.nodes number d.node (place_within u.nodes number x there)) ∙ sym (ap (λ ns. slice_get ns number) nodes) ∙ is)

      other_is : (n : ℕ) (y : Node) → n ≢ number → node_at v n ≡ Some y → node_at u n ≡ Some y
      other_is n y ne is = sym (slice_get-set_other u.nodes number n d.node ne) ∙ sym (ap (λ ns. slice_get ns n) nodes) ∙ is

      grows : (c : Node) → node_at v 0 ≡ Some c → (b : books.Book) → IsBookKept b c.store.records → Grows k.book b
      grows c is b kept = ⊎_elim
          (λ (e : number ≡ 0).
          let same : d.node ≡ c = here_is c (ap (node_at v) e ∙ is) in
          let after = book e in
          subst (Grows k.book) (one_book after.book b c.store.records (subst (λ (z : Node). IsBookKept after.book z.store.records) same after.kept) kept)
          after.grows)
          (λ (ne : number ≢ 0). g.grows c (other_is 0 c (λ e. ne (sym e)) is) b kept)
          (cases_eq number 0)

      euis : (n : ℕ) (y : Node) → n < length w.nodes → node_at v n ≡ Some y → (z : Node) × (node_at w n ≡ Some z) × (z.eui ≡ y.eui)
      euis n y lt is = ⊎_elim
          (λ (e : n ≡ number).
          let old = g.euis n x lt (ap (node_at u) e ∙ there) in
          let same : d.node ≡ y = here_is y (ap (node_at v) (sym e) ∙ is) in
          (old.0, old.1, old.2 ∙ sym eui ∙ ap (λ (z : Node). z.eui) same))
          (λ (ne : n ≢ number). g.euis n y lt (other_is n y ne is))
          (cases_eq n number)

  after_nodes : {A : Type 0} (u : World) (number : ℕ) (d : NodeStep A) → (world_after ciphers u number d).nodes ≡ slice_set u.nodes number d.node
  unfolding world_after
  after_nodes u number d = refl

  abbrev pub GoesBy : Step → Type 0
  GoesBy (Ok r) = 0 < length w.nodes → Goes r.0
  GoesBy (Err fault) = Unit {0}

  -- a call of one node
  called : (u v : World) (number : ℕ) (x : Node) (A B : Type 0) (reads : A → B) (halted : A) (plan : Memory → Plan Memory A) → u.nodes ≡ w.nodes
      → v.nodes ≡ (world_after ciphers u number (answering reads (acts x halted plan))).nodes → node_at w number ≡ Some x
      → IsCall ciphers w number x A halted plan
      → Goes v
  called u v number x A B reads halted plan e f there call =
      goes_after u v number x (answering reads (acts x halted plan)) (same_goes w u e self_goes)
      (f ∙ after_nodes u number (answering reads (acts x halted plan)))
      (ap (λ ns. slice_get ns number) e ∙ there) (acts_eui x halted plan) (call_grows number x A halted plan there call)

  sent_nodes : (from to : ℕ) (datagram : List ℕ) (tag : ℕ) (d : NodeStep Answer)
      → (sending ciphers w from to datagram tag d).0.nodes ≡ (world_after ciphers (running_world w) from d).nodes
  sent_nodes from to datagram tag d = by_taken (is_taken d.answer)
    where
      by_taken : (b : Bool) → (sent_if w from to datagram tag b (node_outcome ciphers w from d)).0.nodes ≡ (world_after ciphers (running_world w) from d).nodes
      by_taken true = refl
      by_taken false = refl

  heard_goes : (event : Event) (number : ℕ) (x : Node) (octets : List ℕ) (cost : ℕ) (got : Accepted) → node_at w number ≡ Some x → IsEvent event
      → Comes w event number octets → (accepting ciphers x octets).answer ≡ Ok got
      → Goes (hearing_outcome ciphers w number (accepting ciphers x octets).node octets got cost).0
  heard_goes event number x octets cost got there says comes is =
      let are = came_octets ciphers fits w ok flown event number octets says comes in
      let plan : Memory → Plan Memory (Result Accepted FrameRefusal) = λ m. of_station m (accept m.station x.eui (arrived ciphers octets)) in
      let did = acts_ok x (Err frames.Halted) plan (good_at number x there) (λ m here kept sized. accept_ok ciphers fits octets are x.role m x.eui sized) in
      let a = acts_answered x frames.Halted frames.Store plan
      (λ m. accept_failed ciphers fits octets are m.station _ (accept_is m.station x.eui (arrived ciphers octets))) got is in
      let routes = accepted_routes ciphers fits octets are a.memory.station (ring_readable x a.memory (good_at number x there) a.there) _ got
      (accept_is a.memory.station x.eui (arrived ciphers octets)) a.is in
      let y = (accepting ciphers x octets).node in
      let d = hearing_step ciphers y got cost (note_by w octets got.path) w.clock in
      goes_after (running_world w) _ number x d (same_goes w (running_world w) refl self_goes) (after_nodes (running_world w) number d) there
      (hears_eui y got cost (note_by w octets got.path) w.clock ∙ acts_eui x (Err frames.Halted) plan)
      (λ first.
      let c = coordinator_at number x first there in
      let first_did : CoordinatorDid k.book given [] x (acts x (Err frames.Halted) plan) = coordinator_acts k.book given x (Err frames.Halted) plan []
      (good_at number x there) c (λ a. None) (λ m here said. refl)
      (λ m here kept. quiet_coordinator k.book None m (plan m) (accept_quietly ciphers fits octets are m x.eui) (c.ring m.station.ring kept.station.ring.stored)
      kept.station.range.ring) in
      hears_grows y got cost (note_by w octets got.path) w.clock first_did.book did.node first_did.node first_did.grows routes)

  pub goes : (event : Event) (s : Step) → IsStep ciphers w event s → GoesBy s
  goes event s (Fails e fault) = tt
  goes event s (Makes e x is) = λ some. record {
    grows = λ c there. self_goes.grows c (sym (slice_get-push_other w.nodes 0 x (λ (z : 0 ≡ length w.nodes). omega arith)) ∙ there);
    euis = λ n y lt there. (y, sym (slice_get-push_other w.nodes n x (λ (z : n ≡ length w.nodes). omega arith)) ∙ there, refl);
  }
  goes event s (Rests e quiet) = λ some. same_goes w (running_world w) refl self_goes
  goes event s (Shows number x) = λ some. same_goes w (running_world w) refl self_goes
  goes event s (Acts e number x A halted plan reads there call word asked) =
      λ some. called (running_world w) _ number x A _ reads halted plan refl refl there call
  goes event s (BreaksLink number next x a there call) =
      λ some. called (running_world w) _ number x _ _ (λ (b : Answer). b) answers.Halted _ refl refl there call
  goes event s (SendsFrom from to datagram x a there call target) = λ some.
      let plan : Memory → Plan Memory (Result SentHow SendRefusal) = λ m. of_station m (calls.send m.station a datagram (w.sends + 1) w.clock) in
      called (running_world w) _ from x _ _ sent_word (Err sends.Halted) plan refl
      (sent_nodes from to datagram (tag_of x) (answering sent_word (acts x (Err sends.Halted) plan))) there call
  goes event s (AllowsMeter number y c psk there call meter) = λ some. called (running_world w) _ 0 c _ _ (λ a. a) (Err orders.Halted) _ refl refl there call
  goes event s (Sets e quiet number x plan there open_is is) =
      λ some. called (set_up w) _ number x _ _ (λ a. a) (Ok tt) _ refl refl there (preset_call ciphers w number x plan open_is is)
  goes event s (SetsTwo e quiet a b cost x y p q hx hy apart open_is first second fresh near) = λ some.
      let d = offered_near x q cost w.clock in
      let one = goes_after (set_up w) (world_after ciphers (set_up w) a d) a x d (same_goes w (set_up w) refl self_goes) (after_nodes (set_up w) a d) hx
      (acts_eui x (Ok tt) _) (call_grows a x _ (Ok tt) _ hx first) in
      goes_after (world_after ciphers (set_up w) a d) _ b y (offered_near y p cost w.clock) one
      (after_nodes (world_after ciphers (set_up w) a d) b (offered_near y p cost w.clock))
      (ap (λ ns. slice_get ns b) (after_nodes (set_up w) a d) ∙ slice_get-set_other w.nodes a b d.node apart ∙ hy) (acts_eui y (Ok tt) _)
      (call_grows b y _ (Ok tt) _ hy second)
  goes event s (Provides number x c psk g d ne open_is hx hc pair same is) = λ some.
      let kind : IsCall ciphers w 0 c _ (Err orders.Halted) (λ m. coordinator_rules.depot m x.eui psk) = Depots number x psk refl open_is
      (record { other = ne; there = hx }) pair in
      let eui : d.node.eui ≡ c.eui = ap (λ (z : NodeStep _). z.node.eui) same ∙ acts_eui c (Err orders.Halted) _ in
      let grown : BookGrows d.node = subst (λ (z : NodeStep _). BookGrows z.node) (sym same) (call_grows 0 c _ (Err orders.Halted) _ hc kind refl) in
      let one = goes_after (set_up w) (world_after ciphers (set_up w) 0 d) 0 c d (same_goes w (set_up w) refl self_goes) (after_nodes (set_up w) 0 d) hc eui
      (λ e. grown) in
      goes_after (world_after ciphers (set_up w) 0 d) _ number x (acts x (Ok tt) (λ m. meters.provision m g)) one
      (after_nodes (world_after ciphers (set_up w) 0 d) number (acts x (Ok tt) (λ m. meters.provision m g)))
      (ap (λ ns. slice_get ns number) (after_nodes (set_up w) 0 d) ∙ slice_get-set_other w.nodes 0 number d.node ne ∙ hx) (acts_eui x (Ok tt) _)
      (λ first. absurd (ne first))
  goes event s (TurnsDown e number x octets reason d there says comes same is) = λ some.
      let kind : IsCall ciphers w number x _ (Err frames.Halted) (λ m. of_station m (accept m.station x.eui (arrived ciphers octets))) = Accepts octets e says
      comes in
      goes_after (running_world w) _ number x d (same_goes w (running_world w) refl self_goes) (after_nodes (running_world w) number d) there
      (ap (λ (z : NodeStep _). z.node.eui) same ∙ acts_eui x (Err frames.Halted) _)
      (λ first. subst (λ (z : NodeStep _). BookGrows z.node) (sym same) (call_grows number x _ (Err frames.Halted) _ there kind first))
  goes event s (Hears e number x octets cost got there says comes low is) = λ some. heard_goes e number x octets cost got there says comes is
  goes event s (Loses number f there) = λ some. same_goes w _ refl self_goes
  goes event s (Ticks seconds) = λ some. record {
    grows = λ c there. ticked_grows c (slice_get w.nodes 0) refl (sym (slice_get-map (ticked (w.clock + seconds)) w.nodes 0) ∙ there);
    euis = λ n y lt there. ticked_eui n y (slice_get w.nodes n) refl (sym (slice_get-map (ticked (w.clock + seconds)) w.nodes n) ∙ there);
  }
    where
      ticked_grows : (c : Node) (o : Option Node) → slice_get w.nodes 0 ≡ o → option_map (ticked (w.clock + seconds)) o ≡ Some c → (b : books.Book)
          → IsBookKept b c.store.records → Grows k.book b
      ticked_grows c None at e b kept = absurd (cc)
      ticked_grows c (Some x) at e b kept = self_goes.grows x at b (subst (λ (z : Node). IsBookKept b z.store.records) (sym (same_Some _ _ e)) kept)

      ticked_eui : (n : ℕ) (y : Node) (o : Option Node) → slice_get w.nodes n ≡ o → option_map (ticked (w.clock + seconds)) o ≡ Some y
          → (x : Node) × (node_at w n ≡ Some x) × (x.eui ≡ y.eui)
      ticked_eui n y None at e = absurd (cc)
      ticked_eui n y (Some x) at e = (x, at, ap (λ (z : Node). z.eui) (same_Some _ _ e))
  goes event s (Restarts number x there) = λ some. goes_after (running_world w) _ number x (restarts x) (same_goes w (running_world w) refl self_goes)
      (after_nodes (running_world w) number (restarts x)) there refl
      (λ first. let c = coordinator_at number x first there in record { book = k.book; kept = c.book_kept; grows = λ u a h. h })
  goes event s (Cuts number nth keeps_new x there) = λ some.
      let d : NodeStep Answer = stays (record x { store = record x.store { cut = Some (record { nth = nth; keeps_new = keeps_new }) } }) answers.Set in
      goes_after (running_world w) _ number x d (same_goes w (running_world w) refl self_goes) (after_nodes (running_world w) number d) there refl
      (λ first. let c = coordinator_at number x first there in record { book = k.book; kept = c.book_kept; grows = λ u a h. h })
