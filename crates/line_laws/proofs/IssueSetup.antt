-- Setup keeps the parts of addresses and of issued keys; and so every kind of event does.
use Rattle.std.proofs.Common.{◌≡◌, ◌≢◌, ⊎_elim, ℕ, zero, suc, ◌≤◌, ◌<◌, Bool, true, false, not, List, [], ◌∷◌, ◌++◌, length, Option, Some, None}
use Rattle.std.proofs.Common.{Result, Ok, Err, refl, sym, ap, ◌∙◌, subst, arith}
use Rattle.std.specs.Prelude.{if◌then◌else◌, All, IfSome, is_some, ◌==◌, ◌||◌, ◌&&◌, nat_lt, slice_get}
use Rattle.std.specs.List.{list_any}
use Rattle.std.specs.Option.{option_map, option_and_then}
use Rattle.std.specs.Ordering.{nat_cmp}
use Rattle.std.specs.FinMap.{get, empty, get-empty}
use Rattle.std.proofs.lemmas.Bool.{cases_eq, eqb-false, ltb-true, ltb-false, or_parts}
use Rattle.std.proofs.lemmas.Option.{same_Some}
use Rattle.store_tables.proofs.SlotTables.{slice_get-set_other, slice_get-push, slice_get-push_other}
use Rattle.plc_base.specs.Keeper.{Records}
use Rattle.plc_base.specs.declared.address.Eui.{Eui}
use Rattle.plc_base.specs.declared.key.Key.{Key}
use Rattle.plc_base.specs.Grant.{Granted}
use Rattle.group_keys.specs.KeyRing as ring
use Rattle.group_keys.specs.KeyBook as book
use Rattle.line_events.specs.declared.event.Event.{Event}
use Rattle.line_events.specs.declared.event.Event.TheVariants as events
use Rattle.line_events.specs.declared.event.StepFault.TheVariants as faults
use Rattle.node_rules.specs.declared.refusal.CoordinatorRefusal.{CoordinatorRefusal}
use Rattle.node_rules.specs.declared.refusal.CoordinatorRefusal.TheVariants as orders
use Rattle.node_rules.specs.Ciphers.{Ciphers}
use Rattle.node_rules.specs.Memory.{StationMemory, Memory, Role, Coordinator, Meter, Node, address_of, node_address}
use Rattle.node_rules.specs.Plans.{Plan, resting, within}
use Rattle.node_rules.specs.Calls as calls
use Rattle.node_rules.specs.Meters as meters
use Rattle.node_rules.specs.Coordinators as coordinator_rules
use Rattle.node_rules.specs.RestartStates.{first_grant}
use Rattle.node_rules.specs.declared.refusal.RingRefusal.TheVariants.{Store as RingStore}
use Rattle.node_rules.specs.Drafts.{choose, empty_draft, with_ring}
use Rattle.node_rules.specs.MemoryDrafts.{with_station}
use Rattle.line_events.specs.Events.{IsEvent}
use Rattle.line_rules.specs.Worlds.{World, node_at}
use Rattle.line_rules.specs.Steps.{Step, set_up, world_after, has_begun, takes_setup, blank_node}
use Rattle.line_rules.specs.Steps.{psk_of, coordinator, coordinator_node, meter, is_known, depot, depot_by, near, near_by}
use Rattle.line_rules.specs.Steps.{keeps_rank, ranks_full, offered_near, preset}
use Rattle.line_rules.specs.Steps.{step}
use Rattle.node_rules.specs.NodeSteps.{NodeStep, acts, of_station}
use Rattle.std.proofs.Common.{append-nil}
use Rattle.line_rules.specs.Worlds.{Issued}
use Rattle.line_rules.specs.Steps.{issued_by}
use Rattle.line_laws.specs.Stores.{IsReadable, IsKept, IsBookKept, HasEui, IsPair}
use Rattle.line_laws.specs.Sizes.{IsMemorySized}
use Rattle.line_laws.specs.Owed.{AreOctets, KeepsRanges}
use Rattle.line_laws.proofs.KeptMemory.{Left}
use Rattle.line_laws.proofs.Nodes.{NodeOk}
use Rattle.line_laws.proofs.NodeCalls.{no_some}
use Rattle.line_laws.proofs.StorableGrants.{held, none_held}
use Rattle.line_laws.proofs.CoordinatorCalls.{depot_ok, depot_failed}
use Rattle.line_laws.proofs.Answered.{depot_grants}
use Rattle.line_laws.proofs.StepsOk.{begin_ok}
use Rattle.line_laws.proofs.NodesOk.{blank_ok, coordinator_acts as coordinator_ok}
use Rattle.line_laws.proofs.Nodes.{DidOk, acts_ok}
use Rattle.line_laws.proofs.Worlds.{FlightFits, WorldOk}
use Rattle.line_laws.proofs.AddressPuts.{RingIn, RingWrites, Puts, counter_away}
use Rattle.line_laws.proofs.AddressBook.{one_book}
use Rattle.line_laws.proofs.IssueWords.{Each}
use Rattle.line_laws.proofs.IssueMeters.{PeerIs}
use Rattle.line_laws.proofs.IssueNodes.{RingOk, TagOk, MeterOk, Nought, CoordinatorOk, CoordinatorDid, sound_acts}
use Rattle.line_laws.proofs.IssueNodes.{coordinator_acts, acts_ring, acts_whole, depot_address, installs_ring, installs_rest}
use Rattle.line_laws.proofs.IssueNodes.{issued_keys}
use Rattle.line_laws.proofs.IssueCalls.{Quietly, near_quietly, counter_quietly, number_quietly}
use Rattle.line_laws.proofs.IssueCalls.{depot_coordinator}
use Rattle.line_laws.proofs.IssueWorlds.{Keyed, IsMeter, after_meter, after_coordinator, after_here, keyed_more}
use Rattle.node_rules.specs.Acceptance.{same_eui}
use Rattle.line_events.specs.Events.{IsEui}
use Rattle.line_laws.proofs.IssueSteps.{Fails, StepKeyed, Taken, activate_keyed, after_as, allow_keyed, at_node, branch, break_keyed, by_option}
use Rattle.line_laws.proofs.IssueSteps.{challenge_keyed, cut_keyed, deliver_keyed, inject_keyed, join_keyed, kick_keyed, leave_keyed, lose_keyed, node_fits}
use Rattle.line_laws.proofs.IssueSteps.{node_ok, psk_is, quiet_after, rand_keyed, rekey_keyed, restart_keyed, send_keyed, set_up_keyed, setup, show_keyed}
use Rattle.line_laws.proofs.IssueSteps.{sized_at, taken_none, tick_keyed}

module _ (ciphers : Ciphers) (fits : KeepsRanges ciphers) (w : World) (ok : WorldOk w) (flown : All FlightFits w.flights) (given : List Issued)
    (k : Keyed w given) where
  abbrev Good : Step → Type 0
  Good s = StepKeyed w given s

  abbrev own_of : Node → coordinator_rules.CoordinatorIdentity
  own_of c = record { eui = c.eui; ciphers = ciphers }

  -- # Setup

  preset_keyed : (number : ℕ) (plan : StationMemory → calls.Presetting) → ((m : Memory) → IsMemorySized m → Quietly m (of_station m (plan m.station)))
      → Good (preset ciphers w number plan)
  preset_keyed number plan q = (setup ciphers fits w ok flown given k) _ ((at_node ciphers fits w ok flown given k) number _
      (λ x there. (taken_none ciphers fits w ok flown given k) _ refl
      (quiet_after ciphers fits (set_up w) given (set_up_keyed ciphers fits w ok flown given k) number x there
      ((node_ok ciphers fits w ok flown given k) number x there) (Ok tt) _ q)))

  -- an address of a node is below FFFE
  pub address_low : (x : Node) (address : ℕ) → NodeOk x → node_address x ≡ Some address → address < 0xFFFE
  address_low x address h = by_memory x.memory h.kept
    where
      by_ring : (r : ring.Ring) → IfSome r IsReadable → option_map (λ (g : Granted). g.address) r ≡ Some address → address < 0xFFFE
      by_ring None q e = absurd (no_some _ e)
      by_ring (Some g) q e = let this : g.address ≡ address = same_Some _ _ e in let low = q.address in omega arith

      by_memory : (o : Option Memory) → Left (IsKept x.role) x.store.records o → option_and_then (λ (m : Memory). address_of m.station) o ≡ Some address
          → address < 0xFFFE
      by_memory None q e = absurd (no_some _ e)
      by_memory (Some m) q e = by_ring m.station.ring q.station.range.ring e

  pub other_there : {A : Type 0} (a b : ℕ) (d : NodeStep A) (y : Node) → b ≢ a → node_at w b ≡ Some y → node_at (world_after ciphers (set_up w) a d) b ≡ Some y
  unfolding world_after
  other_there a b d y far there = slice_get-set_other w.nodes a b d.node far ∙ there

  offered_after : (v : World) → Keyed v given → (number : ℕ) (x : Node) → node_at v number ≡ Some x → NodeOk x → (to cost : ℕ) → to < 0xFFFE → cost ≤ 255
      → Keyed (world_after ciphers v number (offered_near x to cost w.clock)) given
  offered_after v kv number x there good to cost short low =
      after_as ciphers v number (λ _. tt) (acts x (Ok tt) (λ m. of_station m (calls.preset_near m.station to cost w.clock))) given
      (quiet_after ciphers fits v given kv number x there good (Ok tt) (λ m. of_station m (calls.preset_near m.station to cost w.clock))
      (λ m sized. near_quietly m sized to cost w.clock short (omega arith)))

  near_by_keyed : (a b cost : ℕ) (x y : Node) (p q : Option ℕ) → cost ≤ 255 → node_at w a ≡ Some x → node_at w b ≡ Some y → node_address x ≡ p
      → node_address y ≡ q → Good (near_by ciphers w a b cost x y p q)
  near_by_keyed a b cost x y None q low hx hy ep eq = Fails faults.Setup
  near_by_keyed a b cost x y (Some p) None low hx hy ep eq = Fails faults.Setup
  near_by_keyed a b cost x y (Some p) (Some q) low hx hy ep eq =
      (branch ciphers fits w ok flown given k) ((a == b) || (keeps_rank x q || (ranks_full x || ranks_full y))) _ _ (λ _. Fails faults.Setup) (λ may.
      let far : b ≢ a = λ same. eqb-false _ _ (or_parts _ _ may).0 (sym same) in
      let first = offered_after (set_up w) (set_up_keyed ciphers fits w ok flown given k) a x hx ((node_ok ciphers fits w ok flown given k) a x hx) q cost
      (address_low y q ((node_ok ciphers fits w ok flown given k) b y hy) eq) low in
      (taken_none ciphers fits w ok flown given k) _ refl (offered_after (world_after ciphers (set_up w) a (offered_near x q cost w.clock)) first b y
      (other_there a b (offered_near x q cost w.clock) y far hy) ((node_ok ciphers fits w ok flown given k) b y hy) p cost
      (address_low x p ((node_ok ciphers fits w ok flown given k) a x hx) ep) low))

  near_keyed : (a b cost : ℕ) → cost ≤ 255 → Good (near ciphers w a b cost)
  unfolding near
  near_keyed a b cost low =
      (setup ciphers fits w ok flown given k) _ ((at_node ciphers fits w ok flown given k) a _
      (λ x hx. (at_node ciphers fits w ok flown given k) b _ (λ y hy. near_by_keyed a b cost x y (node_address x) (node_address y) low hx hy refl refl)))

  none_get : (n : ℕ) (x : Node) → slice_get [] n ≡ Some x → ⊥
  none_get n x e = absurd (cc)

  no_records : (S : ring.Ring → Type 0) → S None → RingIn S empty
  no_records S none x e =
      let got : ring.ring_at (get empty 1) ≡ Some None = ap ring.ring_at (get-empty nat_cmp 1) in
      subst S (same_Some _ _ (sym got ∙ e)) none

  begin_writes : (key : Key) → length key.0 ≡ 16 → AreOctets key.0 → (m : Memory) → RingWrites Nought (coordinator_rules.begin m (first_grant key)).puts
  unfolding choose resting empty_draft with_ring
  begin_writes key long are m = by_ring (is_some m.station.ring)
    where
      readable : IsReadable (first_grant key)
      readable = record { grant = record { index = omega arith; held = refl }; address = omega arith; key0 = held key long are; key1 = none_held }

      by_ring : (b : Bool) → RingWrites Nought
          (if b then resting m (Ok tt) (Err RingStore) else within (λ l. with_station l m) (λ r. r) (calls.install m.station (first_grant key))).puts
      by_ring true = tt
      by_ring false = (Puts (Some (first_grant key)) readable refl, counter_away Nought m.station.counter 0)

  -- a node more
  record Pushed (x : Node) (n : ℕ) (y : Node) : Type 0 where
    is : (n ≡ length w.nodes) × (x ≡ y)

  pushed_or : {P : Type 0} (x : Node) (n : ℕ) (y : Node) → slice_get (w.nodes ++ x ∷ []) n ≡ Some y → (Pushed x n y → P) → (slice_get w.nodes n ≡ Some y → P)
      → P
  pushed_or x n y is f g = ⊎_elim
      (λ (e : n ≡ length w.nodes). f (record { is = (e, same_Some _ _ (sym (slice_get-push w.nodes x) ∙ ap (slice_get (w.nodes ++ x ∷ [])) (sym e) ∙ is)) }))
      (λ (e : n ≢ length w.nodes). g (sym (slice_get-push_other w.nodes n x e) ∙ is))
      (cases_eq n (length w.nodes))

  left_book : (role : Role) (r : Records) (o : Option Memory) → role ≡ Coordinator → Left (IsKept role) r o → (b : book.Book) × IsBookKept b r
  left_book Coordinator r None e q = (q.memory.book, q.kept.book)
  left_book Coordinator r (Some m) e q = (m.book, q.book)
  left_book (Meter psk) r o e q = absurd (cc)

  no_node : (xs : List Node) → length xs ≤ 0 → xs ≡ []
  no_node [] le = refl
  no_node (x ∷ xs) le = absurd (omega arith)

  some_nodes : (x : Node) → (xs : List Node) → xs ++ x ∷ [] ≡ [] → ⊥
  some_nodes x [] e = absurd (cc)
  some_nodes x (y ∷ xs) e = absurd (cc)

  coordinator_keyed : (eui : Eui) (key : Key) → IsEui eui → length key.0 ≡ 16 → AreOctets key.0 → Good (coordinator w eui key)
  unfolding coordinator
  coordinator_keyed eui key known long are = (branch ciphers fits w ok flown given k) (has_begun w) _ _ (λ _. Fails faults.Setup) (λ none.
      let few : length w.nodes ≤ 0 = ltb-false _ _ none in
      let empty_is : w.nodes ≡ [] = no_node w.nodes few in
      let x = coordinator_node eui key in
      let plan : Memory → Plan Memory (Result (Unit {0}) _) = λ m. coordinator_rules.begin m (first_grant key) in
      let did = acts_ok (blank_node Coordinator eui) (Ok tt) plan (blank_ok Coordinator eui tt)
      (λ m there kept sized. begin_ok ciphers fits w ok flown key long are m sized) in
      let b = left_book x.role x.store.records x.memory did.role did.node.kept in
      let nought : RingIn Nought x.store.records = acts_ring Nought (blank_node Coordinator eui) (Ok tt) plan (λ m. begin_writes key long are m)
      (no_records Nought tt) in
      let gone : (n : ℕ) (y : Node) → slice_get w.nodes n ≡ Some y → ⊥ = λ n y is. none_get n y (sym (ap (λ ns. slice_get ns n) empty_is) ∙ is) in
      let at_nought : (n : ℕ) → n ≡ length w.nodes → n ≡ 0 = λ n e. e ∙ ap length empty_is in
      (taken_none ciphers fits w ok flown given k) _ refl (record {
        book = b.0;
        coordinator = λ c is. pushed_or x 0 c is (λ p. subst (CoordinatorOk b.0) p.is.1 (record { role = did.role; book_kept = b.1; ring = nought }))
            (λ old. absurd (gone 0 c old));
        meters = λ n y ne is. pushed_or x n y is (λ p. absurd (ne (at_nought n p.is.0))) (λ old. absurd (gone n y old));
        made = subst (Each (TagOk b.0 given)) (sym (k.still empty_is)) tt;
        roles = λ n y ne is. pushed_or x n y is (λ p. absurd (ne (at_nought n p.is.0))) (λ old. absurd (gone n y old));
        apart = λ i j y z a c same. pushed_or x i y a
            (λ p. pushed_or x j z c (λ q. p.is.0 ∙ sym q.is.0) (λ old. absurd (gone j z old)))
            (λ old. absurd (gone i y old));
        still = λ e. absurd (some_nodes x w.nodes e);
        named = λ n y is. pushed_or x n y is (λ p. subst (λ (z : Node). IsEui z.eui) p.is.1 (subst IsEui (sym did.eui) known)) (λ old. absurd (gone n y old));
      }))

  known_apart : (eui : Eui) (xs : List Node) (n : ℕ) (y : Node) → slice_get xs n ≡ Some y → list_any (λ (x : Node). same_eui x.eui eui) xs ≡ false
      → book.eui_number y.eui ≡ book.eui_number eui → ⊥
  known_apart eui [] n y is none same = none_get n y is
  known_apart eui (x ∷ xs) zero y is none same =
      let this : x ≡ y = same_Some _ _ is in
      eqb-false _ _ (or_parts _ _ none).0 (ap (λ (u : Node). book.eui_number u.eui) this ∙ same)
  known_apart eui (x ∷ xs) (suc n) y is none same = known_apart eui xs n y is (or_parts _ _ none).1 same

  meter_keyed : (eui : Eui) (psk : Key) → IsEui eui → Good (meter w eui psk)
  unfolding meter
  meter_keyed eui psk known =
      (branch ciphers fits w ok flown given k) (not (takes_setup w) || (nat_lt 999 (length w.nodes) || is_known w eui)) _ _ (λ _. Fails faults.Setup) (λ may.
      let parts = or_parts _ _ may in
      let new : is_known w eui ≡ false = (or_parts _ _ parts.1).1 in
      let some : 0 < length w.nodes = begun_some (has_begun w) (not w.running) refl parts.0 in
      let x = blank_node (Meter psk) eui in
      let fresh : MeterOk k.book given x = record { ring = no_records (RingOk k.book given eui) tt; session = tt } in
      (taken_none ciphers fits w ok flown given k) _ refl (record {
        book = k.book;
        coordinator = λ c is. pushed_or x 0 c is (λ p. absurd (let e = p.is.0 in omega arith)) (k.coordinator c);
        meters = λ n y ne is. pushed_or x n y is (λ p. subst (MeterOk k.book given) p.is.1 fresh) (k.meters n y ne);
        made = k.made;
        roles = λ n y ne is. pushed_or x n y is (λ p. subst (λ (u : Node). IsMeter u.role) p.is.1 tt) (k.roles n y ne);
        apart = λ i j y z a c same. pushed_or x i y a
            (λ p. pushed_or x j z c (λ q. p.is.0 ∙ sym q.is.0)
            (λ old. absurd (known_apart eui w.nodes j z old new (sym same ∙ ap (λ (u : Node). book.eui_number u.eui) (sym p.is.1)))))
            (λ old. pushed_or x j z c
            (λ q. absurd (known_apart eui w.nodes i y old new (same ∙ ap (λ (u : Node). book.eui_number u.eui) (sym q.is.1))))
            (λ older. k.apart i j y z old older same));
        still = λ e. absurd (some_nodes x w.nodes e);
        named = λ n y is. pushed_or x n y is (λ p. subst (λ (z : Node). IsEui z.eui) p.is.1 known) (k.named n y);
      }))
    where
      begun_some : (a b : Bool) → nat_lt 0 (length w.nodes) ≡ a → not (a && b) ≡ false → 0 < length w.nodes
      begun_some true b e h = ltb-true _ _ e
      begun_some false b e h = absurd (cc)

  -- # depot

  depot_by_keyed : (number : ℕ) (x c : Node) (psk : Key) → number ≢ 0 → node_at w number ≡ Some x → node_at w 0 ≡ Some c → IsPair psk
      → Good (depot_by ciphers w number x (acts c (Err orders.Halted) (λ m. coordinator_rules.depot m x.eui psk)))
  depot_by_keyed number x c psk ne hx hc long = by_answer (acts c (Err orders.Halted) plan).answer refl
    where
      plan : Memory → Plan Memory (Result Granted CoordinatorRefusal)
      plan m = coordinator_rules.depot m x.eui psk

      known : HasEui x.eui
      known = ((node_fits ciphers fits w ok flown given k) number x hx).eui

      good : NodeOk c
      good = (node_ok ciphers fits w ok flown given k) 0 c hc

      h : CoordinatorOk (set_up_keyed ciphers fits w ok flown given k).book c
      h = (set_up_keyed ciphers fits w ok flown given k).coordinator c hc

      did : CoordinatorDid (set_up_keyed ciphers fits w ok flown given k).book given [] c (acts c (Err orders.Halted) plan)
      did = coordinator_acts (set_up_keyed ciphers fits w ok flown given k).book given c (Err orders.Halted) plan [] good h (λ a. None) (λ m here said. refl)
          (λ m here kept. depot_coordinator ciphers fits (own_of c) m (sized_at ciphers fits c m good here) (set_up_keyed ciphers fits w ok flown given k).book
          (h.ring m.station.ring kept.station.ring.stored) kept.station.range.ring x.eui psk known long)

      ok_did : DidOk c (acts c (Err orders.Halted) plan)
      ok_did = coordinator_ok c (Err orders.Halted) plan h.role good (λ m sized. depot_ok ciphers fits (own_of c) m sized x.eui psk known long)

      failed : (m : Memory) → (plan m).failed ≡ Err orders.Store
      failed m = depot_failed ciphers fits (own_of c) m x.eui psk known long

      address : (g : Granted) → (acts c (Err orders.Halted) plan).answer ≡ Ok g → book.address_of did.book x.eui ≡ Some g.address
      address g e =
          let a = acts_whole c orders.Halted orders.Store plan failed g e in
          let kept : Left (IsKept Coordinator) (acts c (Err orders.Halted) plan).node.store.records (Some (plan a.memory).memory) =
          subst (λ o. Left (IsKept Coordinator) (acts c (Err orders.Halted) plan).node.store.records o) a.leaves
          (subst (λ role. Left (IsKept role) (acts c (Err orders.Halted) plan).node.store.records (acts c (Err orders.Halted) plan).node.memory)
          (ok_did.role ∙ h.role) ok_did.node.kept) in
          let same : (plan a.memory).memory.book ≡ did.book = one_book _ _ _ kept.book did.node.book_kept in
          subst (λ (y : book.Book). book.address_of y x.eui ≡ Some g.address) same (depot_address a.memory x.eui psk g a.is)

      readable : (g : Granted) → (acts c (Err orders.Halted) plan).answer ≡ Ok g → IsReadable g
      readable g e =
          let a = acts_whole c orders.Halted orders.Store plan failed g e in
          let kept : Left (IsKept Coordinator) c.store.records (Some a.memory) = subst (λ o. Left (IsKept Coordinator) c.store.records o) a.there
          (subst (λ role. Left (IsKept role) c.store.records c.memory) h.role good.kept) in
          depot_grants a.memory x.eui psk g kept.station.range.ring kept.book.table.short a.is

      provisioned_keyed : (g : Granted) (v : World) (kv : Keyed v (given ++ issued_by x.eui g)) → node_at v number ≡ Some x → IsReadable g
          → book.address_of kv.book x.eui ≡ Some g.address
          → Keyed (world_after ciphers v number (acts x (Ok tt) (λ m. meters.provision m g))) (given ++ issued_by x.eui g)
      provisioned_keyed g v kv there reads at =
          let m = kv.meters number x ne there in
          let keys = issued_keys given x.eui g in
          let did = sound_acts kv.book (given ++ issued_by x.eui g) x (Ok tt) (λ m. meters.provision m g)
          ((node_ok ciphers fits w ok flown given k) number x hx) m.ring m.session
          (λ n here kept session ring.
          let rest = installs_rest n g in
          record {
            puts = installs_ring (RingOk kv.book (given ++ issued_by x.eui g) x.eui) n g reads (record { address = at; key0 = keys.0; key1 = keys.1 });
            session = subst (PeerIs x.eui) (sym rest.0) session;
            made = subst (Each (TagOk kv.book (given ++ issued_by x.eui g))) (sym rest.1) tt;
          }) in
          after_meter ciphers v number x _ there did.eui (given ++ issued_by x.eui g) kv ne did

      by_answer : (r : Result Granted CoordinatorRefusal) → (acts c (Err orders.Halted) plan).answer ≡ r
          → Good (depot_by ciphers w number x (acts c (Err orders.Halted) plan))
      by_answer (Err reason) e = rw e (Fails faults.Setup)
      by_answer (Ok g) e =
          let d : NodeStep (Result Granted CoordinatorRefusal) = record (acts c (Err orders.Halted) plan) { answer = Ok g } in
          let v = world_after ciphers (set_up w) 0 d in
          let more = issued_by x.eui g in
          let all : CoordinatorDid (set_up_keyed ciphers fits w ok flown given k).book given [] c
          d = record { book = did.book; node = did.node; grows = did.grows; eui = did.eui; made = did.made } in
          let first = after_coordinator ciphers (set_up w) 0 c d hc did.eui given [] (set_up_keyed ciphers fits w ok flown given k) refl all in
          let kv : Keyed v (given ++ more) = keyed_more v given more (subst (Keyed v) (append-nil given) first) in
          rw e (Taken _ (λ honest. provisioned_keyed g v kv (other_there 0 number d x ne hx) (readable g e)
          (let same = one_book did.book kv.book d.node.store.records did.node.book_kept
          (kv.coordinator d.node (after_here ciphers (set_up w) 0 c d hc)).book_kept in
          subst (λ (y : book.Book). book.address_of y x.eui ≡ Some g.address) same (address g e))))

  depot_keyed : (number : ℕ) → Good (depot ciphers w number)
  unfolding depot
  depot_keyed number =
      (setup ciphers fits w ok flown given k) _ ((at_node ciphers fits w ok flown given k) number _
      (λ x hx. (at_node ciphers fits w ok flown given k) 0 _
      (λ c hc. (branch ciphers fits w ok flown given k) ((number == 0) || is_some (node_address x)) _ _ (λ _. Fails faults.Setup) (λ may.
      (by_option ciphers fits w ok flown given k) (λ psk. depot_by ciphers w number x (acts c (Err orders.Halted) (λ m. coordinator_rules.depot m x.eui psk)))
      (psk_of x) (Err faults.Setup)
      (λ psk pair. depot_by_keyed number x c psk (eqb-false _ _ (or_parts _ _ may).0) hx hc
      (((node_fits ciphers fits w ok flown given k) number x hx).psk psk ((psk_is ciphers fits w ok flown given k) x psk pair)))
      (Fails faults.Setup)))))

  -- # All kinds

  pub step_keyed : (event : Event) → IsEvent event → Good (step ciphers w event)
  step_keyed (events.Coordinator eui key) e = coordinator_keyed eui key e.0 e.1.0 e.1.1
  step_keyed (events.Meter eui psk) e = meter_keyed eui psk e.0
  step_keyed (events.Depot node) e = depot_keyed node
  step_keyed (events.Near a b cost) e = near_keyed a b cost e.2.1
  step_keyed (events.Counter node value) e = preset_keyed node _ (λ m sized. counter_quietly m sized value e.1)
  step_keyed (events.Number node value) e = preset_keyed node _ (λ m sized. number_quietly m sized value e.1 e.2)
  step_keyed (events.Allow node) e = (allow_keyed ciphers fits w ok flown given k) node
  step_keyed (events.RandomOctets node value) e = (rand_keyed ciphers fits w ok flown given k) node value
  step_keyed (events.Join node agent) e = (join_keyed ciphers fits w ok flown given k) node agent
  step_keyed (events.Leave node) e = (leave_keyed ciphers fits w ok flown given k) node
  step_keyed (events.Send from to datagram) e = (send_keyed ciphers fits w ok flown given k) from to datagram
  step_keyed (events.Deliver flight node cost) e = (deliver_keyed ciphers fits w ok flown given k) flight node cost
  step_keyed (events.Inject node cost octets) e = (inject_keyed ciphers fits w ok flown given k) node cost octets e.2.2
  step_keyed (events.Lose flight) e = (lose_keyed ciphers fits w ok flown given k) flight
  step_keyed (events.Break node next) e = (break_keyed ciphers fits w ok flown given k) node next
  step_keyed (events.Tick seconds) e = (tick_keyed ciphers fits w ok flown given k) seconds
  step_keyed (events.Restart node) e = (restart_keyed ciphers fits w ok flown given k) node
  step_keyed (events.Cut node nth keeps_new) e = (cut_keyed ciphers fits w ok flown given k) node nth keeps_new
  step_keyed (events.Rekey index key) e = (rekey_keyed ciphers fits w ok flown given k) index key e.1.0 e.1.1
  step_keyed (events.Challenge node) e = (challenge_keyed ciphers fits w ok flown given k) node
  step_keyed (events.Activate node index) e = (activate_keyed ciphers fits w ok flown given k) node index e.1
  step_keyed (events.Kick node) e = (kick_keyed ciphers fits w ok flown given k) node
  step_keyed (events.Show node) e = (show_keyed ciphers fits w ok flown given k) node
  step_keyed events.Checks e = Fails faults.Setup
  step_keyed (events.Bcast node datagram) e = Fails faults.Setup
  step_keyed (events.Scan node) e = Fails faults.Setup
  step_keyed (events.Choose node k) e = Fails faults.Setup
  step_keyed (events.Path from to) e = Fails faults.Setup
