-- A grant that a meter takes has its home: the coordinator made it for this meter, unless a pair tag is forged; and so has that of the workshop.
use Rattle.std.proofs.Common.{◌≡◌, ◌≢◌, ⊎_elim, ℕ, Bool, true, false, List, [], Option, Some, None, Result, Ok, Err, refl, sym, ap, ◌∙◌, subst}
use Rattle.std.specs.Prelude.{if◌then◌else◌, All, IfSome, ◌==◌, ◌||◌, is_some, slice_get}
use Rattle.std.specs.List.{list_any}
use Rattle.std.specs.Option.{option_map_or}
use Rattle.std.proofs.lemmas.Bool.{eqb-false, or_parts}
use Rattle.store_tables.proofs.SlotTables.{slice_get-set, slice_get-set_other}
use Rattle.plc_base.specs.declared.key.Key.{Key}
use Rattle.plc_base.specs.declared.tags.PairTag.{PairTag}
use Rattle.plc_base.specs.Grant.{Granted}
use Rattle.eap_psk.specs.declared.peer.Peer.{Peer}
use Rattle.eap_psk.specs.Messages.{granting_text}
use Rattle.eap_psk.specs.Sessions.{identifier_of}
use Rattle.eap_psk.specs.Tags.{granting_tag}
use Rattle.group_keys.specs.KeyBook as books
use Rattle.line_rules.specs.Answers.{Reception, meter_reception, coordinator_reception}
use Rattle.line_rules.specs.Worlds.{World, Issued, node_at, same_tag, is_forged_tag}
use Rattle.line_rules.specs.Forgery.{accepting}
use Rattle.line_rules.specs.Steps.{Step, set_up, world_after, takes_setup, identity, hearing_step, note_by, psk_of, provisioned, depot, depot_by, depot_at}
use Rattle.line_events.specs.declared.event.StepFault.TheVariants as faults
use Rattle.node_rules.specs.Accepted.{Accepted}
use Rattle.node_rules.specs.declared.refusal.CoordinatorRefusal.{CoordinatorRefusal}
use Rattle.node_rules.specs.declared.refusal.CoordinatorRefusal.TheVariants as orders
use Rattle.node_rules.specs.declared.refusal.Dropped.TheVariants as drops
use Rattle.node_rules.specs.declared.refusal.FrameRefusal.{FrameRefusal}
use Rattle.node_rules.specs.declared.refusal.FrameRefusal.TheVariants as frames
use Rattle.node_rules.specs.Acceptance.{accept}
use Rattle.node_rules.specs.Ciphers.{Ciphers}
use Rattle.node_rules.specs.Coordinators as coordinator_rules
use Rattle.node_rules.specs.Frames.{arrived}
use Rattle.node_rules.specs.Laws.{IsWhole, IsCutOff}
use Rattle.node_rules.specs.Memory.{Memory, MeterSession, Role, Coordinator, Meter, Node, node_address}
use Rattle.node_rules.specs.Meters as meters
use Rattle.node_rules.specs.NodeSteps.{NodeStep, acts, stays, left_by, answering, of_station}
use Rattle.node_rules.specs.Plans.{Plan, carry_out}
use Rattle.node_rules.proofs.FailedWrites.{clean}
use Rattle.line_laws.specs.Owed.{AreOctets, KeepsRanges}
use Rattle.line_laws.specs.Sizes.{IsMemorySized}
use Rattle.line_laws.specs.Stores.{IsReadable, IsKept, IsBookKept, IsPair}
use Rattle.line_laws.proofs.AddressBook.{one_book}
use Rattle.line_laws.proofs.Answered.{acts_answered}
use Rattle.line_laws.proofs.BookGrowth.{psk_meter}
use Rattle.line_laws.proofs.CoordinatorCalls.{accept_ok, accept_failed, accepted_routes, depot_ok, depot_failed}
use Rattle.joining_messages.specs.declared.message.JoinBody.{JoinBody}
use Rattle.joining_messages.specs.Messages.{rest_of}
use Rattle.joining_messages.proofs.JoinOctets.{read_octets}
use Rattle.line_laws.proofs.HeardOctets.{unread_octets}
use Rattle.line_laws.proofs.Homed.{TakenFrom, IsTagged, TakesItsOwn}
use Rattle.line_laws.proofs.Homes.{homes_of, meter_home}
use Rattle.line_laws.proofs.IssueCalls.{accept_quietly, depot_coordinator}
use Rattle.line_laws.proofs.IssueMeters.{PeerIs}
use Rattle.line_laws.proofs.IssueNodes.{TagOk, MeterDid, CoordinatorOk, CoordinatorDid, AllMade, all_made, found_grant, coordinator_acts, acts_whole}
use Rattle.line_laws.proofs.IssueNodes.{depot_address}
use Rattle.line_laws.proofs.IssueSteps.{quiet_meter_did}
use Rattle.line_laws.proofs.IssueWords.{any_found}
use Rattle.line_laws.proofs.IssueWorlds.{Keyed}
use Rattle.line_laws.proofs.KeptMemory.{Left}
use Rattle.line_laws.proofs.Nodes.{NodeOk, DidOk, acts_ok, node_kept, ring_readable, pair_octets}
use Rattle.line_laws.proofs.StoreMarks.{accept_is}
use Rattle.line_laws.proofs.NodesOk.{coordinator_acts as coordinator_ok}
use Rattle.line_laws.proofs.Worlds.{NodeFits, FlightFits, WorldOk, at_place, within as place_within}

-- # What a node found right

-- a node that is not halted opens what its plan opens
acts_open : {A : Type 0} (x : Node) (halted : A) (plan : Memory → Plan Memory A) (m : Memory) → x.memory ≡ Some m
    → (acts x halted plan).opened ≡ (plan m).opened
unfolding acts
acts_open {A = A} x halted plan m here =
    ap (λ o. (option_map_or (λ (n : Memory). left_by x (carry_out x.store.records x.store.cut (plan n))) o (stays x halted)).opened) here ∙ ⊎_elim
    (λ (e : IsWhole x.store.records x.store.cut (plan m) (carry_out x.store.records x.store.cut (plan m))). e.opened)
    (λ (e : IsCutOff x.store.records x.store.cut (plan m) (carry_out x.store.records x.store.cut (plan m))). e.opened)
    (clean x.store.records x.store.cut (plan m))

module _ (ciphers : Ciphers) (y : Node) (psk : Key) (m : Memory) (is : y.role ≡ Meter psk) (here : y.memory ≡ Some m) (got : Accepted) (cost note now : ℕ) where
  hears_as : Role → NodeStep Reception
  hears_as Coordinator = answering coordinator_reception
      (acts y (Err drops.Store) (λ n. coordinator_rules.hear_coordinator (record { eui = y.eui; ciphers = ciphers }) n got cost note now))
  hears_as (Meter key) = answering meter_reception (acts y (Err drops.Store) (λ n. meters.hear_meter (identity ciphers y key) n got cost note now))

  hears_open : (hearing_step ciphers y got cost note now).opened ≡ (meters.hear_meter (identity ciphers y psk) m got cost note now).opened
  unfolding hears_as
  hears_open =
      ap (λ role. (hears_as role).opened) is ∙ acts_open y (Err drops.Store) (λ n. meters.hear_meter (identity ciphers y psk) n got cost note now) m here

-- the peer of a meter's session names it
peer_is : (eui : _) (o : Option MeterSession) (session : MeterSession) (peer : Peer) → PeerIs eui o → o ≡ Some session → session.peer ≡ Some peer
    → peer.eui ≡ eui
peer_is eui o session peer h open_is has = subst (λ (p : Option Peer). IfSome p (λ (q : Peer). q.eui ≡ eui)) has (subst (PeerIs eui) open_is h)

module _ (ciphers : Ciphers) (fits : KeepsRanges ciphers) (w : World) (ok : WorldOk w) (flown : All FlightFits w.flights) (given : List Issued)
    (k : Keyed w given) where
  module _ (number : ℕ) (x : Node) (octets : List ℕ) (cost : ℕ) (there : node_at w number ≡ Some x) (are : AreOctets octets) where
    abbrev plan : Memory → Plan Memory (Result Accepted FrameRefusal)
    plan m = of_station m (accept m.station x.eui (arrived ciphers octets))

    abbrev y : Node
    y = (accepting ciphers x octets).node

    good : NodeOk x
    good = at_place NodeOk w.nodes number x there ok.nodes

    did : DidOk x (acts x (Err frames.Halted) plan)
    did = acts_ok x (Err frames.Halted) plan good (λ m here kept sized. accept_ok ciphers fits octets are x.role m x.eui sized)

    payload_octets : (got : Accepted) → (accepting ciphers x octets).answer ≡ Ok got → AreOctets got.payload
    payload_octets got e =
        let a = acts_answered x frames.Halted frames.Store plan
        (λ m. accept_failed ciphers fits octets are m.station _ (accept_is m.station x.eui (arrived ciphers octets))) got e in
        (accepted_routes ciphers fits octets are a.memory.station (ring_readable x a.memory good a.there) _ got
        (accept_is a.memory.station x.eui (arrived ciphers octets)) a.is).payload

    not_first : (psk : Key) → y.role ≡ Meter psk → number ≢ 0
    not_first psk role e = absurd (not_meter psk (sym (k.coordinator x (ap (slice_get w.nodes) (sym e) ∙ there)).role ∙ sym did.role ∙ role))
      where
        not_meter : (psk : Key) → Coordinator ≡ Meter psk → ⊥
        not_meter psk e = cc

    module _ (got : Accepted) (psk : Key) (m : Memory) (e : (accepting ciphers x octets).answer ≡ Ok got) (role : y.role ≡ Meter psk) (here : y.memory ≡ Some m)
        (granted : Granted)
        (t : TakenFrom (identity ciphers y psk) m got cost (note_by w octets got.path) w.clock granted) where
      ne : number ≢ 0
      ne = not_first psk role

      meter_did : MeterDid k.book given x (acts x (Err frames.Halted) plan)
      meter_did = quiet_meter_did ciphers fits w ok flown given k x (Err frames.Halted) plan k.book good (k.meters number x ne there)
          (λ n sized. accept_quietly ciphers fits octets are n x.eui)

      named : t.peer.eui ≡ x.eui
      named = peer_is y.eui m.session t.session t.peer (subst (λ o. IfSome o (λ (n : Memory). PeerIs y.eui n.session)) here meter_did.node.session) t.open_is
          t.has ∙ did.eui

      packet_octets : AreOctets t.packet
      packet_octets =
          let body : AreOctets t.unread_is.body = unread_octets m.station got cost (note_by w octets got.path) w.clock t.unread_is (payload_octets got e)
          t.frame in
          subst (λ (b : JoinBody). AreOctets (rest_of b)) t.challenge (read_octets t.join t.unread_is.body body t.read).rest

      readable : IsReadable granted
      readable = fits.granted psk t.peer t.packet granted (pair_octets y m psk (node_kept y m did.node here) role) packet_octets t.right t.is

      -- the coordinator made this grant for this meter
      pub granted_home : list_any (is_forged_tag w.made) (hearing_step ciphers y got cost (note_by w octets got.path) w.clock).opened ≡ false
          → IsTagged t (meters.hear_meter (identity ciphers y psk) m got cost (note_by w octets got.path) w.clock).opened
          → homes_of k.book w number ≡ Some granted.address
      granted_home honest tagged =
          let opened : List PairTag = (meters.hear_meter (identity ciphers y psk) m got cost (note_by w octets got.path) w.clock).opened in
          let all : AllMade w.made opened = all_made w.made opened
          (ap (list_any (is_forged_tag w.made)) (sym (hears_open ciphers y psk m role here got cost (note_by w octets got.path) w.clock)) ∙ honest) in
          let tag : PairTag = granting_tag t.peer.eui (identifier_of t.packet) t.peer.rand_s t.peer.rand_p (granting_text granted) in
          let right = found_grant k.book given t.peer.eui (identifier_of t.packet) t.peer.rand_s t.peer.rand_p granted readable
          (any_found (TagOk k.book given) (same_tag tag) w.made (all tag tagged) k.made) in
          meter_home k.book w number x ne there ∙ subst (λ eui. books.address_of k.book eui ≡ Some granted.address) named right.address

  pub takes_own : (number : ℕ) (x : Node) (octets : List ℕ) (cost : ℕ) → node_at w number ≡ Some x → AreOctets octets
      → TakesItsOwn ciphers (homes_of k.book w) w number octets cost (accepting ciphers x octets)
  takes_own number x octets cost there are = λ got e honest psk role m here agreed took granted t tagged.
      granted_home number x octets cost there are got psk m e role here granted t honest tagged

-- # The grant of the workshop

module _ (ciphers : Ciphers) (w : World) (number : ℕ) (x c : Node) (psk : Key) (hx : node_at w number ≡ Some x) (hc : node_at w 0 ≡ Some c)
    (pair : psk_of x ≡ Some psk) where
  abbrev order : NodeStep (Result Granted CoordinatorRefusal)
  order = acts c (Err orders.Halted) (λ m. coordinator_rules.depot m x.eui psk)

  -- the coordinator is left as its order leaves it, and the node is a meter
  pub record WasLeft (v : World) : Type 0 where
    pub other : number ≢ 0
    pub node : Node
    pub there : node_at v 0 ≡ Some node
    pub records : node.store.records ≡ order.node.store.records

  abbrev pub LeftBy : Step → Type 0
  LeftBy (Ok r) = WasLeft r.0
  LeftBy (Err fault) = Unit {0}

  after_left : (u : World) (d : NodeStep (Result Granted CoordinatorRefusal)) (g : Granted) → u.nodes ≡ w.nodes → d.node ≡ order.node → number ≢ 0
      → WasLeft (provisioned ciphers (world_after ciphers u 0 d) number x g).0
  unfolding world_after
  after_left u d g same left ne = record {
    other = ne;
    node = d.node;
    there =
        slice_get-set_other _ number 0 _ (λ e. ne (sym e)) ∙ slice_get-set u.nodes 0 d.node (place_within u.nodes 0 c (ap (λ ns. slice_get ns 0) same ∙ hc));
    records = ap (λ (z : Node). z.store.records) left;
  }

  pub depot_left : LeftBy (depot ciphers w number)
  unfolding depot
  depot_left = by_setup (takes_setup w)
    where
      by_answer : number ≢ 0 → (r : Result Granted CoordinatorRefusal) → order.answer ≡ r → LeftBy (depot_by ciphers w number x order)
      by_answer ne (Err reason) e = rw e tt
      by_answer ne (Ok g) e = rw e (after_left (set_up w) (record order { answer = Ok g }) g refl refl ne)

      by_test : (b : Bool) → ((number == 0) || is_some (node_address x)) ≡ b
          → LeftBy (if b then Err faults.Setup else option_map_or
          (λ key. depot_by ciphers w number x (acts c (Err orders.Halted) (λ m. coordinator_rules.depot m x.eui key))) (psk_of x) (Err faults.Setup))
      by_test true e = tt
      by_test false e = rw pair (by_answer (eqb-false _ _ (or_parts _ _ e).0) order.answer refl)

      by_setup : (b : Bool) → LeftBy (if b then option_map_or (λ z. option_map_or (λ d. depot_at ciphers w number z d) (node_at w 0) (Err faults.Node))
          (node_at w number) (Err faults.Node) else Err faults.Setup)
      by_setup false = tt
      by_setup true = rw (hx, hc) (by_test ((number == 0) || is_some (node_address x)) refl)

module _ (ciphers : Ciphers) (fits : KeepsRanges ciphers) (w v : World) (ok : WorldOk w) (given more : List Issued) (k : Keyed w given)
    (kv : Keyed v more) where
  module _ (number : ℕ) (x c : Node) (psk : Key) (g : Granted) (hx : node_at w number ≡ Some x) (hc : node_at w 0 ≡ Some c) (pair : psk_of x ≡ Some psk) where
    abbrev depots : Memory → Plan Memory (Result Granted CoordinatorRefusal)
    depots m = coordinator_rules.depot m x.eui psk

    abbrev ordered : NodeStep (Result Granted CoordinatorRefusal)
    ordered = acts c (Err orders.Halted) depots

    abbrev own : coordinator_rules.CoordinatorIdentity
    own = record { eui = c.eui; ciphers = ciphers }

    first : CoordinatorOk k.book c
    first = k.coordinator c hc

    c_good : NodeOk c
    c_good = at_place NodeOk w.nodes 0 c hc ok.nodes

    x_fits : NodeFits x
    x_fits = at_place NodeFits w.nodes number x hx ok.fits

    long : IsPair psk
    long = x_fits.psk psk (psk_meter x psk pair)

    sized_in : (m : Memory) → c.memory ≡ Some m → IsMemorySized m
    sized_in m here = subst (λ o. IfSome o IsMemorySized) here c_good.sized

    ordered_did : CoordinatorDid k.book given [] c ordered
    ordered_did = coordinator_acts k.book given c (Err orders.Halted) depots [] c_good first (λ a. None) (λ m here said. refl)
        (λ m here kept. depot_coordinator ciphers fits own m (sized_in m here) k.book (first.ring m.station.ring kept.station.ring.stored)
        kept.station.range.ring x.eui psk x_fits.eui long)

    ordered_ok : DidOk c ordered
    ordered_ok = coordinator_ok c (Err orders.Halted) depots first.role c_good (λ m sized. depot_ok ciphers fits own m sized x.eui psk x_fits.eui long)

    booked : ordered.answer ≡ Ok g → books.address_of ordered_did.book x.eui ≡ Some g.address
    booked e =
        let a = acts_whole c orders.Halted orders.Store depots (λ m. depot_failed ciphers fits own m x.eui psk x_fits.eui long) g e in
        let kept : Left (IsKept Coordinator) ordered.node.store.records (Some (depots a.memory).memory) =
        subst (λ o. Left (IsKept Coordinator) ordered.node.store.records o) a.leaves
        (subst (λ role. Left (IsKept role) ordered.node.store.records ordered.node.memory) (ordered_ok.role ∙ first.role) ordered_ok.node.kept) in
        let same : (depots a.memory).memory.book ≡ ordered_did.book = one_book _ _ _ kept.book ordered_did.node.book_kept in
        subst (λ (b : books.Book). books.address_of b x.eui ≡ Some g.address) same (depot_address a.memory x.eui psk g a.is)

    -- the book after it has the grant's address
    pub depot_booked : WasLeft ciphers w number x c psk hx hc pair v → ordered.answer ≡ Ok g → books.address_of kv.book x.eui ≡ Some g.address
    depot_booked left e =
        let kept : IsBookKept ordered_did.book left.node.store.records = subst (IsBookKept ordered_did.book) (sym left.records) ordered_did.node.book_kept in
        let same : ordered_did.book ≡ kv.book = one_book ordered_did.book kv.book left.node.store.records kept
        (kv.coordinator left.node left.there).book_kept in
        subst (λ (b : books.Book). books.address_of b x.eui ≡ Some g.address) same (booked e)
