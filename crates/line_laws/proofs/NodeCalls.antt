-- Every call of a node keeps its memory with its records, and within its sizes.
use Rattle.std.proofs.Common.{◌≡◌, inl, ℕ, ◌≤◌, ◌<◌, ◌^◌, Bool, true, false, List, [], Option, Some, None, Result, refl, sym, ap, ◌∙◌, subst, arith}
use Rattle.std.specs.Prelude.{IfSome}
use Rattle.std.specs.Option.{option_map, option_and_then}
use Rattle.std.proofs.lemmas.Option.{same_Some}
use Rattle.plc_base.specs.Keeper.{Records}
use Rattle.plc_base.specs.declared.address.Eui.{Eui}
use Rattle.plc_base.specs.declared.key.Key.{Key}
use Rattle.plc_base.specs.declared.key.RandomOctets.{RandomOctets}
use Rattle.plc_base.specs.Grant.{Granted}
use Rattle.frame_counters.specs.SendCounter as counter
use Rattle.group_keys.specs.declared.key_book.BookEntry.{BookEntry}
use Rattle.group_keys.specs.KeyRing as ring
use Rattle.group_keys.specs.KeyBook as book
use Rattle.loadng_messages.specs.declared.message.Message.{Message}
use Rattle.loadng_messages.specs.declared.message.Message.TheVariants.{Rreq, Rrep}
use Rattle.loadng_messages.specs.Grammar.{IsMessage}
use Rattle.loadng_messages.specs.Reader.{message_in}
use Rattle.mesh_header.specs.declared.unit.Unit.TheVariants as units
use Rattle.mesh_header.specs.Reader.{unit_in}
use Rattle.routing_set.specs.declared.rank.Rank.{Rank}
use Rattle.routing_set.specs.RoutingSet as routing
use Rattle.routing_set.specs.OwnNumber as own_number
use Rattle.node_rules.specs.Accepted.{Accepted}
use Rattle.node_rules.specs.declared.heard.Heard.{Heard}
use Rattle.node_rules.specs.declared.heard.MeterHeard.TheVariants as meter_heard
use Rattle.node_rules.specs.declared.heard.Path.TheVariants as paths
use Rattle.node_rules.specs.Ciphers.{Ciphers}
use Rattle.node_rules.specs.Memory.{Load, Datagram, StationMemory, Memory, Role, Coordinator}
use Rattle.node_rules.specs.Plans.{Plan, resting}
use Rattle.node_rules.specs.Drafts.{Draft, Ends, alone, empty_draft}
use Rattle.node_rules.specs.HearingRules.{dropped}
use Rattle.node_rules.specs.MemoryDrafts.{in_memory, with_station, give_random, given_ends}
use Rattle.node_rules.specs.Calls as calls
use Rattle.node_rules.specs.Meters as meters
use Rattle.node_rules.specs.NodeSteps.{of_station}
use Rattle.node_rules.proofs.MemoryDraftShapes.{whole}
use Rattle.line_laws.specs.Stores.{IsHeld, IsReadable, IsStationKept, IsKept}
use Rattle.line_laws.specs.Sizes.{IsAnyLoad, IsMemorySized}
use Rattle.line_laws.specs.Owed.{AreOctets, KeepsRanges}
use Rattle.joining_messages.proofs.JoinRanges.{read_fits}
use Rattle.line_laws.proofs.KeptMemory.{leads_beside}
use Rattle.line_laws.proofs.Beside.{low_one}
use Rattle.line_laws.proofs.StoreWords.{limit_kept, number_kept}
use Rattle.line_laws.proofs.StoreRanks.{EntryFits}
use Rattle.line_laws.proofs.StoreFold.{WordFits, ended_kept, beside_kept}
use Rattle.line_laws.proofs.StoreBook.{Rest, rest_lasts, station_leads}
use Rattle.line_laws.proofs.SizeFold.{handed_sized}
use Rattle.line_laws.proofs.Planned.{Planned, Refuses, Keeps, Ended, planned_weaker}
use Rattle.line_laws.proofs.Made.{Made, RingWord, Carry, Install, Given, Offered, ByRequest, ByReply, ByItself}
use Rattle.line_laws.proofs.MadeIn.{MadeIn, Station, EntryChange, Allows, Issues, Kicks}
use Rattle.line_laws.proofs.HearingForms.{Handed, HandsUp, HandsOn, Gathers, Completes}
use Rattle.line_laws.proofs.MemoryDraftForms.{AnyAnswer, HandedIn, ByStation, MadeBy}
use Rattle.joining_messages.specs.declared.message.JoinBody.{JoinBody}
use Rattle.joining_messages.specs.Messages.{rest_of}
use Rattle.joining_messages.proofs.JoinOctets.{read_octets}
use Rattle.line_laws.proofs.HeardOctets.{unread_octets}
use Rattle.line_laws.proofs.MeterForms.{IsPacket, HandsNothingUp, RingCause, ToCoordinator, ByPacket, ByOrder, meter_is, joins_is, leaves_is}
use Rattle.line_laws.proofs.CoordinatorForms.{IsGranted}
use Rattle.line_laws.proofs.CallForms.{Few, Nothing, send_is, install_is, near_is, random_is}
use Rattle.line_laws.proofs.Nodes.{PlanFits, PlanOk, plan_ok}
use Rattle.line_laws.proofs.MarkWrites.{away_leads}

-- # What is given

-- An accepted frame is octets, and route messages in it are in range.
pub record RoutesFit (got : Accepted) : Type 0 where
  pub payload : AreOctets got.payload
  pub run : (from : ℕ) (all : Bool) (key : Key) (code : ℕ) (body : List ℕ) (message : Message) → got.path ≡ paths.Sealed from all key
      → unit_in got.payload ≡ Some (units.Local code body) → message_in body ≡ Some message → IsMessage message

abbrev pub heard_given : Accepted → (cost note now : ℕ) → Given
heard_given got cost note now = record { got = Some got; cost = cost; note = note; now = now; near = None }

abbrev pub near_given : (to cost now : ℕ) → Given
near_given to cost now = record { got = None; cost = cost; note = 0; now = now; near = Some to }

abbrev pub call_given : (cost note now : ℕ) → Given
call_given cost note now = record { got = None; cost = cost; note = note; now = now; near = None }

pub no_some : {A : Type 0} (x : A) → None ≡ Some x → ⊥
no_some x e = cc

pub heard_offers : (got : Accepted) (cost note now : ℕ) → RoutesFit got → (address : Option ℕ) (by origin : ℕ) (rank : Rank)
    → Offered (heard_given got cost note now) address by origin rank → EntryFits (routing.offered_entry origin rank by now)
heard_offers got cost note now fits address by origin rank (ByRequest own number c o dest here apart few came_so) =
    let same : got ≡ came_so.came.got = same_Some _ _ came_so.came.is in
    let h = fits.run by true came_so.came.key came_so.code came_so.body (Rreq number c o dest) (ap (λ (x : Accepted). x.path) same ∙ came_so.came.path)
    (ap (λ (x : Accepted). unit_in x.payload) same ∙ came_so.came.unit) came_so.read in
    record { address = h.2; low = h.0.0; number = h.0.1; cost = omega arith }
heard_offers got cost note now fits address by origin rank (ByReply own number c o to here apart few came_so) =
    let same : got ≡ came_so.came.got = same_Some _ _ came_so.came.is in
    let h = fits.run by false came_so.came.key came_so.code came_so.body (Rrep number c o to) (ap (λ (x : Accepted). x.path) same ∙ came_so.came.path)
    (ap (λ (x : Accepted). unit_in x.payload) same ∙ came_so.came.unit) came_so.read in
    record { address = h.2; low = h.0.0; number = h.0.1; cost = omega arith }
heard_offers got cost note now fits address by origin rank (ByItself none) = absurd (no_some _ none)

-- what a frame or a call without a neighbour offers
pub call_offers : (cost note now : ℕ) (address : Option ℕ) (by origin : ℕ) (rank : Rank) → Offered (call_given cost note now) address by origin rank
    → EntryFits (routing.offered_entry origin rank by now)
call_offers cost note now address by origin rank (ByRequest own number c o dest here apart few came_so) = absurd (no_some _ came_so.came.is)
call_offers cost note now address by origin rank (ByReply own number c o to here apart few came_so) = absurd (no_some _ came_so.came.is)
call_offers cost note now address by origin rank (ByItself none) = absurd (no_some _ none)

pub near_offers : (to cost now : ℕ) → to < 0xFFFE → cost < 2 ^ 16 → (address : Option ℕ) (by origin : ℕ) (rank : Rank)
    → Offered (near_given to cost now) address by origin rank → EntryFits (routing.offered_entry origin rank by now)
near_offers to cost now short low address by origin rank (ByRequest own number c o dest here apart few came_so) = absurd (no_some _ came_so.came.is)
near_offers to cost now short low address by origin rank (ByReply own number c o q here apart few came_so) = absurd (no_some _ came_so.came.is)
near_offers to cost now short low address by origin rank (ByItself is) =
    let same : to ≡ by = same_Some _ _ is in
    record { address = subst (λ k. k < 0xFFFE) same short; low = omega arith; number = omega arith; cost = low }

-- # Which rules note keys and meters: those of the coordinator

abbrev pub NoGrant : Granted → Type 0
NoGrant granted = ⊥

abbrev pub NoPair : Eui → Key → Type 0
NoPair eui psk = ⊥

abbrev pub NoEui : Eui → Type 0
NoEui eui = ⊥

no_change : (role : Role) (m : Memory) (b : book.Book) (e : BookEntry) → EntryChange NoGrant NoPair NoEui m b e → role ≡ Coordinator
no_change role m b e (Allows eui psk is pair room) = absurd is
no_change role m b e (Issues eui granted x from given allowed) = absurd given
no_change role m b e (Kicks eui x is allowed) = absurd is

-- the keys of a grant of the coordinator are those of its ring
pub granted_keys : (role : Role) (m : Memory) (r : Records) → IsKept role m r → (granted : Granted) → IsGranted m granted
    → IsHeld granted.key0 × IsHeld granted.key1
granted_keys role m r k granted given = by_ring m.station.ring k.station.range.ring (book.address_of given.book given.eui) given.is
  where
    by_ring : (x : ring.Ring) → IfSome x IsReadable → (address : Option ℕ)
        → option_and_then (λ a. option_map (λ (g : Granted). record g { address = a }) x) address ≡ Some granted → IsHeld granted.key0 × IsHeld granted.key1
    by_ring x h None e = absurd (no_some _ e)
    by_ring None h (Some a) e = absurd (no_some _ e)
    by_ring (Some g) h (Some a) e =
        let is : record g { address = a } ≡ granted = same_Some _ _ e in
        (subst (λ (y : Granted). IsHeld y.key0) is h.key0, subst (λ (y : Granted). IsHeld y.key1) is h.key1)

-- # Plans over the memory

pub few_of : {H : Type 0} (N : H → Type 0) (m : Memory) (W : RingWord → Type 0) (L : Granted → Type 0) (P : Eui → Key → Type 0) (E : Eui → Type 0) (g : Given)
    (d : Draft Memory) (answer : H) → MadeBy W L P E g m N d answer
    → MadeIn W L P E g m d × Few m.station d
few_of N m W L P E g d answer x = (x.0, record { few = x.1.few })

module _ (role : Role) (W : RingWord → Type 0) (words : (w : RingWord) → W w → WordFits w) (g : Given) (m : Memory)
    (offers : (address : Option ℕ) (by origin : ℕ) (rank : Rank) → Offered g address by origin rank
    → EntryFits (routing.offered_entry origin rank by g.now)) where
  -- a plan of the line
  pub of_station_planned : {H F : Type 0} {ends : Ends F} (p : Plan StationMemory (Result H F))
      → Planned alone ends m.station Nothing (λ d (a : H). Made W g (empty_draft m.station) d × Few m.station d) p
      → Planned in_memory ends m Nothing (λ d (a : H). MadeIn W NoGrant NoPair NoEui g m d × Few m.station d) (of_station m p)
  unfolding resting
  of_station_planned p (Refuses reason) = Refuses reason
  of_station_planned p (Keeps n answer k) = absurd k
  of_station_planned p (Ended d answer done left) = Ended (whole m d) answer (Station d done.0, record { few = done.1.few }) left

  -- a plan that touches no book
  pub bookless_ok : {H F : Type 0} (ends : Ends F) (K : Memory → H → Type 0)
      → ((n : Memory) (answer : H) → K n answer → (r : Records) → IsKept role m r → IsKept role n r)
      → ((n : Memory) (answer : H) → K n answer → IsMemorySized m → IsMemorySized n)
      → ((n : Memory) (answer : H) → K n answer → (n.station.counter ≡ m.station.counter) × (n.station.marks ≡ m.station.marks))
      → (p : Plan Memory (Result H F)) → Planned in_memory ends m K (λ d a. MadeIn W NoGrant NoPair NoEui g m d × Few m.station d) p → IsMemorySized m
      → PlanOk role m p
  bookless_ok ends K kept sized same p s h = plan_ok role W NoGrant NoPair NoEui g m words offers (λ eui none. absurd none) (λ eui psk none. absurd none)
      (no_change role m) (λ r k granted none. absurd none) ends K kept sized same p s h

  pub station_ok : {H F : Type 0} (ends : Ends F) (p : Plan StationMemory (Result H F))
      → Planned alone ends m.station Nothing (λ d (a : H). Made W g (empty_draft m.station) d × Few m.station d) p → IsMemorySized m
      → PlanOk role m (of_station m p)
  station_ok ends p s h =
      bookless_ok ends Nothing (λ n answer k. absurd k) (λ n answer k. absurd k) (λ n answer k. absurd k) (of_station m p) (of_station_planned p s) h

-- # The calls of a node

never : (w : RingWord) → ⊥ → WordFits w
never w none = absurd none

-- a body is sent out
data IsCarried : RingWord → Type 0 where
  Carries : (to note : ℕ) (load : Load) → IsAnyLoad load → IsCarried (Carry to note load)

carried_fits : (w : RingWord) → IsCarried w → WordFits w
carried_fits w (Carries to note load fits) = fits

abbrev pub NoWord : RingWord → Type 0
NoWord w = ⊥

station_same : (g : Given) (l n : StationMemory) (a : Heard) → Handed g l n a → (n.counter ≡ l.counter) × (n.marks ≡ l.marks)
station_same g l n a (HandsUp by own mesh octets came here mine) = (refl, refl)
station_same g l n a (HandsOn x none) = (refl, refl)
station_same g l n a (Gathers by own mesh piece came here mine e) = (refl, refl)
station_same g l n a (Completes by own mesh piece note octets came here mine e) = (refl, refl)

-- what is handed on changes neither the counter nor the marks
pub handed_same : (m : Memory) {H : Type 0} (word : Heard → H) (g : Given) (n : Memory) (answer : H) → HandedIn word g m n answer
    → (n.station.counter ≡ m.station.counter) × (n.station.marks ≡ m.station.marks)
handed_same m word g n answer (ByStation l a k) = station_same g m.station l a k

module _ (role : Role) (m : Memory) (h : IsMemorySized m) where
  pub send_ok : (to : ℕ) (datagram : List ℕ) (note now : ℕ) → PlanOk role m (of_station m (calls.send m.station to datagram note now))
  send_ok to datagram note now = station_ok role IsCarried carried_fits (call_given 0 note now) m (call_offers 0 note now) calls.sending_ends _
      (send_is IsCarried (call_given 0 note now) m.station to datagram
      (λ some short. Carries to note (Datagram datagram m.station.next_tag) (some, short, h.station.tag))) h

  pub near_ok : (to cost now : ℕ) → to < 0xFFFE → cost < 2 ^ 16 → PlanOk role m (of_station m (calls.preset_near m.station to cost now))
  near_ok to cost now short low = station_ok role NoWord never (near_given to cost now) m (near_offers to cost now short low) calls.presetting_ends _
      (near_is NoWord (near_given to cost now) m.station to refl) h

  -- a value of the workshop
  pub counter_ok : (value : ℕ) → value < 2 ^ 32 → PlanFits role m (of_station m (calls.preset_counter m.station value))
  unfolding resting
  counter_ok value fits = record {
    leads = station_leads role m m.station (record m.station { counter = counter.counting_at value }) _
        (low_one (Rest role m) (rest_lasts role m) m.station _ _ (omega arith)
        (λ r k. limit_kept m.station r (counter.counting_at value) k fits (omega arith)));
    sized = record {
      station = record {
        reassemblies = h.station.reassemblies;
        waiting = record { bodies = h.station.waiting.bodies; blocks = h.station.waiting.blocks; datagrams = h.station.waiting.datagrams };
        loads = h.station.loads;
        tag = h.station.tag;
      };
      sessions = h.sessions;
      randoms = h.randoms;
    };
    few = omega arith;
    marked = λ first. away_leads first m _ _ (inl (omega arith), tt) refl;
  }

  pub number_ok : (value : ℕ) → 1 ≤ value → value < 2 ^ 16 → PlanFits role m (of_station m (calls.preset_number m.station value))
  unfolding resting
  number_ok value low fits = record {
    leads = station_leads role m m.station (record m.station { own_number = own_number.numbering_at value }) _
        (low_one (Rest role m) (rest_lasts role m) m.station _ _ (omega arith)
        (λ r k. number_kept m.station r (own_number.numbering_at value) k low fits (omega arith)));
    sized = record {
      station = record {
        reassemblies = h.station.reassemblies;
        waiting = record { bodies = h.station.waiting.bodies; blocks = h.station.waiting.blocks; datagrams = h.station.waiting.datagrams };
        loads = h.station.loads;
        tag = h.station.tag;
      };
      sessions = h.sessions;
      randoms = h.randoms;
    };
    few = omega arith;
    marked = λ first. away_leads first m _ _ (inl (omega arith), tt) refl;
  }

  -- a change of routes beside the store
  pub broke_ok : {A : Type 0} (next : ℕ) (answer : A) → PlanOk role m (resting (with_station (calls.broke next m.station) m) answer answer)
  unfolding resting
  broke_ok next answer = record {
    leads = leads_beside (IsKept role) m _
        (λ r k. record { station = ended_kept m.station r (routing.goes_by next) k.station; book = k.book; sessions = k.sessions });
    sized = record {
      station = record {
        reassemblies = h.station.reassemblies;
        waiting = record { bodies = h.station.waiting.bodies; blocks = h.station.waiting.blocks; datagrams = h.station.waiting.datagrams };
        loads = h.station.loads;
        tag = h.station.tag;
      };
      sessions = h.sessions;
      randoms = h.randoms;
    };
    few = omega arith;
    rises = λ fits. record { high = tt; with_own_number = omega arith };
    from = tt;
    marked = λ first. away_leads first m _ [] tt refl;
  }

  -- a grant of the workshop
  abbrev Given1 : Granted → RingWord → Type 0
  Given1 granted w = w ≡ Install granted

  installed : (granted : Granted) → IsReadable granted → (w : RingWord) → Given1 granted w → WordFits w
  installed granted fits w e = subst WordFits (sym e) fits

  pub provision_ok : (granted : Granted) → IsReadable granted → PlanOk role m (meters.provision m granted)
  provision_ok granted fits = station_ok role (Given1 granted) (installed granted fits) (call_given 0 0 0) m (call_offers 0 0 0) calls.ringing_ends _
      (install_is (Given1 granted) (call_given 0 0 0) m.station granted refl) h

  pub random_ok : (value : RandomOctets) → PlanOk role m (give_random m value)
  random_ok value = bookless_ok role NoWord never (call_given 0 0 0) m (call_offers 0 0 0) given_ends Nothing (λ n answer k. absurd k) (λ n answer k. absurd k)
      (λ n answer k. absurd k) _
      (planned_weaker _ (λ n answer k. k) (few_of AnyAnswer m NoWord NoGrant NoPair NoEui (call_given 0 0 0))
      (random_is NoWord NoGrant NoPair NoEui (call_given 0 0 0) m value)) h

  pub handed_kept : {H : Type 0} (word : Heard → H) (g : Given) (n : Memory) (answer : H) → HandedIn word g m n answer → (r : Records) → IsKept role m r
      → IsKept role n r
  handed_kept word g n answer (ByStation l a k) r q = record { station = station_of_handed g l a k r q.station; book = q.book; sessions = q.sessions }
    where
      station_of_handed : (g : Given) (l : StationMemory) (a : Heard) → Handed g m.station l a → (r : Records) → IsStationKept m.station r → IsStationKept l r
      station_of_handed g l a (HandsUp by own mesh octets came here mine) r k = k
      station_of_handed g l a (HandsOn x none) r k = k
      station_of_handed g l a (Gathers by own mesh piece came here mine e) r k = beside_kept m.station _ r k refl refl refl refl refl refl
      station_of_handed g l a (Completes by own mesh piece note octets came here mine e) r k = beside_kept m.station _ r k refl refl refl refl refl refl

  pub handed_within : {H : Type 0} (word : Heard → H) (g : Given) (n : Memory) (answer : H) → HandedIn word g m n answer → IsMemorySized m → IsMemorySized n
  handed_within word g n answer (ByStation l a k) s = record { station = handed_sized g m.station l a k s.station; sessions = s.sessions; randoms = s.randoms }

  -- # A meter

  module _ (ciphers : Ciphers) (fits : KeepsRanges ciphers) (x : meters.Identity) (same : x.ciphers ≡ ciphers) where
    -- where something is heard, it and the pair key are octets
    abbrev pub HeardWell : Given → Type 0
    HeardWell g = (got : Accepted) → g.got ≡ Some got → AreOctets got.payload × AreOctets x.psk.0

    packet_octets : (g : Given) (packet : List ℕ) (got : Accepted) → AreOctets got.payload → (p : IsPacket g m packet) → p.brought.got ≡ got → AreOctets packet
    packet_octets g packet got are p same =
        let b = p.brought in
        let body : AreOctets p.octets = subst AreOctets b.body
        (unread_octets m.station b.got g.cost g.note g.now b.handed (subst (λ (a : Accepted). AreOctets a.payload) (sym same) are) b.on) in
        subst (λ (b : JoinBody). AreOctets (rest_of b)) p.challenge (read_octets p.join p.octets body p.read).rest

    pub meter_words : (g : Given) → HeardWell g → (w : RingWord) → RingCause g x m w → WordFits w
    meter_words g well w (ToCoordinator join said) = omega arith
    meter_words g well w (ByPacket granted taken) =
        let b = taken.came.brought in
        let are = well b.got b.is in
        fits.granted x.psk taken.peer taken.packet granted are.1 (packet_octets g taken.packet b.got are.0 taken.came refl)
        (ap (λ (c : Ciphers). c.third_fault x.psk taken.peer taken.packet) (sym same) ∙ taken.right)
        (ap (λ (c : Ciphers). c.granted x.psk taken.peer taken.packet) (sym same) ∙ taken.is)
    meter_words g well w (ByOrder index came_so) = (read_fits came_so.join came_so.octets came_so.read).index index came_so.body

    pub join_ok : (agent now : ℕ) → PlanOk role m (meters.join x m agent now)
    join_ok agent now = bookless_ok role (RingCause (call_given 0 0 now) x m) (meter_words (call_given 0 0 now) (λ got e. absurd (no_some got e)))
        (call_given 0 0 now) m (call_offers 0 0 now) meters.joining_ends Nothing (λ n answer k. absurd k) (λ n answer k. absurd k) (λ n answer k. absurd k) _
        (planned_weaker _ (λ n answer k. k) (few_of AnyAnswer m (RingCause (call_given 0 0 now) x m) NoGrant NoPair NoEui (call_given 0 0 now))
        (joins_is NoGrant NoPair NoEui (call_given 0 0 now) x m agent)) h

    pub leave_ok : PlanOk role m (meters.leave m)
    leave_ok = bookless_ok role (RingCause (call_given 0 0 0) x m) (meter_words (call_given 0 0 0) (λ got e. absurd (no_some got e))) (call_given 0 0 0) m
        (call_offers 0 0 0) meters.leaving_ends Nothing (λ n answer k. absurd k) (λ n answer k. absurd k) (λ n answer k. absurd k) _
        (planned_weaker _ (λ n answer k. k) (few_of AnyAnswer m (RingCause (call_given 0 0 0) x m) NoGrant NoPair NoEui (call_given 0 0 0))
        (leaves_is NoGrant NoPair NoEui (call_given 0 0 0) x m)) h

    pub meter_hears_ok : (got : Accepted) (cost note now : ℕ) → AreOctets x.psk.0 → RoutesFit got → PlanOk role m (meters.hear_meter x m got cost note now)
    meter_hears_ok got cost note now pair routes = bookless_ok role (RingCause (heard_given got cost note now) x m)
        (meter_words (heard_given got cost note now) (λ a e. (subst (λ (b : Accepted). AreOctets b.payload) (same_Some got a e) routes.payload, pair)))
        (heard_given got cost note now) m (heard_offers got cost note now routes) dropped (HandedIn meter_heard.Station (heard_given got cost note now) m)
        (handed_kept meter_heard.Station (heard_given got cost note now)) (handed_within meter_heard.Station (heard_given got cost note now))
        (handed_same m meter_heard.Station (heard_given got cost note now)) _
        (planned_weaker _ (λ n answer k. k) (few_of HandsNothingUp m (RingCause (heard_given got cost note now) x m) NoGrant NoPair NoEui
        (heard_given got cost note now)) (meter_is NoGrant NoPair NoEui (heard_given got cost note now) x m got refl)) h
