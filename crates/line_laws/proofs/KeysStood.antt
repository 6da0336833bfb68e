-- Every key that an event issues stands in the coordinator's ring before it; once setup is over it goes to a meter that the book allows.
use Rattle.std.proofs.Common.{◌≡◌, ◌≢◌, ◌⊎◌, inl, inr, ℕ, ◌+◌, Bool, true, false, List, ◌++◌, Option, Some, None, Result, Ok, Err, refl, sym, ap, ◌∙◌, subst}
use Rattle.std.specs.Prelude.{if◌then◌else◌, ◌==◌, All, is_some, slice_get}
use Rattle.std.specs.Option.{option_map, option_map_or, option_and_then}
use Rattle.std.proofs.lemmas.Option.{same_Some}
use Rattle.plc_base.specs.declared.address.Eui.{Eui}
use Rattle.plc_base.specs.declared.key.Key.{Key}
use Rattle.plc_base.specs.Grant.{Granted}
use Rattle.group_keys.specs.declared.key_book.BookEntry.{BookEntry}
use Rattle.group_keys.specs.KeyRing as ring
use Rattle.group_keys.specs.KeyBook as books
use Rattle.line_rules.specs.Agreement.{NodeHasKey}
use Rattle.line_rules.specs.Answers.{Reception, coordinator_reception, meter_reception, sent_word}
use Rattle.line_events.specs.Events.{IsEvent}
use Rattle.line_rules.specs.Forgery.{Comes, accepting}
use Rattle.line_rules.specs.Steps.{Step, issued_at, issued_by, issued_of, node_outcome, sent_if, is_taken, tag_of, hearing_step, note_by, identity, takes_setup}
use Rattle.line_rules.specs.Steps.{psk_of}
use Rattle.line_rules.specs.Worlds.{World, Issued, Trace, node_at}
use Rattle.line_events.specs.declared.event.Event.{Event}
use Rattle.line_events.specs.declared.event.Event.TheVariants as events
use Rattle.node_rules.specs.Acceptance.{Accepting, accept, marking}
use Rattle.node_rules.specs.Calls as calls
use Rattle.node_rules.specs.Ciphers.{Ciphers}
use Rattle.node_rules.specs.Coordinators as coordinator_rules
use Rattle.node_rules.specs.Coordinators.{with_book_entry, changed, changes, without_session, grant_for, allowed_entry, depot, depot_by}
use Rattle.node_rules.specs.Drafts.{Draft, empty_draft, choose, sealing, refused}
use Rattle.node_rules.specs.Frames.{arrived}
use Rattle.node_rules.specs.Memory.{Memory, Role, Coordinator, Meter, Node}
use Rattle.node_rules.specs.MemoryDrafts.{in_memory, with_memory_by}
use Rattle.node_rules.specs.Meters as meters
use Rattle.node_rules.specs.NodeSteps.{NodeStep, acts, answering, of_station}
use Rattle.node_rules.specs.Plans.{Plan, resting}
use Rattle.node_rules.specs.Accepted.{Accepted}
use Rattle.node_rules.specs.declared.heard.CoordinatorHeard.{CoordinatorHeard}
use Rattle.node_rules.specs.declared.heard.CoordinatorHeard.TheVariants as coordinator_heard
use Rattle.node_rules.specs.declared.refusal.CoordinatorRefusal.{CoordinatorRefusal}
use Rattle.node_rules.specs.declared.refusal.CoordinatorRefusal.TheVariants as orders
use Rattle.node_rules.specs.declared.refusal.Dropped.{Dropped}
use Rattle.node_rules.specs.declared.refusal.Dropped.TheVariants as drops
use Rattle.node_rules.specs.declared.refusal.FrameRefusal.{FrameRefusal}
use Rattle.node_rules.specs.declared.refusal.FrameRefusal.TheVariants as frames
use Rattle.node_rules.specs.declared.refusal.SendRefusal.TheVariants as sends
use Rattle.line_laws.specs.Owed.{KeepsRanges}
use Rattle.line_laws.specs.IssuedRight.{IsIssuedRight, coordinator_key, is_allowed_in}
use Rattle.line_laws.specs.Stores.{IsKept}
use Rattle.line_laws.proofs.Answered.{acts_answered}
use Rattle.line_laws.proofs.BookGrowth.{psk_meter}
use Rattle.line_laws.proofs.CoordinatorCalls.{accept_ok, accept_failed, depot_failed}
use Rattle.line_laws.proofs.FlightFolds.{came_octets}
use Rattle.line_laws.proofs.IssueCoordinator.{keyed_in}
use Rattle.line_laws.proofs.IssueNodes.{acts_whole}
use Rattle.line_laws.proofs.IssueSteps.{keyed_same, no_keys}
use Rattle.line_laws.proofs.IssueWords.{Each}
use Rattle.line_laws.proofs.KeyedAnswers.{IsGrantedTo, hears_keyed, keyed_granted}
use Rattle.line_laws.proofs.NodeCalls.{heard_given}
use Rattle.line_laws.proofs.Nodes.{NodeOk, acts_ok, node_kept}
use Rattle.line_laws.proofs.Planned.{planned_failed}
use Rattle.line_laws.proofs.ShutBook.{Shut, allowed_other}
use Rattle.line_laws.proofs.ShutSteps.{ShutAt, accepted_shut, over}
use Rattle.line_laws.proofs.StoreMarks.{Accepts, Turned, Plain, Marked, accept_is}
use Rattle.line_laws.proofs.StepKinds.{IsStep, Fails, Makes, Rests, Shows, Acts, BreaksLink, SendsFrom, AllowsMeter, Sets, SetsTwo, Provides, TurnsDown, Hears}
use Rattle.line_laws.proofs.StepKinds.{Loses, Ticks, Restarts, Cuts}
use Rattle.line_laws.proofs.Worlds.{NodeFits, FlightFits, WorldOk, at_place}

-- # Rings

-- a key of a grant
abbrev pub IsOf : Granted → Key → Type 0
IsOf g key = (g.key0 ≡ Some key) ⊎ (g.key1 ≡ Some key)

-- The keys of a grant are those of a ring.
pub record FromRing (r : ring.Ring) (granted : Granted) : Type 0 where
  pub held : Granted
  pub is : r ≡ Some held
  pub key0 : held.key0 ≡ granted.key0
  pub key1 : held.key1 ≡ granted.key1

granted_from : (r : ring.Ring) (o : Option ℕ) (granted : Granted)
    → option_and_then (λ address. option_map (λ (g : Granted). record g { address = address }) r) o ≡ Some granted → FromRing r granted
granted_from r None granted e = absurd (cc)
granted_from None (Some a) granted e = absurd (cc)
granted_from (Some g) (Some a) granted e =
    let same : record g { address = a } ≡ granted = same_Some _ _ e in
    record { held = g; is = refl; key0 = ap (λ (x : Granted). x.key0) same; key1 = ap (λ (x : Granted). x.key1) same }

-- and a key of such a grant is the ring's at the same index
index_same : (r : ring.Ring) (granted : Granted) (index : ℕ) → FromRing r granted → ring.key_in_ring r index ≡ ring.key_in_ring (Some granted) index
index_same r granted index f = ap (λ x. ring.key_in_ring x index) f.is ∙ by_index (index == 0)
  where
    by_index : (b : Bool) → (if b then f.held.key0 else f.held.key1) ≡ (if b then granted.key0 else granted.key1)
    by_index true = f.key0
    by_index false = f.key1

key_stands : (w : World) (c : Node) (m : Memory) (g : Granted) (key : Key) → node_at w 0 ≡ Some c → c.memory ≡ Some m → m.station.ring ≡ Some g → IsOf g key
    → NodeHasKey w 0 key
key_stands w c m g key hc hm hg is = rw (hc, hm, hg) is

-- what holds of each key of a grant holds of each that is issued
placed_each : (P : Issued → Type 0) (eui : Eui) (granted : Granted)
    → ((i : Issued) → i.eui ≡ eui → ring.key_in_ring (Some granted) i.index ≡ Some i.key → P i) → Each P (issued_by eui granted)
placed_each P eui granted f = by_keys granted.key0 granted.key1 (λ k e. f (record { eui = eui; index = 0; key = k }) refl e)
    (λ k e. f (record { eui = eui; index = 1; key = k }) refl e)
  where
    by_keys : (a b : Option Key) → ((k : Key) → a ≡ Some k → P (record { eui = eui; index = 0; key = k }))
        → ((k : Key) → b ≡ Some k → P (record { eui = eui; index = 1; key = k })) → Each P (issued_at eui 0 a ++ issued_at eui 1 b)
    by_keys None None s t = tt
    by_keys None (Some b) s t = (t b refl, tt)
    by_keys (Some a) None s t = (s a refl, tt)
    by_keys (Some a) (Some b) s t = (s a refl, (t b refl, tt))

-- a key at an index is one of the two
of_index : (granted : Granted) (index : ℕ) (key : Key) → ring.key_in_ring (Some granted) index ≡ Some key → IsOf granted key
of_index granted index key = by_index (index == 0)
  where
    by_index : (b : Bool) → (if b then granted.key0 else granted.key1) ≡ Some key → IsOf granted key
    by_index true e = inl e
    by_index false e = inr e

issued_each : (P : Issued → Type 0) (eui : Eui) (granted : Granted) → ((i : Issued) → i.eui ≡ eui → IsOf granted i.key → P i) → Each P (issued_by eui granted)
issued_each P eui granted f = placed_each P eui granted (λ i e h. f i e (of_index granted i.index i.key h))

from_ring : (r : ring.Ring) (granted : Granted) (key : Key) (f : FromRing r granted) → IsOf granted key → IsOf f.held key
from_ring r granted key f (inl e) = inl (f.key0 ∙ e)
from_ring r granted key f (inr e) = inr (f.key1 ∙ e)

-- # The grant of the workshop

module _ (m : Memory) (eui : Eui) (psk : Key) (g : Granted) where
  refused_not : (reason : CoordinatorRefusal) → (refused {H = Granted} coordinator_rules.orders m reason).answer ≡ Ok g → ⊥
  unfolding resting
  refused_not reason e = not_ok reason g e
    where
      not_ok : (s : CoordinatorRefusal) (a : Granted) → Err s ≡ Ok a → ⊥
      not_ok s a e = cc

  changed_ring : (e : BookEntry) → (changed m e).memory.station.ring ≡ m.station.ring
  unfolding empty_draft with_memory_by with_book_entry
  changed_ring e = by_change (changes m e)
    where
      by_change : (b : Bool) → (if b then with_memory_by (without_session e.eui) (with_book_entry e (empty_draft m)) else empty_draft m).memory.station.ring
          ≡ m.station.ring
      by_change true = refl
      by_change false = refl

  by_doing : (d : Draft Memory) → d.memory.station.ring ≡ m.station.ring → (depot_by m eui psk d).answer ≡ Ok g → FromRing m.station.ring g
  by_doing d same = by_grant (grant_for d.memory eui) refl
    where
      by_entry : (granted : Granted) (o : Option BookEntry) → grant_for d.memory eui ≡ Some granted
          → (option_map_or (λ e. sealing in_memory coordinator_rules.orders (with_book_entry (books.issued_entry eui granted e) d) granted) o
          (refused coordinator_rules.orders m orders.MetersFull)).answer ≡ Ok g → FromRing m.station.ring g
      by_entry granted None is e = absurd (refused_not _ e)
      by_entry granted (Some x) is e =
          let this : granted ≡ g = cc in
          subst (FromRing m.station.ring) this
          (subst (λ r. FromRing r granted) same (granted_from d.memory.station.ring (books.address_of d.memory.book eui) granted is))

      by_grant : (o : Option Granted) → grant_for d.memory eui ≡ o
          → (option_map_or (λ granted. option_map_or (λ e. sealing in_memory coordinator_rules.orders (with_book_entry (books.issued_entry eui granted e) d)
          granted) (books.allowed_one d.memory.book eui) (refused coordinator_rules.orders m orders.MetersFull)) o
          (refused coordinator_rules.orders m orders.MetersFull)).answer ≡ Ok g → FromRing m.station.ring g
      by_grant None is e = absurd (refused_not _ e)
      by_grant (Some granted) is e = by_entry granted (books.allowed_one d.memory.book eui) is e

  depot_ring : (depot m eui psk).answer ≡ Ok g → FromRing m.station.ring g
  unfolding choose
  depot_ring = by_room (books.has_room m.book eui)
    where
      by_room : (b : Bool) → (if b then depot_by m eui psk (changed m (books.allowed_entry eui psk (books.entry_for m.book eui)))
          else refused coordinator_rules.orders m orders.MetersFull).answer ≡ Ok g → FromRing m.station.ring g
      by_room true e = by_doing (changed m (books.allowed_entry eui psk (books.entry_for m.book eui)))
          (changed_ring (books.allowed_entry eui psk (books.entry_for m.book eui))) e
      by_room false e = absurd (refused_not _ e)

-- # Accepting leaves the ring

accepting_ring : (ciphers : Ciphers) (octets : List ℕ) (m : Memory) (p : Accepting) → Accepts m.station (arrived ciphers octets) p
    → (of_station m p).memory.station.ring ≡ m.station.ring
unfolding resting marking
accepting_ring ciphers octets m p (Turned reason) = refl
accepting_ring ciphers octets m p (Plain got plain) = refl
accepting_ring ciphers octets m p (Marked from counter got a) = refl

accepting_book : (ciphers : Ciphers) (octets : List ℕ) (m : Memory) (p : Accepting) → Accepts m.station (arrived ciphers octets) p
    → (of_station m p).memory.book ≡ m.book
unfolding resting marking
accepting_book ciphers octets m p (Turned reason) = refl
accepting_book ciphers octets m p (Plain got plain) = refl
accepting_book ciphers octets m p (Marked from counter got a) = refl

-- # What a frame issues

module _ (ciphers : Ciphers) (y : Node) (got : Accepted) (cost note now : ℕ) (P : Issued → Type 0)
    (each : y.role ≡ Coordinator → (m : Memory) → y.memory ≡ Some m → (eui : Eui) (granted : Granted) → IsGrantedTo m eui granted
    → Each P (issued_by eui granted)) where
  abbrev plan : Memory → Plan Memory (Result CoordinatorHeard Dropped)
  plan m = coordinator_rules.hear_coordinator (record { eui = y.eui; ciphers = ciphers }) m got cost note now

  coordinator_issues : y.role ≡ Coordinator → (r : Result CoordinatorHeard Dropped) → (acts y (Err drops.Store) plan).answer ≡ r
      → Each P (issued_of (coordinator_reception r).keyed)
  coordinator_issues role (Err reason) e = tt
  coordinator_issues role (Ok a) e = subst (λ o. Each P (issued_of o)) (sym (keyed_same a).0) (by_word a e)
    where
      by_word : (a : CoordinatorHeard) → (acts y (Err drops.Store) plan).answer ≡ Ok a → Each P (issued_of (keyed_in a))
      by_word (coordinator_heard.Keyed eui granted) e =
          let a = acts_answered y drops.Store drops.Store plan (λ m. planned_failed (plan m)
          (hears_keyed (record { eui = y.eui; ciphers = ciphers }) m (heard_given got cost note now) got refl)) (coordinator_heard.Keyed eui granted) e in
          each role a.memory a.there eui granted
          (keyed_granted (record { eui = y.eui; ciphers = ciphers }) a.memory (heard_given got cost note now) got eui granted refl a.is)
      by_word _ e = tt

  heard_issues : Each P (issued_of (hearing_step ciphers y got cost note now).answer.keyed)
  heard_issues = by_role y.role refl
    where
      hears_as : Role → NodeStep Reception
      hears_as Coordinator = answering coordinator_reception
          (acts y (Err drops.Store) (λ m. coordinator_rules.hear_coordinator (record { eui = y.eui; ciphers = ciphers }) m got cost note now))
      hears_as (Meter psk) = answering meter_reception (acts y (Err drops.Store) (λ m. meters.hear_meter (identity ciphers y psk) m got cost note now))

      by_role : (role : Role) → y.role ≡ role → Each P (issued_of (hears_as role).answer.keyed)
      by_role Coordinator e = coordinator_issues e (acts y (Err drops.Store) plan).answer refl
      by_role (Meter psk) e = subst (λ o. Each P (issued_of o))
          (sym (no_keys (acts y (Err drops.Store) (λ m. meters.hear_meter (identity ciphers y psk) m got cost note now)).answer)) tt

-- # Events

module _ (ciphers : Ciphers) (fits : KeepsRanges ciphers) (w : World) (ok : WorldOk w) (flown : All FlightFits w.flights)
    (first : (n : ℕ) (x : Node) → node_at w n ≡ Some x → x.role ≡ Coordinator → n ≡ 0) where
  abbrev pub IssuedBy : (Issued → Type 0) → Step → Type 0
  IssuedBy P (Ok r) = Each P r.1.issued
  IssuedBy P (Err fault) = Unit {0}

  -- each event, by what holds of a frame and of the workshop
  issues : (P : Event → Issued → Type 0)
      → ((event : Event) (number : ℕ) (x : Node) (octets : List ℕ) (got : Accepted) → node_at w number ≡ Some x → IsEvent event → Comes w event number octets
      → (accepting ciphers x octets).answer ≡ Ok got
      → (accepting ciphers x octets).node.role ≡ Coordinator → (m : Memory) → (accepting ciphers x octets).node.memory ≡ Some m
      → (eui : Eui) (granted : Granted) → IsGrantedTo m eui granted → Each (P event) (issued_by eui granted))
      → ((x c : Node) (number : ℕ) (psk : Key) (g : Granted) → takes_setup w ≡ true → node_at w number ≡ Some x → node_at w 0 ≡ Some c → psk_of x ≡ Some psk
      → (acts c (Err orders.Halted) (λ m. depot m x.eui psk)).answer ≡ Ok g → Each (P (events.Depot number)) (issued_by x.eui g))
      → (event : Event) (s : Step) → IsStep ciphers w event s → IssuedBy (P event) s
  issues P frame workshop event s (Fails e fault) = tt
  issues P frame workshop event s (Makes e x is) = tt
  issues P frame workshop event s (Rests e quiet) = tt
  issues P frame workshop event s (Shows number x) = tt
  issues P frame workshop event s (Acts e number x A halted plan reads there call word asked) = tt
  issues P frame workshop event s (BreaksLink number next x a there call) = tt
  issues P frame workshop event s (SendsFrom from to datagram x a there call target) =
      let d = answering sent_word (acts x (Err sends.Halted) (λ m. of_station m (calls.send m.station a datagram (w.sends + 1) w.clock))) in
      sent_by from to datagram (tag_of x) (is_taken d.answer) (node_outcome ciphers w from d) tt
    where
      sent_by : (from to : ℕ) (datagram : List ℕ) (tag : ℕ) (b : Bool) (r : World × Trace) → Each (P (events.Send from to datagram)) r.1.issued
          → Each (P (events.Send from to datagram)) (sent_if w from to datagram tag b r).1.issued
      sent_by from to datagram tag true r h = h
      sent_by from to datagram tag false r h = h
  issues P frame workshop event s (AllowsMeter number y c psk there call meter) = tt
  issues P frame workshop event s (Sets e quiet number x plan there open_is is) = tt
  issues P frame workshop event s (SetsTwo e quiet a b cost x y p q hx hy apart open_is first second fresh near) = tt
  issues P frame workshop event s (Provides number x c psk g d ne open_is hx hc pair same is) =
      workshop x c number psk g open_is hx hc pair (ap (λ (z : NodeStep (Result Granted CoordinatorRefusal)). z.answer) (sym same) ∙ is)
  issues P frame workshop event s (TurnsDown e number x octets reason d there says comes same is) = tt
  issues P frame workshop event s (Hears e number x octets cost got there says comes low is) =
      heard_issues ciphers (accepting ciphers x octets).node got cost (note_by w octets got.path) w.clock (P e)
      (λ role m here eui granted grant. frame e number x octets got there says comes is role m here eui granted grant)
  issues P frame workshop event s (Loses number f there) = tt
  issues P frame workshop event s (Ticks seconds) = tt
  issues P frame workshop event s (Restarts number x there) = tt
  issues P frame workshop event s (Cuts number nth keeps_new x there) = tt

  accepted_role : (event : Event) (number : ℕ) (x : Node) (octets : List ℕ) → node_at w number ≡ Some x → IsEvent event → Comes w event number octets
      → (accepting ciphers x octets).node.role ≡ x.role
  accepted_role event number x octets there says comes =
      let are = came_octets ciphers fits w ok flown event number octets says comes in
      (acts_ok x (Err frames.Halted) (λ m. of_station m (accept m.station x.eui (arrived ciphers octets))) (at_place NodeOk w.nodes number x there ok.nodes)
      (λ m here kept sized. accept_ok ciphers fits octets are x.role m x.eui sized)).role

  -- the keys of every event stand in the coordinator's ring before it
  abbrev pub StoodIn : Issued → Type 0
  StoodIn i = NodeHasKey w 0 i.key

  frame_stood : (event : Event) (number : ℕ) (x : Node) (octets : List ℕ) (got : Accepted) → node_at w number ≡ Some x → IsEvent event
      → Comes w event number octets → (accepting ciphers x octets).answer ≡ Ok got
      → (accepting ciphers x octets).node.role ≡ Coordinator → (m : Memory) → (accepting ciphers x octets).node.memory ≡ Some m
      → (eui : Eui) (granted : Granted) → IsGrantedTo m eui granted → Each StoodIn (issued_by eui granted)
  frame_stood event number x octets got there says comes is role m here eui granted grant =
      let are = came_octets ciphers fits w ok flown event number octets says comes in
      let plan : Memory → Plan Memory (Result Accepted FrameRefusal) = λ m. of_station m (accept m.station x.eui (arrived ciphers octets)) in
      let a = acts_whole x frames.Halted frames.Store plan
      (λ m. accept_failed ciphers fits octets are m.station _ (accept_is m.station x.eui (arrived ciphers octets))) got is in
      let zero_is : number ≡ 0 = first number x there (sym (accepted_role event number x octets there says comes) ∙ role) in
      let same : (plan a.memory).memory ≡ m = same_Some _ _ (sym a.leaves ∙ here) in
      let rings : m.station.ring ≡ a.memory.station.ring = ap (λ (n : Memory). n.station.ring) (sym same)
      ∙ accepting_ring ciphers octets a.memory _ (accept_is a.memory.station x.eui (arrived ciphers octets)) in
      let f = granted_from m.station.ring (books.address_of m.book eui) granted grant.grant in
      issued_each StoodIn eui granted (λ i e of. key_stands w x a.memory f.held i.key (ap (slice_get w.nodes) (sym zero_is) ∙ there) a.there (sym rings ∙ f.is)
      (from_ring m.station.ring granted i.key f of))

  workshop_stood : (x c : Node) (number : ℕ) (psk : Key) (g : Granted) → takes_setup w ≡ true → node_at w number ≡ Some x → node_at w 0 ≡ Some c
      → psk_of x ≡ Some psk → (acts c (Err orders.Halted) (λ m. depot m x.eui psk)).answer ≡ Ok g → Each StoodIn (issued_by x.eui g)
  workshop_stood x c number psk g open_is hx hc pair is =
      let fit = at_place NodeFits w.nodes number x hx ok.fits in
      let a = acts_answered c orders.Halted orders.Store (λ m. depot m x.eui psk)
      (λ m. depot_failed ciphers fits (record { eui = c.eui; ciphers = ciphers }) m x.eui psk fit.eui (fit.psk psk (psk_meter x psk pair))) g is in
      let f = depot_ring a.memory x.eui psk g a.is in
      issued_each StoodIn x.eui g (λ i e of. key_stands w c a.memory f.held i.key hc a.there f.is (from_ring a.memory.station.ring g i.key f of))

  pub keys_stood : (event : Event) (s : Step) → IsStep ciphers w event s → IssuedBy StoodIn s
  keys_stood event s is = issues (λ e. StoodIn) frame_stood workshop_stood event s is

  -- so does each at its index, and it goes to a meter that the book allows, or that the workshop joins
  abbrev pub IssuedIn : Event → Issued → Type 0
  IssuedIn event i = IsIssuedRight w event i

  coordinator_holds : (c : Node) (m : Memory) (index : ℕ) (key : Key) → node_at w 0 ≡ Some c → c.memory ≡ Some m
      → ring.key_in_ring m.station.ring index ≡ Some key → coordinator_key w index ≡ Some key
  coordinator_holds c m index key hc hm is = rw (hc, hm) is

  book_allows : (c : Node) (m : Memory) (eui : Eui) → node_at w 0 ≡ Some c → c.memory ≡ Some m → is_some (allowed_entry m eui) ≡ true
      → is_allowed_in w eui ≡ true
  book_allows c m eui hc hm is = rw (hc, hm) (by_entry (books.entry_for m.book eui) is)
    where
      by_allowed : (e : BookEntry) (b : Bool) → is_some (if b then Some e else None) ≡ true → b ≡ true
      by_allowed e true h = refl
      by_allowed e false h = absurd (cc)

      by_entry : (o : Option BookEntry) → is_some (option_map_or (λ (e : BookEntry). if e.allowed then Some e else None) o None) ≡ true
          → option_map_or (λ (e : BookEntry). e.allowed) o false ≡ true
      by_entry None h = absurd (cc)
      by_entry (Some e) h = by_allowed e e.allowed h

  frame_right : (event : Event) (number : ℕ) (x : Node) (octets : List ℕ) (got : Accepted) → node_at w number ≡ Some x → IsEvent event
      → Comes w event number octets → (accepting ciphers x octets).answer ≡ Ok got
      → (accepting ciphers x octets).node.role ≡ Coordinator → (m : Memory) → (accepting ciphers x octets).node.memory ≡ Some m
      → (eui : Eui) (granted : Granted) → IsGrantedTo m eui granted → Each (IssuedIn event) (issued_by eui granted)
  frame_right event number x octets got there says comes is role m here eui granted grant =
      let are = came_octets ciphers fits w ok flown event number octets says comes in
      let plan : Memory → Plan Memory (Result Accepted FrameRefusal) = λ m. of_station m (accept m.station x.eui (arrived ciphers octets)) in
      let a = acts_whole x frames.Halted frames.Store plan
      (λ m. accept_failed ciphers fits octets are m.station _ (accept_is m.station x.eui (arrived ciphers octets))) got is in
      let zero_is : number ≡ 0 = first number x there (sym (accepted_role event number x octets there says comes) ∙ role) in
      let at : node_at w 0 ≡ Some x = ap (slice_get w.nodes) (sym zero_is) ∙ there in
      let same : (plan a.memory).memory ≡ m = same_Some _ _ (sym a.leaves ∙ here) in
      let rings : m.station.ring ≡ a.memory.station.ring = ap (λ (n : Memory). n.station.ring) (sym same)
      ∙ accepting_ring ciphers octets a.memory _ (accept_is a.memory.station x.eui (arrived ciphers octets)) in
      let book_is : m.book ≡ a.memory.book = ap (λ (n : Memory). n.book) (sym same)
      ∙ accepting_book ciphers octets a.memory _ (accept_is a.memory.station x.eui (arrived ciphers octets)) in
      let f = granted_from m.station.ring (books.address_of m.book eui) granted grant.grant in
      placed_each (IssuedIn event) eui granted (λ i e of. record {
        held = coordinator_holds x a.memory i.index i.key at a.there
            (ap (λ r. ring.key_in_ring r i.index) (sym rings) ∙ index_same m.station.ring granted i.index f ∙ of);
        allowed = inl (book_allows x a.memory i.eui at a.there (subst (λ (u : Eui). is_some (books.allowed_one a.memory.book u) ≡ true) (sym e)
            (subst (λ b. is_some (books.allowed_one b eui) ≡ true) book_is grant.allowed)));
      })

  workshop_right : (x c : Node) (number : ℕ) (psk : Key) (g : Granted) → takes_setup w ≡ true → node_at w number ≡ Some x → node_at w 0 ≡ Some c
      → psk_of x ≡ Some psk → (acts c (Err orders.Halted) (λ m. depot m x.eui psk)).answer ≡ Ok g
      → Each (IssuedIn (events.Depot number)) (issued_by x.eui g)
  workshop_right x c number psk g open_is hx hc pair is =
      let fit = at_place NodeFits w.nodes number x hx ok.fits in
      let a = acts_answered c orders.Halted orders.Store (λ m. depot m x.eui psk)
      (λ m. depot_failed ciphers fits (record { eui = c.eui; ciphers = ciphers }) m x.eui psk fit.eui (fit.psk psk (psk_meter x psk pair))) g is in
      let f = depot_ring a.memory x.eui psk g a.is in
      placed_each (IssuedIn (events.Depot number)) x.eui g (λ i e of. record {
        held = coordinator_holds c a.memory i.index i.key hc a.there (index_same a.memory.station.ring g i.index f ∙ of);
        allowed = inr (record { number = number; depot = refl; node = x; there = hx; is = e });
      })

  pub keys_right : (event : Event) (s : Step) → IsStep ciphers w event s → IssuedBy (IssuedIn event) s
  keys_right event s is = issues IssuedIn frame_right workshop_right event s is

  -- nothing is issued to a meter that is shut out, once setup is over
  module _ (eui : Eui) (shut : ShutAt eui w) (running : w.running ≡ true) where
    abbrev pub ToOther : Issued → Type 0
    ToOther i = books.eui_number i.eui ≢ books.eui_number eui

    frame_other : (event : Event) (number : ℕ) (x : Node) (octets : List ℕ) (got : Accepted) → node_at w number ≡ Some x → IsEvent event
        → Comes w event number octets → (accepting ciphers x octets).answer ≡ Ok got
        → (accepting ciphers x octets).node.role ≡ Coordinator → (m : Memory) → (accepting ciphers x octets).node.memory ≡ Some m
        → (u : Eui) (granted : Granted) → IsGrantedTo m u granted → Each ToOther (issued_by u granted)
    frame_other event number x octets got there says comes is role m here u granted grant =
        let are = came_octets ciphers fits w ok flown event number octets says comes in
        let y = (accepting ciphers x octets).node in
        let good = (acts_ok x (Err frames.Halted) (λ m. of_station m (accept m.station x.eui (arrived ciphers octets)))
        (at_place NodeOk w.nodes number x there ok.nodes) (λ m here kept sized. accept_ok ciphers fits octets are x.role m x.eui sized)).node in
        let zero_is : number ≡ 0 = first number x there (sym (accepted_role event number x octets there says comes) ∙ role) in
        let kept : IsKept Coordinator m y.store.records = subst (λ r. IsKept r m y.store.records) role (node_kept y m good here) in
        let before : Shut eui m.book = accepted_shut eui ciphers fits w ok flown shut event number x octets there says comes zero_is m.book kept.book in
        issued_each ToOther u granted (λ i e of same. allowed_not (allowed_entry m u) refl grant.allowed before (ap books.eui_number (sym e) ∙ same))
      where
        allowed_not : (o : Option BookEntry) → allowed_entry m u ≡ o → is_some o ≡ true → Shut eui m.book → books.eui_number u ≡ books.eui_number eui → ⊥
        allowed_not None e h before same = cc (h)
        allowed_not (Some x) e h before same = allowed_other eui m.book u x before e same

    pub keys_other : (event : Event) (s : Step) → IsStep ciphers w event s → IssuedBy ToOther s
    keys_other event s is =
        issues (λ e. ToOther) frame_other (λ x c number psk g open_is hx hc pair e. absurd (over eui ciphers fits w ok flown shut running open_is)) event s is
