-- Calls that make no pair tag and find none right: all but the hearing of a frame.
use Rattle.std.proofs.Common.{◌≡◌, ⊎_elim, ℕ, Bool, true, false, List, [], ◌∷◌, ◌++◌, length, Option, Some, None, Result, refl, ◌∙◌}
use Rattle.std.specs.Prelude.{⊤, if◌then◌else◌, is_some, ◌==◌, ◌&&◌, nat_lt}
use Rattle.std.specs.Option.{option_map_or}
use Rattle.plc_base.specs.declared.address.Eui.{Eui}
use Rattle.plc_base.specs.declared.key.Key.{Key}
use Rattle.plc_base.specs.declared.key.RandomOctets.{RandomOctets}
use Rattle.plc_base.specs.Grant.{Granted}
use Rattle.group_keys.specs.declared.key_book.BookEntry.{BookEntry}
use Rattle.group_keys.specs.KeyBook as book
use Rattle.group_keys.specs.KeyRing as ring
use Rattle.joining_messages.specs.declared.message.JoinMessage.{JoinMessage}
use Rattle.joining_messages.specs.declared.message.JoinBody.TheVariants as body
use Rattle.node_rules.specs.declared.refusal.CoordinatorRefusal.{CoordinatorRefusal}
use Rattle.node_rules.specs.declared.refusal.CoordinatorRefusal.TheVariants as refusal
use Rattle.node_rules.specs.declared.refusal.RandomFault.{RandomFault}
use Rattle.node_rules.specs.declared.refusal.RandomFault.TheVariants.{RandomsFull}
use Rattle.node_rules.specs.Frames.{Arrived}
use Rattle.node_rules.specs.Memory.{StationMemory, Memory, Node, next_hop}
use Rattle.node_rules.specs.Plans.{Plan, carry_out, resting}
use Rattle.node_rules.specs.Acceptance.{Accepting, accept, marking}
use Rattle.node_rules.specs.Calls as calls
use Rattle.node_rules.specs.Drafts.{Draft, Ends, alone, empty_draft, checked, choose, sealed, sealing, refused, counters_left, with_ring}
use Rattle.node_rules.specs.JoiningPackets.{message, server_for}
use Rattle.node_rules.specs.MemoryDrafts.{in_memory, on_station, with_memory_by, is_commanded, oldest, give_random, given_ends}
use Rattle.node_rules.specs.Coordinators as coordinators
use Rattle.node_rules.specs.Meters.{provision}
use Rattle.node_rules.specs.NodeSteps.{NodeStep, acts, stays, left_by, of_station}
use Rattle.node_rules.specs.Laws.{IsWhole, IsCutOff}
use Rattle.node_rules.proofs.FailedWrites.{clean}
use Rattle.line_laws.proofs.Planned.{Planned, Refuses, Keeps, Ended}
use Rattle.line_laws.proofs.Made.{RingWord, Given, Made}
use Rattle.line_laws.proofs.CallForms.{Few, Nothing, send_is, near_is}
use Rattle.line_laws.proofs.NodeCalls.{call_given, near_given}
use Rattle.line_laws.proofs.StoreMarks.{Accepts, Turned, Plain, Marked, accept_is}
use Rattle.line_laws.proofs.IssueWords.{commanded_leaves, made_tags}

-- no tag was made or found right
abbrev pub Bare : {M : Type 0} → Draft M → Type 0
Bare d = (d.made ≡ []) × (d.opened ≡ [])

abbrev pub Untagged : {M A : Type 0} → Plan M A → Type 0
Untagged p = (p.made ≡ []) × (p.opened ≡ [])

-- # Orders

commanded_bare : (to : ℕ) (join : JoinMessage) (now : ℕ) (d : Draft Memory) → Bare d → Bare (is_commanded to join now d)
commanded_bare to join now d e = let l = commanded_leaves (λ r. ⊤) to join now d in (l.made ∙ e.0, l.opened ∙ e.1)

sealed_untagged : {H F : Type 0} (ends : Ends F) (m : Memory) (d : Draft Memory) (answer : H) → Bare d → Untagged (sealed in_memory ends m d answer)
unfolding sealed resting
sealed_untagged ends m d answer e = by_test (nat_lt (counters_left m.station) (length d.units))
  where
    by_test : (b : Bool) → Untagged (if b then refused ends m ends.spent else sealing in_memory ends d answer)
    by_test true = (refl, refl)
    by_test false = e

refused_untagged : {F : Type 0} (H : Type 0) (ends : Ends F) (m : Memory) (reason : F) → Untagged (refused {H = H} ends m reason)
unfolding resting
refused_untagged H ends m reason = (refl, refl)

choose_untagged : {A : Type 0} (b : Bool) (p q : Plan Memory A) → Untagged p → Untagged q → Untagged (choose b p q)
unfolding choose
choose_untagged true p q e f = e
choose_untagged false p q e f = f

checked_untagged : {H F : Type 0} (ends : Ends F) (m : Memory) (fault : Option F) (p : Plan Memory (Result H F)) → Untagged p
    → Untagged (checked ends m fault p)
unfolding checked resting
checked_untagged ends m None p e = e
checked_untagged ends m (Some reason) p e = (refl, refl)

option_untagged : {A X : Type 0} (f : X → Plan Memory A) (o : Option X) (q : Plan Memory A) → ((x : X) → Untagged (f x)) → Untagged q
    → Untagged (option_map_or f o q)
option_untagged f None q e g = g
option_untagged f (Some x) q e g = e x

begun_bare : (m : Memory) → Bare (empty_draft m)
unfolding empty_draft
begun_bare m = (refl, refl)

changed_bare : (m : Memory) (e : BookEntry) → Bare (coordinators.changed m e)
unfolding empty_draft coordinators.with_book_entry with_memory_by
changed_bare m e = by_change (coordinators.changes m e)
  where
    by_change : (b : Bool) → Bare (if b then with_memory_by (coordinators.without_session e.eui) (coordinators.with_book_entry e (empty_draft m))
        else empty_draft m)
    by_change true = (refl, refl)
    by_change false = (refl, refl)

entered_bare : (e : BookEntry) (d : Draft Memory) → Bare d → Bare (coordinators.with_book_entry e d)
unfolding coordinators.with_book_entry
entered_bare e d h = h

remembered_bare : (change : Memory → Memory) (d : Draft Memory) → Bare d → Bare (with_memory_by change d)
unfolding with_memory_by
remembered_bare change d h = h

rung_bare : (m : Memory) (r : ring.Ring) → Bare (on_station (with_ring r) (empty_draft m))
unfolding empty_draft on_station with_ring
rung_bare m r = (refl, refl)

module _ (m : Memory) where
  refused_order : (H : Type 0) (reason : CoordinatorRefusal) → Untagged (refused {H = H} coordinators.orders m reason)
  refused_order H reason = refused_untagged H coordinators.orders m reason

  pub allow_untagged : (eui : Eui) (psk : Key) → Untagged (coordinators.allow m eui psk)
  allow_untagged eui psk = choose_untagged (book.has_room m.book eui) _ _ (changed_bare m (book.allowed_entry eui psk (book.entry_for m.book eui)))
      (refused_order _ refusal.MetersFull)

  pub depot_untagged : (eui : Eui) (psk : Key) → Untagged (coordinators.depot m eui psk)
  depot_untagged eui psk =
      let d = coordinators.changed m (book.allowed_entry eui psk (book.entry_for m.book eui)) in
      choose_untagged (book.has_room m.book eui) _ _
      (option_untagged (λ granted. option_map_or (λ e. sealing in_memory coordinators.orders (coordinators.with_book_entry (book.issued_entry eui granted e) d)
      granted) (book.allowed_one d.memory.book eui) (refused coordinators.orders m refusal.MetersFull))
      (coordinators.grant_for d.memory eui) (refused coordinators.orders m refusal.MetersFull)
      (λ granted. option_untagged (λ e. sealing in_memory coordinators.orders (coordinators.with_book_entry (book.issued_entry eui granted e) d) granted)
      (book.allowed_one d.memory.book eui) (refused coordinators.orders m refusal.MetersFull)
      (λ e. entered_bare (book.issued_entry eui granted e) d (changed_bare m (book.allowed_entry eui psk (book.entry_for m.book eui))))
      (refused_order _ refusal.MetersFull))
      (refused_order _ refusal.MetersFull)) (refused_order _ refusal.MetersFull)

  pub rekey_untagged : (index : ℕ) (key : Key) → Untagged (coordinators.rekey m index key)
  rekey_untagged index key = choose_untagged (option_map_or (λ (g : Granted). g.active == index) m.station.ring false) _ _ (refused_order _ refusal.IndexActive)
      (rung_bare m (ring.with_key m.station.ring index key))

  pub activate_self_untagged : (index : ℕ) → Untagged (coordinators.activate_self m index)
  activate_self_untagged index = choose_untagged (is_some (ring.key_in_ring m.station.ring index)) _ _ (rung_bare m (ring.with_active m.station.ring index))
      (refused_order _ refusal.NotHeld)

  pub challenge_untagged : (own eui : Eui) (now : ℕ) → Untagged (coordinators.challenge own m eui now)
  challenge_untagged own eui now = option_untagged (coordinators.challenge_at own m eui now) (coordinators.allowed_address m eui) _
      (λ to. checked_untagged coordinators.orders m _ _
      (option_untagged (λ value. coordinators.challenge_by own m to now (server_for eui own value)) (oldest m) _
      (λ value. checked_untagged coordinators.orders m _ _ (sealed_untagged coordinators.orders m _ _
      (commanded_bare to _ now _ (remembered_bare _ (empty_draft m) (begun_bare m))))) (refused_order _ refusal.NoRandom))) (refused_order _ refusal.NotAllowed)

  pub activate_untagged : (eui : Eui) (index now : ℕ) → Untagged (coordinators.activate m eui index now)
  activate_untagged eui index now = option_untagged (λ e. option_map_or (coordinators.activate_by m e index now) (book.address_of m.book eui)
      (refused coordinators.orders m refusal.NotAllowed)) (coordinators.allowed_entry m eui) _
      (λ e. option_untagged (coordinators.activate_by m e index now) (book.address_of m.book eui) _
      (λ to. choose_untagged (coordinators.was_issued m e index) _ _
      (checked_untagged coordinators.orders m _ _ (sealed_untagged coordinators.orders m _ _ (commanded_bare to _ now _ (begun_bare m))))
      (refused_order _ refusal.NotIssued)) (refused_order _ refusal.NotAllowed)) (refused_order _ refusal.NotAllowed)

  pub kick_untagged : (eui : Eui) → Untagged (coordinators.kick m eui)
  kick_untagged eui = option_untagged (λ e. option_map_or (coordinators.kick_by m e) (book.address_of m.book eui)
      (refused coordinators.orders m refusal.NotAllowed)) (coordinators.allowed_entry m eui) _
      (λ e. option_untagged (coordinators.kick_by m e) (book.address_of m.book eui) _
      (λ to. by_route e to (is_some (next_hop m.station to) && nat_lt 0 (counters_left m.station))) (refused_order _ refusal.NotAllowed))
      (refused_order _ refusal.NotAllowed)
    where
      kicked : BookEntry → Draft Memory
      kicked e = with_memory_by (coordinators.without_session e.eui) (coordinators.with_book_entry (book.kicked_entry e.eui e) (empty_draft m))

      kicked_bare : (e : BookEntry) → Bare (kicked e)
      kicked_bare e = remembered_bare (coordinators.without_session e.eui) _ (entered_bare (book.kicked_entry e.eui e) (empty_draft m) (begun_bare m))

      by_route : (e : BookEntry) (to : ℕ) (b : Bool) → Bare (if b then is_commanded to (message e.eui body.Kick) 0 (kicked e) else kicked e)
      by_route e to true = commanded_bare to (message e.eui body.Kick) 0 (kicked e) (kicked_bare e)
      by_route e to false = kicked_bare e

-- # The other calls

abbrev AnyWord : RingWord → Type 0
AnyWord w = ⊤

-- a plan of words of a station
made_untagged : (g : Given) (m : Memory) {H F : Type 0} {ends : Ends F} (p : Plan StationMemory (Result H F))
    → Planned alone ends m.station Nothing (λ d (a : H). Made AnyWord g (empty_draft m.station) d × Few m.station d) p → Untagged (of_station m p)
unfolding resting empty_draft
made_untagged g m p (Refuses reason) = (refl, refl)
made_untagged g m p (Keeps n answer k) = absurd k
made_untagged g m p (Ended d answer done left) = made_tags AnyWord g (empty_draft m.station) d done.0

pub send_untagged : (m : Memory) (to : ℕ) (datagram : List ℕ) (note now : ℕ) → Untagged (of_station m (calls.send m.station to datagram note now))
send_untagged m to datagram note now =
    made_untagged (call_given 0 note now) m _ (send_is AnyWord (call_given 0 note now) m.station to datagram (λ some short. tt))

pub near_untagged : (m : Memory) (to cost now : ℕ) → Untagged (of_station m (calls.preset_near m.station to cost now))
near_untagged m to cost now = made_untagged (near_given to cost now) m _ (near_is AnyWord (near_given to cost now) m.station to refl)

pub counter_untagged : (m : Memory) (value : ℕ) → Untagged (of_station m (calls.preset_counter m.station value))
unfolding resting
counter_untagged m value = (refl, refl)

pub number_untagged : (m : Memory) (value : ℕ) → Untagged (of_station m (calls.preset_number m.station value))
unfolding resting
number_untagged m value = (refl, refl)

pub rested_untagged : {A : Type 0} (m : Memory) (answer failed : A) → Untagged (resting m answer failed)
unfolding resting
rested_untagged m answer failed = (refl, refl)

pub random_untagged : (m : Memory) (value : RandomOctets) → Untagged (give_random m value)
unfolding choose empty_draft resting with_memory_by
random_untagged m value = by_room (nat_lt 7 (length m.randoms))
  where
    by_room : (b : Bool) → let p : Plan Memory (Result (Unit {0}) RandomFault) =
        (if b then refused given_ends m RandomsFull
        else sealing in_memory given_ends (with_memory_by (λ n. record n { randoms = n.randoms ++ value ∷ [] }) (empty_draft m)) tt) in Untagged p
    by_room true = (refl, refl)
    by_room false = (refl, refl)

pub provision_untagged : (m : Memory) (g : Granted) → Untagged (provision m g)
unfolding empty_draft with_ring
provision_untagged m g = (refl, refl)

accepting_untagged : (m : Memory) (a : Option Arrived) (p : Accepting) → Accepts m.station a p → Untagged (of_station m p)
unfolding resting marking
accepting_untagged m a p (Turned reason) = (refl, refl)
accepting_untagged m a p (Plain got plain) = (refl, refl)
accepting_untagged m a p (Marked from counter got x) = (refl, refl)

pub accept_untagged : (m : Memory) (own : Eui) (a : Option Arrived) → Untagged (of_station m (accept m.station own a))
accept_untagged m own a = accepting_untagged m a _ (accept_is m.station own a)

-- # A node whose plan makes and finds none

pub acts_untagged : {A : Type 0} (x : Node) (halted : A) (plan : Memory → Plan Memory A) → ((m : Memory) → Untagged (plan m))
    → ((acts x halted plan).made ≡ []) × ((acts x halted plan).opened ≡ [])
unfolding acts
acts_untagged {A = A} x halted plan none = by_memory x.memory
  where
    by_memory : (o : Option Memory) → let d : NodeStep A = option_map_or (λ m. left_by x (carry_out x.store.records x.store.cut (plan m))) o (stays x halted) in
        (d.made ≡ []) × (d.opened ≡ [])
    by_memory None = (refl, refl)
    by_memory (Some m) = ⊎_elim (λ (w : IsWhole x.store.records x.store.cut (plan m) (carry_out x.store.records x.store.cut (plan m))).
        (w.made ∙ (none m).0, w.opened ∙ (none m).1))
        (λ (c : IsCutOff x.store.records x.store.cut (plan m) (carry_out x.store.records x.store.cut (plan m))). (c.made, c.opened ∙ (none m).1))
        (clean x.store.records x.store.cut (plan m))
