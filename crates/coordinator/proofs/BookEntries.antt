-- Entries of the book that change, and what letting a meter in comes to.
use Rattle.std.proofs.Common.{◌≡◌, ℕ, ◌+◌, ◌≤◌, Bool, true, false, [], Option, Some, None, Ok, Err, refl, sym, ap, subst, ◌∙◌}
use Rattle.std.specs.Prelude.{if◌then◌else◌, not, IfSome}
use Rattle.plc_base.specs.Keeper.{Store}
use Rattle.store_tables.specs.Writes.{Wrote, puts_of}
use Rattle.plc_base.specs.declared.address.Eui.{Eui}
use Rattle.plc_base.specs.declared.key.Key.{Key}
use Rattle.group_keys.specs.declared.key_book.BookEntry.{BookEntry}
use Rattle.group_keys.specs.KeyBook as book
use Rattle.group_keys.proofs.EntryPuts.{no_change}
use Rattle.node_rules.specs.declared.refusal.CoordinatorRefusal.TheVariants.{MetersFull, Store as Failed}
use Rattle.node_rules.specs.Memory.{Memory}
use Rattle.node_rules.specs.MemoryDrafts.{in_memory, with_memory_by}
use Rattle.node_rules.specs.Drafts.{Draft, empty_draft, choose, refused, sealing}
use Rattle.node_rules.specs.Coordinators.{orders, changed, with_book_entry, without_session, allow}
use Rattle.node_rules.specs.States.{State}
use Rattle.node_rules.specs.CarriedPlans.{Carries, nothing}
use Rattle.node_rules.proofs.ComposedPlans.{state_is}
use Rattle.plc_station.proofs.CarriedPlans.{at_some}
use Rattle.coordinator.specs.CoordinatorAgreement.{CoordinatorAgreesWith}
use Rattle.coordinator.specs.DraftsCarriedOut.{Does}
use Rattle.coordinator.proofs.StoredChanges.{stored, unstored, carried_by, out_done, out_failed}

-- # Doings one after another

-- something is remembered beside the store
pub remembered : (s mid t : State Memory) (d : Draft Memory) (change : Memory → Memory) → Does s d true mid
    → IfSome mid.memory (λ n. t ≡ record mid { memory = Some (change n) }) → Does s (with_memory_by change d) true t
unfolding with_memory_by
remembered s mid t d change does after =
    let held : mid.memory ≡ Some d.memory = ap (λ (x : State Memory). x.memory) does.state in
    let is : t ≡ record mid { memory = Some (change d.memory) } = at_some mid.memory (λ n. t ≡ record mid { memory = Some (change n) }) d.memory held after in
    let same : t.store ≡ mid.store = ap (λ (x : State Memory). x.store) is in
    let own : mid.eui ≡ s.eui = ap (λ (x : State Memory). x.eui) does.state in
    record {
      wrote = subst (λ (k : Store). Wrote s.store d.puts true k) (sym same) does.wrote;
      state = state_is t s.eui (Some (change d.memory)) (ap (λ (x : State Memory). x.eui) is ∙ own) (ap (λ (x : State Memory). x.memory) is);
    }

-- a put failed before
pub remembered_stop : (s t : State Memory) (d : Draft Memory) (change : Memory → Memory) → Does s d false t → Does s (with_memory_by change d) false t
unfolding with_memory_by
remembered_stop s t d change does = record { wrote = does.wrote; state = does.state }

pub does_by : (s t : State Memory) (d e : Draft Memory) (done : Bool) → d ≡ e → Does s d done t → Does s e done t
does_by s t d e done same does = subst (λ (x : Draft Memory). Does s x done t) same does

-- # An entry that may change

change_by : Memory → BookEntry → Bool → Draft Memory
change_by m e held = if not held then with_memory_by (without_session e.eui) (with_book_entry e (empty_draft m)) else empty_draft m

held_rests : (m : Memory) (e : BookEntry) → book.holds m.book e ≡ true → with_book_entry e (empty_draft m) ≡ empty_draft m
unfolding with_book_entry empty_draft
held_rests m e is =
    let n = no_change m.book e is in
    λ i. record { puts = puts_of (n.write i); memory = record m { book = n.same i }; units = []; plain = []; made = []; opened = [] }

pub held_same : (m : Memory) (e : BookEntry) → true ≡ book.holds m.book e → with_book_entry e (empty_draft m) ≡ changed m e
unfolding change_by
held_same m e is = held_rests m e (sym is) ∙ ap (change_by m e) is

pub held_other : (m : Memory) (e : BookEntry) → false ≡ book.holds m.book e
    → with_memory_by (without_session e.eui) (with_book_entry e (empty_draft m)) ≡ changed m e
unfolding change_by
held_other m e is = ap (change_by m e) is

-- what changes sends nothing, and the station stays
pub record IsQuiet (m : Memory) (d : Draft Memory) : Type 0 where
  pub units : d.units ≡ []
  pub out_done : nothing ≡ out_done d
  pub out_failed : nothing ≡ out_failed d
  pub station : d.memory.station ≡ m.station

quiet_by : (m : Memory) (e : BookEntry) (held : Bool) → IsQuiet m (change_by m e held)
unfolding change_by with_memory_by with_book_entry empty_draft
quiet_by m e true = record { units = refl; out_done = refl; out_failed = refl; station = refl }
quiet_by m e false = record { units = refl; out_done = refl; out_failed = refl; station = refl }

pub changed_quiet : (m : Memory) (e : BookEntry) → IsQuiet m (changed m e)
unfolding change_by
changed_quiet m e = quiet_by m e (book.holds m.book e)

-- the counter of a station that agrees is not above its limit
pub below_limit : (s : State Memory) (m : Memory) (d : Draft Memory) → CoordinatorAgreesWith m s.store.records → d.memory.station ≡ m.station
    → d.memory.station.counter.next ≤ d.memory.station.counter.limit
below_limit s m d h same = rw same (h.station.counter.below)

-- # Letting a meter in

pub allowed_eui : (eui : Eui) (psk : Key) (known : Option BookEntry) → (book.allowed_entry eui psk known).eui ≡ eui
allowed_eui eui psk None = refl
allowed_eui eui psk (Some e) = refl

-- there is a place for the entry
pub room_kept : (m : Memory) (eui : Eui) (psk : Key) (known : Option BookEntry) (entry : BookEntry) → true ≡ book.has_room m.book eui
    → entry ≡ book.allowed_entry eui psk known → book.has_room m.book entry.eui ≡ true
room_kept m eui psk known entry room is =
    ap (λ (u : Eui). book.has_room m.book u) (ap (λ (x : BookEntry). x.eui) is ∙ allowed_eui eui psk known) ∙ sym room

pub meters_full : (m : Memory) (eui : Eui) (psk : Key) → false ≡ book.has_room m.book eui → refused {H = ℕ} orders m MetersFull ≡ allow m eui psk
unfolding choose
meters_full m eui psk e = rw (← e) refl

allow_is : (m : Memory) (eui : Eui) (psk : Key) (entry : BookEntry) (address : ℕ) → true ≡ book.has_room m.book eui
    → entry ≡ book.allowed_entry eui psk (book.entry_for m.book eui) → address ≡ book.place_for m.book entry.eui + 1
    → sealing in_memory orders (changed m entry) address ≡ allow m eui psk
unfolding choose
allow_is m eui psk entry address room is at =
    let own : entry.eui ≡ eui = ap (λ (x : BookEntry). x.eui) is ∙ allowed_eui eui psk (book.entry_for m.book eui) in
    let place : address ≡ book.place_for m.book eui + 1 = at ∙ ap (λ (u : Eui). book.place_for m.book u + 1) own in
    rw (← room) (λ i. sealing in_memory orders (changed m (is i)) (place i))

pub allow_done : (s t : State Memory) (m : Memory) (eui : Eui) (psk : Key) (entry : BookEntry) (address : ℕ) → CoordinatorAgreesWith m s.store.records
    → true ≡ book.has_room m.book eui → entry ≡ book.allowed_entry eui psk (book.entry_for m.book eui) → address ≡ book.place_for m.book entry.eui + 1
    → Does s (changed m entry) true t → Carries s (allow m eui psk) (Ok address) nothing t
allow_done s t m eui psk entry address h room is at does =
    let q = changed_quiet m entry in
    carried_by s t (sealing in_memory orders (changed m entry) address) (allow m eui psk) (Ok address) nothing (allow_is m eui psk entry address room is at)
    (stored orders s t (changed m entry) address nothing q.units (below_limit s m (changed m entry) h q.station) does q.out_done)

pub allow_failed : (s t : State Memory) (m : Memory) (eui : Eui) (psk : Key) (entry : BookEntry) → true ≡ book.has_room m.book eui
    → entry ≡ book.allowed_entry eui psk (book.entry_for m.book eui) → Does s (changed m entry) false t → Carries s (allow m eui psk) (Err Failed) nothing t
allow_failed s t m eui psk entry room is does =
    let address = book.place_for m.book entry.eui + 1 in
    carried_by s t (sealing in_memory orders (changed m entry) address) (allow m eui psk) (Err Failed) nothing (allow_is m eui psk entry address room is refl)
    (unstored orders s t (changed m entry) address nothing does (changed_quiet m entry).out_failed)
