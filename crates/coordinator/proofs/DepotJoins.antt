-- What joining a meter in the workshop comes to.
use Rattle.std.proofs.Common.{◌≡◌, ℕ, ◌+◌, Bool, true, false, Option, Some, None, Ok, Err, refl, sym, ap, subst, ◌∙◌}
use Rattle.std.specs.Prelude.{if◌then◌else◌, IfSome, IsSome, slice_get}
use Rattle.std.specs.Option.{option_map, option_map_or, option_and_then}
use Rattle.plc_base.specs.Grant.{Granted}
use Rattle.plc_base.specs.declared.address.Eui.{Eui}
use Rattle.plc_base.specs.declared.key.Key.{Key}
use Rattle.store_tables.proofs.WritesLemmas.{wrote_append, wrote_append_stop}
use Rattle.group_keys.specs.declared.key_book.BookEntry.{BookEntry}
use Rattle.group_keys.specs.KeyBook as book
use Rattle.group_keys.specs.KeyRing.{Ring}
use Rattle.group_keys.proofs.EntryPuts.{no_change, has_entry}
use Rattle.node_rules.specs.declared.refusal.CoordinatorRefusal.TheVariants.{MetersFull, Store as Failed}
use Rattle.node_rules.specs.Memory.{Memory, address_of}
use Rattle.node_rules.specs.MemoryDrafts.{in_memory, with_memory_by}
use Rattle.node_rules.specs.Drafts.{Draft, empty_draft, choose, refused, sealing}
use Rattle.node_rules.specs.Coordinators.{Ordering, orders, changed, with_book_entry, without_session, allowed_entry, grant_for, depot, depot_by}
use Rattle.node_rules.specs.States.{State}
use Rattle.node_rules.specs.CarriedPlans.{Carries, nothing}
use Rattle.node_rules.proofs.ComposedPlans.{state_is}
use Rattle.plc_station.proofs.CarriedPlans.{at_some}
use Rattle.coordinator.specs.CoordinatorAgreement.{CoordinatorAgreesWith}
use Rattle.coordinator.specs.DraftsCarriedOut.{Does}
use Rattle.coordinator.proofs.StoredChanges.{stored, unstored, carried_by}
use Rattle.coordinator.proofs.BookEntries.{IsQuiet, changed_quiet, below_limit, allowed_eui}

-- an entry of the book after what was done before
pub then_booked : (s mid t : State Memory) (d : Draft Memory) (e : BookEntry) (done : Bool) → Does s d true mid
    → Does mid (with_book_entry e (empty_draft d.memory)) done t
    → Does s (with_book_entry e d) done t
unfolding with_book_entry empty_draft
then_booked s mid t d e done first second = record {
  wrote = wrote_append s.store mid.store t.store d.puts _ done first.wrote second.wrote;
  state =
      state_is t s.eui (if done then Some (record d.memory { book = book.with_entry d.memory.book e }) else None)
      (ap (λ (x : State Memory). x.eui) second.state ∙ ap (λ (x : State Memory). x.eui) first.state) (ap (λ (x : State Memory). x.memory) second.state);
}

stop_booked : (s t : State Memory) (d : Draft Memory) (e : BookEntry) → Does s d false t → Does s (with_book_entry e d) false t
unfolding with_book_entry
stop_booked s t d e first = record { wrote = wrote_append_stop s.store t.store d.puts _ first.wrote; state = first.state }

-- # The entry that was entered is found

change_by : Memory → BookEntry → Bool → Draft Memory
change_by m e held = if held then empty_draft m else with_memory_by (without_session e.eui) (with_book_entry e (empty_draft m))

book_by : (m : Memory) (e : BookEntry) (held : Bool) → book.holds m.book e ≡ held → (change_by m e held).memory.book ≡ book.with_entry m.book e
unfolding change_by with_memory_by with_book_entry empty_draft
book_by m e true is = sym (no_change m.book e is).same
book_by m e false is = refl

changed_by : (m : Memory) (e : BookEntry) (held : Bool) → book.holds m.book e ≡ held → change_by m e held ≡ changed m e
unfolding change_by
changed_by m e true is = rw is refl
changed_by m e false is = rw is refl

pub changed_book : (m : Memory) (e : BookEntry) → (changed m e).memory.book ≡ book.with_entry m.book e
changed_book m e = ap (λ (d : Draft Memory). d.memory.book) (sym (changed_by m e (book.holds m.book e) refl)) ∙ book_by m e (book.holds m.book e) refl

one_of : Option BookEntry → Option BookEntry
one_of o = option_map_or (λ e. if e.allowed then Some e else None) o None

allowed_is : (eui : Eui) (psk : Key) (known : Option BookEntry) → (book.allowed_entry eui psk known).allowed ≡ true
allowed_is eui psk None = refl
allowed_is eui psk (Some e) = refl

pub entered : (m : Memory) (e : BookEntry) → e.allowed ≡ true → allowed_entry (changed m e).memory e.eui ≡ Some e
unfolding one_of
entered m e may =
    ap (λ (b : book.Book). one_of (book.entry_for b e.eui)) (changed_book m e) ∙ ap one_of (has_entry m.book e).here
    ∙ ap (λ (a : Bool). if a then Some e else None) may

pub found : (m : Memory) (eui : Eui) (psk : Key) (entry : BookEntry) → entry ≡ book.allowed_entry eui psk (book.entry_for m.book eui)
    → allowed_entry (changed m entry).memory eui ≡ Some entry
found m eui psk entry is =
    let own : entry.eui ≡ eui = ap (λ (x : BookEntry). x.eui) is ∙ allowed_eui eui psk (book.entry_for m.book eui) in
    let may : entry.allowed ≡ true = ap (λ (x : BookEntry). x.allowed) is ∙ allowed_is eui psk (book.entry_for m.book eui) in
    subst (λ (u : Eui). allowed_entry (changed m entry).memory u ≡ Some entry) own (entered m entry may)

pub may_issue : (s mid : State Memory) (m : Memory) (eui : Eui) (psk : Key) (entry : BookEntry) → entry ≡ book.allowed_entry eui psk (book.entry_for m.book eui)
    → Does s (changed m entry) true mid → IfSome mid.memory (λ n. IsSome (allowed_entry n eui))
may_issue s mid m eui psk entry is does =
    let held : mid.memory ≡ Some (changed m entry).memory = ap (λ (x : State Memory). x.memory) does.state in
    subst (λ (o : Option Memory). IfSome o (λ n. IsSome (allowed_entry n eui))) (sym held)
    (subst (λ (o : Option BookEntry). IsSome o) (sym (found m eui psk entry is)) refl)

pub runs : (s mid : State Memory) (d : Draft Memory) → Does s d true mid → IsSome mid.memory
runs s mid d does = subst (λ (o : Option Memory). IsSome o) (sym (ap (λ (x : State Memory). x.memory) does.state)) refl

-- # A grant for a meter that is allowed

pub no_grant : (n : Memory) (eui : Eui) → IsSome (allowed_entry n eui) → address_of n.station ≡ Some 0 → None ≡ grant_for n eui → ⊥
no_grant n eui may home none = by_place (book.place_of n.book eui) n.station.ring may home none
  where
    by_place : (o : Option ℕ) (r : Ring)
        → IsSome (option_map_or (λ (e : BookEntry). if e.allowed then Some e else None) (option_and_then (slice_get n.book) o) None)
        → option_map (λ (g : Granted). g.address) r ≡ Some 0
        → None ≡ option_and_then (λ (address : ℕ). option_map (λ (g : Granted). record g { address = address }) r) (option_map (λ place. place + 1) o) → ⊥
    by_place None r may home none = cc
    by_place (Some place) None may home none = cc
    by_place (Some place) (Some g) may home none = cc

-- # The plan

issuing : Memory → Eui → Draft Memory → Option Granted → Option BookEntry → Ordering Granted
issuing m eui d granted entry =
    option_map_or (λ g. option_map_or (λ e. sealing in_memory orders (with_book_entry (book.issued_entry eui g e) d) g) entry (refused orders m MetersFull))
    granted
    (refused orders m MetersFull)

pub depot_full : (m : Memory) (eui : Eui) (psk : Key) → false ≡ book.has_room m.book eui → refused {H = Granted} orders m MetersFull ≡ depot m eui psk
unfolding choose
depot_full m eui psk e = rw (← e) refl

depot_is : (m : Memory) (eui : Eui) (psk : Key) (entry e : BookEntry) (granted : Granted) → true ≡ book.has_room m.book eui
    → entry ≡ book.allowed_entry eui psk (book.entry_for m.book eui) → grant_for (changed m entry).memory eui ≡ Some granted
    → allowed_entry (changed m entry).memory eui ≡ Some e
    → sealing in_memory orders (with_book_entry (book.issued_entry eui granted e) (changed m entry)) granted ≡ depot m eui psk
unfolding choose issuing
depot_is m eui psk entry e granted room is grants may =
    (λ i. issuing m eui (changed m entry) (sym grants i) (sym may i)) ∙ ap (λ (x : BookEntry). depot_by m eui psk (changed m x)) is
    ∙ ap (λ (b : Bool). choose b (depot_by m eui psk (changed m (book.allowed_entry eui psk (book.entry_for m.book eui)))) (refused orders m MetersFull)) room

issued_quiet : (m : Memory) (x : BookEntry) (d : Draft Memory) → IsQuiet m d → IsQuiet m (with_book_entry x d)
unfolding with_book_entry
issued_quiet m x d q = record { units = q.units; out_done = q.out_done; out_failed = q.out_failed; station = q.station }

-- what the second step gives, of the memory that the first one left
at_left : (s mid : State Memory) (d : Draft Memory) (P : Memory → Type 0) → Does s d true mid → IfSome mid.memory P → P d.memory
at_left s mid d P does h = at_some mid.memory P d.memory (ap (λ (x : State Memory). x.memory) does.state) h

Issues : State Memory → Eui → Bool → State Memory → Memory → Type 0
Issues mid eui done t n = IfSome (grant_for n eui)
    (λ granted. IfSome (allowed_entry n eui) (λ e. Does mid (with_book_entry (book.issued_entry eui granted e) (empty_draft n)) done t))

pub depot_done : (s mid t : State Memory) (m : Memory) (eui : Eui) (psk : Key) (entry : BookEntry) (granted : Granted) → CoordinatorAgreesWith m s.store.records
    → true ≡ book.has_room m.book eui → entry ≡ book.allowed_entry eui psk (book.entry_for m.book eui) → Does s (changed m entry) true mid
    → IfSome mid.memory (λ n. grant_for n eui ≡ Some granted)
    → IfSome mid.memory (λ n. IfSome (grant_for n eui)
    (λ granted. IfSome (allowed_entry n eui) (λ e. Does mid (with_book_entry (book.issued_entry eui granted e) (empty_draft n)) true t)))
    → Carries s (depot m eui psk) (Ok granted) nothing t
unfolding Issues
depot_done s mid t m eui psk entry granted h room is first grants second =
    let n = (changed m entry).memory in
    let granting : grant_for n eui ≡ Some granted = at_left s mid (changed m entry) (λ n. grant_for n eui ≡ Some granted) first grants in
    let does = at_some (allowed_entry n eui) _ entry (found m eui psk entry is)
    (at_some (grant_for n eui) _ granted granting (at_left s mid (changed m entry) (Issues mid eui true t) first second)) in
    let d = with_book_entry (book.issued_entry eui granted entry) (changed m entry) in
    let q = issued_quiet m (book.issued_entry eui granted entry) (changed m entry) (changed_quiet m entry) in
    carried_by s t (sealing in_memory orders d granted) (depot m eui psk) (Ok granted) nothing
    (depot_is m eui psk entry entry granted room is granting (found m eui psk entry is))
    (stored orders s t d granted nothing q.units (below_limit s m d h q.station)
    (then_booked s mid t (changed m entry) (book.issued_entry eui granted entry) true first does) q.out_done)

-- the address of the coordinator stays, so there is a grant
pub home_left : (m : Memory) (entry : BookEntry) → address_of m.station ≡ Some 0 → address_of (changed m entry).memory.station ≡ Some 0
home_left m entry home = ap address_of (changed_quiet m entry).station ∙ home

-- the first put failed, or the second one did
pub depot_failed : (s t : State Memory) (m : Memory) (eui : Eui) (psk : Key) (entry : BookEntry) → CoordinatorAgreesWith m s.store.records
    → true ≡ book.has_room m.book eui → entry ≡ book.allowed_entry eui psk (book.entry_for m.book eui)
    → ((granted : Granted) → grant_for (changed m entry).memory eui ≡ Some granted
    → Does s (with_book_entry (book.issued_entry eui granted entry) (changed m entry)) false t)
    → Carries s (depot m eui psk) (Err Failed) nothing t
depot_failed s t m eui psk entry h room is does = by_grant (grant_for (changed m entry).memory eui) refl
  where
    by_grant : (o : Option Granted) → grant_for (changed m entry).memory eui ≡ o → Carries s (depot m eui psk) (Err Failed) nothing t
    by_grant None none = absurd (no_grant (changed m entry).memory eui (subst (λ (o : Option BookEntry). IsSome o) (sym (found m eui psk entry is)) refl)
        (home_left m entry h.home) (sym none))
    by_grant (Some granted) grants =
        let d = with_book_entry (book.issued_entry eui granted entry) (changed m entry) in
        let q = issued_quiet m (book.issued_entry eui granted entry) (changed m entry) (changed_quiet m entry) in
        carried_by s t (sealing in_memory orders d granted) (depot m eui psk) (Err Failed) nothing
        (depot_is m eui psk entry entry granted room is grants (found m eui psk entry is))
        (unstored orders s t d granted nothing (does granted grants) q.out_failed)

pub depot_stopped : (s t : State Memory) (m : Memory) (eui : Eui) (psk : Key) (entry : BookEntry) → CoordinatorAgreesWith m s.store.records
    → true ≡ book.has_room m.book eui → entry ≡ book.allowed_entry eui psk (book.entry_for m.book eui) → Does s (changed m entry) false t
    → Carries s (depot m eui psk) (Err Failed) nothing t
depot_stopped s t m eui psk entry h room is first = depot_failed s t m eui psk entry h room is (λ granted grants. stop_booked s t (changed m entry) _ first)

pub depot_unissued : (s mid t : State Memory) (m : Memory) (eui : Eui) (psk : Key) (entry : BookEntry) → CoordinatorAgreesWith m s.store.records
    → true ≡ book.has_room m.book eui → entry ≡ book.allowed_entry eui psk (book.entry_for m.book eui) → Does s (changed m entry) true mid
    → IfSome mid.memory (λ n. IfSome (grant_for n eui)
    (λ granted. IfSome (allowed_entry n eui) (λ e. Does mid (with_book_entry (book.issued_entry eui granted e) (empty_draft n)) false t)))
    → Carries s (depot m eui psk) (Err Failed) nothing t
unfolding Issues
depot_unissued s mid t m eui psk entry h room is first second =
    depot_failed s t m eui psk entry h room is
    (λ granted grants.
    let n = (changed m entry).memory in
    then_booked s mid t (changed m entry) (book.issued_entry eui granted entry) false first
    (at_some (allowed_entry n eui) _ entry (found m eui psk entry is)
    (at_some (grant_for n eui) _ granted grants (at_left s mid (changed m entry) (Issues mid eui false t) first second))))
