-- Which plans send nothing.
use Rattle.std.proofs.Common.{◌≡◌, ⊎_elim, ℕ, ◌+◌, Bool, true, false, [], ◌++◌, Option, Some, None, Result, refl, ap, ◌∙◌}
use Rattle.std.specs.Prelude.{if◌then◌else◌}
use Rattle.std.specs.Option.{option_map_or}
use Rattle.plc_base.specs.declared.address.Eui.{Eui}
use Rattle.plc_base.specs.declared.key.Key.{Key}
use Rattle.plc_base.specs.Grant.{Granted}
use Rattle.group_keys.specs.declared.key_book.BookEntry.{BookEntry}
use Rattle.group_keys.specs.KeyRing as ring
use Rattle.group_keys.specs.KeyBook as book
use Rattle.node_rules.specs.declared.refusal.CoordinatorRefusal.{CoordinatorRefusal}
use Rattle.node_rules.specs.declared.refusal.CoordinatorRefusal.TheVariants as refusal
use Rattle.node_rules.specs.Frames.{Arrived}
use Rattle.node_rules.specs.Memory.{StationMemory, Memory, Node}
use Rattle.node_rules.specs.Plans.{Plan, carry_out, resting}
use Rattle.node_rules.specs.Acceptance.{Accepting, marking}
use Rattle.node_rules.specs.Drafts.{Draft, alone, StationPlace, Ends, sealed_units, sealed_by, sealing_key, empty_draft, with_rank, with_ring, sealing, refused}
use Rattle.node_rules.specs.Drafts.{checked, choose}
use Rattle.node_rules.specs.MemoryDrafts.{in_memory, with_memory_by}
use Rattle.node_rules.specs.Calls as calls
use Rattle.node_rules.specs.Coordinators as coordinators
use Rattle.node_rules.specs.Coordinators.{with_book_entry, changed, changes, without_session}
use Rattle.node_rules.specs.Laws.{IsWhole, IsCutOff}
use Rattle.node_rules.specs.NodeSteps.{acts, stays, left_by}
use Rattle.node_rules.proofs.FailedWrites.{clean}
use Rattle.line_laws.proofs.StoreMarks.{Accepts, Turned, Plain, Marked}

sealed_none : (r : ring.Ring) (first : ℕ) → sealed_by r first [] ≡ []
sealed_none None first = refl
sealed_none (Some g) first = by_key (sealing_key g)
  where
    by_key : (key : Option Key) → option_map_or (λ k. sealed_units g k first []) key [] ≡ []
    by_key None = refl
    by_key (Some key) = refl

-- a doing without units and plain frames
pub quiet_sealing : {M H E : Type 0} (h : StationPlace M) (ends : Ends E) (d : Draft M) (answer : H) → d.units ≡ [] → d.plain ≡ []
    → (sealing h ends d answer).frames ≡ []
quiet_sealing h ends d answer units plain =
    ap (λ us. d.plain ++ sealed_by (h.station d.memory).ring (h.station d.memory).counter.next us) units
    ∙ ap (λ ps. ps ++ sealed_by (h.station d.memory).ring (h.station d.memory).counter.next []) plain
    ∙ sealed_none (h.station d.memory).ring (h.station d.memory).counter.next

-- a node that carries out a plan without frames sends none
pub acts_quiet : {A : Type 0} (x : Node) (halted : A) (plan : Memory → Plan Memory A) → ((m : Memory) → (plan m).frames ≡ []) → (acts x halted plan).frames ≡ []
unfolding acts
acts_quiet {A = A} x halted plan quiet = by_memory x.memory
  where
    by_outcome : (m : Memory) → (carry_out x.store.records x.store.cut (plan m)).frames ≡ []
    by_outcome m = ⊎_elim (λ (w : IsWhole x.store.records x.store.cut (plan m) (carry_out x.store.records x.store.cut (plan m))). w.frames ∙ quiet m)
        (λ (c : IsCutOff x.store.records x.store.cut (plan m) (carry_out x.store.records x.store.cut (plan m))). c.frames)
        (clean x.store.records x.store.cut (plan m))

    by_memory : (o : Option Memory) → (option_map_or (λ m. left_by x (carry_out x.store.records x.store.cut (plan m))) o (stays x halted)).frames ≡ []
    by_memory None = refl
    by_memory (Some m) = by_outcome m

-- # The plans of setup

pub counter_quiet : (l : StationMemory) (value : ℕ) → (calls.preset_counter l value).frames ≡ []
unfolding resting
counter_quiet l value = refl

pub number_quiet : (l : StationMemory) (value : ℕ) → (calls.preset_number l value).frames ≡ []
unfolding resting
number_quiet l value = refl

checked_quiet : {M H E : Type 0} (ends : Ends E) (m : M) (fault : Option E) (p : Plan M (Result H E)) → p.frames ≡ [] → (checked ends m fault p).frames ≡ []
unfolding checked resting
checked_quiet ends m None p e = e
checked_quiet ends m (Some reason) p e = refl

ranked_none : (l : StationMemory) (to cost now : ℕ)
    → ((with_rank to (calls.near_rank cost) to now (empty_draft l)).units ≡ []) × ((with_rank to (calls.near_rank cost) to now (empty_draft l)).plain ≡ [])
unfolding empty_draft with_rank
ranked_none l to cost now = (refl, refl)

pub near_quiet : (l : StationMemory) (to cost now : ℕ) → (calls.preset_near l to cost now).frames ≡ []
near_quiet l to cost now =
    let none = ranked_none l to cost now in
    checked_quiet calls.presetting_ends l (calls.preset_fault l to cost now)
    (sealing alone calls.presetting_ends (with_rank to (calls.near_rank cost) to now (empty_draft l)) (tt {0}))
    (quiet_sealing alone calls.presetting_ends (with_rank to (calls.near_rank cost) to now (empty_draft l)) (tt {0}) none.0 none.1)

ringed_none : (l : StationMemory) (granted : Granted)
    → ((with_ring (Some granted) (empty_draft l)).units ≡ []) × ((with_ring (Some granted) (empty_draft l)).plain ≡ [])
unfolding empty_draft with_ring
ringed_none l granted = (refl, refl)

pub install_quiet : (l : StationMemory) (granted : Granted) → (calls.install l granted).frames ≡ []
install_quiet l granted =
    let none = ringed_none l granted in quiet_sealing alone calls.ringing_ends (with_ring (Some granted) (empty_draft l)) (tt {0}) none.0 none.1

-- # The coordinator's orders of setup

changed_none : (m : Memory) (e : BookEntry) → ((changed m e).units ≡ []) × ((changed m e).plain ≡ [])
unfolding empty_draft with_book_entry with_memory_by
changed_none m e = by_change (changes m e)
  where
    by_change : (b : Bool) → let d : Draft Memory = (if b then with_memory_by (without_session e.eui) (with_book_entry e (empty_draft m)) else empty_draft m) in
        (d.units ≡ []) × (d.plain ≡ [])
    by_change true = (refl, refl)
    by_change false = (refl, refl)

entered_none : (e : BookEntry) (d : Draft Memory) → d.units ≡ [] → d.plain ≡ [] → ((with_book_entry e d).units ≡ []) × ((with_book_entry e d).plain ≡ [])
unfolding with_book_entry
entered_none e d units plain = (units, plain)

refused_quiet : (H : Type 0) (m : Memory) (reason : CoordinatorRefusal) → (refused {H = H} coordinators.orders m reason).frames ≡ []
unfolding resting
refused_quiet H m reason = refl

choose_quiet : {A : Type 0} (b : Bool) (p q : Plan Memory A) → p.frames ≡ [] → q.frames ≡ [] → (choose b p q).frames ≡ []
unfolding choose
choose_quiet true p q e f = e
choose_quiet false p q e f = f

option_quiet : {A X : Type 0} (f : X → Plan Memory A) (o : Option X) (q : Plan Memory A) → ((x : X) → (f x).frames ≡ []) → q.frames ≡ []
    → (option_map_or f o q).frames ≡ []
option_quiet f None q e g = g
option_quiet f (Some x) q e g = e x

pub allow_quiet : (m : Memory) (eui : Eui) (psk : Key) → (coordinators.allow m eui psk).frames ≡ []
allow_quiet m eui psk =
    let e = book.allowed_entry eui psk (book.entry_for m.book eui) in
    let none = changed_none m e in
    choose_quiet (book.has_room m.book eui) _ _ (quiet_sealing in_memory coordinators.orders (changed m e) (book.place_for m.book eui + 1) none.0 none.1)
    (refused_quiet ℕ m refusal.MetersFull)

pub depot_quiet : (m : Memory) (eui : Eui) (psk : Key) → (coordinators.depot m eui psk).frames ≡ []
depot_quiet m eui psk =
    let d = changed m (book.allowed_entry eui psk (book.entry_for m.book eui)) in
    let none = changed_none m (book.allowed_entry eui psk (book.entry_for m.book eui)) in
    choose_quiet (book.has_room m.book eui) _ _
    (option_quiet (λ granted. option_map_or (λ e. sealing in_memory coordinators.orders (with_book_entry (book.issued_entry eui granted e) d) granted)
    (book.allowed_one d.memory.book eui) (refused coordinators.orders m refusal.MetersFull))
    (coordinators.grant_for d.memory eui) (refused coordinators.orders m refusal.MetersFull)
    (λ granted. option_quiet (λ e. sealing in_memory coordinators.orders (with_book_entry (book.issued_entry eui granted e) d) granted)
    (book.allowed_one d.memory.book eui) (refused coordinators.orders m refusal.MetersFull)
    (λ e. let n = entered_none (book.issued_entry eui granted e) d none.0 none.1 in
    quiet_sealing in_memory coordinators.orders (with_book_entry (book.issued_entry eui granted e) d) granted n.0 n.1)
    (refused_quiet Granted m refusal.MetersFull))
    (refused_quiet Granted m refusal.MetersFull)) (refused_quiet Granted m refusal.MetersFull)

-- # Accepting

pub accept_quiet : (l : StationMemory) (a : Option Arrived) (p : Accepting) → Accepts l a p → p.frames ≡ []
unfolding resting marking
accept_quiet l a p (Turned reason) = refl
accept_quiet l a p (Plain got plain) = refl
accept_quiet l a p (Marked from counter got x) = refl
