-- What a coordinator begins with.
use Rattle.std.proofs.Common.{◌≡◌, Bool, true, false, List, [], Option, Some, None, Result, Ok, Err, inl, refl, sym, ap, ◌∙◌, subst, arith}
use Rattle.std.specs.Prelude.{is_some, if◌then◌else◌, IfSome, IsSome}
use Rattle.std.specs.Option.{option_map}
use Rattle.plc_base.specs.Keeper.{Store, Stores, OutsideStays}
use Rattle.plc_base.specs.declared.keeper.BadStore.{BadStore}
use Rattle.plc_base.specs.declared.address.Eui.{Eui}
use Rattle.plc_base.specs.declared.key.RandomOctets.{RandomOctets}
use Rattle.plc_base.specs.declared.key.Key.{Key}
use Rattle.plc_base.specs.Grant.{Granted}
use Rattle.store_tables.specs.Writes.{Wrote}
use Rattle.store_tables.specs.SlotTables as slots
use Rattle.store_tables.proofs.SlotTables.{stored_elsewhere}
use Rattle.store_tables.proofs.WritesLemmas.{wrote_one}
use Rattle.group_keys.specs.KeyRing as ring
use Rattle.group_keys.specs.KeyBook as book
use Rattle.node_rules.specs.declared.refusal.RingRefusal.{RingRefusal}
use Rattle.node_rules.specs.declared.refusal.RingRefusal.TheVariants as rings
use Rattle.node_rules.specs.declared.heard.Reply.{Reply}
use Rattle.node_rules.specs.Memory.{StationMemory, Memory, CoordinatorSession}
use Rattle.node_rules.specs.MemoryDrafts.{in_memory, with_station, on_station}
use Rattle.node_rules.specs.Plans.{Plan, resting, within}
use Rattle.node_rules.specs.Drafts.{empty_draft, with_ring, choose, sealing}
use Rattle.node_rules.specs.Calls.{ringing_ends, install}
use Rattle.node_rules.specs.Coordinators.{begin}
use Rattle.node_rules.specs.RestartStates.{station_of, reading, remembering, first_grant}
use Rattle.node_rules.specs.States.{State}
use Rattle.node_rules.specs.Agreement.{AgreesWith}
use Rattle.node_rules.specs.CarriedPlans.{Carries, nothing}
use Rattle.plc_station.specs.StationViews as stations
use Rattle.plc_station.proofs.Agreement.{agrees_ringed}
use Rattle.plc_station.proofs.CarriedPlans.{if_some, at_some, resting_carried}
use Rattle.coordinator.specs.CoordinatorStates.{memory_in, state_in}
use Rattle.coordinator.specs.CoordinatorAgreement.{CoordinatorAgreesWith}
use Rattle.coordinator.specs.CoordinatorStart.{Begins, halted_state}
use Rattle.coordinator.proofs.StoredChanges.{stored, unstored, carried_by}
use Rattle.coordinator.proofs.RingReads.{read_ring, read_below, read_again}

not_both : {A E : Type 0} (o : Result A E) (x : E) (a : A) → o ≡ Err x → o ≡ Ok a → ⊥
not_both (Ok k) x a e f = absurd (cc)
not_both (Err k) x a e f = absurd (cc)

was_read : (o : Result StationMemory BadStore) (l : StationMemory) → stations.if_read o ≡ Some l → o ≡ Ok l
was_read (Ok k) l e = ap ok_of e
  where
    ok_of : Option StationMemory → Result StationMemory BadStore
    ok_of None = Ok k
    ok_of (Some n) = Ok n
was_read (Err bad) l e = absurd (cc)

-- # The plan

module _ (m : Memory) (g : Granted) where
  -- a ring is there
  pub rests : (s : State Memory) → s.memory ≡ Some m → is_some m.station.ring ≡ true → Carries s (begin m g) (Ok tt) nothing s
  unfolding choose
  rests s running there = rw there (resting_carried s m (Ok tt) (Err rings.Store) running)

  installs : is_some m.station.ring ≡ false → sealing in_memory ringing_ends (on_station (with_ring (Some g)) (empty_draft m)) tt ≡ begin m g
  unfolding choose on_station with_ring empty_draft
  installs none = rw none refl

  -- whether a ring is there decides the plan
  planned : Bool → Plan Memory (Result (Unit {0}) RingRefusal)
  planned has = choose has (resting m (Ok tt) (Err rings.Store)) (within (λ l. with_station l m) (λ r. r) (install m.station g))

  halted_by : (s : State Memory) (eui : Eui) (has : Bool) (reason : RingRefusal) (left : Store) (done : Bool) → s.eui ≡ eui
      → Wrote s.store (planned has).puts done left
      → Err reason ≡ (if done then (planned has).answer else (planned has).failed) → Carries s (planned has) (Err rings.Store) nothing (halted_state left eui)
  unfolding planned choose resting with_ring empty_draft
  halted_by s eui true reason left true own wrote is = absurd (cc)
  halted_by s eui false reason left true own wrote is = absurd (cc)
  halted_by s eui true reason left false own wrote is =
      record {
        done = false;
        wrote = wrote;
        answer_is = refl;
        out_is = refl;
        new_is = λ i. record { store = left; eui = sym own i; memory = None; replied = None };
      }
  halted_by s eui false reason left false own wrote is =
      record {
        done = false;
        wrote = wrote;
        answer_is = refl;
        out_is = refl;
        new_is = λ i. record { store = left; eui = sym own i; memory = None; replied = None };
      }

  -- nothing is left of it but its store, where it was refused
  halted_carries : (s : State Memory) (eui : Eui) (reason : RingRefusal) (new : State Memory) → s.eui ≡ eui → Carries s (begin m g) (Err reason) nothing new
      → Carries s (begin m g) (Err rings.Store) nothing (halted_state new.store eui)
  unfolding planned
  halted_carries s eui reason new own h = halted_by s eui (is_some m.station.ring) reason new.store h.done own h.wrote h.answer_is

  runs_by : (has done : Bool) (o : Option Memory) → Ok tt ≡ (if done then (planned has).answer else (planned has).failed)
      → o ≡ (if done then Some (planned has).memory else None) → IsSome o
  unfolding planned choose resting
  runs_by true false o is held = absurd (cc)
  runs_by false false o is held = absurd (cc)
  runs_by true true o is held = subst (λ (k : Option Memory). IsSome k) (sym held) refl
  runs_by false true o is held = subst (λ (k : Option Memory). IsSome k) (sym held) refl

  -- it runs where it was not refused
  runs : (s new : State Memory) → Carries s (begin m g) (Ok tt) nothing new → IsSome new.memory
  unfolding planned
  runs s new h = runs_by (is_some m.station.ring) h.done new.memory h.answer_is (ap (λ (x : State Memory). x.memory) h.new_is)

-- # The first ring of a station whose store was read

module _ (s : State StationMemory) (l : StationMemory) (running : s.memory ≡ Some l) (known : s.memory ≡ stations.if_read (station_of s.store.records)) where
  read : station_of s.store.records ≡ Ok l
  read = was_read (station_of s.store.records) l (sym known ∙ running)

  pub ring_reads : (before : Store) → before ≡ s.store → (o : Result ring.Ring BadStore) (bad : BadStore) → o ≡ ring.opened before.records → o ≡ Err bad → ⊥
  ring_reads before same o bad opened is =
      not_both o bad l.ring is (opened ∙ ap (λ (k : Store). ring.opened k.records) same ∙ read_ring s.store.records l read)

  module _ (key : Key) (before left : Store) (same : before ≡ s.store) (x : Granted) (first : x ≡ first_grant key) where
    put : (done : Bool) → Stores before (ring.ring_write (Some x)) done left → Stores s.store (ring.ring_write (Some (first_grant key))) done left
    put done stores =
        subst (λ (k : Store). Stores k (ring.ring_write (Some (first_grant key))) done left) same
        (subst (λ (g : Granted). Stores before (ring.ring_write (Some g)) done left) first stores)

    kept_first : (r : ring.Ring) → r ≡ Some x → ring.AgreesWith r left.records → ring.AgreesWith (Some (first_grant key)) left.records
    kept_first r is kept = subst (λ (k : ring.Ring). ring.AgreesWith k left.records) (is ∙ ap (λ (g : Granted). Some g) first) kept

    reads : (r : ring.Ring) → r ≡ Some x → ring.AgreesWith r left.records → OutsideStays 1 1 before left
        → station_of left.records ≡ Ok (record l { ring = Some (first_grant key) })
    reads r is kept apart =
        read_again s.store.records left.records (subst (λ (k : Store). OutsideStays 1 1 k left) same apart) l (Some (first_grant key)) read
        (kept_first r is kept)

    pub store_reads : (r : ring.Ring) → r ≡ Some x → ring.AgreesWith r left.records → OutsideStays 1 1 before left
        → (o : Result (Unit {0}) BadStore) (bad : BadStore)
        → o ≡ stations.read_answer (station_of left.records) → o ≡ Err bad → ⊥
    store_reads r is kept apart o bad answer e = not_both o bad tt e (answer ∙ ap stations.read_answer (reads r is kept apart))

    module _ (randoms : List RandomOctets) (sessions : List CoordinatorSession) (b : book.Book) (new : State StationMemory) (reply : Option Reply) where
      -- it was stored, and the store was read again
      pub first_stored : is_some l.ring ≡ false → Stores before (ring.ring_write (Some x)) true left → (r : ring.Ring) → r ≡ Some x
          → ring.AgreesWith r left.records
          → OutsideStays 1 1 before left
          → new ≡ record { store = left; eui = s.eui; memory = stations.if_read (station_of left.records); replied = reply }
          → Carries (state_in s randoms sessions b) (begin (memory_in randoms sessions b l) (first_grant key)) (Ok tt) nothing (state_in new randoms sessions b)
      unfolding on_station with_ring empty_draft
      first_stored none stores r is kept apart now =
          carried_by _ _ _ _ _ _ (installs (memory_in randoms sessions b l) (first_grant key) none)
          (stored ringing_ends (state_in s randoms sessions b) (state_in new randoms sessions b)
          (on_station (with_ring (Some (first_grant key))) (empty_draft (memory_in randoms sessions b l))) tt nothing refl
          (read_below s.store.records l read)
          (record {
            wrote = wrote_one s.store new.store (ring.ring_write (Some (first_grant key))) true
                (subst (λ (k : Store). Stores s.store (ring.ring_write (Some (first_grant key))) true k) (sym (ap (λ (k : State StationMemory). k.store) now))
                (put true stores));
            state = λ i. record {
              store = new.store;
              eui = ap (λ (k : State StationMemory). k.eui) now i;
              memory =
                  option_map (memory_in randoms sessions b) ((ap (λ (k : State StationMemory). k.memory) now ∙ ap stations.if_read (reads r is kept apart)) i);
              replied = new.replied;
            };
          }) refl)

      -- it was not
      pub first_unstored : is_some l.ring ≡ false → Stores before (ring.ring_write (Some x)) false left
          → new ≡ record { store = left; eui = s.eui; memory = None; replied = reply }
          → Carries (state_in s randoms sessions b) (begin (memory_in randoms sessions b l) (first_grant key)) (Err rings.Store) nothing
          (state_in new randoms sessions b)
      unfolding on_station with_ring empty_draft
      first_unstored none stores now =
          carried_by _ _ _ _ _ _ (installs (memory_in randoms sessions b l) (first_grant key) none)
          (unstored ringing_ends (state_in s randoms sessions b) (state_in new randoms sessions b)
          (on_station (with_ring (Some (first_grant key))) (empty_draft (memory_in randoms sessions b l))) tt nothing
          (record {
            wrote = wrote_one s.store new.store (ring.ring_write (Some (first_grant key))) false
                (subst (λ (k : Store). Stores s.store (ring.ring_write (Some (first_grant key))) false k) (sym (ap (λ (k : State StationMemory). k.store) now))
                (put false stores));
            state = λ i. record {
              store = new.store;
              eui = ap (λ (k : State StationMemory). k.eui) now i;
              memory = option_map (memory_in randoms sessions b) (ap (λ (k : State StationMemory). k.memory) now i);
              replied = new.replied;
            };
          }) refl)

      -- so it holds what is stored
      pub first_holds : AgreesWith l s.store.records → book.AgreesWith b s.store.records → (r : ring.Ring) → r ≡ Some x → ring.AgreesWith r left.records
          → OutsideStays 1 1 before left
          → new ≡ record { store = left; eui = s.eui; memory = stations.if_read (station_of left.records); replied = reply }
          → IfSome (option_map (memory_in randoms sessions b) new.memory) (λ m. CoordinatorAgreesWith m new.store.records)
      first_holds agrees stays r is kept apart now =
          let outside = subst (λ (k : Store). OutsideStays 1 1 k left) same apart in
          subst (λ (k : State StationMemory). IfSome (option_map (memory_in randoms sessions b) k.memory) (λ m. CoordinatorAgreesWith m k.store.records))
          (sym now)
          (subst (λ (o : Result StationMemory BadStore). IfSome (option_map (memory_in randoms sessions b) (stations.if_read o))
          (λ m. CoordinatorAgreesWith m left.records)) (sym (reads r is kept apart))
          (record {
            station = agrees_ringed l (Some (first_grant key)) s.store.records left.records agrees (kept_first r is kept) outside;
            book = stored_elsewhere book.entries b s.store.records left.records 1 1 stays outside (inl (omega arith));
            home = refl;
          }))

-- # The coordinator over an opened station

module _ (store : Store) (eui : Eui) (key : Key) (b : book.Book) where
  -- the station as it is opened, of what its store gives
  abbrev pub started : Result StationMemory BadStore → State StationMemory
  started o = record { store = store; eui = eui; memory = stations.if_read o; replied = None }

  -- the plan of a coordinator with this book is carried out
  abbrev pub Begun : State StationMemory → Result (Unit {0}) RingRefusal → State Memory → Type 0
  Begun s answer new = IfSome s.memory (λ l. Carries (state_in s [] [] b) (begin (memory_in [] [] b l) (first_grant key)) answer nothing new)

  begins_by : (answer : Result (Unit {0}) RingRefusal) (new : State Memory) (o : Result StationMemory BadStore) → station_of store.records ≡ o
      → slots.opened book.entries store.records ≡ Ok b
      → IsSome (stations.if_read o)
      → Begun (started o) answer new
      → Begins store eui key answer new
  begins_by answer new (Err bad) e opened running h = absurd (cc)
  begins_by answer new (Ok l) e opened running h = record {
    memory = memory_in [] [] b l;
    read = λ i. reading (e i) (λ k. reading (opened i) (λ x. Ok (remembering k x)));
    carries = h;
  }

  module _ (s : State StationMemory) (is : s ≡ started (station_of store.records)) (running : IsSome s.memory)
      (opened : slots.opened book.entries s.store.records ≡ Ok b) where
    -- what the records give was read, and the plan carried out
    pub begins : (answer : Result (Unit {0}) RingRefusal) (new : State Memory) → Begun s answer new → Begins store eui key answer new
    begins answer new h =
        begins_by answer new (station_of store.records) refl
        (subst (λ (k : State StationMemory). slots.opened book.entries k.store.records ≡ Ok b) is opened)
        (subst (λ (k : State StationMemory). IsSome k.memory) is running)
        (subst (λ (k : State StationMemory). Begun k answer new) is h)

    -- the first ring was not stored
    pub refuses : (reason : RingRefusal) (new : State Memory) → Begun s (Err reason) new → Begins store eui key (Err rings.Store) (halted_state new.store eui)
    refuses reason new h =
        begins (Err rings.Store) (halted_state new.store eui)
        (if_some s.memory _ (λ l at. halted_carries (memory_in [] [] b l) (first_grant key) (state_in s [] [] b) eui reason new
        (ap (λ (k : State StationMemory). k.eui) is) (at_some s.memory _ l at h)))

    -- else it runs
    pub begun : (new : State Memory) → Begun s (Ok tt) new → IsSome new.memory
    begun new h = let x = begins (Ok tt) new h in runs x.memory (first_grant key) _ new x.carries
