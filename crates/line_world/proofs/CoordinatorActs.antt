-- What the coordinator did is the step that the rules of the line have, and it is sound still.
use Rattle.std.proofs.Common.{◌≡◌, ℕ, Bool, true, false, ◌++◌, [], ◌∷◌, length, Option, Some, None, Result, Ok, Err, refl, sym, ap, subst, ◌∙◌, arith}
use Rattle.std.specs.Prelude.{if◌then◌else◌, nat_lt, All, IfSome, IfNone, IsSome}
use Rattle.std.specs.Option.{option_map, option_and_then}
use Rattle.std.specs.FinMap.{get}
use Rattle.std.proofs.lemmas.List.Elements.{All-nil, All-cons}
use Rattle.plc_base.specs.declared.key.RandomOctets.{RandomOctets}
use Rattle.plc_base.specs.declared.keeper.BadStore.{BadStore}
use Rattle.plc_base.specs.declared.out_frame.Out.{Out}
use Rattle.plc_base.specs.Grant.{Granted}
use Rattle.plc_base.specs.Keeper.{Records, Store}
use Rattle.store_tables.specs.Writes.{puts_of}
use Rattle.frame_counters.specs.SendCounter.{passes, limit_write, raised}
use Rattle.group_keys.specs.KeyRing.{Ring, ring_at, ring_slot}
use Rattle.node_rules.specs.declared.refusal.RandomFault.{RandomFault}
use Rattle.node_rules.specs.declared.refusal.RandomFault.TheVariants.{RandomsFull}
use Rattle.node_rules.specs.CarriedPlans.{Carries, nothing}
use Rattle.node_rules.specs.Ciphers.{network}
use Rattle.node_rules.specs.Coordinators as rules
use Rattle.node_rules.specs.Drafts.{choose, empty_draft, refused, sealing}
use Rattle.node_rules.specs.Home.{PutsNoRing, WritesNoRing}
use Rattle.node_rules.specs.Memory.{StationMemory, Memory, Coordinator}
use Rattle.node_rules.specs.MemoryDrafts.{with_memory_by, in_memory, give_random, given_ends}
use Rattle.node_rules.specs.NodeSteps.{acts}
use Rattle.node_rules.specs.Plans.{Plan, resting}
use Rattle.node_rules.specs.States.{State}
use Rattle.node_rules.specs.RestartStates.{blank_station, memory_of}
use Rattle.node_rules.specs.Tables.{HasGaplessTables}
use Rattle.node_rules.proofs.RingPuts.{writes_keep_ring}
use Rattle.node_rules.proofs.TablePlans.{meters_in_place}
use Rattle.coordinator.specs.CoordinatorAgreement.{CoordinatorAgreesWith, CoordinatorAgrees, HasCoordinatorAddress}
use Rattle.coordinator.specs.ReadAnswers.{if_read, read_answer}
use Rattle.coordinator.specs.CoordinatorStates.{CoordinatorState, memory_in, node_of}
use Rattle.line_rules.specs.Steps.{memory_by, restart_word, restarts, ticked}
use Rattle.line_events.specs.declared.event.Answer.{Answer}
use Rattle.line_world.specs.Nodes.{node_in, stored_in, of_coordinator}
use Rattle.line_world.specs.Soundness.{NodeAgreesWith, IsSoundCoordinator}
use Rattle.line_world.proofs.NodeActs.{Took, took, known_after, tables_after, StayedHalted, Places, IsRestartWord}
use Rattle.line_world.proofs.LentStations.{same_home}

-- # Agreement

home_of : (ring : Ring) (records : Records) → ring_at (get records ring_slot) ≡ Some ring → HasCoordinatorAddress records
    → option_map (λ (g : Granted). g.address) ring ≡ Some 0
home_of ring records stored home = sym (ap (option_and_then (option_map (λ (g : Granted). g.address))) stored) ∙ home

-- a sound coordinator agrees with its keeper
pub holds : (x : CoordinatorState) → IsSoundCoordinator x → CoordinatorAgrees (node_of x)
holds x sound = by (node_of x).memory sound.agrees
  where
    by : (o : Option Memory) → IfSome o (λ m. NodeAgreesWith Coordinator m x.station.store.records)
        → IfSome o (λ m. CoordinatorAgreesWith m x.station.store.records)
    by None a = tt
    by (Some m) a = record { station = a.station; book = a.book; home = home_of m.station.ring x.station.store.records a.station.ring.stored sound.home }

agrees_as : (y : CoordinatorState) → CoordinatorAgrees (node_of y) → IfSome (node_of y).memory (λ m. NodeAgreesWith Coordinator m y.station.store.records)
agrees_as y h = by (node_of y).memory h
  where
    by : (o : Option Memory) → IfSome o (λ m. CoordinatorAgreesWith m y.station.store.records)
        → IfSome o (λ m. NodeAgreesWith Coordinator m y.station.store.records)
    by None h = tt
    by (Some m) h = record { station = h.station; book = h.book }

pub sound_with : (y : CoordinatorState) → IsSome y.station.store.known_cut → HasGaplessTables Coordinator y.station.store.records
    → HasCoordinatorAddress y.station.store.records
    → CoordinatorAgrees (node_of y)
    → IsSoundCoordinator y
sound_with y known_cut tables home h = record { known_cut = known_cut; tables = tables; home = home; agrees = agrees_as y h }

-- # What the coordinator does itself

-- a halted one stays as it is
abbrev pub Stayed : {A : Type 0} → CoordinatorState → A → A → Out → CoordinatorState → Type 0
Stayed x halted answer out y = IfNone (node_of x).memory ((answer ≡ halted) × (out ≡ nothing) × (y ≡ x))

stays : {A : Type 0} (x y : CoordinatorState) (halted answer : A) (out : Out) → Stayed x halted answer out y
    → StayedHalted (node_of x) halted answer out (node_of y)
stays {A} x y halted answer out h = by (node_of x).memory h
  where
    by : (o : Option Memory) → IfNone o ((answer ≡ halted) × (out ≡ nothing) × (y ≡ x))
        → IfNone o ((answer ≡ halted) × (out ≡ nothing) × (node_of y ≡ node_of x))
    by None s = (s.0, s.1, ap node_of s.2)
    by (Some m) s = tt

-- It took the step of its rule.
pub own_took : {A : Type 0} (x y : CoordinatorState) (halted : A) (p : Memory → Plan Memory A) (answer : A) (out : Out) → IsSoundCoordinator x
    → Stayed x halted answer out y
    → IfSome (node_of x).memory (λ m. Carries (node_of x) (p m) answer out (node_of y)) → Took (acts (of_coordinator x) halted p) answer out (of_coordinator y)
own_took x y halted p answer out sound stayed carries =
    took Coordinator (node_of x) (node_of y) halted p answer out sound.known_cut (stays x y halted answer out stayed) carries

-- It is sound still where its home is as before.
pub own_sound : {A : Type 0} (x y : CoordinatorState) (halted : A) (p : Memory → Plan Memory A) (answer : A) (out : Out) → Places p → IsSoundCoordinator x
    → Stayed x halted answer out y
    → IfSome (node_of x).memory (λ m. Carries (node_of x) (p m) answer out (node_of y)) → HasCoordinatorAddress y.station.store.records
    → CoordinatorAgrees (node_of y)
    → IsSoundCoordinator y
own_sound x y halted p answer out places sound stayed carries home h =
    let s = stays x y halted answer out stayed in
    sound_with y (known_after Coordinator (node_of x) (node_of y) halted p answer out sound s carries)
    (tables_after Coordinator (node_of x) (node_of y) halted p answer out places sound s carries) home h

-- no write of a plan is one of a ring
abbrev pub NoRing : {A : Type 0} → (Memory → Plan Memory A) → Type 0
NoRing p = (m : Memory) → WritesNoRing (p m)

home_after : {A : Type 0} (x y : CoordinatorState) (halted : A) (p : Memory → Plan Memory A) (answer : A) (out : Out) → NoRing p → IsSoundCoordinator x
    → Stayed x halted answer out y
    → IfSome (node_of x).memory (λ m. Carries (node_of x) (p m) answer out (node_of y)) → HasCoordinatorAddress y.station.store.records
home_after {A} x y halted p answer out rings sound stayed carries = by (node_of x).memory stayed carries
  where
    by : (o : Option Memory) → IfNone o ((answer ≡ halted) × (out ≡ nothing) × (y ≡ x)) → IfSome o (λ m. Carries (node_of x) (p m) answer out (node_of y))
        → HasCoordinatorAddress y.station.store.records
    by None s c = subst (λ (z : CoordinatorState). HasCoordinatorAddress z.station.store.records) (sym s.2) sound.home
    by (Some m) s c =
        same_home x.station.store.records y.station.store.records (writes_keep_ring x.station.store (p m).puts c.done y.station.store (rings m) c.wrote)
        sound.home

-- It is sound still where it writes no ring.
pub ringless_sound : {A : Type 0} (x y : CoordinatorState) (halted : A) (p : Memory → Plan Memory A) (answer : A) (out : Out) → Places p → NoRing p
    → IsSoundCoordinator x
    → Stayed x halted answer out y → IfSome (node_of x).memory (λ m. Carries (node_of x) (p m) answer out (node_of y)) → CoordinatorAgrees (node_of y)
    → IsSoundCoordinator y
ringless_sound x y halted p answer out places rings sound stayed carries h =
    own_sound x y halted p answer out places sound stayed carries (home_after x y halted p answer out rings sound stayed carries) h

-- # Its station, lent

-- the coordinator with another station
abbrev pub with_its : State StationMemory → CoordinatorState → CoordinatorState
with_its s x = record x { station = s }

-- what it holds beside its station
abbrev pub beside : CoordinatorState → Memory
beside x = memory_in x.randoms x.sessions x.book blank_station

-- # Time

-- what is old at the coordinator ended
pub ended : (now : ℕ) (x y : CoordinatorState) → node_of y ≡ record (node_of x) { memory = option_map (rules.tick now) (node_of x).memory }
    → of_coordinator y ≡ ticked now (of_coordinator x)
ended now x y state = ap (λ (z : State Memory). node_in Coordinator z) state

-- a coordinator that keeps its store, and holds what that gives, is sound as before
pub stored_sound : (x y : CoordinatorState) → IsSoundCoordinator x → y.station.store ≡ x.station.store → CoordinatorAgrees (node_of y) → IsSoundCoordinator y
stored_sound x y sound store h =
    sound_with y (subst (λ (s : Store). IsSome s.known_cut) (sym store) sound.known_cut)
    (subst (λ (s : Store). HasGaplessTables Coordinator s.records) (sym store) sound.tables)
    (subst (λ (s : Store). HasCoordinatorAddress s.records) (sym store) sound.home) h

-- # Restarts

-- the answer that reading a memory gives, and the memory
memory_is : (r : Result Memory BadStore) → if_read r ≡ memory_by r
memory_is (Ok m) = refl
memory_is (Err bad) = refl

word_is : (r : Result Memory BadStore) (word : Answer) → IsRestartWord (read_answer r) word → word ≡ restart_word r
word_is (Ok m) word h = h
word_is (Err bad) word h = h

-- a coordinator that restarted
pub restarted : (x y : CoordinatorState) (read : Result (Unit {0}) BadStore) (word : Answer) → IsRestartWord read word
    → read ≡ read_answer (memory_of Coordinator x.station.store.records)
    → (node_of y).memory ≡ if_read (memory_of Coordinator x.station.store.records) → y.station.store ≡ x.station.store → y.station.eui ≡ x.station.eui
    → Took (restarts (of_coordinator x)) word nothing (of_coordinator y)
restarted x y read word is answer memory store eui =
    let r : Result Memory BadStore = memory_of Coordinator x.station.store.records in
    let left : (node_of y).memory ≡ memory_by r = memory ∙ memory_is r in
    record {
      answer_is = word_is r word (subst (λ (k : Result (Unit {0}) BadStore). IsRestartWord k word) answer is);
      out_is = refl;
      node_is = λ i. record { role = Coordinator; eui = eui i; store = stored_in (store i); memory = left i };
    }

-- # Random values

-- no write of a random value that is given is out of place, nor one of a ring
pub random_in_place : (x : CoordinatorState) (value : RandomOctets) → Places (λ m. give_random m value)
random_in_place x value m short = (meters_in_place (record { eui = x.station.eui; psk = record { 0 = value.0 }; ciphers = network }) m short).takes_random value

pub random_no_ring : (m : Memory) (value : RandomOctets) → WritesNoRing (give_random m value)
unfolding choose with_memory_by empty_draft resting
random_no_ring m value = by_test (nat_lt 7 (length m.randoms))
  where
    by_passing : (due : Bool) → All PutsNoRing (puts_of (if due then limit_write (raised m.station.counter.limit) else None))
    by_passing true = All-cons PutsNoRing _ [] (λ e. omega arith) (All-nil PutsNoRing)
    by_passing false = All-nil PutsNoRing

    by_test : (full : Bool) → WritesNoRing {A = Result (Unit {0}) RandomFault} (choose full (refused given_ends m RandomsFull)
        (sealing in_memory given_ends (with_memory_by (λ n. record n { randoms = n.randoms ++ value ∷ [] }) (empty_draft m)) tt))
    by_test true = All-nil PutsNoRing
    by_test false = by_passing (passes m.station.counter 0)
