-- What a meter did is the step that the rules of the line have, and it is sound still.
use Rattle.std.proofs.Common.{◌≡◌, ℕ, Option, Some, None, Result, Ok, Err, refl, sym, ap, subst, ◌∙◌}
use Rattle.std.specs.Prelude.{IfSome, IfNone, IsSome}
use Rattle.std.specs.Result.{result_ok}
use Rattle.std.specs.Option.{option_map}
use Rattle.plc_base.specs.declared.keeper.BadStore.{BadStore}
use Rattle.plc_base.specs.declared.key.Key.{Key}
use Rattle.plc_base.specs.declared.out_frame.Out.{Out}
use Rattle.plc_base.specs.Keeper.{Records, Store}
use Rattle.node_rules.specs.Memory.{StationMemory, Memory, Meter}
use Rattle.node_rules.specs.NodeSteps.{acts}
use Rattle.node_rules.specs.Plans.{Plan}
use Rattle.node_rules.specs.Meters as meters
use Rattle.node_rules.specs.States.{State}
use Rattle.node_rules.specs.RestartStates.{blank_station, memory_of}
use Rattle.node_rules.specs.Agreement.{Agrees, AgreesWith}
use Rattle.node_rules.specs.CarriedPlans.{Carries, nothing}
use Rattle.node_rules.specs.Tables.{HasGaplessTables}
use Rattle.meter_node.specs.MeterStates.{MeterState, memory_with, node_of}
use Rattle.meter_node.specs.OpenFaults.{read_answer}
use Rattle.line_rules.specs.Steps.{memory_by, restart_word, restarts, ticked}
use Rattle.line_events.specs.declared.event.Answer.{Answer}
use Rattle.line_world.specs.Nodes.{stored_in, node_in, of_meter}
use Rattle.line_world.specs.Soundness.{NodeAgreesWith, IsSoundMeter}
use Rattle.line_world.proofs.NodeActs.{Took, took, known_after, tables_after, StayedHalted, Places, not_some, IsRestartWord}

-- the pair key says nothing of the tables
pub gapless_of_meter : (a b : Key) (records : Records) → HasGaplessTables (Meter a) records → HasGaplessTables (Meter b) records
gapless_of_meter a b records h = record { marks = h.marks; ranks = h.ranks; entries = tt }

agrees_of_meter : (psk : Key) (y : MeterState) → Agrees y.station → IfSome (node_of y).memory (λ m. NodeAgreesWith (Meter psk) m y.station.store.records)
agrees_of_meter psk y a = by y.station.memory a
  where
    by : (o : Option StationMemory) → IfSome o (λ l. AgreesWith l y.station.store.records)
        → IfSome (option_map (memory_with y) o) (λ m. NodeAgreesWith (Meter psk) m y.station.store.records)
    by None a = tt
    by (Some l) a = record { station = a; book = tt }

pub sound_meter : (y : MeterState) → IsSome y.station.store.known_cut → HasGaplessTables (Meter y.psk) y.station.store.records → Agrees y.station
    → IsSoundMeter y
sound_meter y known_cut tables agrees = record { known_cut = known_cut; tables = tables; home = tt; agrees = agrees_of_meter y.psk y agrees }

pub meter_took : {A : Type 0} (x y : MeterState) (halted : A) (p : Memory → Plan Memory A) (answer : A) (out : Out) → IsSoundMeter x → y.psk ≡ x.psk
    → StayedHalted (node_of x) halted answer out (node_of y) → IfSome (node_of x).memory (λ m. Carries (node_of x) (p m) answer out (node_of y))
    → Took (acts (of_meter x) halted p) answer out (of_meter y)
meter_took {A} x y halted p answer out sound psk stayed carries =
    subst (λ (k : Key). Took (acts (of_meter x) halted p) answer out (node_in (Meter k) (node_of y))) (sym psk)
    (took (Meter x.psk) (node_of x) (node_of y) halted p answer out sound.known_cut stayed carries)

pub meter_sound : {A : Type 0} (x y : MeterState) (halted : A) (p : Memory → Plan Memory A) (answer : A) (out : Out) → Places p → IsSoundMeter x
    → StayedHalted (node_of x) halted answer out (node_of y) → IfSome (node_of x).memory (λ m. Carries (node_of x) (p m) answer out (node_of y))
    → Agrees y.station → IsSoundMeter y
meter_sound {A} x y halted p answer out places sound stayed carries agrees =
    sound_meter y (known_after (Meter x.psk) (node_of x) (node_of y) halted p answer out sound stayed carries)
    (gapless_of_meter x.psk y.psk y.station.store.records (tables_after (Meter x.psk) (node_of x) (node_of y) halted p answer out places sound stayed carries))
    agrees

-- # Its station, lent

-- the meter with another station
abbrev pub with_its : State StationMemory → MeterState → MeterState
with_its s x = record x { station = s }

-- what it holds beside its station
abbrev pub beside : MeterState → Memory
beside x = memory_with x blank_station

-- its station agrees with its keeper
pub meter_agrees : (x : MeterState) → IsSoundMeter x → Agrees x.station
meter_agrees x sound = by x.station.memory sound.agrees
  where
    by : (o : Option StationMemory) → IfSome (option_map (memory_with x) o) (λ m. NodeAgreesWith (Meter x.psk) m x.station.store.records)
        → IfSome o (λ l. AgreesWith l x.station.store.records)
    by None a = tt
    by (Some l) a = a.station

-- # What a meter does itself

-- a meter that is not there to act stays as it is
pub meter_stayed : {A : Type 0} (x y : MeterState) (halted answer : A) (out : Out) → IfNone x.station.memory ((answer ≡ halted) × (out ≡ nothing) × (y ≡ x))
    → StayedHalted (node_of x) halted answer out (node_of y)
meter_stayed {A} x y halted answer out h = by x.station.memory h
  where
    by : (o : Option StationMemory) → IfNone o ((answer ≡ halted) × (out ≡ nothing) × (y ≡ x))
        → IfNone (option_map (memory_with x) o) ((answer ≡ halted) × (out ≡ nothing) × (node_of y ≡ node_of x))
    by None s = (s.0, s.1, ap node_of s.2)
    by (Some l) s = tt

-- # Restarts and time

-- the answer that reading a memory gives, and the memory
memory_is : (r : Result Memory BadStore) → result_ok r ≡ memory_by r
memory_is (Ok m) = refl
memory_is (Err bad) = refl

word_is : (r : Result Memory BadStore) (word : Answer) → IsRestartWord (read_answer r) word → word ≡ restart_word r
word_is (Ok m) word h = h
word_is (Err bad) word h = h

-- a meter that restarted
pub restarted : (x y : MeterState) (read : Result (Unit {0}) BadStore) (word : Answer) → IsRestartWord read word
    → read ≡ read_answer (memory_of (Meter x.psk) x.station.store.records)
    → (node_of y).memory ≡ result_ok (memory_of (Meter x.psk) x.station.store.records) → y.station.store ≡ x.station.store → y.station.eui ≡ x.station.eui
    → y.psk ≡ x.psk
    → Took (restarts (of_meter x)) word nothing (of_meter y)
restarted x y read word is answer memory store eui psk =
    let r : Result Memory BadStore = memory_of (Meter x.psk) x.station.store.records in
    let left : (node_of y).memory ≡ memory_by r = memory ∙ memory_is r in
    record {
      answer_is = word_is r word (subst (λ (k : Result (Unit {0}) BadStore). IsRestartWord k word) answer is);
      out_is = refl;
      node_is = λ i. record { role = Meter (psk i); eui = eui i; store = stored_in (store i); memory = left i };
    }

-- a meter that keeps its store, and agrees with it, is sound as before
pub stored_sound : (x y : MeterState) → IsSoundMeter x → y.station.store ≡ x.station.store → Agrees y.station → IsSoundMeter y
stored_sound x y sound store agrees =
    sound_meter y (subst (λ (s : Store). IsSome s.known_cut) (sym store) sound.known_cut)
    (gapless_of_meter x.psk y.psk y.station.store.records (subst (λ (s : Store). HasGaplessTables (Meter x.psk) s.records) (sym store) sound.tables)) agrees

-- a meter at which what is old ended
pub ended : (now : ℕ) (x y : MeterState) → node_of y ≡ record (node_of x) { memory = option_map (meters.tick now) (node_of x).memory } → y.psk ≡ x.psk
    → of_meter y ≡ ticked now (of_meter x)
ended now x y state psk = λ i. node_in (Meter (psk i)) (state i)

-- # A station that is asked first whether it is halted

-- a meter of which the station was lent and given back
pub unchanged : (x : MeterState) (s : State StationMemory) → s ≡ x.station → with_its s x ≡ x
unchanged x s e = ap (λ k. with_its k x) e

-- a halted one stays as it is
pub rests : {A : Type 0} (x : MeterState) (s : State StationMemory) (halted : A) (p : Memory → Plan Memory A) → s ≡ x.station → IsSoundMeter x → s.memory ≡ None
    → Took (acts (of_meter x) halted p) halted nothing (of_meter (with_its s x))
rests {A} x s halted p same sound none =
    let x_none : x.station.memory ≡ None = sym (ap (λ (k : State StationMemory). k.memory) same) ∙ none in
    let n_none : (node_of x).memory ≡ None = ap (λ (o : Option StationMemory). option_map (memory_with x) o) x_none in
    meter_took x (with_its s x) halted p halted nothing sound refl (by (node_of x).memory) (not_some (node_of x).memory _ n_none)
  where
    by : (o : Option Memory) → IfNone o ((halted ≡ halted) × (◌≡◌ {A = Out} nothing nothing) × (node_of (with_its s x) ≡ node_of x))
    by None = (refl, refl, ap node_of (unchanged x s same))
    by (Some m) = tt

-- and is sound still
pub sound_back : (x : MeterState) (s : State StationMemory) → s ≡ x.station → IsSoundMeter x → IsSoundMeter (with_its s x)
sound_back x s same sound = subst (λ (z : MeterState). IsSoundMeter z) (sym (unchanged x s same)) sound

runs_still : (x : MeterState) (s : State StationMemory) (P : Type 0) → s ≡ x.station → IsSome s.memory → IfNone (node_of x).memory P
runs_still x s P same is = by x.station.memory (subst (λ (k : State StationMemory). IsSome k.memory) same is)
  where
    by : (o : Option StationMemory) → IsSome o → IfNone (option_map (memory_with x) o) P
    by None is = absurd (cc)
    by (Some l) is = tt

of_same : {A : Type 0} (x y : MeterState) (s : State StationMemory) (p : Memory → Plan Memory A) (answer : A) (out : Out) → s ≡ x.station
    → IfSome (node_of (with_its s x)).memory (λ m. Carries (node_of (with_its s x)) (p m) answer out (node_of y))
    → IfSome (node_of x).memory (λ m. Carries (node_of x) (p m) answer out (node_of y))
of_same x y s p answer out same carries =
    subst (λ (z : MeterState). IfSome (node_of z).memory (λ m. Carries (node_of z) (p m) answer out (node_of y))) (unchanged x s same) carries

-- a call of a meter that runs
pub running_took : {A : Type 0} (x y : MeterState) (s : State StationMemory) (halted : A) (p : Memory → Plan Memory A) (answer : A) (out : Out) → s ≡ x.station
    → IsSoundMeter x → y.psk ≡ x.psk
    → IsSome s.memory → IfSome (node_of (with_its s x)).memory (λ m. Carries (node_of (with_its s x)) (p m) answer out (node_of y))
    → Took (acts (of_meter x) halted p) answer out (of_meter y)
running_took x y s halted p answer out same sound psk is carries =
    meter_took x y halted p answer out sound psk (runs_still x s _ same is) (of_same x y s p answer out same carries)

pub running_sound : {A : Type 0} (x y : MeterState) (s : State StationMemory) (halted : A) (p : Memory → Plan Memory A) (answer : A) (out : Out) → Places p
    → s ≡ x.station → IsSoundMeter x
    → IsSome s.memory → IfSome (node_of (with_its s x)).memory (λ m. Carries (node_of (with_its s x)) (p m) answer out (node_of y)) → Agrees y.station
    → IsSoundMeter y
running_sound x y s halted p answer out places same sound is carries agrees =
    meter_sound x y halted p answer out places sound (runs_still x s _ same is) (of_same x y s p answer out same carries) agrees
