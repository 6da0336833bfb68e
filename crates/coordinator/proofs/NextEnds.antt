-- Before the first end a tick of the coordinator changes nothing, and from then on something.
use Rattle.std.proofs.Common.{◌≡◌, ℕ, ◌+◌, ◌<◌, ◌≤◌, List, [], ◌∷◌, length, Option, Some, refl, ap, arith, ◌∙◌}
use Rattle.std.specs.Prelude.{fold, unwrap_or}
use Rattle.std.specs.List.{All, filter}
use Rattle.std.proofs.lemmas.Bool.{cond-true, lt-ltb}
use Rattle.std.proofs.lemmas.List.Elements.{All-head, All-tail}
use Rattle.plc_base.proofs.EarlierEnds.{earlier, all_last}
use Rattle.station_queues.proofs.FirstEnds.{all_later}
use Rattle.node_rules.specs.declared.session_time.TheConstants.{SESSION_TIME}
use Rattle.node_rules.specs.Calls as calls
use Rattle.node_rules.specs.Coordinators as rules
use Rattle.node_rules.specs.Memory.{StationMemory, CoordinatorSession}
use Rattle.plc_station.specs.NextEnds.{IsBefore, IsFirstEnd, last_second}
use Rattle.plc_station.proofs.NextEnds.{before_end, end_after}
use Rattle.coordinator.specs.CoordinatorStates.{CoordinatorState, memory_in}
use Rattle.coordinator.specs.Ends.{end_by}

-- a session lasts until a time
abbrev Lasts : ℕ → CoordinatorSession → Type 0
Lasts time s = time ≤ s.since + SESSION_TIME

one_lasts : (time : ℕ) (s : CoordinatorSession) → (end_by time s ≤ time) × Lasts (end_by time s) s
one_lasts time s = earlier time (s.since + SESSION_TIME)

sooner_lasts : (sooner later : ℕ) (s : CoordinatorSession) → sooner ≤ later → Lasts later s → Lasts sooner s
sooner_lasts sooner later s less h = omega (arith, less, h)

all_stay : (sessions : List CoordinatorSession) (time end : ℕ) → time < end → All (Lasts end) sessions
    → filter (λ (s : CoordinatorSession). calls.is_within SESSION_TIME time s.since) sessions ≡ sessions
all_stay [] time end less h = refl
all_stay (s ∷ rest) time end less h =
    let one = All-head (Lasts end) s rest h in
    cond-true _ _ _ (lt-ltb time (s.since + SESSION_TIME) (omega (arith, less, one)))
    ∙ ap (λ (ss : List CoordinatorSession). s ∷ ss) (all_stay rest time end less (All-tail (Lasts end) s rest h))

stays : (x : CoordinatorState) (l : StationMemory) (time given : ℕ) (end : Option ℕ) → given ≡ unwrap_or end last_second
    → time < fold end_by given x.sessions → (IsBefore time end → calls.tick time l ≡ l)
    → rules.tick time (memory_in x.randoms x.sessions x.book l) ≡ memory_in x.randoms x.sessions x.book l
stays x l time given end is h station =
    let all = all_last end_by Lasts one_lasts sooner_lasts x.sessions given in
    let rest = all_stay x.sessions time (fold end_by given x.sessions) h all.1 in
    let waits = station (before_end time end (omega (arith, h, all.0, is))) in
    λ i. record (memory_in x.randoms x.sessions x.book l) { station = waits i; sessions = rest i }

pub is_first : (x : CoordinatorState) (l : StationMemory) (given : ℕ) (end : Option ℕ) → given ≡ unwrap_or end last_second → IsFirstEnd calls.tick l end
    → IsFirstEnd rules.tick (memory_in x.randoms x.sessions x.book l) (Some (fold end_by given x.sessions))
is_first x l given end is station = record {
  waits = λ time h. stays x l time given end is h (station.waits time);
  ends = λ time clock same.
      let first = end_after time end (station.ends time clock (λ i. (same i).station)) in
      all_later SESSION_TIME time (λ (s : CoordinatorSession). s.since) x.sessions given (omega (arith, first, is)) (λ i. (same i).sessions);
}

-- without a session its station's end is its own
pub is_first_alone : (x : CoordinatorState) (l : StationMemory) (end : Option ℕ) → length x.sessions ≡ 0 → IsFirstEnd calls.tick l end
    → IsFirstEnd rules.tick (memory_in x.randoms x.sessions x.book l) end
is_first_alone x l end none station = by x.sessions none
  where
    by : (sessions : List CoordinatorSession) → length sessions ≡ 0 → IsFirstEnd rules.tick (memory_in x.randoms sessions x.book l) end
    by [] none = record {
      waits = λ time h. let waits = station.waits time h in λ i. record (memory_in x.randoms [] x.book l) { station = waits i };
      ends = λ time clock same. station.ends time clock (λ i. (same i).station);
    }
    by (s ∷ rest) none = absurd (cc)
