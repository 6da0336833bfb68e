-- Before the first end a tick changes nothing, and from then on something.
use Rattle.std.proofs.Common.{◌≡◌, ℕ, ◌<◌, Bool, true, false, Option, Some, None, refl, sym, arith}
use Rattle.std.specs.Prelude.{◌==◌, if◌then◌else◌, min, unwrap_or}
use Rattle.std.proofs.lemmas.Bool.{eqb-true}
use Rattle.plc_base.proofs.EarlierEnds.{earlier}
use Rattle.fragment_buffers.specs.PieceIntake.{unexpired}
use Rattle.fragment_buffers.specs.WaitingBodies.{still_waiting}
use Rattle.routing_set.specs.RoutingSet.{expired}
use Rattle.station_queues.specs.Bodies.{Held}
use Rattle.node_rules.specs.Calls as calls
use Rattle.node_rules.specs.Memory.{StationMemory}
use Rattle.plc_station.specs.NextEnds.{IsBefore, IsFirstEnd, end_given, last_second}

-- an end that may be none is the last second of the clock where it is
pub before_end : (time : ℕ) (end : Option ℕ) → time < unwrap_or end last_second → IsBefore time end
before_end time None h = h
before_end time (Some end) h = h

pub end_after : (time : ℕ) (end : Option ℕ) → IsBefore time end → time < unwrap_or end last_second
end_after time None h = h
end_after time (Some end) h = h

before : (time end : ℕ) → IsBefore time (end_given end) → time < end
before time end h = by (end == last_second) refl h
  where
    by : (last : Bool) → (end == last_second) ≡ last → IsBefore time (if last then None else Some end) → time < end
    by true e h = let is : end ≡ last_second = eqb-true _ _ e in rw is h
    by false e h = h

after : (time end : ℕ) → time < last_second → time < end → IsBefore time (end_given end)
after time end clock h = by (end == last_second)
  where
    by : (last : Bool) → IsBefore time (if last then None else Some end)
    by true = clock
    by false = h

-- what a station holds of bodies, as a tick leaves it
abbrev Stays : StationMemory → ℕ → Type 0
Stays l time =
    ◌≡◌ {A = Held} (record { reassemblies = l.reassemblies; waiting = l.waiting })
    (record { reassemblies = unexpired l.reassemblies time; waiting = still_waiting time l.waiting })

stays : (l : StationMemory) (time routes bodies : ℕ) → time < min routes bodies → (time < routes → expired l.routing time ≡ l.routing)
    → (time < bodies → Stays l time)
    → calls.tick time l ≡ l
stays l time routes bodies first routing held =
    let least = earlier routes bodies in
    let a = routing (omega (arith, first, least.0)) in let b = held (omega (arith, first, least.1)) in
    λ i. record l { routing = a i; reassemblies = (sym b i).reassemblies; waiting = (sym b i).waiting }

pub is_first : (l : StationMemory) (routes bodies : ℕ) → ((time : ℕ) → time < routes → expired l.routing time ≡ l.routing)
    → ((time : ℕ) → time < last_second → expired l.routing time ≡ l.routing → time < routes)
    → ((time : ℕ) → time < bodies → Stays l time)
    → ((time : ℕ) → time < last_second → Stays l time → time < bodies)
    → IsFirstEnd calls.tick l (end_given (min routes bodies))
is_first l routes bodies kept left held freed = record {
  waits = λ time h. stays l time routes bodies (before time (min routes bodies) h) (kept time) (held time);
  ends = λ time clock same.
      let by_routes = left time clock (λ i. (same i).routing) in
      let by_bodies = freed time clock (λ i. record { reassemblies = (sym same i).reassemblies; waiting = (sym same i).waiting }) in
      after time (min routes bodies) clock (omega (arith, by_routes, by_bodies));
}
