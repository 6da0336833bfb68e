-- What time ends, and what it does to each node of a line.
use Rattle.std.proofs.Common.{◌≡◌, ℕ, zero, suc, ◌+◌, Bool, true, false, List, [], ◌∷◌, map, Option, Some, None, Ok, Err}
use Rattle.std.proofs.Common.{refl, sym, ap, ◌∙◌}
use Rattle.std.specs.Prelude.{if◌then◌else◌, slice_get}
use Rattle.std.specs.Option.{option_map, option_and_then}
use Rattle.std.proofs.lemmas.Option.{same_Some}
use Rattle.fragment_buffers.specs.Reassembly.{Reassembly}
use Rattle.fragment_buffers.specs.PieceIntake.{unexpired}
use Rattle.fragment_buffers.specs.declared.times.TheConstants.{REASSEMBLY_TIME, WAITING_TIME}
use Rattle.node_rules.specs.Calls as calls
use Rattle.node_rules.specs.Calls.{is_within}
use Rattle.node_rules.specs.Memory.{StationMemory, Memory, Body, Node, Role, Coordinator, Meter}
use Rattle.reach_rules.specs.ReachingNodes.{tick_beside}
use Rattle.line_events.specs.declared.event.Answer.TheVariants as answers
use Rattle.line_events.specs.declared.event.StepFault.TheVariants as faults
use Rattle.line_rules.specs.Further.{ticks, after_ok}
use Rattle.line_rules.specs.Steps as steps
use Rattle.line_rules.specs.Steps.{Step, happenings, has_begun, running_world, trace_of}
use Rattle.line_rules.specs.Steps.{ticked}
use Rattle.line_rules.specs.Worlds.{World, Trace}
use Rattle.line_progress.specs.TimeFates.{TicksHaveFates, TimeComesToAll}
use Rattle.line_progress.specs.Stations.{station_at}
use Rattle.line_progress.proofs.BodyFates.{kept_in}

-- an event has one outcome
outcome_is : (s : Step) (p r : World × Trace) → s ≡ Ok p → s ≡ Ok r → p ≡ r
outcome_is s p r e f = cc

got_mapped : {A B : Type 0} (f : A → B) (xs : List A) (k : ℕ) → slice_get (map f xs) k ≡ option_map f (slice_get xs k)
got_mapped f [] k = refl
got_mapped f (x ∷ xs) zero = refl
got_mapped f (x ∷ xs) (suc k) = got_mapped f xs k

station_ticked : (now : ℕ) (x : Node) (l : StationMemory) → option_map (λ (m : Memory). m.station) x.memory ≡ Some l
    → option_map (λ (m : Memory). m.station) (ticked now x).memory ≡ Some (calls.tick now l)
station_ticked now x l e = by_role x.role refl
  where
    of_memory : (role : Role) (o : Option Memory) → option_map (λ (m : Memory). m.station) o ≡ Some l
        → option_map (λ (m : Memory). m.station) (ticked now (record x { role = role; memory = o })).memory ≡ Some (calls.tick now l)
    of_memory role None e = absurd (cc)
    of_memory Coordinator (Some m) e = ap (λ (s : StationMemory). Some (calls.tick now s)) (same_Some _ _ e)
    of_memory (Meter psk) (Some m) e = ap (λ (s : StationMemory). Some (calls.tick now s)) (same_Some _ _ e)

    by_role : (role : Role) → x.role ≡ role → option_map (λ (m : Memory). m.station) (ticked now x).memory ≡ Some (calls.tick now l)
    by_role role is = of_memory x.role x.memory e

at_nodes : (now number : ℕ) (nodes : List Node) (l : StationMemory)
    → option_and_then (λ (x : Node). option_map (λ (m : Memory). m.station) x.memory) (slice_get nodes number) ≡ Some l
    → option_and_then (λ (x : Node). option_map (λ (m : Memory). m.station) x.memory) (slice_get (map (ticked now) nodes) number)
    ≡ Some (calls.tick now l)
at_nodes now number nodes l e =
    ap (λ (o : Option Node). option_and_then (λ (x : Node). option_map (λ (m : Memory). m.station) x.memory) o) (got_mapped (ticked now) nodes number)
    ∙ by_node (slice_get nodes number) e
  where
    by_node : (o : Option Node) → option_and_then (λ (x : Node). option_map (λ (m : Memory). m.station) x.memory) o ≡ Some l
        → option_and_then (λ (x : Node). option_map (λ (m : Memory). m.station) x.memory) (option_map (ticked now) o) ≡ Some (calls.tick now l)
    by_node None e = absurd (cc)
    by_node (Some x) e = station_ticked now x l e

pub time_comes : TimeComesToAll
unfolding ticks steps.tick
time_comes ciphers w v seconds d e number l there = by_begun (has_begun w) e
  where
    by_begun : (b : Bool)
        → after_ok (λ r. (record r.0 { beside = map (tick_beside (w.clock + seconds)) w.beside }, r.1))
        (if b then Ok (
          record (running_world w) { clock = w.clock + seconds; nodes = map (ticked (w.clock + seconds)) w.nodes },
          trace_of (happenings w answers.Ticked),
        ) else Err faults.Setup)
        ≡ Ok (v, d)
        → station_at v number ≡ Some (calls.tick (w.clock + seconds) l)
    by_begun true e =
        let made : World × Trace = (
          record (running_world w) {
            clock = w.clock + seconds;
            nodes = map (ticked (w.clock + seconds)) w.nodes;
            beside = map (tick_beside (w.clock + seconds)) w.beside;
          },
          trace_of (happenings w answers.Ticked),
        ) in
        ap (λ (r : World × Trace). station_at r.0 number) (outcome_is (Ok (v, d)) (v, d) made refl (sym e))
        ∙ at_nodes (w.clock + seconds) number w.nodes l there
    by_begun false e = absurd (cc)

-- # What ends

pub tick_fates : TicksHaveFates
unfolding unexpired
tick_fates l now = record {
  bodies = λ b among young. kept_in (λ (c : Body). is_within WAITING_TIME now c.since) b l.waiting among young;
  pieces = λ r among young. kept_in (λ (s : Reassembly). is_within REASSEMBLY_TIME now s.since) r l.reassemblies among young;
}
