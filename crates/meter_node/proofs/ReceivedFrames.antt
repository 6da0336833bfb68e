-- A frame that the station of a meter accepted, and that the meter heard.
use Rattle.std.proofs.Common.{◌≡◌, ℕ, Option, Some, None, Result, Ok, Err, refl, sym, ap, subst}
use Rattle.std.specs.Prelude.{IfSome, IfNone, IfOk, IsSome}
use Rattle.std.specs.Option.{option_map}
use Rattle.plc_base.specs.declared.out_frame.Out.{Out}
use Rattle.node_rules.specs.Accepted.{Accepted}
use Rattle.node_rules.specs.Acceptance.{accept}
use Rattle.node_rules.specs.declared.heard.MeterHeard.{MeterHeard}
use Rattle.node_rules.specs.declared.refusal.Dropped.{Dropped}
use Rattle.node_rules.specs.declared.refusal.FrameRefusal.{FrameRefusal}
use Rattle.node_rules.specs.declared.refusal.FrameRefusal.TheVariants.{Halted}
use Rattle.node_rules.specs.declared.refusal.Unheard.{Unheard}
use Rattle.node_rules.specs.CarriedPlans.{Carries, nothing}
use Rattle.node_rules.specs.Ciphers.{network}
use Rattle.node_rules.specs.Frames.{Arrived}
use Rattle.node_rules.specs.Memory.{StationMemory, Memory}
use Rattle.node_rules.specs.MemoryDrafts.{with_station}
use Rattle.node_rules.specs.Meters as meters
use Rattle.node_rules.specs.NodeSteps.{of_station}
use Rattle.node_rules.specs.Receives.{Receives, FollowsAccepting, heard_or_why, why_refused}
use Rattle.node_rules.specs.States.{State}
use Rattle.node_rules.proofs.ComposedPlans.{carries_within}
use Rattle.plc_station.proofs.CarriedPlans.{at_some}
use Rattle.meter_node.specs.MeterAnswers.{CameUp}
use Rattle.meter_node.specs.MeterStates.{MeterState, memory_with, node_of, identity_of}
use Rattle.meter_node.proofs.AcceptingRules.{accepted_came}
use Rattle.meter_node.proofs.Carried.{on_node}

-- a halted one stays as it is
pub halted_beside : (x : MeterState) (t : State StationMemory) (r : Result Accepted FrameRefusal) → IfNone x.station.memory ((r ≡ Err Halted) × (t ≡ x.station))
    → IfNone x.station.memory ((r ≡ Err Halted) × (record x { station = t } ≡ x))
halted_beside x t r = by x.station.memory
  where
    by : (o : Option StationMemory) → IfNone o ((r ≡ Err Halted) × (t ≡ x.station)) → IfNone o ((r ≡ Err Halted) × (record x { station = t } ≡ x))
    by None h = (h.0, ap (λ (s : State StationMemory). record x { station = s }) h.1)
    by (Some l) h = tt

-- what a station accepted can come to its meter
pub accepts_what_came : (s t : State StationMemory) (a : Option Arrived) (r : Result Accepted FrameRefusal) (out : Out)
    → IfNone s.memory ((r ≡ Err Halted) × (t ≡ s)) → IfSome s.memory (λ l. Carries s (accept l s.eui a) r out t)
    → IfOk r (λ got. IfSome t.memory (CameUp got.path))
accepts_what_came s t a (Ok got) out halted carries = accepted_came s t a got out halted carries
accepts_what_came s t a (Err reason) out halted carries = tt

runs_too : {L M : Type 0} (o : Option L) (f : L → M) → IsSome o → IsSome (option_map f o)
runs_too None f h = h
runs_too (Some l) f h = refl

module _ (x y z : MeterState) (a : Option Arrived) (cost note time : ℕ) (result : Result MeterHeard Unheard) (out : Out)
    (beside : y ≡ record x { station = y.station }) where
  abbrev hears : Accepted → Memory → meters.Hearing
  hears got k = meters.hear_meter (identity_of x) k got cost note time

  abbrev HasReceived : Type 0
  HasReceived = IfSome (node_of x).memory (λ m. Receives (of_station m (accept m.station x.station.eui a)) hears (node_of x) result out (node_of z))

  follows : (answer : Result Accepted FrameRefusal) → IfSome x.station.memory (λ l. Carries x.station (accept l x.station.eui a) answer nothing y.station)
      → (y.station.eui ≡ x.station.eui → FollowsAccepting hears answer (node_of y) result out (node_of z)) → HasReceived
  follows answer carries then = on_node x _ (λ l running.
      let c = at_some x.station.memory (λ k. Carries x.station (accept k x.station.eui a) answer nothing y.station) l running carries in
      record {
        answer = answer;
        mid = node_of y;
        accepted =
            subst (λ (s : State Memory). Carries (node_of x) (of_station (memory_with x l) (accept l x.station.eui a)) answer nothing s)
            (sym (ap node_of beside))
            (carries_within (λ k. with_station k (memory_with x l)) (λ (r : Result Accepted FrameRefusal). r) (node_of x) x.station y.station
            (accept l x.station.eui a) answer nothing refl refl c);
        follows = then (ap (λ (s : State StationMemory). s.eui) c.new_is);
      })

  pub heard : (got : Accepted) (answer : Result MeterHeard Dropped)
      → IfSome x.station.memory (λ l. Carries x.station (accept l x.station.eui a) (Ok got) nothing y.station)
      → IsSome y.station.memory → result ≡ heard_or_why answer
      → IfSome (node_of y).memory (λ m. Carries (node_of y) (meters.hear_meter (identity_of y) m got cost note time) answer out (node_of z))
      → HasReceived
  heard got answer carries running is then = follows (Ok got) carries (λ own. record {
    running = runs_too y.station.memory (memory_with y) running;
    heard = answer;
    result_is = is;
    carries =
        subst (λ (i : meters.Identity). IfSome (node_of y).memory (λ m. Carries (node_of y) (meters.hear_meter i m got cost note time) answer out (node_of z)))
        (λ i. record { eui = own i; psk = (beside i).psk; ciphers = network }) then;
  })

  pub refused : (reason : FrameRefusal) → IfSome x.station.memory (λ l. Carries x.station (accept l x.station.eui a) (Err reason) nothing y.station)
      → result ≡ Err (why_refused reason) → out ≡ nothing → z ≡ y → HasReceived
  refused reason carries is empty same = follows (Err reason) carries (λ own. (is, empty, ap node_of same))
