-- A plan that is made of words keeps the ranges, and sends letters in range; carried out or cut off.
use Rattle.std.proofs.Common.{◌≡◌, ℕ, ◌-◌, ◌≤◌, length, ⊎_elim, Option, Some, None, Result, refl, ap, arith}
use Rattle.std.specs.Prelude.{All, IfSome}
use Rattle.std.specs.Option.{option_map_or}
use Rattle.std.proofs.lemmas.List.Elements.{All-nil}
use Rattle.plc_base.specs.declared.address.Eui.{Eui}
use Rattle.plc_base.specs.declared.key.Key.{Key}
use Rattle.plc_base.specs.Grant.{Granted}
use Rattle.frame_counters.specs.SendCounter as counter
use Rattle.node_rules.specs.Ciphers.{Ciphers}
use Rattle.node_rules.specs.Memory.{Memory, Node}
use Rattle.node_rules.specs.Plans.{Plan, Outcome, carry_out, resting}
use Rattle.node_rules.specs.Drafts.{Draft, Ends, counters_left}
use Rattle.node_rules.specs.MemoryDrafts.{in_memory}
use Rattle.node_rules.specs.Laws.{IsWhole, IsCutOff}
use Rattle.node_rules.specs.NodeSteps.{NodeStep, acts, stays, left_by}
use Rattle.line_rules.specs.Steps.{flights_of}
use Rattle.node_rules.proofs.FailedWrites.{clean}
use Rattle.line_laws.specs.SealedUnits.{AreFlights}
use Rattle.line_laws.specs.Ranges.{IsStationRanged}
use Rattle.line_laws.proofs.Planned.{Planned, Refuses, Keeps, Ended}
use Rattle.line_laws.proofs.Made.{RingWord, Given}
use Rattle.line_laws.proofs.MadeIn.{MadeIn}
use Rattle.line_laws.proofs.StorePlans.{made_in_counter}
use Rattle.line_laws.proofs.RangeFold.{InRange}
use Rattle.line_laws.proofs.RangeFrames.{IsSent, made_in_ranged, frames_fit, flights_fit}

-- A plan leaves a line in its ranges, and its frames are letters in theirs, and plain ones.
pub record RangeOk {A : Type 0} (p : Plan Memory A) : Type 0 where
  pub station : IsStationRanged p.memory.station
  pub frames : All IsSent p.frames

module _ (W : RingWord → Type 0) (L : Granted → Type 0) (P : Eui → Key → Type 0) (E : Eui → Type 0) (g : Given) (known : InRange W g) (m : Memory)
    (first : IsStationRanged m.station) where
  counted_left : (d : Draft Memory) → MadeIn W L P E g m d → length d.units ≤ counters_left m.station
      → length d.units ≤ 4294967295 - d.memory.station.counter.next
  counted_left d made left = let same = ap (λ (c : counter.Counting). c.next) (made_in_counter W L P E g m d made) in omega arith

  pub plan_ranged : {H F : Type 0} (ends : Ends F) (K : Memory → H → Type 0) (D : Draft Memory → H → Type 0)
      → ((n : Memory) (answer : H) → K n answer → IsStationRanged n.station)
      → ((d : Draft Memory) (answer : H) → D d answer → MadeIn W L P E g m d) → (p : Plan Memory (Result H F)) → Planned in_memory ends m K D p → RangeOk p
  unfolding resting
  plan_ranged ends K D kept made p (Refuses reason) = record { station = first; frames = All-nil IsSent }
  plan_ranged ends K D kept made p (Keeps n answer k) = record { station = kept n answer k; frames = All-nil IsSent }
  plan_ranged ends K D kept made p (Ended d answer done left) =
      let x = made d answer done in
      let r = made_in_ranged W g known L P E m d x first in
      record {
        station = record { ring = r.station.ring; tag = r.station.tag; hops = r.station.hops; bodies = r.station.bodies; number = r.station.number };
        frames = frames_fit d r (counted_left d x left);
      }

-- What a node left and sent is in its ranges.
pub record DidRanged {A : Type 0} (d : NodeStep A) : Type 0 where
  pub station : IfSome d.node.memory (λ (m : Memory). IsStationRanged m.station)
  pub frames : All IsSent d.frames

outcome_ranged : {A : Type 0} (x : Node) (p : Plan Memory A) → RangeOk p
    → let o : Outcome Memory A = carry_out x.store.records x.store.cut p in IfSome o.memory (λ (m : Memory). IsStationRanged m.station) × All IsSent o.frames
outcome_ranged {A = A} x p ok = ⊎_elim whole cut_off (clean x.store.records x.store.cut p)
  where
    Goal : Type 0
    Goal =
        let o : Outcome Memory A = carry_out x.store.records x.store.cut p in IfSome o.memory (λ (m : Memory). IsStationRanged m.station) × All IsSent o.frames

    whole : IsWhole x.store.records x.store.cut p (carry_out x.store.records x.store.cut p) → Goal
    whole w = rw (w.memory, w.frames) (ok.station, ok.frames)

    cut_off : IsCutOff x.store.records x.store.cut p (carry_out x.store.records x.store.cut p) → Goal
    cut_off c = rw (c.memory, c.frames) (tt, All-nil IsSent)

pub acts_ranged : {A : Type 0} (x : Node) (halted : A) (plan : Memory → Plan Memory A) → IfSome x.memory (λ (m : Memory). IsStationRanged m.station)
    → ((m : Memory) → x.memory ≡ Some m → IsStationRanged m.station → RangeOk (plan m)) → DidRanged (acts x halted plan)
unfolding acts
acts_ranged {A = A} x halted plan ok f = by_memory x.memory refl ok
  where
    by_memory : (o : Option Memory) → x.memory ≡ o → IfSome o (λ (m : Memory). IsStationRanged m.station)
        → DidRanged (option_map_or (λ m. left_by x (carry_out x.store.records x.store.cut (plan m))) o (stays x halted))
    by_memory None e h = record { station = ok; frames = All-nil IsSent }
    by_memory (Some m) e h = let o = outcome_ranged x (plan m) (f m e h) in record { station = o.0; frames = o.1 }

-- the flights of a step are what flights are
pub did_flights : {A : Type 0} (ciphers : Ciphers) (number : ℕ) (d : NodeStep A) → DidRanged d → AreFlights ciphers (flights_of ciphers number d)
did_flights ciphers number d r = flights_fit ciphers number d r.frames
