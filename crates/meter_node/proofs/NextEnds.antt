-- Before the first end a tick of a meter changes nothing, and from then on something.
use Rattle.std.proofs.Common.{◌≡◌, ℕ, ◌+◌, Bool, true, false, cond, Option, Some, None, refl, arith}
use Rattle.std.specs.Prelude.{unwrap_or, nat_lt}
use Rattle.std.proofs.lemmas.Bool.{cond-true, lt-ltb, ltb-true}
use Rattle.plc_base.proofs.EarlierEnds.{earlier}
use Rattle.plc_base.specs.Times.{earlier_end}
use Rattle.node_rules.specs.declared.session_time.TheConstants.{SESSION_TIME}
use Rattle.node_rules.specs.Calls as calls
use Rattle.node_rules.specs.Memory.{StationMemory, MeterSession}
use Rattle.node_rules.specs.Meters as meters
use Rattle.plc_station.specs.NextEnds.{IsFirstEnd, last_second}
use Rattle.plc_station.proofs.NextEnds.{before_end, end_after}
use Rattle.meter_node.specs.Ends.{IsSooner}
use Rattle.meter_node.specs.MeterStates.{MeterState, memory_with}

-- a session that is kept is within its time
kept_young : (young : Bool) (s : MeterSession) → cond young (Some s) None ≡ Some s → young ≡ true
kept_young true s h = refl
kept_young false s h = absurd (cc)

pub sooner : (given : ℕ) (end : Option ℕ) (s : MeterSession) → given ≡ unwrap_or end last_second
    → IsSooner end (Some s) (Some (earlier_end SESSION_TIME given s.since))
sooner given end s is =
    let least = earlier given (s.since + SESSION_TIME) in
    record {
      before = λ time h. before_end time end (omega (arith, h, least.0, is));
      lasts = λ time h. cond-true _ _ _ (lt-ltb time (s.since + SESSION_TIME) (omega (arith, h, least.1)));
      ends = λ time clock h same.
          let young = ltb-true time (s.since + SESSION_TIME) (kept_young (nat_lt time (s.since + SESSION_TIME)) s same) in
          let first = end_after time end h in
          omega (arith, young, first, is);
    }

pub is_first : (x : MeterState) (l : StationMemory) (end first : Option ℕ) → IsSooner end x.session first → IsFirstEnd calls.tick l end
    → IsFirstEnd meters.tick (memory_with x l) first
is_first x l end first least station = record {
  waits = λ time h. let a = station.waits time (least.before time h) in
      let b = least.lasts time h in
      λ i. record (memory_with x l) { station = a i; session = b i };
  ends = λ time clock same. least.ends time clock (station.ends time clock (λ i. (same i).station)) (λ i. (same i).session);
}
