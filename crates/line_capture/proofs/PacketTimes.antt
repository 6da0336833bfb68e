-- The times of packets rise.
use Rattle.std.proofs.Common.{◌≡◌, ◌≤◌, ◌<◌, ℕ, zero, suc, Bool, true, false, ◌+◌, ◌*◌, List, [], ◌∷◌, ◌++◌, length, Option, None, Some, refl, sym}
use Rattle.std.proofs.Common.{ap, subst, arith}
use Rattle.std.specs.Prelude.{All}
use Rattle.std.proofs.lemmas.List.Elements.{All-head, All-tail}
use Rattle.pcapng.specs.Blocks.{Block, Section, Interface, Packet}
use Rattle.line_record.specs.declared.act.Act.{Act}
use Rattle.line_record.specs.declared.act.Act.TheVariants as acts
use Rattle.line_record.specs.declared.recorded.RecordedEvent.{RecordedEvent}
use Rattle.line_capture.specs.declared.place.Place.{Place}
use Rattle.line_capture.specs.FateValues.{FateValue}
use Rattle.line_capture.specs.Fates.{fates_of}
use Rattle.line_capture.specs.Captures.{Run, event_packets, flights_packets, flown_packets, heard_packets, packets, packets_from, where_some}
use Rattle.line_capture.specs.Captures.{delivered_notes, flown_notes, heard_packet, injected_notes, sent_packet}
use Rattle.line_record.specs.declared.recorded.RecordedFlight.{RecordedFlight}
use Rattle.line_record.specs.RunRecords.{numbered}
use Rattle.line_capture.specs.Places.{HasAct, IsAct, IsPlace, clock_after, place_after, since_after, start, time_at}
use Rattle.line_capture.specs.Laws.{HasCount, Rise, RiseFrom, TimesRise, times_of}
use Rattle.line_capture.proofs.Walks.{after_is, start_is}

-- times that rise from one bound to another
abbrev Within : ℕ → ℕ → List ℕ → Type 0
Within from to [] = from ≤ to
Within from to (time ∷ times) = (from < time) × Within time to times

times_append : (a b : List Block) → times_of (a ++ b) ≡ times_of a ++ times_of b
times_append [] b = refl
times_append (Packet interface time octets options ∷ a) b = ap (λ (t : List ℕ). time ∷ t) (times_append a b)
times_append (Section options ∷ a) b = times_append a b
times_append (Interface link options ∷ a) b = times_append a b

within_lower : (lower from to : ℕ) (a : List ℕ) → lower ≤ from → Within from to a → Within lower to a
within_lower lower from to [] l h = omega (arith, l, h)
within_lower lower from to (time ∷ a) l h = let k = h.0 in (omega (arith, l, k), h.1)

within_then : (from middle to : ℕ) (a b : List ℕ) → Within from middle a → Within middle to b → Within from to (a ++ b)
within_then from middle to [] b h k = within_lower from middle to b h k
within_then from middle to (time ∷ a) b h k = (h.0, within_then time middle to a b h.1 k)

rise_lower : (lower from : ℕ) (a : List ℕ) → lower ≤ from → RiseFrom from a → RiseFrom lower a
rise_lower lower from [] l h = tt
rise_lower lower from (time ∷ a) l h = let k = h.0 in (omega (arith, l, k), h.1)

rise_then : (from middle : ℕ) (a b : List ℕ) → Within from middle a → RiseFrom middle b → RiseFrom from (a ++ b)
rise_then from middle [] b h k = rise_lower from middle b h k
rise_then from middle (time ∷ a) b h k = (h.0, rise_then time middle a b h.1 k)

within_some : {A : Type 0} (from to : ℕ) (o : Option A) (blocks : A → List Block) → from ≤ to → ((x : A) → Within from to (times_of (blocks x)))
    → Within from to (times_of (where_some o blocks))
within_some from to None blocks l h = l
within_some from to (Some x) blocks l h = h x

-- # An event

heard_within : (tap : Bool) (run : Run) (p : Place) (e : RecordedEvent) (act : Act) (from : ℕ) → from < time_at p e.act
    → Within from (time_at p e.act) (times_of (heard_packets tap run p e act))
heard_within tap run p e (acts.Coordinator eui) from l = omega (arith, l)
heard_within tap run p e (acts.Meter eui) from l = omega (arith, l)
heard_within tap run p e (acts.Depot node) from l = omega (arith, l)
heard_within tap run p e (acts.Near a b) from l = omega (arith, l)
heard_within tap run p e (acts.Counter node) from l = omega (arith, l)
heard_within tap run p e (acts.Number node) from l = omega (arith, l)
heard_within tap run p e (acts.Allow node) from l = omega (arith, l)
heard_within tap run p e (acts.RandomOctets node) from l = omega (arith, l)
heard_within tap run p e (acts.Join node agent) from l = omega (arith, l)
heard_within tap run p e (acts.Leave node) from l = omega (arith, l)
heard_within tap run p e (acts.Send sender target octets) from l = omega (arith, l)
heard_within false run p e (acts.Deliver flight node cost) from l = omega (arith, l)
heard_within true run p e (acts.Deliver flight node cost) from l =
    within_some from (time_at p e.act) (numbered run.flights flight)
    (λ recorded. where_some (numbered run.octets flight) (λ octets.
    heard_packet true node (time_at p e.act) octets cost (delivered_notes p.number e flight recorded.from cost) ∷ [])) (omega (arith, l))
    (λ recorded. within_some from (time_at p e.act) (numbered run.octets flight)
    (λ octets. heard_packet true node (time_at p e.act) octets cost (delivered_notes p.number e flight recorded.from cost) ∷ [])
    (omega (arith, l)) (λ y. (l, omega arith)))
heard_within tap run p e (acts.Inject node cost octets) from l =
    within_some from (time_at p e.act) (numbered run.injected (p.injected + 1))
    (λ frame. heard_packet tap node (time_at p e.act) frame cost (injected_notes p.number e cost) ∷ []) (omega (arith, l)) (λ x. (l, omega arith))
heard_within tap run p e (acts.Lose flight) from l = omega (arith, l)
heard_within tap run p e (acts.Break node next) from l = omega (arith, l)
heard_within tap run p e (acts.Tick seconds) from l = omega (arith, l)
heard_within tap run p e (acts.Restart node) from l = omega (arith, l)
heard_within tap run p e (acts.Cut node nth keeps_new) from l = omega (arith, l)
heard_within tap run p e (acts.Rekey index) from l = omega (arith, l)
heard_within tap run p e (acts.Challenge node) from l = omega (arith, l)
heard_within tap run p e (acts.Activate node index) from l = omega (arith, l)
heard_within tap run p e (acts.Kick node) from l = omega (arith, l)
heard_within tap run p e (acts.Show node) from l = omega (arith, l)
heard_within tap run p e acts.Checks from l = omega (arith, l)
heard_within tap run p e (acts.Bcast node octets) from l = omega (arith, l)
heard_within tap run p e (acts.Scan node) from l = omega (arith, l)
heard_within tap run p e (acts.Choose node k) from l = omega (arith, l)
heard_within tap run p e (acts.Path asker target) from l = omega (arith, l)

flown_within : (tap : Bool) (run : Run) (fates : List FateValue) (p : Place) (e : RecordedEvent) (nth from to : ℕ)
    → from ≤ time_at p e.act + nth → time_at p e.act + nth + 1 ≤ to
    → Within from to (times_of (flown_packets tap run fates p e nth))
flown_within tap run fates p e nth from to l u =
    let k : ℕ = p.flight + nth in
    let sent : RecordedFlight → List ℕ → FateValue → List Block = λ recorded octets fate.
    sent_packet tap recorded.from (time_at p e.act + 1 + nth) octets (flown_notes p.number e k recorded.note fate) ∷ [] in
    within_some from to (numbered run.flights k)
    (λ (recorded : RecordedFlight). where_some (numbered run.octets k) (λ (octets : List ℕ). where_some (numbered fates k) (sent recorded octets)))
    (omega (arith, l, u)) (λ (recorded : RecordedFlight). within_some from to (numbered run.octets k)
    (λ (octets : List ℕ). where_some (numbered fates k) (sent recorded octets)) (omega (arith, l, u))
    (λ (octets : List ℕ). within_some from to (numbered fates k) (sent recorded octets) (omega (arith, l, u))
    (λ (fate : FateValue). (omega (arith, l), omega (arith, u)))))

flights_within : (tap : Bool) (run : Run) (fates : List FateValue) (p : Place) (e : RecordedEvent) (nth left from to : ℕ)
    → from ≤ time_at p e.act + nth → time_at p e.act + nth + left ≤ to
    → Within from to (times_of (flights_packets tap run fates p e nth left))
flights_within tap run fates p e nth zero from to l u = omega (arith, l, u)
flights_within tap run fates p e nth (suc left) from to l u =
    let middle : ℕ = time_at p e.act + nth + 1 in
    subst (λ (t : List ℕ). Within from to t) (sym (times_append (flown_packets tap run fates p e nth) (flights_packets tap run fates p e (nth + 1) left)))
    (within_then from middle to (times_of (flown_packets tap run fates p e nth)) (times_of (flights_packets tap run fates p e (nth + 1) left))
    (flown_within tap run fates p e nth from middle l (omega arith))
    (flights_within tap run fates p e (nth + 1) left middle to (omega arith) (omega (arith, u))))

event_within : (tap : Bool) (run : Run) (fates : List FateValue) (p : Place) (e : RecordedEvent) (from : ℕ) → from < time_at p e.act
    → Within from (time_at p e.act + e.flights) (times_of (event_packets tap run fates p e))
event_within tap run fates p e from l =
    subst (λ (t : List ℕ). Within from (time_at p e.act + e.flights) t)
    (sym (times_append (heard_packets tap run p e e.act) (flights_packets tap run fates p e 0 e.flights)))
    (within_then from (time_at p e.act) (time_at p e.act + e.flights) (times_of (heard_packets tap run p e e.act))
    (times_of (flights_packets tap run fates p e 0 e.flights)) (heard_within tap run p e e.act from l)
    (flights_within tap run fates p e 0 e.flights (time_at p e.act) (time_at p e.act + e.flights) (omega arith) (omega arith)))

-- # A run

-- what is above all packets before a place
abbrev before : Place → ℕ
before p = p.clock * 1000000000 + p.since * 1000 + 999

later : (act : Act) (clock since : ℕ) → IsAct act → since ≤ 50000
    → clock * 1000000000 + since * 1000 + 999 < clock_after act clock * 1000000000 + since_after act since * 1000
later (acts.Coordinator eui) clock since h s = omega arith
later (acts.Meter eui) clock since h s = omega arith
later (acts.Depot node) clock since h s = omega arith
later (acts.Near a b) clock since h s = omega arith
later (acts.Counter node) clock since h s = omega arith
later (acts.Number node) clock since h s = omega arith
later (acts.Allow node) clock since h s = omega arith
later (acts.RandomOctets node) clock since h s = omega arith
later (acts.Join node agent) clock since h s = omega arith
later (acts.Leave node) clock since h s = omega arith
later (acts.Send from to octets) clock since h s = omega arith
later (acts.Deliver flight node cost) clock since h s = omega arith
later (acts.Inject node cost octets) clock since h s = omega arith
later (acts.Lose flight) clock since h s = omega arith
later (acts.Break node next) clock since h s = omega arith
later (acts.Tick seconds) clock since h s = omega (arith, h.0, s)
later (acts.Restart node) clock since h s = omega arith
later (acts.Cut node nth keeps_new) clock since h s = omega arith
later (acts.Rekey index) clock since h s = omega arith
later (acts.Challenge node) clock since h s = omega arith
later (acts.Activate node index) clock since h s = omega arith
later (acts.Kick node) clock since h s = omega arith
later (acts.Show node) clock since h s = omega arith
later acts.Checks clock since h s = omega arith
later (acts.Bcast node octets) clock since h s = omega arith
later (acts.Scan node) clock since h s = omega arith
later (acts.Choose node k) clock since h s = omega arith
later (acts.Path from to) clock since h s = omega arith

events_rise : (tap : Bool) (run : Run) (fates : List FateValue) (p : Place) (es : List RecordedEvent) (from : ℕ) → IsPlace p → length es + p.number ≤ 50001
    → All HasAct es → All HasCount es → from ≤ before p → RiseFrom from (times_of (packets_from tap run fates p es))
events_rise tap run fates p [] from h n a c l = tt
events_rise tap run fates p (e ∷ es) from h n a c l =
    let now = All-head HasAct e es a in
    let t = later e.act p.clock p.since now (omega (arith, h.since, n)) in
    let f = All-head HasCount e es c in
    subst (λ (t : List ℕ). RiseFrom from t) (sym (times_append (event_packets tap run fates p e) (packets_from tap run fates (place_after e p) es)))
    (rise_then from (time_at p e.act + e.flights) (times_of (event_packets tap run fates p e)) (times_of (packets_from tap run fates (place_after e p) es))
    (event_within tap run fates p e from (omega (arith, t, l)))
    (events_rise tap run fates (place_after e p) es (time_at p e.act + e.flights) (after_is e p h now (omega (arith, n)) f) (omega (arith, n))
    (All-tail HasAct e es a) (All-tail HasCount e es c) (omega (arith, f))))

rise_of : (from : ℕ) (a : List ℕ) → RiseFrom from a → Rise a
rise_of from [] h = tt
rise_of from (time ∷ a) h = h.1

pub times_rise_is : TimesRise
times_rise_is tap run h c =
    let n = h.count in
    rise_of 0 (times_of (packets tap run))
    (events_rise tap run (fates_of (length run.flights) run.events) start run.events 0 start_is (omega (arith, n)) h.acts c
    (omega arith))
