-- Places of a walk stay in their ranges.
use Rattle.std.proofs.Common.{◌≤◌, ◌<◌, ◌^◌, ℕ, ◌+◌, arith}
use Rattle.line_record.specs.declared.act.Act.{Act}
use Rattle.line_record.specs.declared.act.Act.TheVariants as acts
use Rattle.line_record.specs.declared.recorded.RecordedEvent.{RecordedEvent}
use Rattle.line_capture.specs.declared.place.Place.{Place}
use Rattle.line_capture.specs.Places.{HasAct, IsAct, IsPlace, clock_after, injected_after, place_after, since_after, start, time_at}

pub clock_low : (act : Act) (clock : ℕ) → IsAct act → clock_after act clock ≤ clock + 86400
clock_low (acts.Coordinator eui) clock h = omega arith
clock_low (acts.Meter eui) clock h = omega arith
clock_low (acts.Depot node) clock h = omega arith
clock_low (acts.Near a b) clock h = omega arith
clock_low (acts.Counter node) clock h = omega arith
clock_low (acts.Number node) clock h = omega arith
clock_low (acts.Allow node) clock h = omega arith
clock_low (acts.RandomOctets node) clock h = omega arith
clock_low (acts.Join node agent) clock h = omega arith
clock_low (acts.Leave node) clock h = omega arith
clock_low (acts.Send from to octets) clock h = omega arith
clock_low (acts.Deliver flight node cost) clock h = omega arith
clock_low (acts.Inject node cost octets) clock h = omega arith
clock_low (acts.Lose flight) clock h = omega arith
clock_low (acts.Break node next) clock h = omega arith
clock_low (acts.Tick seconds) clock h = omega (arith, h.1)
clock_low (acts.Restart node) clock h = omega arith
clock_low (acts.Cut node nth keeps_new) clock h = omega arith
clock_low (acts.Rekey index) clock h = omega arith
clock_low (acts.Challenge node) clock h = omega arith
clock_low (acts.Activate node index) clock h = omega arith
clock_low (acts.Kick node) clock h = omega arith
clock_low (acts.Show node) clock h = omega arith
clock_low acts.Checks clock h = omega arith
clock_low (acts.Bcast node octets) clock h = omega arith
clock_low (acts.Scan node) clock h = omega arith
clock_low (acts.Choose node k) clock h = omega arith
clock_low (acts.Path from to) clock h = omega arith

pub since_low : (act : Act) (since : ℕ) → since_after act since ≤ since + 1
since_low (acts.Coordinator eui) since = omega arith
since_low (acts.Meter eui) since = omega arith
since_low (acts.Depot node) since = omega arith
since_low (acts.Near a b) since = omega arith
since_low (acts.Counter node) since = omega arith
since_low (acts.Number node) since = omega arith
since_low (acts.Allow node) since = omega arith
since_low (acts.RandomOctets node) since = omega arith
since_low (acts.Join node agent) since = omega arith
since_low (acts.Leave node) since = omega arith
since_low (acts.Send from to octets) since = omega arith
since_low (acts.Deliver flight node cost) since = omega arith
since_low (acts.Inject node cost octets) since = omega arith
since_low (acts.Lose flight) since = omega arith
since_low (acts.Break node next) since = omega arith
since_low (acts.Tick seconds) since = omega arith
since_low (acts.Restart node) since = omega arith
since_low (acts.Cut node nth keeps_new) since = omega arith
since_low (acts.Rekey index) since = omega arith
since_low (acts.Challenge node) since = omega arith
since_low (acts.Activate node index) since = omega arith
since_low (acts.Kick node) since = omega arith
since_low (acts.Show node) since = omega arith
since_low acts.Checks since = omega arith
since_low (acts.Bcast node octets) since = omega arith
since_low (acts.Scan node) since = omega arith
since_low (acts.Choose node k) since = omega arith
since_low (acts.Path from to) since = omega arith

pub injected_low : (act : Act) (injected : ℕ) → injected_after act injected ≤ injected + 1
injected_low (acts.Coordinator eui) injected = omega arith
injected_low (acts.Meter eui) injected = omega arith
injected_low (acts.Depot node) injected = omega arith
injected_low (acts.Near a b) injected = omega arith
injected_low (acts.Counter node) injected = omega arith
injected_low (acts.Number node) injected = omega arith
injected_low (acts.Allow node) injected = omega arith
injected_low (acts.RandomOctets node) injected = omega arith
injected_low (acts.Join node agent) injected = omega arith
injected_low (acts.Leave node) injected = omega arith
injected_low (acts.Send from to octets) injected = omega arith
injected_low (acts.Deliver flight node cost) injected = omega arith
injected_low (acts.Inject node cost octets) injected = omega arith
injected_low (acts.Lose flight) injected = omega arith
injected_low (acts.Break node next) injected = omega arith
injected_low (acts.Tick seconds) injected = omega arith
injected_low (acts.Restart node) injected = omega arith
injected_low (acts.Cut node nth keeps_new) injected = omega arith
injected_low (acts.Rekey index) injected = omega arith
injected_low (acts.Challenge node) injected = omega arith
injected_low (acts.Activate node index) injected = omega arith
injected_low (acts.Kick node) injected = omega arith
injected_low (acts.Show node) injected = omega arith
injected_low acts.Checks injected = omega arith
injected_low (acts.Bcast node octets) injected = omega arith
injected_low (acts.Scan node) injected = omega arith
injected_low (acts.Choose node k) injected = omega arith
injected_low (acts.Path from to) injected = omega arith

pub start_is : IsPlace start
start_is =
    record {
      begun = omega arith;
      number = omega arith;
      clock = omega arith;
      since = omega arith;
      flight = omega arith;
      injected = omega arith;
    }

pub after_is : (e : RecordedEvent) (p : Place) → IsPlace p → HasAct e → p.number ≤ 50000 → e.flights < 256 → IsPlace (place_after e p)
after_is e p h a n f =
    let c = clock_low e.act p.clock a in
    let s = since_low e.act p.since in
    let i = injected_low e.act p.injected in
    record {
      begun = omega arith;
      number = omega (arith, n);
      clock = omega (arith, h.clock, c);
      since = omega (arith, h.since, s);
      flight = omega (arith, h.flight, f);
      injected = omega (arith, h.injected, i);
    }

pub time_low : (p : Place) (act : Act) → IsPlace p → IsAct act → time_at p act < 2 ^ 63
time_low p act h a =
    let c = clock_low act p.clock a in
    let s = since_low act p.since in
    omega (arith, h.clock, h.since, h.number, c, s)
