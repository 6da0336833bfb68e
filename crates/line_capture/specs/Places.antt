-- Where a walk over the events of a run is, and the time of what happens there.
use Rattle.std.specs.Prelude.{ℕ, ◌+◌, ◌*◌, ◌<◌, ◌≤◌, List, length, All, ⊤}
use Rattle.line_record.specs.declared.act.Act.{Act}
use Rattle.line_record.specs.declared.act.Act.TheVariants as acts
use Rattle.line_record.specs.declared.recorded.RecordedEvent.{RecordedEvent}
use Rattle.line_capture.specs.declared.place.Place.{Place}

-- # Walks

-- the clock after an event, in seconds
abbrev pub clock_after : Act → ℕ → ℕ
clock_after (acts.Tick seconds) clock = clock + seconds
clock_after _ clock = clock

-- how many events came since the clock moved
abbrev pub since_after : Act → ℕ → ℕ
since_after (acts.Tick seconds) since = 0
since_after _ since = since + 1

-- how many events brought octets that no node sent
abbrev pub injected_after : Act → ℕ → ℕ
injected_after (acts.Inject node cost octets) injected = injected + 1
injected_after _ injected = injected

-- at the first event
abbrev pub start : Place
start = record { number = 1; clock = 0; since = 0; flight = 1; injected = 0 }

abbrev pub place_after : RecordedEvent → Place → Place
place_after e p =
    record {
      number = p.number + 1;
      clock = clock_after e.act p.clock;
      since = since_after e.act p.since;
      flight = p.flight + e.flights;
      injected = injected_after e.act p.injected;
    }

-- the time of an event in nanoseconds: the clock after it, and a thousand for each event since the clock moved, this one among them
abbrev pub time_at : Place → Act → ℕ
time_at p act = clock_after act p.clock * 1000000000 + since_after act p.since * 1000

-- # Ranges

-- a tick moves the clock on, by a day at most
abbrev pub IsAct : Act → Type 0
IsAct (acts.Tick seconds) = (1 ≤ seconds) × (seconds ≤ 86400)
IsAct _ = ⊤

abbrev pub HasAct : RecordedEvent → Type 0
HasAct e = IsAct e.act

-- what a run has: at most 50,000 events, with ticks of a day at most
pub record AreEvents (events : List RecordedEvent) : Type 0 where
  pub count : length events ≤ 50000
  pub acts : All HasAct events

-- a place of such a run
pub record IsPlace (p : Place) : Type 0 where
  pub begun : 1 ≤ p.number
  pub number : p.number ≤ 50001
  pub clock : p.clock + 86400 ≤ 86400 * p.number
  pub since : p.since < p.number
  pub flight : p.flight ≤ 1 + 256 * p.number
  pub injected : p.injected < p.number
