-- Laws of captures.
use Rattle.std.specs.Prelude.{◌≡◌, ℕ, ◌+◌, ◌<◌, Bool, false, List, [], ◌∷◌, All, length, ⊤}
use Rattle.pcapng.specs.Blocks.{Block, Packet}
use Rattle.line_record.specs.declared.act.Act.{Act}
use Rattle.line_record.specs.declared.act.Act.TheVariants as acts
use Rattle.line_record.specs.declared.recorded.RecordedEvent.{RecordedEvent}
use Rattle.line_record.specs.declared.recorded.RecordedFlight.{RecordedFlight}
use Rattle.line_capture.specs.Captures.{Run, packets}
use Rattle.line_capture.specs.Places.{AreEvents}

-- # What a packet says

-- the octets of each packet, and the interface that it passed
pub record Frame : Type 0 where
  pub interface : ℕ
  pub octets : List ℕ

abbrev pub frames_of : List Block → List Frame
frames_of [] = []
frames_of (Packet interface time octets options ∷ bs) = (record { interface = interface; octets = octets }) ∷ frames_of bs
frames_of (_ ∷ bs) = frames_of bs

abbrev pub times_of : List Block → List ℕ
times_of [] = []
times_of (Packet interface time octets options ∷ bs) = time ∷ times_of bs
times_of (_ ∷ bs) = times_of bs

-- # Flights

-- each flight at its sender
abbrev pub frames_flown : List RecordedFlight → List (List ℕ) → List Frame
frames_flown [] octets = []
frames_flown (recorded ∷ flights) [] = []
frames_flown (recorded ∷ flights) (frame ∷ octets) = (record { interface = recorded.from; octets = frame }) ∷ frames_flown flights octets

-- how many flights events have together
abbrev pub flights_of : List RecordedEvent → ℕ
flights_of [] = 0
flights_of (e ∷ es) = e.flights + flights_of es

abbrev pub IsNoInjection : Act → Type 0
IsNoInjection (acts.Inject node cost octets) = ⊥
IsNoInjection _ = ⊤

abbrev pub HasNoInjection : RecordedEvent → Type 0
HasNoInjection e = IsNoInjection e.act

-- a run whose flights are those that its events sent, and of each of which the octets are known
pub record IsWhole (run : Run) : Type 0 where
  pub octets : length run.octets ≡ length run.flights
  pub flights : flights_of run.events ≡ length run.flights

-- without what is heard, and where no octets came that no node sent, the packets are the flights 1, 2, .. in this order, each at its sender
abbrev pub FlightsAreCaptured : Type 0
FlightsAreCaptured =
    (run : Run) → IsWhole run → All HasNoInjection run.events
    → frames_of (packets false run) ≡ frames_flown run.flights run.octets

-- # Times

-- each is above all before it, and above this one
abbrev pub RiseFrom : ℕ → List ℕ → Type 0
RiseFrom time [] = ⊤
RiseFrom time (next ∷ times) = (time < next) × RiseFrom next times

abbrev pub Rise : List ℕ → Type 0
Rise [] = ⊤
Rise (time ∷ times) = RiseFrom time times

-- an event has fewer than 256 flights
abbrev pub HasCount : RecordedEvent → Type 0
HasCount e = e.flights < 256

-- the times of the packets rise
abbrev pub TimesRise : Type 0
TimesRise = (tap : Bool) (run : Run) → AreEvents run.events → All HasCount run.events → Rise (times_of (packets tap run))
