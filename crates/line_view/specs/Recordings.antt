-- A run, recorded while it is made: the world, and the record of what its events did.
use Rattle.std.specs.Prelude.{◌≡◌, ℕ, Bool, true, false, ◌+◌, ◌-◌, zero, suc, List, [], ◌∷◌, ◌++◌, length, Option, None, Some, if◌then◌else◌}
use Rattle.std.specs.Option.{option_and_then, option_map, unwrap_or}
use Rattle.std.specs.Str.{bytes_eq}
use Rattle.plc_base.specs.declared.address.Eui.{Eui}
use Rattle.plc_base.specs.declared.key.Key.{Key}
use Rattle.frame_facts.specs.Gists.{frame_target}
use Rattle.frame_facts.specs.declared.detail.FlightMore.{FlightMore}
use Rattle.frame_facts.specs.Details.{more_of}
use Rattle.frame_facts.specs.Payloads.{carried_of}
use Rattle.line_record.specs.Counters.{counters_with, flight_with}
use Rattle.sentence_parts.specs.Whos.{device_of}
use Rattle.line_events.specs.declared.event.Answer.{Answer}
use Rattle.line_events.specs.declared.event.Answer.TheVariants as answers
use Rattle.line_events.specs.declared.event.Event.{Event}
use Rattle.line_events.specs.declared.event.Event.TheVariants as events
use Rattle.line_events.specs.declared.happenings.Happenings.{Happenings}
use Rattle.line_script.specs.declared.report.Reason.{Reason}
use Rattle.line_record.specs.declared.recorded.RecordedEvent.{RecordedEvent}
use Rattle.line_record.specs.declared.recorded.RecordedFlight.{RecordedFlight}
use Rattle.line_record.specs.RunRecords.{recorded_event, recorded_flight}
use Rattle.line_rules.specs.Runs.{Entry}
use Rattle.line_rules.specs.Worlds.{Flight, World, flight_at, start}
use Rattle.script_runs.specs.TakenLines.{Taking, Skipped, Taken, Refused}

pub record Recording : Type 0 where
  -- the world after the last event
  pub world : World
  -- the events and the flights, by their numbers from 1
  pub events : List RecordedEvent
  pub flights : List RecordedFlight
  -- what the flights carry that no story goes by
  pub more : List FlightMore
  -- which flight was sealed with which counter
  pub counters : List ((ℕ × ℕ) × ℕ)
  -- the EUI-64 of each node, by its number from 0
  pub euis : List Eui

abbrev pub no_recording : Recording
no_recording = record { world = start; events = []; flights = []; more = []; counters = []; euis = [] }

-- # Flights

-- the octets of the flight of a number, if there is one, and what else is kept of it
abbrev pub octets_at : World → ℕ → Option (List ℕ)
octets_at w number = option_map (λ (f : Flight). f.octets) (flight_at w number)

abbrev pub sender_at : World → ℕ → ℕ
sender_at w number = unwrap_or (option_map (λ (f : Flight). f.from) (flight_at w number)) 0

abbrev pub note_at : World → ℕ → ℕ
note_at w number = unwrap_or (option_map (λ (f : Flight). f.note) (flight_at w number)) 0

abbrev pub key_at : World → ℕ → Option Key
key_at w number = option_and_then (λ (f : Flight). f.key) (flight_at w number)

abbrev pub with_payload : ℕ → ℕ → ℕ → List ℕ → Option (List ℕ) → Recording → Recording
with_payload number from note octets payload r =
    record r {
      flights = r.flights ++ (recorded_flight from note octets payload (device_of (frame_target octets) payload r.euis) ∷ []);
      more = r.more ++ (more_of octets payload ∷ []);
      counters = counters_with number (more_of octets payload) r.counters;
    }

abbrev pub with_octets : Option (List ℕ) → ℕ → ℕ → ℕ → Option Key → Recording → Recording
with_octets None number from note key r = r
with_octets (Some octets) number from note key r = with_payload number from note octets (carried_of octets key) r

-- with the flight of a number, if there is one
unfoldable pub flight_recorded : ℕ → Recording → Recording
flight_recorded number r =
    with_octets (octets_at r.world number) number (sender_at r.world number) (note_at r.world number) (key_at r.world number) r

-- with this many flights after the one of this number
abbrev pub flights_recorded : ℕ → ℕ → Recording → Recording
flights_recorded before zero r = r
flights_recorded before (suc n) r = flight_recorded (before + n + 1) (flights_recorded before n r)

-- # Events

-- the EUI-64 of a node that an event makes
abbrev pub made_eui : Event → Option Eui
made_eui (events.Coordinator eui key) = Some eui
made_eui (events.Meter eui psk) = Some eui
made_eui _ = None

abbrev pub with_eui : Option Eui → List Eui → List Eui
with_eui None euis = euis
with_eui (Some eui) euis = euis ++ (eui ∷ [])

-- whether an answer says that a group key is drawn, or may be: a write that fails may have left it
abbrev pub is_drawn : Answer → Bool
is_drawn answers.Drawn = true
is_drawn answers.Store = true
is_drawn _ = false

-- the number of a flight, where it has these octets; else 0
abbrev pub number_if : Option (List ℕ) → List ℕ → ℕ → ℕ
number_if None octets number = 0
number_if (Some flown) octets number = if bytes_eq flown octets then number else 0

-- the sealed flight that has some octets, among those that were recorded: the first of their sender with their counter; 0 where it has others, or
-- where they are no sealed frame
abbrev pub flight_of : List ℕ → FlightMore → Recording → ℕ
flight_of octets more r =
    if more.sealed then number_if (octets_at r.world (flight_with more.from more.counter r.counters)) octets (flight_with more.from more.counter r.counters)
    else 0

-- the flight whose octets an event injects, 0 where none has them
abbrev pub same_flight : Event → Recording → ℕ
same_flight (events.Inject node cost octets) r = flight_of octets (more_of octets None) r
same_flight _ r = 0

abbrev pub with_event : ℕ → Event → Happenings → Recording → Recording
with_event row event happenings r =
    record r {
      events = r.events ++ (recorded_event row event happenings r.world.clock (same_flight event r) ∷ []);
      euis = with_eui (made_eui event) r.euis;
    }

-- with an event that a line of this number asked for, which made the world what it is, and the flights after this many
unfoldable pub event_recorded : ℕ → Event → Happenings → ℕ → Recording → Recording
event_recorded row event happenings before r =
    flights_recorded before (length r.world.flights - before) (with_event row event happenings r)

abbrev pub in_world : World → Recording → Recording
in_world w r = record r { world = w }

-- what is told of an entry
abbrev pub event_of_entry : ℕ → Entry → Recording → RecordedEvent
event_of_entry row entry r =
    recorded_event row entry.event entry.trace.happenings entry.after.clock (same_flight entry.event (in_world entry.after r))

-- with an entry of a script
abbrev pub recording_after : ℕ → Entry → Recording → Recording
recording_after row entry r =
    event_recorded row entry.event entry.trace.happenings (length r.world.flights) (in_world entry.after r)

-- # Lines

-- an event was taken and recorded, or it was not, for a reason
abbrev pub Recorded : ℕ → Event → Recording → Recording → Taking → Option Reason → Type 0
Recorded row event old new Skipped reason = ⊥
Recorded row event old new (Taken entry) reason = (reason ≡ None) × ((entry.event ≡ event) × (new ≡ recording_after row entry old))
Recorded row event old new (Refused why) reason = (reason ≡ Some why) × (new ≡ old)
