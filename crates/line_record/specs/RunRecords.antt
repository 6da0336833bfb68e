-- The record of a run: each event with the line that asked for it and how it ended, and each flight with whom it is for and what it is about.
use Rattle.std.specs.Prelude.{ℕ, ◌-◌, ◌==◌, List, take, drop, slice_get, Option, None, Some, if◌then◌else◌}
use Rattle.frame_facts.specs.declared.gist.Gist.{Gist}
use Rattle.frame_facts.specs.declared.gist.Gist.TheVariants as gists
use Rattle.frame_facts.specs.declared.kind.PayloadKind.{PayloadKind}
use Rattle.frame_facts.specs.declared.kind.PayloadKind.TheVariants as kinds
use Rattle.frame_facts.specs.Kinds.{payload_kind}
use Rattle.frame_facts.specs.Gists.{frame_target, payload_gist}
use Rattle.line_events.specs.declared.event.Event.{Event}
use Rattle.line_events.specs.declared.happenings.Admission.{Admission}
use Rattle.line_events.specs.declared.happenings.Handed.{Handed}
use Rattle.line_events.specs.declared.happenings.Happenings.{Happenings}
use Rattle.line_record.specs.declared.recorded.RecordedEvent.{RecordedEvent}
use Rattle.line_record.specs.declared.recorded.RecordedFlight.{RecordedFlight}
use Rattle.line_record.specs.Acts.{act_of, flight_come}

-- # Events

-- the note of a datagram that was handed up
abbrev pub note_of : Option Handed → Option ℕ
note_of None = None
note_of (Some handed) = Some handed.note

-- the address of a meter that was allowed
abbrev pub address_of : Option Admission → Option ℕ
address_of None = None
address_of (Some admission) = Some admission.address

-- an event, by the number of its line, what happened, the clock after it, and the flight before it that has the octets which are injected, 0 where none has
abbrev pub recorded_event : ℕ → Event → Happenings → ℕ → ℕ → RecordedEvent
recorded_event line event happenings clock same =
    record {
      line = line;
      act = act_of event;
      came = flight_come (act_of event) same;
      answer = happenings.answer;
      forged = happenings.forged;
      clock = clock;
      up = note_of happenings.up;
      address = address_of happenings.grant;
      took = happenings.took;
      done = happenings.done;
      first_flight = happenings.first_flight;
      flights = happenings.flights;
    }

-- # Flights

-- the kind of a payload, where it is known
abbrev pub kind_of : Option (List ℕ) → PayloadKind
kind_of None = kinds.Unknown
kind_of (Some payload) = payload_kind payload

abbrev pub gist_of : Option (List ℕ) → Gist
gist_of None = gists.Unread
gist_of (Some payload) = payload_gist payload

-- a frame that flew, by its sender, its note, its octets, its payload where that is known, and the node with the EUI that it names
abbrev pub recorded_flight : ℕ → ℕ → List ℕ → Option (List ℕ) → Option ℕ → RecordedFlight
recorded_flight from note octets payload device =
    record { from = from; note = note; target = frame_target octets; kind = kind_of payload; gist = gist_of payload; device = device }

-- # By number

-- what stands in a list under a number from 1
abbrev pub numbered : {A : Type 0} → List A → ℕ → Option A
numbered xs number = if number == 0 then None else slice_get xs (number - 1)

-- # Events and their flights

-- of the flights, or of what is kept of each, the part of those that an event made
abbrev pub made_by : {A : Type 0} → RecordedEvent → List A → List A
made_by e xs = take e.flights (drop (e.first_flight - 1) xs)
