-- What a capture of a run holds: the blocks of `pcapng`, as a function of what was recorded of the run.
use Rattle.std.specs.Prelude.{◌≡◌, ◌≤◌, All, ℕ, ◌+◌, ◌-◌, ◌==◌, Bool, true, false, List, [], ◌∷◌, ◌++◌, codes, length, zero, suc, Option, None, Some}
use Rattle.std.specs.Prelude.{if◌then◌else◌}
use Rattle.byteorder.specs.Endian.{little_bytes}
use Rattle.plc_base.specs.declared.address.Eui.{Eui}
use Rattle.pcapng.specs.Blocks.{BlockOption, Block, Section, Interface, Packet, APPLICATION, NAME, DESCRIPTION, RESOLUTION, FLAGS, COMMENT, AreBlocks}
use Rattle.pcapng.specs.Blocks.{direction_number, capture}
use Rattle.pcapng.specs.declared.options.Direction.{Direction}
use Rattle.pcapng.specs.declared.options.Direction.TheVariants.{Inbound, Outbound}
use Rattle.sentence_parts.specs.declared.part.Part.TheVariants.{Words, Number, Count, Place as At}
use Rattle.sentence_parts.specs.declared.part.Who.TheVariants.{Device}
use Rattle.line_script.specs.declared.report.Totals.{Totals}
use Rattle.line_record.specs.declared.act.Act.{Act}
use Rattle.line_record.specs.declared.act.Act.TheVariants as acts
use Rattle.line_record.specs.declared.recorded.RecordedEvent.{RecordedEvent}
use Rattle.line_record.specs.declared.recorded.RecordedFlight.{RecordedFlight}
use Rattle.line_record.specs.RunRecords.{numbered}
use Rattle.line_capture.specs.declared.place.Place.{Place}
use Rattle.line_capture.specs.declared.recording.Recording.{Recording}
use Rattle.line_capture.specs.FateValues.{FateValue}
use Rattle.line_capture.specs.Fates.{fates_of}
use Rattle.line_capture.specs.Places.{AreEvents, start, time_at, place_after}
use Rattle.line_capture.specs.Sentences.{comment, said}
use Rattle.line_capture.specs.Comments.{answer_notes, hearing_notes, injection_notes, flight_notes, fate_notes}

-- # What was recorded of a run

-- the events and the flights of a run, the octets of each flight, and those that no node sent, in the order of the events that brought them
pub record Run : Type 0 where
  pub events : List RecordedEvent
  pub flights : List RecordedFlight
  pub octets : List (List ℕ)
  pub injected : List (List ℕ)

abbrev pub run_of : Recording → Run
run_of r = record { events = r.run_record.now.events.items; flights = r.run_record.now.flights.items; octets = r.octets.now; injected = r.injected.now }

-- octets that fit a line of a script
abbrev pub IsFrame : List ℕ → Type 0
IsFrame octets = length octets ≤ 2048

-- a run of a script
pub record IsRun (run : Run) : Type 0 where
  pub events : AreEvents run.events
  pub octets : All IsFrame run.octets
  pub injected : All IsFrame run.injected

-- # The section

abbrev pub totals_notes : Totals → List BlockOption
totals_notes totals =
    comment (Words (codes "run of script: ") ∷ Count totals.events (codes "event") ∷ Words (codes ", ") ∷ Count totals.flights (codes "flight")
    ∷ Words (codes ", ") ∷ Count totals.sends (codes "send") ∷ Words (codes ", ") ∷ Number totals.ups ∷ Words (codes " handed up, ")
    ∷ Number totals.forged ∷ Words (codes " forged") ∷ [])

-- a further comment, where there is one
abbrev pub remark_notes : List ℕ → List BlockOption
remark_notes remark = if length remark == 0 then [] else (record { code = COMMENT; octets = remark }) ∷ []

abbrev pub section_notes : Totals → List ℕ → List BlockOption
section_notes totals remark = totals_notes totals ++ (remark_notes remark ++ (record { code = APPLICATION; octets = codes "line_view" }) ∷ [])

abbrev pub section : Totals → List ℕ → Block
section totals remark = Section (section_notes totals remark)

-- # Interfaces

-- IEEE 802.15.4 without a frame check sequence, bare or after a head of its own (TAP)
abbrev pub link_type : Bool → ℕ
link_type true = 283
link_type false = 230

abbrev pub coordinator_notes : Eui → List BlockOption
coordinator_notes eui = said DESCRIPTION (Words (codes "coordinator, ") ∷ At (Device eui) ∷ [])

abbrev pub meter_notes : ℕ → Eui → List BlockOption
meter_notes node eui = said DESCRIPTION (Words (codes "meter ") ∷ Number node ∷ Words (codes ", ") ∷ At (Device eui) ∷ [])

-- what a node is
abbrev pub description_notes : ℕ → Eui → List BlockOption
description_notes node eui = if node == 0 then coordinator_notes eui else meter_notes node eui

abbrev pub interface_notes : ℕ → Eui → List BlockOption
interface_notes node eui =
    said NAME (Words (codes "node ") ∷ Number node ∷ []) ++ (description_notes node eui ++ (record { code = RESOLUTION; octets = 9 ∷ [] }) ∷ [])

abbrev pub interface_of : Bool → ℕ → Eui → Block
interface_of tap node eui = Interface (link_type tap) (interface_notes node eui)

-- one for each node, from this number on
abbrev pub interfaces_from : Bool → ℕ → List Eui → List Block
interfaces_from tap node [] = []
interfaces_from tap node (eui ∷ euis) = interface_of tap node eui ∷ interfaces_from tap (node + 1) euis

-- # Packets

-- what stands before the octets: nothing, or of TAP a version, a length, that there is no frame check sequence, and of what is heard the quality of the link
abbrev pub tap_sent : Bool → List ℕ
tap_sent false = []
tap_sent true = 0 ∷ 0 ∷ 12 ∷ 0 ∷ 0 ∷ 0 ∷ 1 ∷ 0 ∷ 0 ∷ 0 ∷ 0 ∷ 0 ∷ []

abbrev pub tap_heard : Bool → ℕ → List ℕ
tap_heard false cost = []
tap_heard true cost =
    0 ∷ 0 ∷ 20 ∷ 0 ∷ 0 ∷ 0 ∷ 1 ∷ 0 ∷ 0 ∷ 0 ∷ 0 ∷ 0 ∷ 10 ∷ 0 ∷ 1 ∷ 0 ∷ (255 - cost) ∷ 0 ∷ 0 ∷ 0 ∷ []

abbrev pub direction_notes : Direction → List BlockOption
direction_notes direction = (record { code = FLAGS; octets = little_bytes 4 (direction_number direction) }) ∷ []

-- a packet that a node hears
abbrev pub heard_packet : Bool → ℕ → ℕ → List ℕ → ℕ → List BlockOption → Block
heard_packet tap node time octets cost notes = Packet node time (tap_heard tap cost ++ octets) (notes ++ direction_notes Inbound)

-- a packet that a node sends
abbrev pub sent_packet : Bool → ℕ → ℕ → List ℕ → List BlockOption → Block
sent_packet tap node time octets notes = Packet node time (tap_sent tap ++ octets) (notes ++ direction_notes Outbound)

-- of a thing that is there
abbrev pub where_some : {A : Type 0} → Option A → (A → List Block) → List Block
where_some None blocks = []
where_some (Some x) blocks = blocks x

-- what is said of octets that no node sent, of a flight that is heard, and of one that goes out
abbrev pub injected_notes : ℕ → RecordedEvent → ℕ → List BlockOption
injected_notes event e cost = injection_notes event e.line cost ++ answer_notes e.answer e.forged

abbrev pub delivered_notes : ℕ → RecordedEvent → ℕ → ℕ → ℕ → List BlockOption
delivered_notes event e flight from cost = hearing_notes event e.line flight from cost ++ answer_notes e.answer e.forged

abbrev pub flown_notes : ℕ → RecordedEvent → ℕ → ℕ → FateValue → List BlockOption
flown_notes event e flight send fate = flight_notes event e.line flight send ++ fate_notes fate

-- octets that no node sent are heard
abbrev pub injected_packets : Bool → Run → Place → RecordedEvent → ℕ → ℕ → List Block
injected_packets tap run p e node cost =
    where_some (numbered run.injected (p.injected + 1)) (λ octets.
    heard_packet tap node (time_at p e.act) octets cost (injected_notes p.number e cost) ∷ [])

-- a flight is heard, where that is asked for
abbrev pub delivered_packets : Bool → Run → Place → RecordedEvent → ℕ → ℕ → ℕ → List Block
delivered_packets false run p e flight node cost = []
delivered_packets true run p e flight node cost =
    where_some (numbered run.flights flight) (λ recorded. where_some (numbered run.octets flight) (λ octets.
    heard_packet true node (time_at p e.act) octets cost (delivered_notes p.number e flight recorded.from cost) ∷ []))

-- what is heard at an event: octets that no node sent, and flights
abbrev pub heard_packets : Bool → Run → Place → RecordedEvent → Act → List Block
heard_packets tap run p e (acts.Inject node cost octets) = injected_packets tap run p e node cost
heard_packets tap run p e (acts.Deliver flight node cost) = delivered_packets tap run p e flight node cost
heard_packets tap run p e _ = []

-- the nth flight of an event, counted from 0
abbrev pub flown_packets : Bool → Run → List FateValue → Place → RecordedEvent → ℕ → List Block
flown_packets tap run fates p e nth =
    where_some (numbered run.flights (p.flight + nth)) (λ recorded. where_some (numbered run.octets (p.flight + nth)) (λ octets.
    where_some (numbered fates (p.flight + nth)) (λ fate.
    sent_packet tap recorded.from (time_at p e.act + 1 + nth) octets (flown_notes p.number e (p.flight + nth) recorded.note fate) ∷ [])))

-- this many flights of an event, from the nth on
abbrev pub flights_packets : Bool → Run → List FateValue → Place → RecordedEvent → ℕ → ℕ → List Block
flights_packets tap run fates p e nth zero = []
flights_packets tap run fates p e nth (suc left) =
    flown_packets tap run fates p e nth ++ flights_packets tap run fates p e (nth + 1) left

-- the packets of an event: what is heard, then what goes out
abbrev pub event_packets : Bool → Run → List FateValue → Place → RecordedEvent → List Block
event_packets tap run fates p e = heard_packets tap run p e e.act ++ flights_packets tap run fates p e 0 e.flights

-- those of the events from a place on
abbrev pub packets_from : Bool → Run → List FateValue → Place → List RecordedEvent → List Block
packets_from tap run fates p [] = []
packets_from tap run fates p (e ∷ es) = event_packets tap run fates p e ++ packets_from tap run fates (place_after e p) es

abbrev pub packets : Bool → Run → List Block
packets tap run = packets_from tap run (fates_of (length run.flights) run.events) start run.events

-- # Writing

-- octets become others by the blocks that are added, all of which can be spelled
pub record Adds (old new : List ℕ) (added : List Block) : Type 0 where
  pub octets : new ≡ old ++ capture added
  pub blocks : AreBlocks added

-- # The file

-- its blocks: the section, an interface for each node, the packets in the order of the events
abbrev pub blocks : Bool → Totals → List ℕ → List Eui → Run → List Block
blocks tap totals remark euis run = section totals remark ∷ (interfaces_from tap 0 euis ++ packets tap run)
