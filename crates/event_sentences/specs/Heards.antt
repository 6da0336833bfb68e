-- The frame of an event, as its sentence needs it.
use Rattle.std.specs.Prelude.{ℕ, ◌==◌, ◌&&◌, Bool, List, [], ◌∷◌, Option, None, Some, is_some, if◌then◌else◌}
use Rattle.plc_base.specs.declared.address.Eui.{Eui}
use Rattle.plc_base.specs.declared.fields.Fault.{Fault}
use Rattle.plc_base.specs.declared.key.Key.{Key}
use Rattle.mac_frames.specs.declared.head.MacHead.{MacHead}
use Rattle.mac_frames.specs.declared.head.MacHead.TheVariants.{Sealed, Up, Down}
use Rattle.mac_frames.specs.declared.fault.FrameFaultKind.{FrameFaultKind}
use Rattle.mac_frames.specs.Faults.{frame_fault}
use Rattle.mac_frames.specs.Reader.{head_in}
use Rattle.frame_facts.specs.declared.gist.FrameTarget.{FrameTarget}
use Rattle.frame_facts.specs.declared.gist.FrameTarget.TheVariants as targets
use Rattle.frame_facts.specs.declared.detail.FlightMore.{FlightMore}
use Rattle.frame_facts.specs.Details.{more_of}
use Rattle.frame_facts.specs.Payloads.{payload_of}
use Rattle.line_record.specs.declared.recorded.RecordedFlight.{RecordedFlight}
use Rattle.line_record.specs.RunRecords.{recorded_flight}
use Rattle.sentence_parts.specs.declared.part.Who.{Who}
use Rattle.sentence_parts.specs.declared.part.Who.TheVariants as whos
use Rattle.sentence_parts.specs.Whos.{who_at, who_of, who_with}
use Rattle.event_sentences.specs.declared.heard.DrawnKey.{DrawnKey}
use Rattle.event_sentences.specs.declared.heard.Heard.{Heard}

-- # Who sent it, and to whom

-- the short address that a frame is for
abbrev pub address_of : FrameTarget → Option ℕ
address_of (targets.Node address) = Some address
address_of targets.All = Some 65535
address_of _ = None

abbrev pub head_sender : MacHead → List ℕ → List Eui → Who
head_sender (Sealed ack seq pan to from counter index) homes euis = who_at from homes
head_sender (Up ack version seq pan to from) homes euis = who_with from euis
head_sender (Down ack version seq pan to from) homes euis = who_at from homes

-- by the fault of the octets, if they have one
abbrev pub sender_unless : Option (Fault FrameFaultKind) → List ℕ → List ℕ → List Eui → Who
sender_unless None octets homes euis = head_sender (head_in octets) homes euis
sender_unless (Some fault) octets homes euis = whos.Nobody

abbrev pub sender_of : List ℕ → List ℕ → List Eui → Who
sender_of octets homes euis = sender_unless (frame_fault octets) octets homes euis

-- # A flight

abbrev pub heard_flight : ℕ → List ℕ → Option Key → RecordedFlight → FlightMore → List ℕ → List Eui → Heard
heard_flight number octets key flight more homes euis =
    record {
      flight = number;
      by = sender_of octets homes euis;
      to = who_of flight.target homes euis;
      to_address = address_of flight.target;
      more = more;
      kind = flight.kind;
      gist = flight.gist;
      key = key;
    }

-- # Octets that no node sent

abbrev pub opens : List ℕ → ℕ → DrawnKey → Bool
opens octets index drawn = (drawn.index == index) && is_some (payload_of octets (Some drawn.key))

-- the first key at the index of a frame that opens it
abbrev pub opening_key : List ℕ → ℕ → List DrawnKey → Option Key
opening_key octets index [] = None
opening_key octets index (drawn ∷ keys) = if opens octets index drawn then Some drawn.key else opening_key octets index keys

-- the key that opens octets, where they are a sealed frame
abbrev pub injected_key : List ℕ → List DrawnKey → Option Key
injected_key octets keys = if (more_of octets None).sealed then opening_key octets (more_of octets None).index keys else None

-- octets under a key, as they come to a node
abbrev pub heard_under : List ℕ → Option Key → List ℕ → List Eui → Heard
heard_under octets key homes euis =
    heard_flight 0 octets key (recorded_flight 0 0 octets (payload_of octets key) None) (more_of octets (payload_of octets key)) homes euis

abbrev pub heard_octets : List ℕ → List DrawnKey → List ℕ → List Eui → Heard
heard_octets octets keys homes euis = heard_under octets (injected_key octets keys) homes euis
