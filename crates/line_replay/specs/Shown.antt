-- What the command `show` writes of frames in hexadecimal.
use Rattle.std.specs.Prelude.{ℕ, ◌+◌, ◌==◌, Bool, List, [], ◌∷◌, ◌++◌, length, codes, Option, None, Some, if◌then◌else◌}
use Rattle.std.specs.Fmt.{decimal}
use Rattle.hex.specs.Hex.{encode_lower}
use Rattle.script_lines.specs.Lines.{Content, Text, Long, TooMuch}
use Rattle.script_lines.specs.Clauses.{IsStop}
use Rattle.script_lines.specs.Outcomes.{Turn, Skips, Takes, Stops, Outcome, outcome as outcome_of}
use Rattle.pan_discovery.specs.declared.message.Discovery.{Discovery}
use Rattle.pan_discovery.specs.declared.message.Discovery.TheVariants.{Request, Beacon}
use Rattle.pan_discovery.specs.Reader.{discovery_in}
use Rattle.plc_base.specs.declared.fields.Fault.{Fault}
use Rattle.mac_frames.specs.declared.fault.FrameFaultKind.{FrameFaultKind}
use Rattle.mac_frames.specs.declared.fault.FrameFaultKind.TheVariants as kinds
use Rattle.mac_frames.specs.declared.head.MacHead.{MacHead}
use Rattle.mac_frames.specs.declared.head.MacHead.TheVariants.{Sealed, Up, Down}
use Rattle.mac_frames.specs.Faults.{frame_fault}
use Rattle.mac_frames.specs.Reader.{head_in, body_in}
use Rattle.line_replay.specs.declared.show.FrameLine.{FrameLine}
use Rattle.line_replay.specs.declared.show.FrameLine.TheVariants.{Quiet, NoForm, Reads}
use Rattle.line_script.specs.declared.report.Reason.TheVariants as reasons
use Rattle.line_script.specs.Words.{hex_octets}
use Rattle.line_script.specs.NodeTexts.{short_word}
use Rattle.line_script.specs.Texts.{bad_text}

-- what a line holds: nothing, or a frame in hexadecimal, or it has no reading
abbrev pub frame_by : Option (List ℕ) → FrameLine
frame_by None = NoForm
frame_by (Some octets) = Reads octets

unfoldable pub frame_line : List ℕ → FrameLine
frame_line [] = Quiet
frame_line (c ∷ cs) = if c == 35 then Quiet else frame_by (hex_octets (c ∷ cs))

-- ---- the texts

abbrev pub kind_word : FrameFaultKind → List ℕ
kind_word kinds.Short = codes "Short"
kind_word kinds.Kind = codes "Kind"
kind_word kinds.Mode = codes "Mode"
kind_word kinds.Level = codes "Level"
kind_word kinds.Long = codes "Long"
kind_word kinds.Address = codes "Address"

-- a payload, or - where it is empty
abbrev pub payload_word : List ℕ → List ℕ
payload_word body = if length body == 0 then codes "-" else encode_lower body

abbrev pub plain_text : List ℕ → List ℕ → List ℕ → List ℕ
plain_text to from body =
    codes "plain to " ++ (to ++ (codes " from " ++ (from ++ (codes " payload " ++ (payload_word body ++ codes "\n")))))

unfoldable pub head_text : MacHead → List ℕ → List ℕ
head_text (Sealed ack seq pan to from counter index) body =
    codes "sealed to " ++
    (short_word to ++ (codes " from "
    ++ (short_word from ++
    (codes " counter " ++
    (decimal counter ++ (codes " index "
    ++ (decimal index ++ (codes " body " ++ (decimal (length body) ++ codes "\n")))))))))
head_text (Up ack version seq pan to from) body = plain_text (short_word to) (encode_lower from.0) body
head_text (Down ack version seq pan to from) body = plain_text (encode_lower to.0) (short_word from) body

unfoldable pub fault_text : Fault FrameFaultKind → List ℕ
fault_text fault = codes "fault " ++ (kind_word fault.kind ++ (codes " " ++ (decimal fault.place ++ codes "\n")))

-- what a MAC frame is, or its first fault
abbrev pub mac_frame_text_by : Option (Fault FrameFaultKind) → List ℕ → List ℕ
mac_frame_text_by None octets = head_text (head_in octets) (body_in octets)
mac_frame_text_by (Some fault) octets = fault_text fault

unfoldable pub mac_frame_text : List ℕ → List ℕ
mac_frame_text octets = mac_frame_text_by (frame_fault octets) octets

-- a beacon request, or a beacon with its sender, its network and the cost of the sender's way to the coordinator
unfoldable pub discovery_text : Discovery → List ℕ
discovery_text (Request seq) = codes "beacon request\n"
discovery_text (Beacon seq pan from cost) =
    codes "beacon from " ++ (short_word from ++ (codes " pan " ++ (short_word pan
    ++ (codes " cost " ++ (decimal cost ++ codes "\n")))))

-- Discovery is looked for first: its two messages begin with other frame types than a MAC frame.
abbrev pub frame_text_by : Option Discovery → List ℕ → List ℕ
frame_text_by (Some message) octets = discovery_text message
frame_text_by None octets = mac_frame_text octets

-- what octets are as a frame, or their first fault
unfoldable pub frame_text : List ℕ → List ℕ
frame_text octets = frame_text_by (discovery_in octets) octets

-- the line of a frame that stands in a line of this number
unfoldable pub shown_text : ℕ → List ℕ → List ℕ
shown_text number octets = decimal number ++ (codes " " ++ frame_text octets)

-- end <frames>
unfoldable pub frames_text : ℕ → List ℕ
frames_text frames = codes "end " ++ (decimal frames ++ codes "\n")

-- ---- the lines, with the number of frames that were shown as the state

abbrev pub show_by : ℕ → ℕ → FrameLine → Turn ℕ
show_by frames number Quiet = Skips
show_by frames number NoForm = Stops (bad_text number reasons.Form)
show_by frames number (Reads octets) = Takes (frames + 1) (shown_text number octets)

unfoldable pub show_turn : ℕ → ℕ → Content → Turn ℕ
show_turn frames number TooMuch = Stops (bad_text number reasons.Input)
show_turn frames number Long = Stops (bad_text number reasons.Long)
show_turn frames number (Text octets) = show_by frames number (frame_line octets)

-- the octet that is too much makes its line bad
pub show_stops : (frames number : ℕ) → IsStop (show_turn frames number TooMuch)
unfolding show_turn
show_stops frames number = tt

-- what showing lines does: its text, and how it ends
abbrev pub show_outcome : List ℕ → Bool → Outcome ℕ
show_outcome octets ended = outcome_of show_turn frames_text 0 octets ended
