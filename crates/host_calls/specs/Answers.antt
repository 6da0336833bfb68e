-- What is written of a call.
use Rattle.std.specs.Prelude.{ℕ, List, [], ◌∷◌, ◌++◌, Option, Some, None}
use Rattle.byteorder.specs.Endian.{big_bytes}
use Rattle.plc_base.specs.Keeper.{Write}
use Rattle.plc_base.specs.declared.out_frame.OutFrame.{OutFrame}
use Rattle.host_calls.specs.Items.{spelling}
use Rattle.host_calls.specs.declared.answers.Given.{Given}
use Rattle.host_calls.specs.declared.status.Status.{Status}
use Rattle.host_calls.specs.declared.status.Status.TheVariants.{Done, Refused, Halted, BadStore, Malformed, Memory}

-- nothing
abbrev pub none_given : Given
none_given = record { out = record { frames = []; tags = record { made = []; opened = [] } }; joined = None; up = [] }

-- a record that is to be stored: its slot, and its octets
abbrev pub put_text : Write → List ℕ
put_text w = spelling (record { kind = 0x81; octets = big_bytes 4 w.slot ++ w.octets })

-- a frame that is to be sent: its note, and its octets
abbrev pub frame_text : OutFrame → List ℕ
frame_text f = spelling (record { kind = 0x82; octets = big_bytes 4 f.note ++ f.octets })

abbrev pub puts_text : List Write → List ℕ
puts_text [] = []
puts_text (w ∷ rest) = put_text w ++ puts_text rest

abbrev pub frames_text : List OutFrame → List ℕ
frames_text [] = []
frames_text (f ∷ rest) = frame_text f ++ frames_text rest

-- the short address that the meter has joined with, nothing where it has not
abbrev pub joined_text : Option ℕ → List ℕ
joined_text None = []
joined_text (Some address) = spelling (record { kind = 0x84; octets = big_bytes 2 address })

-- what is handed up, nothing where that is none
abbrev pub up_text : List ℕ → List ℕ
up_text [] = []
up_text (x ∷ octets) = spelling (record { kind = 0x83; octets = x ∷ octets })

-- how a call ended
abbrev pub status_number : Status → ℕ
status_number Done = 0
status_number (Refused reason) = 1
status_number Halted = 2
status_number BadStore = 3
status_number Malformed = 4
status_number Memory = 5

-- which refusal of the call it was, where it was refused
abbrev pub reason_of : Status → Option ℕ
reason_of (Refused reason) = Some reason
reason_of status = None

abbrev pub reason_octets : Option ℕ → List ℕ
reason_octets None = []
reason_octets (Some reason) = reason ∷ []

abbrev pub status_text : Status → List ℕ
status_text status = spelling (record { kind = 0x80; octets = status_number status ∷ reason_octets (reason_of status) })

-- the answer to a call: what is to be stored, then what is to be sent, then that the meter has joined, then what is handed up, and how it ended
abbrev pub answer_text : List Write → Given → Status → List ℕ
answer_text puts given status = puts_text puts ++ (frames_text given.out.frames ++ (joined_text given.joined ++ (up_text given.up ++ status_text status)))
