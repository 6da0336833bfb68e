-- The lines of a report, and their texts.
use Rattle.std.specs.Prelude.{ℕ, ◌^◌, ◌<◌, All, List, [], ◌∷◌, ◌++◌, map, codes, Option, IfSome}
use Rattle.std.specs.Fmt.{decimal}
use Rattle.hex.specs.Hex.{encode_lower}
use Rattle.plc_base.specs.Fields.{AreOctets}
use Rattle.line_events.specs.declared.event.Answer.{Answer}
use Rattle.line_events.specs.Events.{IsNumber}
use Rattle.line_script.specs.declared.report.Reason.{Reason}
use Rattle.line_script.specs.AnswerWords.{answer_word, verdict_word}
use Rattle.line_script.specs.NodeTexts.{address_word, index_word, next_word, short_word}
use Rattle.line_script.specs.Texts.{reason_word}

-- What a line of a report says, with its fields in their order.
pub data ReportLine : Type 0 where
  -- how an event was answered
  Verdict : (number : ℕ) → (answer : Answer) → ReportLine
  -- an event is forged
  Forged : (number : ℕ) → ReportLine
  -- a datagram was handed up
  Up : (node : ℕ) → (send : ℕ) → (octets : List ℕ) → ReportLine
  -- a broadcast was handed up
  Bup : (node : ℕ) → (origin : ℕ) → (number : ℕ) → (octets : List ℕ) → ReportLine
  -- a meter joins by an agent
  Agent : (node : ℕ) → (address : ℕ) → (total : ℕ) → ReportLine
  -- the answer to a path request
  Path : (node : ℕ) → (walk : List ℕ) → ReportLine
  -- a meter was allowed
  Grant : (node : ℕ) → (address : ℕ) → ReportLine
  -- a meter took its grant
  Took : (node : ℕ) → ReportLine
  -- a joining is done
  Done : (node : ℕ) → ReportLine
  -- a node that is shown is halted
  Halted : (node : ℕ) → ReportLine
  -- the head of a node that is shown
  Head : (node : ℕ) → (address : Option ℕ) → (active : Option ℕ) → (next_counter : ℕ) → (last_number : ℕ) → ReportLine
  -- a group key of the node
  Key : (index : ℕ) → (octets : List ℕ) → ReportLine
  -- the rank of an address, with the next hop of a valid route
  Route : (dest : ℕ) → (number : ℕ) → (cost : ℕ) → (next : Option ℕ) → ReportLine
  -- the floor of a class of addresses
  Floor : (class : ℕ) → (floor : ℕ) → ReportLine
  -- the mark of a sender
  Peer : (from : ℕ) → (mark : ℕ) → ReportLine
  -- a frame flew
  Fly : (flight : ℕ) → (node : ℕ) → (octets : List ℕ) → ReportLine
  -- a bad line ended the run
  Bad : (number : ℕ) → (reason : Reason) → ReportLine
  -- the totals of a run without a bad line
  End : (events : ℕ) → (flights : ℕ) → (sends : ℕ) → (ups : ℕ) → (forged : ℕ) → ReportLine

-- # Texts

-- the words of a line
abbrev pub line_words : ReportLine → List (List ℕ)
line_words (Verdict number answer) = decimal number ∷ verdict_word answer ∷ answer_word answer ∷ []
line_words (Forged number) = codes "forged" ∷ decimal number ∷ []
line_words (Up node send octets) = codes "up" ∷ decimal node ∷ decimal send ∷ encode_lower octets ∷ []
line_words (Bup node origin number octets) = codes "bup" ∷ decimal node ∷ short_word origin ∷ decimal number ∷ encode_lower octets ∷ []
line_words (Agent node address total) = codes "agent" ∷ decimal node ∷ short_word address ∷ decimal total ∷ []
line_words (Path node walk) = codes "path" ∷ decimal node ∷ map short_word walk
line_words (Grant node address) = codes "grant" ∷ decimal node ∷ short_word address ∷ []
line_words (Took node) = codes "took" ∷ decimal node ∷ []
line_words (Done node) = codes "done" ∷ decimal node ∷ []
line_words (Halted node) = codes "node" ∷ decimal node ∷ codes "halted" ∷ []
line_words (Head node address active next_counter last_number) =
    codes "node" ∷ decimal node ∷ address_word address ∷ index_word active ∷ decimal next_counter ∷ decimal last_number ∷ []
line_words (Key index octets) = codes "key" ∷ decimal index ∷ encode_lower octets ∷ []
line_words (Route dest number cost next) = codes "route" ∷ short_word dest ∷ decimal number ∷ decimal cost ∷ next_word next ∷ []
line_words (Floor class floor) = codes "floor" ∷ decimal class ∷ decimal floor ∷ []
line_words (Peer from mark) = codes "peer" ∷ short_word from ∷ decimal mark ∷ []
line_words (Fly flight node octets) = codes "fly" ∷ decimal flight ∷ decimal node ∷ encode_lower octets ∷ []
line_words (Bad number reason) = codes "bad" ∷ decimal number ∷ reason_word reason ∷ []
line_words (End events flights sends ups forged) =
    codes "end" ∷ decimal events ∷ decimal flights ∷ decimal sends ∷ decimal ups ∷ decimal forged ∷ []

-- words with one space between two, and a line feed at their end
abbrev pub words_text : List (List ℕ) → List ℕ
words_text [] = []
words_text (word ∷ []) = word ++ codes "\n"
words_text (word ∷ next ∷ words) = word ++ (codes " " ++ words_text (next ∷ words))

-- the text of a line, with its line feed
unfoldable pub line_text : ReportLine → List ℕ
line_text line = words_text (line_words line)

-- the text of lines, one after the other
unfoldable pub report_text : List ReportLine → List ℕ
report_text [] = []
report_text (line ∷ lines) = line_text line ++ report_text lines

-- # Ranges

-- two octets hold an address
abbrev pub IsShort : ℕ → Type 0
IsShort address = address < 2 ^ 16

-- the numbers of a line have 32 bits, its addresses two octets, and its octets are octets
abbrev pub IsReportLine : ReportLine → Type 0
IsReportLine (Verdict number _) = IsNumber number
IsReportLine (Forged number) = IsNumber number
IsReportLine (Up node send octets) = IsNumber node × IsNumber send × AreOctets octets
IsReportLine (Bup node origin number octets) = IsNumber node × IsShort origin × IsNumber number × AreOctets octets
IsReportLine (Agent node address total) = IsNumber node × IsShort address × IsNumber total
IsReportLine (Path node walk) = IsNumber node × All IsShort walk
IsReportLine (Grant node address) = IsNumber node × IsShort address
IsReportLine (Took node) = IsNumber node
IsReportLine (Done node) = IsNumber node
IsReportLine (Halted node) = IsNumber node
IsReportLine (Head node address active next_counter last_number) =
    IsNumber node × IfSome address IsShort × IfSome active IsNumber × IsNumber next_counter × IsNumber last_number
IsReportLine (Key index octets) = IsNumber index × AreOctets octets
IsReportLine (Route dest number cost next) = IsShort dest × IsNumber number × IsNumber cost × IfSome next IsShort
IsReportLine (Floor class floor) = IsNumber class × IsNumber floor
IsReportLine (Peer from mark) = IsShort from × IsNumber mark
IsReportLine (Fly flight node octets) = IsNumber flight × IsNumber node × AreOctets octets
IsReportLine (Bad number _) = IsNumber number
IsReportLine (End events flights sends ups forged) = IsNumber events × IsNumber flights × IsNumber sends × IsNumber ups × IsNumber forged

-- each line of a report is in these ranges
abbrev pub AreReportLines : List ReportLine → Type 0
AreReportLines lines = All IsReportLine lines
