-- Which lines an event, a flight and the end of a run have.
use Rattle.std.specs.Prelude.{◌≡◌, ℕ, ◌+◌, ◌==◌, Bool, true, false, All, List, [], ◌∷◌, ◌++◌, length, Option, Some, None, IfSome, if◌then◌else◌}
use Rattle.plc_base.specs.Fields.{AreOctets}
use Rattle.plc_base.specs.declared.key.Key.{Key as GroupKey}
use Rattle.node_rules.specs.declared.shown.Shown.{Shown}
use Rattle.node_rules.specs.declared.shown.ShownRoute.{ShownRoute}
use Rattle.node_rules.specs.declared.shown.ShownPeer.{ShownPeer}
use Rattle.line_events.specs.declared.event.Event.{Event}
use Rattle.line_events.specs.declared.event.Event.TheVariants.{Show}
use Rattle.line_events.specs.declared.happenings.Handed.{Handed}
use Rattle.line_events.specs.declared.happenings.BroadcastUp.{BroadcastUp}
use Rattle.line_events.specs.declared.happenings.AgentLine.{AgentLine}
use Rattle.line_events.specs.declared.happenings.PathLine.{PathLine}
use Rattle.line_events.specs.declared.happenings.Admission.{Admission}
use Rattle.line_events.specs.declared.happenings.Happenings.{Happenings}
use Rattle.line_events.specs.Events.{IsNumber}
use Rattle.line_script.specs.declared.report.Totals.{Totals}
use Rattle.text_laws.specs.ReportLines.{ReportLine, Verdict, Forged, Up, Bup, Agent, Path, Grant, Took, Done, Halted, Head, Key, Route, Floor, Peer, End}
use Rattle.text_laws.specs.ReportLines.{IsShort}

-- lines of several parts, one after the other
abbrev pub joined : List (List ReportLine) → List ReportLine
joined [] = []
joined (part ∷ parts) = part ++ joined parts

-- # A node that is shown

abbrev pub key_lines : ℕ → Option GroupKey → List ReportLine
key_lines index None = []
key_lines index (Some key) = Key index key.0 ∷ []

abbrev pub route_lines : List ShownRoute → List ReportLine
route_lines [] = []
route_lines (route ∷ routes) = Route route.dest route.number route.cost route.next ∷ route_lines routes

-- a floor of 0 has no line
abbrev pub floor_lines : ℕ → List ℕ → List ReportLine
floor_lines class [] = []
floor_lines class (floor ∷ floors) = (if floor == 0 then [] else Floor class floor ∷ []) ++ floor_lines (class + 1) floors

abbrev pub peer_lines : List ShownPeer → List ReportLine
peer_lines [] = []
peer_lines (peer ∷ peers) = Peer peer.from peer.mark ∷ peer_lines peers

abbrev pub head_line : ℕ → Shown → ReportLine
head_line node shown = Head node shown.address shown.active shown.next_counter shown.last_number

-- what a node that is not halted has lines of
abbrev pub node_parts : ℕ → Shown → List (List ReportLine)
node_parts node shown =
    (head_line node shown ∷ []) ∷ key_lines 0 shown.key0 ∷ key_lines 1 shown.key1 ∷ route_lines shown.routes ∷ floor_lines 0 shown.floors
    ∷ peer_lines shown.peers ∷ []

-- that a node is halted, or the lines of one that is not
unfoldable pub node_lines : ℕ → Shown → List ReportLine
node_lines node shown = if shown.halted then Halted node ∷ [] else joined (node_parts node shown)

-- # An event

abbrev pub forged_lines : ℕ → Bool → List ReportLine
forged_lines number true = Forged number ∷ []
forged_lines number false = []

abbrev pub up_lines : Option Handed → List ReportLine
up_lines None = []
up_lines (Some up) = Up up.node up.note up.octets ∷ []

abbrev pub bup_lines : Option BroadcastUp → List ReportLine
bup_lines None = []
bup_lines (Some up) = Bup up.node up.origin up.number up.octets ∷ []

abbrev pub agent_lines : Option AgentLine → List ReportLine
agent_lines None = []
agent_lines (Some agent) = Agent agent.node agent.address agent.total ∷ []

abbrev pub path_lines : Option PathLine → List ReportLine
path_lines None = []
path_lines (Some path) = Path path.node path.walk ∷ []

abbrev pub grant_lines : Option Admission → List ReportLine
grant_lines None = []
grant_lines (Some grant) = Grant grant.node grant.address ∷ []

abbrev pub took_lines : Option ℕ → List ReportLine
took_lines None = []
took_lines (Some node) = Took node ∷ []

abbrev pub done_lines : Option ℕ → List ReportLine
done_lines None = []
done_lines (Some node) = Done node ∷ []

-- A node that an event shows, and what is shown of it.
pub record ShownNode : Type 0 where
  pub node : ℕ
  pub shown : Shown

-- the node that an event shows: at any event but show there is none
abbrev pub shown_by : Event → Option Shown → Option ShownNode
shown_by (Show node) (Some shown) = Some (record { node = node; shown = shown })
shown_by _ _ = None

abbrev pub shown_lines : Option ShownNode → List ReportLine
shown_lines None = []
shown_lines (Some s) = node_lines s.node s.shown

-- what an event has lines of
abbrev pub parts_of : ℕ → Event → Happenings → List (List ReportLine)
parts_of number event happenings =
    (Verdict number happenings.answer ∷ []) ∷ forged_lines number happenings.forged ∷ up_lines happenings.up ∷ bup_lines happenings.bup
    ∷ agent_lines happenings.agent ∷ path_lines happenings.path ∷ grant_lines happenings.grant ∷ took_lines happenings.took
    ∷ done_lines happenings.done ∷ shown_lines (shown_by event happenings.shown) ∷ []

-- the lines of an event, without those of its flights
unfoldable pub lines_of : ℕ → Event → Happenings → List ReportLine
lines_of number event happenings = joined (parts_of number event happenings)

-- the last line of a run without a bad line
abbrev pub end_line : Totals → ReportLine
end_line totals = End totals.events totals.flights totals.sends totals.ups totals.forged

-- # Ranges

abbrev pub IsShownRoute : ShownRoute → Type 0
IsShownRoute route = IsShort route.dest × IsNumber route.number × IsNumber route.cost × IfSome route.next IsShort

abbrev pub IsShownPeer : ShownPeer → Type 0
IsShownPeer peer = IsShort peer.from × IsNumber peer.mark

-- the ranges of the fields of what is shown
pub record IsShown (shown : Shown) : Type 0 where
  pub address : IfSome shown.address IsShort
  pub active : IfSome shown.active IsNumber
  pub next_counter : IsNumber shown.next_counter
  pub last_number : IsNumber shown.last_number
  pub key0 : IfSome shown.key0 (λ key. AreOctets key.0)
  pub key1 : IfSome shown.key1 (λ key. AreOctets key.0)
  pub routes : All IsShownRoute shown.routes
  -- one for each of the 16 classes
  pub classes : length shown.floors ≡ 16
  pub floors : All IsNumber shown.floors
  pub peers : All IsShownPeer shown.peers

-- the ranges of the fields of what happened
pub record AreHappenings (happenings : Happenings) : Type 0 where
  pub up : IfSome happenings.up (λ up. IsNumber up.node × IsNumber up.note × AreOctets up.octets)
  pub bup : IfSome happenings.bup (λ up. IsNumber up.node × IsShort up.origin × IsNumber up.number × AreOctets up.octets)
  pub agent : IfSome happenings.agent (λ agent. IsNumber agent.node × IsShort agent.address × IsNumber agent.total)
  pub path : IfSome happenings.path (λ path. IsNumber path.node × All IsShort path.walk)
  pub grant : IfSome happenings.grant (λ grant. IsNumber grant.node × IsShort grant.address)
  pub took : IfSome happenings.took IsNumber
  pub done : IfSome happenings.done IsNumber
  pub shown : IfSome happenings.shown IsShown

-- the ranges of the totals of a run
abbrev pub AreTotals : Totals → Type 0
AreTotals totals = IsNumber totals.events × IsNumber totals.flights × IsNumber totals.sends × IsNumber totals.ups × IsNumber totals.forged
