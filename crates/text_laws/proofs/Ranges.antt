-- The lines of what is in its ranges are in theirs.
use Rattle.std.proofs.Common.{ℕ, ◌+◌, ◌≤◌, ◌==◌, Bool, true, false, List, [], ◌∷◌, ◌++◌, length, Option, Some, None, arith}
use Rattle.std.specs.Prelude.{All, IfSome, if◌then◌else◌}
use Rattle.std.proofs.lemmas.List.Elements.{All-append, All-cons, All-head, All-nil, All-tail}
use Rattle.plc_base.specs.Fields.{AreOctets}
use Rattle.plc_base.specs.declared.key.Key.{Key as GroupKey}
use Rattle.node_rules.specs.declared.shown.Shown.{Shown}
use Rattle.node_rules.specs.declared.shown.ShownRoute.{ShownRoute}
use Rattle.node_rules.specs.declared.shown.ShownPeer.{ShownPeer}
use Rattle.line_events.specs.declared.event.Event.{Event}
use Rattle.line_events.specs.declared.event.Event.TheVariants.{Show}
use Rattle.line_events.specs.declared.happenings.Handed.{Handed}
use Rattle.line_events.specs.declared.happenings.BroadcastUp.{BroadcastUp}
use Rattle.line_events.specs.declared.happenings.AgentLine.{AgentLine}
use Rattle.line_events.specs.declared.happenings.PathLine.{PathLine}
use Rattle.line_events.specs.declared.happenings.Admission.{Admission}
use Rattle.line_events.specs.declared.happenings.Happenings.{Happenings}
use Rattle.line_events.specs.Events.{IsEvent, IsNumber}
use Rattle.text_laws.specs.ReportLines.{ReportLine, Verdict, Forged, Up, Bup, Agent, Path, Grant, Took, Done, Halted, Key, Route, Floor, Peer}
use Rattle.text_laws.specs.ReportLines.{AreReportLines, IsReportLine, IsShort}
use Rattle.text_laws.specs.Reports.{AreHappenings, IsShown, IsShownPeer, IsShownRoute}
use Rattle.text_laws.specs.Reports.{agent_lines, bup_lines, done_lines, floor_lines, forged_lines, grant_lines, head_line, joined, key_lines, lines_of}
use Rattle.text_laws.specs.Reports.{node_lines}
use Rattle.text_laws.specs.Reports.{node_parts, parts_of, path_lines, peer_lines, route_lines, shown_by, shown_lines, took_lines, up_lines}
use Rattle.text_laws.specs.Laws.{LinesAreInRange}

-- # Lists of lines

no_lines : AreReportLines []
no_lines = All-nil IsReportLine

more : (l : ReportLine) (ls : List ReportLine) → IsReportLine l → AreReportLines ls → AreReportLines (l ∷ ls)
more l ls is are = All-cons IsReportLine l ls is are

alone : (l : ReportLine) → IsReportLine l → AreReportLines (l ∷ [])
alone l is = more l [] is no_lines

both : (ls ms : List ReportLine) → AreReportLines ls → AreReportLines ms → AreReportLines (ls ++ ms)
both ls ms il im = All-append IsReportLine ls ms il im

-- # Nodes

keys : (index : ℕ) (o : Option GroupKey) → IsNumber index → IfSome o (λ key. AreOctets key.0) → AreReportLines (key_lines index o)
keys index None is are = no_lines
keys index (Some key) is are = alone (Key index key.0) (is, are)

routes_fit : (routes : List ShownRoute) → All IsShownRoute routes → AreReportLines (route_lines routes)
routes_fit [] are = no_lines
routes_fit (route ∷ routes) are =
    more (Route route.dest route.number route.cost route.next) (route_lines routes) (All-head IsShownRoute route routes are)
    (routes_fit routes (All-tail IsShownRoute route routes are))

floor_fits : (class floor : ℕ) (zero : Bool) → IsNumber class → IsNumber floor → AreReportLines (if zero then [] else Floor class floor ∷ [])
floor_fits class floor true is fits = no_lines
floor_fits class floor false is fits = alone (Floor class floor) (is, fits)

floors_fit : (class : ℕ) (floors : List ℕ) → class + length floors ≤ 16 → All IsNumber floors → AreReportLines (floor_lines class floors)
floors_fit class [] room are = no_lines
floors_fit class (floor ∷ floors) room are =
    both (if floor == 0 then [] else Floor class floor ∷ []) (floor_lines (class + 1) floors)
    (floor_fits class floor (floor == 0) (omega (arith, room)) (All-head IsNumber floor floors are))
    (floors_fit (class + 1) floors (omega (arith, room)) (All-tail IsNumber floor floors are))

peers_fit : (peers : List ShownPeer) → All IsShownPeer peers → AreReportLines (peer_lines peers)
peers_fit [] are = no_lines
peers_fit (peer ∷ peers) are =
    more (Peer peer.from peer.mark) (peer_lines peers) (All-head IsShownPeer peer peers are) (peers_fit peers (All-tail IsShownPeer peer peers are))

abbrev AreParts : List (List ReportLine) → Type 0
AreParts [] = Unit {0}
AreParts (part ∷ parts) = AreReportLines part × AreParts parts

parts_fit : (parts : List (List ReportLine)) → AreParts parts → AreReportLines (joined parts)
parts_fit [] are = no_lines
parts_fit (part ∷ parts) are = both part (joined parts) are.0 (parts_fit parts are.1)

running_fits : (node : ℕ) (shown : Shown) → IsNumber node → IsShown shown → AreReportLines (joined (node_parts node shown))
running_fits node shown is fits =
    parts_fit (node_parts node shown) (
      alone (head_line node shown) (is, fits.address, fits.active, fits.next_counter, fits.last_number),
      (
        keys 0 shown.key0 (omega arith) fits.key0,
        (
          keys 1 shown.key1 (omega arith) fits.key1,
          (
            routes_fit shown.routes fits.routes,
            (
              floors_fit 0 shown.floors (let classes = fits.classes in omega (arith, classes)) fits.floors,
              (peers_fit shown.peers fits.peers, tt),
            ),
          ),
        ),
      ),
    )

node_by : (node : ℕ) (shown : Shown) (halted : Bool) → IsNumber node → IsShown shown
    → AreReportLines (if halted then Halted node ∷ [] else joined (node_parts node shown))
node_by node shown true is fits = alone (Halted node) is
node_by node shown false is fits = running_fits node shown is fits

node_fits : (node : ℕ) (shown : Shown) → IsNumber node → IsShown shown → AreReportLines (node_lines node shown)
unfolding node_lines
node_fits node shown is fits = node_by node shown shown.halted is fits

-- # Events

forged_fits : (number : ℕ) (forged : Bool) → IsNumber number → AreReportLines (forged_lines number forged)
forged_fits number true is = alone (Forged number) is
forged_fits number false is = no_lines

up_fits : (o : Option Handed) → IfSome o (λ up. IsNumber up.node × IsNumber up.note × AreOctets up.octets) → AreReportLines (up_lines o)
up_fits None is = no_lines
up_fits (Some up) is = alone (Up up.node up.note up.octets) is

bup_fits : (o : Option BroadcastUp) → IfSome o (λ up. IsNumber up.node × IsShort up.origin × IsNumber up.number × AreOctets up.octets)
    → AreReportLines (bup_lines o)
bup_fits None is = no_lines
bup_fits (Some up) is = alone (Bup up.node up.origin up.number up.octets) is

agent_fits : (o : Option AgentLine) → IfSome o (λ agent. IsNumber agent.node × IsShort agent.address × IsNumber agent.total)
    → AreReportLines (agent_lines o)
agent_fits None is = no_lines
agent_fits (Some agent) is = alone (Agent agent.node agent.address agent.total) is

path_fits : (o : Option PathLine) → IfSome o (λ path. IsNumber path.node × All IsShort path.walk) → AreReportLines (path_lines o)
path_fits None is = no_lines
path_fits (Some path) is = alone (Path path.node path.walk) is

grant_fits : (o : Option Admission) → IfSome o (λ grant. IsNumber grant.node × IsShort grant.address) → AreReportLines (grant_lines o)
grant_fits None is = no_lines
grant_fits (Some grant) is = alone (Grant grant.node grant.address) is

took_fits : (o : Option ℕ) → IfSome o IsNumber → AreReportLines (took_lines o)
took_fits None is = no_lines
took_fits (Some node) is = alone (Took node) is

done_fits : (o : Option ℕ) → IfSome o IsNumber → AreReportLines (done_lines o)
done_fits None is = no_lines
done_fits (Some node) is = alone (Done node) is

shown_fits : (event : Event) (o : Option Shown) → IsEvent event → IfSome o IsShown → AreReportLines (shown_lines (shown_by event o))
shown_fits (Show node) (Some shown) is fits = node_fits node shown is fits
shown_fits _ _ is fits = no_lines

pub happened_fits : (number : ℕ) (event : Event) (happenings : Happenings) → IsNumber number → IsEvent event → AreHappenings happenings
    → AreReportLines (lines_of number event happenings)
unfolding lines_of
happened_fits number event happenings is of_event are =
    parts_fit (parts_of number event happenings) (
      alone (Verdict number happenings.answer) is,
      (
        forged_fits number happenings.forged is,
        (
          up_fits happenings.up are.up,
          (
            bup_fits happenings.bup are.bup,
            (
              agent_fits happenings.agent are.agent,
              (
                path_fits happenings.path are.path,
                (
                  grant_fits happenings.grant are.grant,
                  (
                    took_fits happenings.took are.took,
                    (
                      done_fits happenings.done are.done,
                      (shown_fits event happenings.shown of_event are.shown, tt),
                    ),
                  ),
                ),
              ),
            ),
          ),
        ),
      ),
    )

pub in_range : LinesAreInRange
in_range = record {
  happened = happened_fits;
  node = node_fits;
  last = λ totals are. are;
}
