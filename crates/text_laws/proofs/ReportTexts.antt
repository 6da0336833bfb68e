-- The texts of a report are those of its lines.
use Rattle.std.proofs.Common.{◌≡◌, ℕ, ◌+◌, ◌==◌, Bool, true, false, List, [], ◌∷◌, ◌++◌, map, Option, Some, None, refl, sym, ap, ◌∙◌}
use Rattle.std.specs.Prelude.{codes, if◌then◌else◌}
use Rattle.std.specs.Fmt.{decimal}
use Rattle.std.proofs.lemmas.List.{append-nil, append_assoc}
use Rattle.plc_base.specs.declared.key.Key.{Key as GroupKey}
use Rattle.node_rules.specs.declared.shown.Shown.{Shown}
use Rattle.node_rules.specs.declared.shown.ShownRoute.{ShownRoute}
use Rattle.node_rules.specs.declared.shown.ShownPeer.{ShownPeer}
use Rattle.line_events.specs.declared.event.Event.{Event}
use Rattle.line_events.specs.declared.event.Event.TheVariants.{Show}
use Rattle.line_events.specs.declared.happenings.Handed.{Handed}
use Rattle.line_events.specs.declared.happenings.BroadcastUp.{BroadcastUp}
use Rattle.line_events.specs.declared.happenings.AgentLine.{AgentLine}
use Rattle.line_events.specs.declared.happenings.PathLine.{PathLine}
use Rattle.line_events.specs.declared.happenings.Admission.{Admission}
use Rattle.line_events.specs.declared.happenings.Happenings.{Happenings}
use Rattle.line_script.specs.NodeTexts.{floor_text, floors_text, head_text, key_text, node_text, peer_text, peers_text, route_text, routes_text, running_text}
use Rattle.line_script.specs.NodeTexts.{short_word}
use Rattle.line_script.specs.Texts.{agent_text, answer_text, bad_text, bup_text, details_text, done_text, end_text, fly_text, forged_text, further_text}
use Rattle.line_script.specs.Texts.{grant_text}
use Rattle.line_script.specs.Texts.{happened_text, path_text, shown_text, took_text, up_text, walk_text}
use Rattle.text_laws.specs.ReportLines.{ReportLine, Verdict, Forged, Up, Bup, Agent, Path, Grant, Took, Done, Halted, Key, Floor}
use Rattle.text_laws.specs.ReportLines.{line_text, report_text, words_text}
use Rattle.text_laws.specs.Reports.{agent_lines, bup_lines, done_lines, floor_lines, forged_lines, grant_lines, head_line, joined, key_lines, lines_of}
use Rattle.text_laws.specs.Reports.{node_lines}
use Rattle.text_laws.specs.Reports.{node_parts, parts_of, path_lines, peer_lines, route_lines, shown_by, shown_lines, took_lines, up_lines}
use Rattle.text_laws.specs.Laws.{ReportsAreLines}

-- # Lists of lines

pub append_text : (ls ms : List ReportLine) → report_text (ls ++ ms) ≡ report_text ls ++ report_text ms
unfolding report_text
append_text [] ms = refl
append_text (l ∷ ls) ms =
    ap (λ (text : List ℕ). line_text l ++ text) (append_text ls ms) ∙ sym (append_assoc (line_text l) (report_text ls) (report_text ms))

abbrev parts_text : List (List ReportLine) → List ℕ
parts_text [] = []
parts_text (part ∷ parts) = report_text part ++ parts_text parts

joined_text : (parts : List (List ReportLine)) → report_text (joined parts) ≡ parts_text parts
unfolding report_text
joined_text [] = refl
joined_text (part ∷ parts) = append_text part (joined parts) ∙ ap (λ (text : List ℕ). report_text part ++ text) (joined_text parts)

-- a line alone
pub alone : (line : ReportLine) → line_text line ≡ report_text (line ∷ [])
unfolding report_text
alone line = sym (append-nil (line_text line))

-- # Nodes

key_is : (index : ℕ) (o : Option GroupKey) → key_text index o ≡ report_text (key_lines index o)
unfolding key_text line_text report_text
key_is index None = refl
key_is index (Some key) = alone (Key index key.0)

routes_are : (routes : List ShownRoute) → routes_text routes ≡ report_text (route_lines routes)
unfolding route_text line_text report_text
routes_are [] = refl
routes_are (route ∷ routes) = ap (λ (text : List ℕ). route_text route ++ text) (routes_are routes)

floor_by : (class floor : ℕ) (zero : Bool) → (if zero then [] else codes "floor " ++ (decimal class ++ (codes " " ++ (decimal floor ++ codes "\n"))))
    ≡ report_text (if zero then [] else Floor class floor ∷ [])
unfolding line_text report_text
floor_by class floor true = refl
floor_by class floor false = alone (Floor class floor)

floors_are : (class : ℕ) (floors : List ℕ) → floors_text class floors ≡ report_text (floor_lines class floors)
unfolding floor_text report_text
floors_are class [] = refl
floors_are class (floor ∷ floors) =
    (λ i. floor_by class floor (floor == 0) i ++ floors_are (class + 1) floors i)
    ∙ sym (append_text (if floor == 0 then [] else Floor class floor ∷ []) (floor_lines (class + 1) floors))

peers_are : (peers : List ShownPeer) → peers_text peers ≡ report_text (peer_lines peers)
unfolding peer_text line_text report_text
peers_are [] = refl
peers_are (peer ∷ peers) = ap (λ (text : List ℕ). peer_text peer ++ text) (peers_are peers)

head_is : (node : ℕ) (shown : Shown) → head_text node shown ≡ report_text (head_line node shown ∷ [])
unfolding head_text line_text
head_is node shown = alone (head_line node shown)

running_is : (node : ℕ) (shown : Shown) → running_text node shown ≡ report_text (joined (node_parts node shown))
unfolding running_text
running_is node shown =
    (λ i. head_is node shown i ++ (key_is 0 shown.key0 i ++ (key_is 1 shown.key1 i ++ (routes_are shown.routes i
    ++ (floors_are 0 shown.floors i ++ (peers_are shown.peers ∙ sym (append-nil (report_text (peer_lines shown.peers)))) i)))))
    ∙ sym (joined_text (node_parts node shown))

node_by : (node : ℕ) (shown : Shown) (halted : Bool) → (if halted then codes "node " ++ (decimal node ++ codes " halted\n") else running_text node shown)
    ≡ report_text (if halted then Halted node ∷ [] else joined (node_parts node shown))
unfolding line_text report_text
node_by node shown true = alone (Halted node)
node_by node shown false = running_is node shown

node_is : (node : ℕ) (shown : Shown) → node_text node shown ≡ report_text (node_lines node shown)
unfolding node_text node_lines
node_is node shown = node_by node shown shown.halted

-- # Events

answer_is : (number : ℕ) (happenings : Happenings) → answer_text number happenings.answer ≡ report_text (Verdict number happenings.answer ∷ [])
unfolding answer_text line_text
answer_is number happenings = alone (Verdict number happenings.answer)

forged_is : (number : ℕ) (forged : Bool) → forged_text number forged ≡ report_text (forged_lines number forged)
unfolding forged_text line_text report_text
forged_is number true = alone (Forged number)
forged_is number false = refl

up_is : (o : Option Handed) → up_text o ≡ report_text (up_lines o)
unfolding up_text line_text report_text
up_is None = refl
up_is (Some up) = alone (Up up.node up.note up.octets)

bup_is : (o : Option BroadcastUp) → bup_text o ≡ report_text (bup_lines o)
unfolding bup_text line_text report_text
bup_is None = refl
bup_is (Some up) = alone (Bup up.node up.origin up.number up.octets)

agent_is : (o : Option AgentLine) → agent_text o ≡ report_text (agent_lines o)
unfolding agent_text line_text report_text
agent_is None = refl
agent_is (Some agent) = alone (Agent agent.node agent.address agent.total)

walk_words : (word walk : List ℕ) → word ++ (walk_text walk ++ codes "\n") ≡ words_text (word ∷ map short_word walk)
walk_words word [] = refl
walk_words word (address ∷ walk) =
    ap (λ (text : List ℕ). word ++ (32 ∷ text))
    (append_assoc (short_word address) (walk_text walk) (codes "\n") ∙ walk_words (short_word address) walk)

path_is : (o : Option PathLine) → path_text o ≡ report_text (path_lines o)
unfolding path_text line_text report_text
path_is None = refl
path_is (Some path) =
    ap (λ (text : List ℕ). codes "path " ++ text) (walk_words (decimal path.node) path.walk) ∙ alone (Path path.node path.walk)

grant_is : (o : Option Admission) → grant_text o ≡ report_text (grant_lines o)
unfolding grant_text line_text report_text
grant_is None = refl
grant_is (Some grant) = alone (Grant grant.node grant.address)

took_is : (o : Option ℕ) → took_text o ≡ report_text (took_lines o)
unfolding took_text line_text report_text
took_is None = refl
took_is (Some node) = alone (Took node)

done_is : (o : Option ℕ) → done_text o ≡ report_text (done_lines o)
unfolding done_text line_text report_text
done_is None = refl
done_is (Some node) = alone (Done node)

shown_is : (event : Event) (o : Option Shown) → shown_text event o ≡ report_text (shown_lines (shown_by event o))
unfolding shown_text report_text
shown_is (Show node) (Some shown) = node_is node shown
shown_is _ _ = refl

details_are : (event : Event) (happenings : Happenings) → details_text event happenings
    ≡ report_text (grant_lines happenings.grant) ++ (report_text (took_lines happenings.took) ++ (report_text (done_lines happenings.done)
    ++ (report_text (shown_lines (shown_by event happenings.shown)) ++ [])))
unfolding details_text
details_are event happenings =
    λ i. grant_is happenings.grant i ++ (took_is happenings.took i ++ (done_is happenings.done i
    ++ (shown_is event happenings.shown ∙ sym (append-nil (report_text (shown_lines (shown_by event happenings.shown))))) i))

-- what comes after the three parts of further reach
further_then : (happenings : Happenings) (rest : List ℕ) → further_text happenings ++ rest
    ≡ report_text (bup_lines happenings.bup) ++ (report_text (agent_lines happenings.agent) ++ (report_text (path_lines happenings.path) ++ rest))
unfolding further_text
further_then happenings rest =
    append_assoc (bup_text happenings.bup) (agent_text happenings.agent ++ path_text happenings.path) rest
    ∙ ap (λ (text : List ℕ). bup_text happenings.bup ++ text) (append_assoc (agent_text happenings.agent) (path_text happenings.path) rest)
    ∙ (λ i. bup_is happenings.bup i ++ (agent_is happenings.agent i ++ (path_is happenings.path i ++ rest)))

pub happened_is : (number : ℕ) (event : Event) (happenings : Happenings)
    → happened_text number event happenings ≡ report_text (lines_of number event happenings)
unfolding happened_text lines_of
happened_is number event happenings =
    (λ i. answer_is number happenings i ++ (forged_is number happenings.forged i ++ (up_is happenings.up i
    ++ (ap (λ (text : List ℕ). further_text happenings ++ text) (details_are event happenings) ∙ further_then happenings _) i)))
    ∙ sym (joined_text (parts_of number event happenings))

pub are_lines : ReportsAreLines
unfolding fly_text bad_text end_text line_text
are_lines = record {
  happened = happened_is;
  node = node_is;
  fly = λ flight node octets. refl;
  bad = λ number reason. refl;
  last = λ totals. refl;
}
