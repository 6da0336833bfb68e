-- An event with another outcome is reported otherwise.
use Rattle.std.proofs.Common.{◌≡◌, ℕ, Bool, true, false, List, [], ◌∷◌, ◌++◌, get_or, Option, Some, None, refl, sym, ap, ◌∙◌}
use Rattle.std.specs.Prelude.{IfSome, if◌then◌else◌}
use Rattle.node_rules.specs.declared.shown.Shown.{Shown}
use Rattle.line_events.specs.declared.event.Event.{Event}
use Rattle.line_events.specs.declared.event.Event.TheVariants.{Show}
use Rattle.line_events.specs.declared.happenings.Handed.{Handed}
use Rattle.line_events.specs.declared.happenings.BroadcastUp.{BroadcastUp}
use Rattle.line_events.specs.declared.happenings.AgentLine.{AgentLine}
use Rattle.line_events.specs.declared.happenings.PathLine.{PathLine}
use Rattle.line_events.specs.declared.happenings.Admission.{Admission}
use Rattle.line_events.specs.declared.happenings.Happenings.{Happenings}
use Rattle.text_laws.specs.ReportLines.{ReportLine, Verdict, Forged, Up, Bup, Agent, Path, Grant, Took, Done, Halted, Fly, Bad, End}
use Rattle.text_laws.specs.Reports.{IsShown, ShownNode, agent_lines, bup_lines, done_lines, forged_lines, grant_lines, joined, lines_of, node_lines}
use Rattle.text_laws.specs.Reports.{node_parts, parts_of, path_lines, shown_by, shown_lines, took_lines, up_lines}
use Rattle.text_laws.specs.Laws.{IsSameOutcome, IsSameShown, OneOutcomeForAReport}
use Rattle.text_laws.proofs.LineOrder.{AreAt, AreInOrder, each_both, same_parts}
use Rattle.text_laws.proofs.OneReport.{one_report}
use Rattle.text_laws.proofs.Ranges.{happened_fits}
use Rattle.text_laws.proofs.ReportTexts.{happened_is}
use Rattle.text_laws.proofs.SameNodes.{floors_at, keys_at, peers_at, routes_at, same_node, some_lines}

-- # The places of the lines of an event

-- the lines of flights come last; a bad line and the end are the first line of what they end, as a verdict is
abbrev pub place : ReportLine → ℕ
place (Verdict number _) = 0
place (Forged number) = 1
place (Up node send octets) = 2
place (Bup node origin number octets) = 3
place (Agent node address total) = 4
place (Path node walk) = 5
place (Grant node address) = 6
place (Took node) = 7
place (Done node) = 8
place (Fly flight node octets) = 10
place (Bad number _) = 0
place (End events flights sends ups forged) = 0
place _ = 9

forged_at : (number : ℕ) (forged : Bool) → AreAt place 1 (forged_lines number forged)
forged_at number true = (refl, tt)
forged_at number false = tt

up_at : (o : Option Handed) → AreAt place 2 (up_lines o)
up_at None = tt
up_at (Some up) = (refl, tt)

bup_at : (o : Option BroadcastUp) → AreAt place 3 (bup_lines o)
bup_at None = tt
bup_at (Some up) = (refl, tt)

agent_at : (o : Option AgentLine) → AreAt place 4 (agent_lines o)
agent_at None = tt
agent_at (Some agent) = (refl, tt)

path_at : (o : Option PathLine) → AreAt place 5 (path_lines o)
path_at None = tt
path_at (Some path) = (refl, tt)

grant_at : (o : Option Admission) → AreAt place 6 (grant_lines o)
grant_at None = tt
grant_at (Some grant) = (refl, tt)

took_at : (o : Option ℕ) → AreAt place 7 (took_lines o)
took_at None = tt
took_at (Some node) = (refl, tt)

done_at : (o : Option ℕ) → AreAt place 8 (done_lines o)
done_at None = tt
done_at (Some node) = (refl, tt)

abbrev AreAllAt : List (List ReportLine) → Type 0
AreAllAt [] = Unit {0}
AreAllAt (part ∷ parts) = AreAt place 9 part × AreAllAt parts

joined_at : (parts : List (List ReportLine)) → AreAllAt parts → AreAt place 9 (joined parts)
joined_at [] are = tt
joined_at (part ∷ parts) are = each_both (λ l. place l ≡ 9) part (joined parts) are.0 (joined_at parts are.1)

node_at : (node : ℕ) (shown : Shown) (halted : Bool) → AreAt place 9 (if halted then Halted node ∷ [] else joined (node_parts node shown))
node_at node shown true = (refl, tt)
node_at node shown false =
    joined_at (node_parts node shown) (
      (refl, tt),
      (
        keys_at place 9 0 shown.key0 (λ octets. refl),
        (
          keys_at place 9 1 shown.key1 (λ octets. refl),
          (
            routes_at place 9 shown.routes (λ route. refl),
            (
              floors_at place 9 0 shown.floors (λ class floor. refl),
              (peers_at place 9 shown.peers (λ peer. refl), tt),
            ),
          ),
        ),
      ),
    )

shown_at : (o : Option ShownNode) → AreAt place 9 (shown_lines o)
unfolding node_lines
shown_at None = tt
shown_at (Some s) = node_at s.node s.shown s.shown.halted

pub in_order : (number : ℕ) (event : Event) (happenings : Happenings) → AreInOrder place 0 (parts_of number event happenings)
in_order number event happenings = (
  (refl, tt),
  (
    forged_at number happenings.forged,
    (
      up_at happenings.up,
      (
        bup_at happenings.bup,
        (
          agent_at happenings.agent,
          (
            path_at happenings.path,
            (
              grant_at happenings.grant,
              (
                took_at happenings.took,
                (
                  done_at happenings.done,
                  (shown_at (shown_by event happenings.shown), tt),
                ),
              ),
            ),
          ),
        ),
      ),
    ),
  ),
)

-- # What is read of each part

abbrev forged_in : List ReportLine → Bool
forged_in [] = false
forged_in (line ∷ lines) = true

forged_back : (number : ℕ) (forged : Bool) → forged_in (forged_lines number forged) ≡ forged
forged_back number true = refl
forged_back number false = refl

abbrev up_in : List ReportLine → Option Handed
up_in (Up node send octets ∷ lines) = Some (record { node = node; note = send; octets = octets })
up_in _ = None

up_back : (o : Option Handed) → up_in (up_lines o) ≡ o
up_back None = refl
up_back (Some up) = refl

abbrev bup_in : List ReportLine → Option BroadcastUp
bup_in (Bup node origin number octets ∷ lines) = Some (record { node = node; origin = origin; number = number; octets = octets })
bup_in _ = None

bup_back : (o : Option BroadcastUp) → bup_in (bup_lines o) ≡ o
bup_back None = refl
bup_back (Some up) = refl

abbrev agent_in : List ReportLine → Option AgentLine
agent_in (Agent node address total ∷ lines) = Some (record { node = node; address = address; total = total })
agent_in _ = None

agent_back : (o : Option AgentLine) → agent_in (agent_lines o) ≡ o
agent_back None = refl
agent_back (Some agent) = refl

abbrev path_in : List ReportLine → Option PathLine
path_in (Path node walk ∷ lines) = Some (record { node = node; walk = walk })
path_in _ = None

path_back : (o : Option PathLine) → path_in (path_lines o) ≡ o
path_back None = refl
path_back (Some path) = refl

abbrev grant_in : List ReportLine → Option Admission
grant_in (Grant node address ∷ lines) = Some (record { node = node; address = address })
grant_in _ = None

grant_back : (o : Option Admission) → grant_in (grant_lines o) ≡ o
grant_back None = refl
grant_back (Some grant) = refl

abbrev took_in : List ReportLine → Option ℕ
took_in (Took node ∷ lines) = Some node
took_in _ = None

took_back : (o : Option ℕ) → took_in (took_lines o) ≡ o
took_back None = refl
took_back (Some node) = refl

abbrev done_in : List ReportLine → Option ℕ
done_in (Done node ∷ lines) = Some node
done_in _ = None

done_back : (o : Option ℕ) → done_in (done_lines o) ≡ o
done_back None = refl
done_back (Some node) = refl

abbrev AreShown : Option ShownNode → Type 0
AreShown o = IfSome o (λ s. IsShown s.shown)

shown_fits : (event : Event) (o : Option Shown) → IfSome o IsShown → AreShown (shown_by event o)
shown_fits (Show node) (Some shown) is = is
shown_fits _ _ is = tt

same_shown : (o p : Option ShownNode) → AreShown o → AreShown p → shown_lines o ≡ shown_lines p → IsSameShown o p
same_shown None None is js same = tt
same_shown None (Some t) is js same = some_lines t.node t.shown (sym same)
same_shown (Some s) None is js same = some_lines s.node s.shown same
same_shown (Some s) (Some t) is js same = same_node s.node t.node s.shown t.shown is js same

-- # Outcomes

abbrev part : ℕ → List (List ReportLine) → List ReportLine
part i parts = get_or parts i []

-- what a reader of a part reads of the same parts
module _ {A : Type 0} (read : List ReportLine → A) (i : ℕ) (ps qs : List (List ReportLine)) (a b : A) where
  read_same : read (part i ps) ≡ a → read (part i qs) ≡ b → ps ≡ qs → a ≡ b
  read_same is js same = sym is ∙ ap (λ (parts : List (List ReportLine)). read (part i parts)) same ∙ js

-- parts of two events, with others after them
pub same_outcome : (d e : Event) (m n : ℕ) (h k : Happenings) (ps qs : List (List ReportLine)) → IfSome h.shown IsShown → IfSome k.shown IsShown
    → parts_of m d h ++ ps ≡ parts_of n e k ++ qs → (m ≡ n) × IsSameOutcome d e h k
same_outcome d e m n h k ps qs is js same =
    let xs : List (List ReportLine) = parts_of m d h ++ ps in
    let ys : List (List ReportLine) = parts_of n e k ++ qs in
    let verdicts : (Verdict m h.answer ∷ []) ≡ (Verdict n k.answer ∷ []) = ap (part 0) same in
    let number : m ≡ n = cc verdicts in
    let answer : h.answer ≡ k.answer = cc verdicts in (
      number,
      record {
        answer = answer;
        forged = read_same forged_in 1 xs ys h.forged k.forged (forged_back m h.forged) (forged_back n k.forged) same;
        up = read_same up_in 2 xs ys h.up k.up (up_back h.up) (up_back k.up) same;
        bup = read_same bup_in 3 xs ys h.bup k.bup (bup_back h.bup) (bup_back k.bup) same;
        agent = read_same agent_in 4 xs ys h.agent k.agent (agent_back h.agent) (agent_back k.agent) same;
        path = read_same path_in 5 xs ys h.path k.path (path_back h.path) (path_back k.path) same;
        grant = read_same grant_in 6 xs ys h.grant k.grant (grant_back h.grant) (grant_back k.grant) same;
        took = read_same took_in 7 xs ys h.took k.took (took_back h.took) (took_back k.took) same;
        done = read_same done_in 8 xs ys h.done k.done (done_back h.done) (done_back k.done) same;
        shown = same_shown (shown_by d h.shown) (shown_by e k.shown) (shown_fits d h.shown is) (shown_fits e k.shown js) (ap (part 9) same);
      },
    )

pub one_outcome : OneOutcomeForAReport
unfolding lines_of
one_outcome d e m n h k of_d of_e im in' ih ik is =
    let lines : lines_of m d h ≡ lines_of n e k =
    one_report (lines_of m d h) (lines_of n e k) (happened_fits m d h im of_d ih) (happened_fits n e k in' of_e ik)
    (sym (happened_is m d h) ∙ is ∙ happened_is n e k) in
    let parts = same_parts place 0 (parts_of m d h) (parts_of n e k) refl (in_order m d h) (in_order n e k) lines in
    same_outcome d e m n h k [] [] ih.shown ik.shown (λ i. parts i ++ [])
