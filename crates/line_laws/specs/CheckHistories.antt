-- Who is listed and which acknowledgements are awaited, said of the history of a node's replies, acknowledgements and ticks; and that the answers
-- Blacklisted, Acked and NotAwaited come exactly so.
use Rattle.std.specs.Prelude.{◌≡◌, ◌↔◌, ℕ, true, false, List, [], ◌∷◌, ◌++◌, Some, Ok}
use Rattle.plc_base.specs.declared.key.Key.{Key}
use Rattle.mesh_header.specs.declared.unit.Unit.TheVariants as units
use Rattle.loadng_messages.specs.declared.message.Message.TheVariants.{Rreq}
use Rattle.neighbour_checks.specs.declared.tables.OpenCheck.{OpenCheck}
use Rattle.neighbour_checks.specs.declared.tables.ListedNeighbour.{ListedNeighbour}
use Rattle.neighbour_checks.specs.Acks.{ack_in}
use Rattle.neighbour_checks.specs.History as checking
use Rattle.neighbour_checks.specs.History.{History, Reply, Tick, after_history, ends, lets_go}
use Rattle.neighbour_checks.specs.Neighbours.{is_open_at, may_begin, waits_for}
use Rattle.node_rules.specs.Accepted.{Accepted}
use Rattle.node_rules.specs.declared.heard.Path.TheVariants as paths
use Rattle.node_rules.specs.Ciphers.{network}
use Rattle.node_rules.specs.Memory.{Node}
use Rattle.reach_rules.specs.CheckedReplies.{message_of}
use Rattle.line_events.specs.declared.event.Answer.TheVariants as answers
use Rattle.line_events.specs.declared.event.Event.{Event}
use Rattle.line_rules.specs.Forgery.{Comes, accepting}
use Rattle.line_rules.specs.FurtherRuns.{check_history}
use Rattle.line_rules.specs.Runs.{Entry, IsLineRun}
use Rattle.line_rules.specs.Worlds.{World, node_at, start}
use Rattle.line_laws.specs.ReachTraces.{FrameCame}

-- # In a history

-- A check is open: a reply began it, at a neighbour that had none and was not listed, with fewer than 64 open or listed; and no later entry ended it,
-- neither its acknowledgement nor a tick `CHECK_TIME` after it or later.
pub data IsOpen (c : OpenCheck) : History → Type 0 where
  Begins : (past : History) → may_begin (after_history past) c.neighbour ≡ true → IsOpen c (Reply c.neighbour c.number c.origin c.since ∷ past)
  StaysOpen : (entry : checking.Entry) (past : History) → IsOpen c past → ends c entry ≡ false → IsOpen c (entry ∷ past)

-- A neighbour is listed: a tick listed it, `CHECK_TIME` or more after a reply whose check was still open; and since then no tick came `LISTED_TIME`
-- after that one or later.
pub data IsListed (l : ListedNeighbour) : History → Type 0 where
  Lists : (past : History) (c : OpenCheck) → IsOpen c past → c.neighbour ≡ l.neighbour → is_open_at l.since c ≡ false → IsListed l (Tick l.since ∷ past)
  StaysListed : (entry : checking.Entry) (past : History) → IsListed l past → lets_go l entry ≡ false → IsListed l (entry ∷ past)

-- # In a run

-- A request to all came to a node, sealed by a neighbour at this address.
pub record RequestCame (w : World) (event : Event) (number from : ℕ) : Type 0 where
  pub node : Node
  pub there : node_at w number ≡ Some node
  pub octets : List ℕ
  pub comes : Comes w event number octets
  pub got : Accepted
  pub is : (accepting network node octets).answer ≡ Ok got
  pub key : Key
  pub path : got.path ≡ paths.Sealed from true key
  pub count : ℕ
  pub cost : ℕ
  pub origin : ℕ
  pub dest : ℕ
  pub carries : message_of got ≡ Some (Rreq count cost origin dest)

-- An event is answered Blacklisted: checks are on, and the request is of a neighbour that the node's history lists.
pub record IsBlacklisted (w : World) (before : List Entry) (event : Event) : Type 0 where
  pub on : w.checks_on ≡ true
  pub number : ℕ
  pub from : ℕ
  pub came : RequestCame w event number from
  pub since : ℕ
  pub listed : IsListed (record { neighbour = from; since = since }) (check_history number [] before)

-- An acknowledgement came of a reply that the node's history has a check of.
pub record IsAwaited (w : World) (before : List Entry) (event : Event) : Type 0 where
  pub number : ℕ
  pub from : ℕ
  pub body : List ℕ
  pub came : FrameCame w event number from false (units.Local 3 body)
  pub count : ℕ
  pub origin : ℕ
  pub read : ack_in body ≡ Some (count, origin)
  pub check : OpenCheck
  pub held : IsOpen check (check_history number [] before)
  pub waits : waits_for from count origin check ≡ true

-- An acknowledgement came of which the node's history has no check.
pub record IsNotAwaited (w : World) (before : List Entry) (event : Event) : Type 0 where
  pub number : ℕ
  pub from : ℕ
  pub body : List ℕ
  pub came : FrameCame w event number from false (units.Local 3 body)
  pub count : ℕ
  pub origin : ℕ
  pub read : ack_in body ≡ Some (count, origin)
  pub none : (c : OpenCheck) → IsOpen c (check_history number [] before) → waits_for from count origin c ≡ false

-- What an event answers of checks is what the history before it says.
pub record IsCheckedRight (w : World) (before : List Entry) (x : Entry) : Type 0 where
  pub blacklisted : (x.trace.happenings.answer ≡ answers.Blacklisted) ↔ IsBlacklisted w before x.event
  pub acked : x.trace.happenings.answer ≡ answers.Acked → IsAwaited w before x.event
  pub not_awaited : x.trace.happenings.answer ≡ answers.NotAwaited → IsNotAwaited w before x.event

-- so it is of each event of a run
abbrev pub AreCheckedRightAfter : World → List Entry → List Entry → Type 0
AreCheckedRightAfter w before [] = Unit {0}
AreCheckedRightAfter w before (x ∷ xs) = IsCheckedRight w before x × AreCheckedRightAfter x.after (before ++ x ∷ []) xs

abbrev pub AreCheckedRight : List Entry → Type 0
AreCheckedRight entries = AreCheckedRightAfter start [] entries

-- and so it is of every run of the network, forged or not, over restarts and failed writes
abbrev pub EveryCheckIsRight : Type 0
EveryCheckIsRight = (entries : List Entry) → IsLineRun network entries → AreCheckedRight entries
