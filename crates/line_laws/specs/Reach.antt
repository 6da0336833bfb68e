-- What runs of a line keep of further reach.
use Rattle.std.specs.Prelude.{◌≡◌, ℕ, false, All, List, [], ◌∷◌, Err, Ok, Some}
use Rattle.plc_base.specs.declared.key.Key.{Key}
use Rattle.node_rules.specs.Accepted.{Accepted}
use Rattle.node_rules.specs.declared.heard.Reply.{Reply}
use Rattle.node_rules.specs.declared.refusal.Dropped.TheVariants as drops
use Rattle.node_rules.specs.Ciphers.{network}
use Rattle.node_rules.specs.Memory.{Node, node_address}
use Rattle.node_rules.specs.MemoryDrafts.{in_memory}
use Rattle.node_rules.specs.NodeSteps.{NodeStep}
use Rattle.reach_rules.specs.declared.refusal.AskRefusal.TheVariants as asks_of
use Rattle.reach_rules.specs.declared.refusal.BroadcastRefusal.TheVariants as broadcasts_of
use Rattle.reach_rules.specs.declared.refusal.ChooseRefusal.TheVariants as choices_of
use Rattle.reach_rules.specs.declared.refusal.ReachDropped.TheVariants as reach_drops
use Rattle.reach_rules.specs.Beacons.{choose_agent}
use Rattle.reach_rules.specs.Broadcasts.{broadcast}
use Rattle.reach_rules.specs.CheckedReplies.{message_of}
use Rattle.reach_rules.specs.PathRequests.{ask_path}
use Rattle.reach_rules.specs.FurtherReceptions.{NeighbourCommand, command_of, hear_command}
use Rattle.line_events.specs.declared.event.Event.{Event}
use Rattle.line_rules.specs.Answers.{Reception}
use Rattle.line_events.specs.Events.{IsEvent, IsLineOctets}
use Rattle.line_rules.specs.Forgery.{Comes, accepting}
use Rattle.line_rules.specs.Further.{acknowledging, beside_at, due, reaches}
use Rattle.line_rules.specs.FurtherRuns.{AreBroadcastOnce, AreOfHistory, AreWalked, LogsAlwaysKept}
use Rattle.line_rules.specs.Runs.{Entry, IsLineRun}
use Rattle.line_rules.specs.Steps.{forged_by, hearing_step, identity, note_by, psk_of}
use Rattle.line_rules.specs.Worlds.{World, node_at}
use Rattle.line_laws.specs.SealedUnits.{IsSent}
use Rattle.line_laws.specs.Ranges.{WorldRanged}

-- In every run of the network, forged or not, over restarts and failed writes: what each node holds of checks and of its scan is what its
-- history says.
abbrev pub EveryHistoryIsKept : Type 0
EveryHistoryIsKept = (entries : List Entry) → IsLineRun network entries → AreOfHistory entries

-- And every store of such a run gives a log, so each restart is answered.
abbrev pub EveryLogIsKept : Type 0
EveryLogIsKept = (entries : List Entry) → IsLineRun network entries → LogsAlwaysKept entries

-- # Before the first forged event

-- The steps of each walk that is reported were taken before, in its order.
abbrev pub EveryWalkWasTaken : Type 0
EveryWalkWasTaken = (entries : List Entry) → IsLineRun network entries → AreWalked entries

-- Each broadcast that is handed up was sent by another node with the same octets, and no node hands up two of one origin and number.
abbrev pub EveryBroadcastIsOnce : Type 0
EveryBroadcastIsOnce = (entries : List Entry) → IsLineRun network entries → AreBroadcastOnce entries

-- # What they rest on

-- so it is of each world of a run, before the first forged event
abbrev pub HoldsAlong : (World → Type 0) → World → List Entry → Type 0
HoldsAlong P w [] = Unit {0}
HoldsAlong P w (x ∷ xs) = P w × (x.trace.happenings.forged ≡ false → HoldsAlong P x.after xs)

-- A node has accepted octets that came to it, and that are not forged.
pub record IsHeard (w : World) (event : Event) (number : ℕ) (x : Node) (octets : List ℕ) (got : Accepted) : Type 0 where
  pub says : IsEvent event
  pub there : node_at w number ≡ Some x
  pub comes : Comes w event number octets
  pub is : (accepting network x octets).answer ≡ Ok got
  pub honest : forged_by w octets got.path ≡ false

-- what the node makes of them by its rule for other frames
abbrev pub hearing : World → Node → List ℕ → Accepted → ℕ → NodeStep Reception
hearing w x octets got cost = hearing_step network (accepting network x octets).node got cost (note_by w octets got.path) w.clock

-- and as that leaves it
abbrev pub left_hearing : World → Node → List ℕ → Accepted → ℕ → Node
left_hearing w x octets got cost = (hearing w x octets got cost).node

-- What the nodes of a world send by further rules is letters in their ranges.
pub record SendsSealedUnits (w : World) : Type 0 where
  pub broadcasts : (number : ℕ) (x : Node) (datagram : List ℕ) → node_at w number ≡ Some x → IsLineOctets datagram
      → All IsSent (reaches x (beside_at w number) (Err broadcasts_of.Halted) (λ y. broadcast in_memory y datagram)).frames
  pub asks : (number : ℕ) (x : Node) (target : ℕ) → node_at w number ≡ Some x
      → All IsSent (reaches x (beside_at w number) (Err asks_of.Halted) (λ y. ask_path in_memory y target)).frames
  pub choices : (number k : ℕ) (x : Node) (psk : Key) → node_at w number ≡ Some x → psk_of x ≡ Some psk
      → All IsSent (reaches x (beside_at w number) (Err choices_of.Halted) (λ y. choose_agent (identity network x psk) y k w.clock)).frames
  pub commands : (event : Event) (number : ℕ) (x : Node) (octets : List ℕ) (got : Accepted) (cost : ℕ) (c : NeighbourCommand)
      → IsHeard w event number x octets got → command_of got ≡ Some c
      → All IsSent (reaches (left_hearing w x octets got cost) (beside_at w number) (Err (reach_drops.Known drops.Store))
      (λ y. hear_command in_memory y c)).frames
  pub acknowledges : (event : Event) (number : ℕ) (x : Node) (octets : List ℕ) (got : Accepted) (cost : ℕ) (reply : Reply)
      → IsHeard w event number x octets got → due got.path (message_of got) (hearing w x octets got cost).answer.answer ≡ Some reply
      → All IsSent (acknowledging (left_hearing w x octets got cost) reply).frames

-- A world that is in its ranges, and so is what its nodes send.
pub record IsInRange (w : World) : Type 0 where
  pub ranged : WorldRanged w
  pub sends : SendsSealedUnits w

-- Each node of a world that has an address is at its home.
pub record AreAtHome (home : ℕ → ℕ) (w : World) : Type 0 where
  pub homes : (number : ℕ) (x : Node) (address : ℕ) → node_at w number ≡ Some x → node_address x ≡ Some address → address ≡ home number
