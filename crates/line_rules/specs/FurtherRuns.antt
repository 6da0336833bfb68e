-- What further reach promises of runs: broadcasts are handed up once and as they were sent, reported paths were walked, and checks and
-- scans are what their histories say.
use Rattle.std.specs.Prelude.{◌≡◌, ◌≢◌, ℕ, ◌==◌, Bool, true, false, List, [], ◌∷◌, ◌++◌, All, Option, Some, None, IfSome, Ok, slice_get, if◌then◌else◌}
use Rattle.broadcast_log.specs.Log.{Log, log_at_rest, opened}
use Rattle.neighbour_checks.specs.History as checking
use Rattle.pan_discovery.specs.History as scanning
use Rattle.node_rules.specs.Memory.{Memory, Node}
use Rattle.reach_rules.specs.ReachingNodes.{Beside}
use Rattle.line_events.specs.declared.event.Event.{Event}
use Rattle.line_events.specs.declared.event.Event.TheVariants as events
use Rattle.line_events.specs.declared.happenings.BroadcastUp.{BroadcastUp}
use Rattle.line_events.specs.declared.happenings.PathLine.{PathLine}
use Rattle.line_rules.specs.Further.{beside_at}
use Rattle.line_rules.specs.Runs.{Entry, all_of, one_of}
use Rattle.line_rules.specs.Worlds.{World, node_at, start, Broadcasting, Stepping, Noticed, Replied, Acknowledged, Scans, Heard}

-- # Broadcasts

-- the broadcasts that were sent, and those that were handed up, in order
abbrev pub broadcasts : List Entry → List Broadcasting
broadcasts entries = all_of (λ d. one_of d.further.broadcast) entries

abbrev pub broadcast_ups : List Entry → List BroadcastUp
broadcast_ups entries = all_of (λ d. one_of d.happenings.bup) entries

-- A broadcast that was handed up was sent by another node, at the address that it names, with the same number and octets.
pub record WasBroadcast (up : BroadcastUp) (sent : List Broadcasting) : Type 0 where
  pub place : ℕ
  pub broadcast : Broadcasting
  pub is : slice_get sent place ≡ Some broadcast
  pub other : broadcast.node ≢ up.node
  pub address : broadcast.address ≡ up.origin
  pub number : broadcast.number ≡ up.number
  pub octets : broadcast.datagram ≡ up.octets

-- the node has handed up no broadcast of this origin and number
abbrev pub IsFirst : BroadcastUp → List BroadcastUp → Type 0
IsFirst up handed =
    All (λ (v : BroadcastUp). v.node ≡ up.node → v.origin ≡ up.origin → v.number ≡ up.number → ⊥) handed

-- so it is in each event before the first forged one
abbrev pub AreBroadcastOnceAfter : List Entry → List Entry → Type 0
AreBroadcastOnceAfter before [] = Unit {0}
AreBroadcastOnceAfter before (x ∷ xs) =
    x.trace.happenings.forged ≡ false
    → IfSome x.trace.happenings.bup (λ up. WasBroadcast up (broadcasts before) × IsFirst up (broadcast_ups before))
    × AreBroadcastOnceAfter (before ++ x ∷ []) xs

-- Every broadcast that a run hands up was sent by another node with the same octets, and no node hands up two of one origin and number.
abbrev pub AreBroadcastOnce : List Entry → Type 0
AreBroadcastOnce entries = AreBroadcastOnceAfter [] entries

-- # Paths

-- the steps that asks took, in order
abbrev pub steps_taken : List Entry → List Stepping
steps_taken entries = all_of (λ d. one_of d.further.stepping) entries

-- the last address of a walk
abbrev pub last_of : ℕ → List ℕ → ℕ
last_of first [] = first
last_of first (second ∷ rest) = last_of second rest

-- the steps of a walk from each address to the next, toward a target
abbrev pub steps_toward : ℕ → List ℕ → List Stepping
steps_toward target [] = []
steps_toward target (a ∷ []) = []
steps_toward target (a ∷ b ∷ rest) = record { from = a; to = b; target = target } ∷ steps_toward target (b ∷ rest)

-- these stand in a list, in this order
pub data StandIn : List Stepping → List Stepping → Type 0 where
  Nothing : (all : List Stepping) → StandIn [] all
  Takes : (one : Stepping) (some all : List Stepping) → StandIn some all → StandIn (one ∷ some) (one ∷ all)
  Passes : (one : Stepping) (some all : List Stepping) → StandIn some all → StandIn some (one ∷ all)

-- the steps of a reported walk were taken, in its order
abbrev pub WasWalked : List ℕ → List Stepping → Type 0
WasWalked [] taken = ⊥
WasWalked (a ∷ rest) taken = StandIn (steps_toward (last_of a rest) (a ∷ rest)) taken

-- so it is in each event before the first forged one
abbrev pub AreWalkedAfter : List Entry → List Entry → Type 0
AreWalkedAfter before [] = Unit {0}
AreWalkedAfter before (x ∷ xs) =
    x.trace.happenings.forged ≡ false
    → IfSome x.trace.happenings.path (λ (line : PathLine). WasWalked line.walk (steps_taken before))
    × AreWalkedAfter (before ++ x ∷ []) xs

-- Every path that a run reports was walked step by step before it was reported.
abbrev pub AreWalked : List Entry → Type 0
AreWalked entries = AreWalkedAfter [] entries

-- # Checks and scans

-- whether an event restarts the node of a number
abbrev pub is_restart_of : ℕ → Event → Bool
is_restart_of number (events.Restart node) = node == number
is_restart_of number _ = false

abbrev pub is_tick : Event → Bool
is_tick (events.Tick seconds) = true
is_tick _ = false

-- what a node noticed that its checks depend on
abbrev pub checked_by : ℕ → (now : ℕ) → Option Noticed → checking.History → checking.History
checked_by number now None past = past
checked_by number now (Some (Replied node neighbour count origin)) past =
    if node == number then checking.Reply neighbour count origin now ∷ past else past
checked_by number now (Some (Acknowledged node neighbour count origin)) past =
    if node == number then checking.Acknowledgement neighbour count origin ∷ past else past
checked_by number now (Some (Scans node)) past = past
checked_by number now (Some (Heard node from cost link)) past = past

-- the history of a node's checks after one more event: since its last restart, the latest first
abbrev pub check_step : ℕ → Entry → checking.History → checking.History
check_step number x past =
    if is_restart_of number x.event then []
    else (if is_tick x.event then checking.Tick x.after.clock ∷ past else checked_by number x.after.clock x.trace.further.noticed past)

abbrev pub check_history : ℕ → checking.History → List Entry → checking.History
check_history number past [] = past
check_history number past (x ∷ xs) = check_history number (check_step number x past) xs

-- what a node noticed that its scan depends on
abbrev pub scanned_by : ℕ → Option Noticed → scanning.History → scanning.History
scanned_by number None past = past
scanned_by number (Some (Replied node neighbour count origin)) past = past
scanned_by number (Some (Acknowledged node neighbour count origin)) past = past
scanned_by number (Some (Scans node)) past = if node == number then scanning.Begin ∷ past else past
scanned_by number (Some (Heard node from cost link)) past =
    if node == number then scanning.Beacon from cost link ∷ past else past

-- the history of its scan after one more event
abbrev pub scan_step : ℕ → Entry → scanning.History → scanning.History
scan_step number x past = if is_restart_of number x.event then scanning.Clear ∷ past else scanned_by number x.trace.further.noticed past

abbrev pub scan_history : ℕ → scanning.History → List Entry → scanning.History
scan_history number past [] = past
scan_history number past (x ∷ xs) = scan_history number (scan_step number x past) xs

-- What each node holds of checks and of its scan after an event is what its history says.
pub record IsOfHistory (entries : List Entry) (w : World) : Type 0 where
  pub checks : (number : ℕ) → (beside_at w number).checks ≡ checking.after_history (check_history number [] entries)
  pub scan : (number : ℕ) → (beside_at w number).scan ≡ scanning.after_history (scan_history number [] entries)

abbrev pub AreOfHistoryAfter : List Entry → List Entry → Type 0
AreOfHistoryAfter before [] = Unit {0}
AreOfHistoryAfter before (x ∷ xs) = IsOfHistory (before ++ x ∷ []) x.after × AreOfHistoryAfter (before ++ x ∷ []) xs

-- so it is after every event, forged or not
abbrev pub AreOfHistory : List Entry → Type 0
AreOfHistory entries = AreOfHistoryAfter [] entries

-- # Logs

-- The store of a node gives a log; where the node is not halted, it is the log that it holds, as a new start finds it.
pub record GivesLog (b : Beside) (x : Node) : Type 0 where
  pub log : Log
  pub opened : opened x.store.records ≡ Ok log
  pub held : IfSome x.memory (λ (m : Memory). log ≡ log_at_rest b.log)

-- so does every store of a world
abbrev pub GiveLogs : Entry → Type 0
GiveLogs x = (number : ℕ) (node : Node) → node_at x.after number ≡ Some node → GivesLog (beside_at x.after number) node

-- and so it is after every event, forged or not
abbrev pub LogsAlwaysKept : List Entry → Type 0
LogsAlwaysKept entries = All GiveLogs entries

-- # The world before the first event

-- nothing was checked, heard, sent or reported
pub record NothingFurther : Type 0 where
  pub history : IsOfHistory [] start
  pub once : AreBroadcastOnce []
  pub walked : AreWalked []
