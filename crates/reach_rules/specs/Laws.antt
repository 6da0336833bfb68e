-- What holds of further reach, whatever a node holds and whatever comes.
use Rattle.std.specs.Prelude.{◌≡◌, ◌⊎◌, ◌≤◌, ℕ, Bool, true, false, nat_lt, if◌then◌else◌, List, [], ◌∷◌, ◌++◌, Option, Some, None, Result, Ok, Err}
use Rattle.std.specs.FinMap.{empty}
use Rattle.plc_base.specs.declared.key.Key.{Key}
use Rattle.store_tables.specs.Writes.{puts_of}
use Rattle.mesh_header.specs.declared.unit.Unit.{Unit as MeshUnit}
use Rattle.mesh_header.specs.declared.unit.Unit.TheVariants as units
use Rattle.loadng_messages.specs.declared.message.Message.TheVariants.{Rreq, Rrep}
use Rattle.frame_counters.specs.SendCounter as counter
use Rattle.neighbour_checks.specs.Acks.{ack_in}
use Rattle.neighbour_checks.specs.Neighbours.{nobody, is_listed}
use Rattle.broadcast_log.specs.declared.broadcast.Broadcast.{Broadcast}
use Rattle.broadcast_log.specs.OriginMarks.{keep_write}
use Rattle.pan_discovery.specs.History.{Scanned}
use Rattle.node_rules.specs.Accepted.{Accepted}
use Rattle.node_rules.specs.declared.heard.Heard.TheVariants as heard
use Rattle.node_rules.specs.declared.heard.Path.TheVariants as paths
use Rattle.node_rules.specs.declared.refusal.Dropped.{Dropped}
use Rattle.node_rules.specs.declared.refusal.Dropped.TheVariants as drops
use Rattle.node_rules.specs.Frames.{Sent, Sealed, Up, Down}
use Rattle.node_rules.specs.Memory.{StationMemory, Memory, Role, address_of}
use Rattle.node_rules.specs.Plans.{Plan, resting}
use Rattle.node_rules.specs.Drafts.{StationPlace}
use Rattle.node_rules.specs.HearingRules.{hear}
use Rattle.node_rules.specs.Laws.{RefusesCleanly, WritesInTurn}
use Rattle.node_rules.specs.Meters as meters
use Rattle.node_rules.specs.Coordinators as coordinator_rules
use Rattle.reach_rules.specs.declared.heard.CommandHeard.{CommandHeard}
use Rattle.reach_rules.specs.declared.refusal.ReachDropped.{ReachDropped}
use Rattle.reach_rules.specs.declared.refusal.ReachDropped.TheVariants.{Known, Blacklisted, NotAwaited, Old}
use Rattle.reach_rules.specs.declared.refusal.BroadcastRefusal.TheVariants as broadcasts
use Rattle.reach_rules.specs.declared.refusal.AskRefusal.TheVariants as asks
use Rattle.reach_rules.specs.ReachingNodes.{Beside, Reaching, ReachHeard, known_answer, drop_it, tick_beside, restarted, nothing_beside}
use Rattle.reach_rules.specs.CheckedReplies.{message_of, acknowledges, hear_checked, hear_acknowledgement}
use Rattle.reach_rules.specs.Broadcasts.{broadcast, hear_broadcast_in}
use Rattle.reach_rules.specs.PathRequests.{ask_path}
use Rattle.reach_rules.specs.Beacons.{hear_discovery}
use Rattle.reach_rules.specs.FurtherReceptions.{NeighbourCommand, command_of, hear_command, hear_reaching, meter_hearing, coordinator_hearing}

-- # As without further reach

-- A plan that does what another one does, and leaves what stands beside the memory as it is.
pub record DoesAsWithout {M H : Type 0} (x : Reaching M) (p : Plan M (Result H Dropped))
    (q : Plan (Reaching M) (Result (ReachHeard H) ReachDropped)) : Type 0 where
  pub answer : q.answer ≡ known_answer p.answer
  pub failed : q.failed ≡ known_answer p.failed
  pub puts : q.puts ≡ p.puts
  pub memory : q.memory.memory ≡ p.memory
  pub beside : q.memory.beside ≡ x.beside
  pub frames : q.frames ≡ p.frames
  pub made : q.made ≡ p.made
  pub opened : q.opened ≡ p.opened

-- a frame that carries no command for the neighbours is heard so, where checks are off
abbrev pub HearsAsWithout : Type 0 → Type 0 → Type 0
HearsAsWithout M H =
    (h : StationPlace M) (x : Reaching M) (got : Accepted) (now : ℕ) (p : Plan M (Result H Dropped))
    → command_of got ≡ None → DoesAsWithout x p (hear_reaching h false x got now p)

-- of a meter, and of the coordinator
abbrev pub NodesHearAsWithout : Type 0
NodesHearAsWithout =
    (x : Reaching Memory) (got : Accepted) (cost note now : ℕ) → command_of got ≡ None
    → ((own : meters.Identity)
    → DoesAsWithout x (meters.hear_meter own x.memory got cost note now) (meter_hearing own false x got cost note now))
    × ((own : coordinator_rules.CoordinatorIdentity)
    → DoesAsWithout x (coordinator_rules.hear_coordinator own x.memory got cost note now)
    (coordinator_hearing own false x got cost note now))

-- a command for the neighbours is handed on unread by a station without further reach, and changes nothing of it
abbrev pub CommandsAreHandedOn : Type 0
CommandsAreHandedOn =
    (l : StationMemory) (own : ℕ) (got : Accepted) (c : NeighbourCommand) (cost note now : ℕ)
    → address_of l ≡ Some own → command_of got ≡ Some c
    → hear l got cost note now ≡ resting l (Ok (heard.Local c.from c.to_all c.code c.body)) (Err drops.Store)

-- and no other frame is
abbrev pub OnlyCommandsAreHandedOn : Type 0
OnlyCommandsAreHandedOn =
    (l : StationMemory) (got : Accepted) (cost note now : ℕ) (from : ℕ) (all : Bool) (code : ℕ) (body : List ℕ)
    → (hear l got cost note now).answer ≡ Ok (heard.Local from all code body)
    → command_of got ≡ Some (record { from = from; to_all = all; code = code; body = body })

-- a store without records gives nothing that stands beside the memory
abbrev pub AnEmptyStoreGivesNothing : Type 0
AnEmptyStoreGivesNothing = restarted empty ≡ Ok nothing_beside

-- # Checks that are off

-- why an acknowledgement is dropped that no check awaits
abbrev pub unawaited : (all : Bool) → Option (ℕ × ℕ) → ReachDropped
unawaited true ack = Known drops.BadUnit
unawaited false None = Known drops.BadUnit
unawaited false (Some ack) = NotAwaited

-- each is, where no check is open
abbrev pub NothingIsAwaited : Type 0 → Type 0
NothingIsAwaited M =
    (x : Reaching M) (from : ℕ) (all : Bool) (body : List ℕ) → x.beside.checks ≡ nobody
    → hear_acknowledgement x from all body ≡ drop_it x (unawaited all (ack_in body))

-- where nobody is checked or listed, no time lists anyone
abbrev pub NobodyIsListedByTime : Type 0
NobodyIsListedByTime = (now : ℕ) (b : Beside) → b.checks ≡ nobody → tick_beside now b ≡ b

-- # Checks that are on

-- What is heard of a reply that is taken: its acknowledgement comes after all that its own rule did.
pub record IsAcknowledged {M H : Type 0} (h : StationPlace M) (from number origin : ℕ) (p : Plan M (Result H Dropped))
    (q : Plan (Reaching M) (Result (ReachHeard H) ReachDropped)) : Type 0 where
  pub answer : q.answer ≡ known_answer p.answer
  pub puts : q.puts ≡ p.puts ++ (acknowledges h from number origin p.memory).puts
  pub memory : q.memory.memory ≡ (acknowledges h from number origin p.memory).memory
  pub frames : q.frames ≡ p.frames ++ (acknowledges h from number origin p.memory).frames

-- each reply that comes to one node and is taken is acknowledged so
abbrev pub RepliesAreAcknowledged : Type 0 → Type 0 → Type 0
RepliesAreAcknowledged M H =
    (h : StationPlace M) (x : Reaching M) (got : Accepted) (now : ℕ) (p : Plan M (Result H Dropped))
    (from number cost origin to : ℕ) (key : Key) (heard : H)
    → got.path ≡ paths.Sealed from false key → message_of got ≡ Some (Rrep number cost origin to)
    → p.answer ≡ Ok heard → IsAcknowledged h from number origin p (hear_checked h x got now p)

-- a request of a listed neighbour is dropped, whatever it asks and whatever its own rule would do
abbrev pub ListedAreNotBelieved : Type 0 → Type 0 → Type 0
ListedAreNotBelieved M H =
    (h : StationPlace M) (x : Reaching M) (got : Accepted) (now : ℕ) (p : Plan M (Result H Dropped))
    (from number cost origin dest : ℕ) (key : Key)
    → got.path ≡ paths.Sealed from true key → message_of got ≡ Some (Rreq number cost origin dest)
    → is_listed x.beside.checks from ≡ true → hear_checked h x got now p ≡ drop_it x Blacklisted

-- # A scan that is off

-- a node that does not scan hears no agent
abbrev pub NoScanHearsNothing : Type 0
NoScanHearsNothing =
    (role : Role) (l : StationMemory) (scan : Scanned) (octets : List ℕ) (link : ℕ) → scan.scanning ≡ false
    → (hear_discovery role l scan octets link).scan ≡ scan

-- # Refusals

-- a command that is dropped changes nothing
abbrev pub CommandsRefuseCleanly : Type 0 → Type 0
CommandsRefuseCleanly M =
    (h : StationPlace M) (x : Reaching M) (c : NeighbourCommand)
    → RefusesCleanly (Known drops.Store) x (hear_command h x c)

-- nor does a broadcast that is not sent, or an ask
abbrev pub CallsRefuseCleanly : Type 0 → Type 0
CallsRefuseCleanly M =
    (h : StationPlace M) (x : Reaching M)
    → ((datagram : List ℕ) → RefusesCleanly broadcasts.Store x (broadcast h x datagram))
    × ((target : ℕ) → RefusesCleanly asks.Store x (ask_path h x target))

-- nor does a frame that is dropped, where its own rule does not without further reach
abbrev pub FramesRefuseCleanly : Type 0 → Type 0 → Type 0
FramesRefuseCleanly M H =
    (h : StationPlace M) (checks_on : Bool) (x : Reaching M) (got : Accepted) (now : ℕ) (p : Plan M (Result H Dropped))
    → RefusesCleanly drops.Store x.memory p
    → RefusesCleanly (Known drops.Store) x (hear_reaching h checks_on x got now p)

-- # Once

-- a broadcast that was handed up is old from then on, however many hops it still has and whichever way it comes
abbrev pub HandedUpOnce : Type 0 → Type 0
HandedUpOnce M =
    (h : StationPlace M) (x : Reaching M) (own : ℕ) (b c : Broadcast) (heard : CommandHeard)
    → (hear_broadcast_in h x own (Some b)).answer ≡ Ok heard → c.origin ≡ b.origin → c.number ≡ b.number
    → (hear_broadcast_in h (hear_broadcast_in h x own (Some b)).memory own (Some c)).answer ≡ Err Old

-- # The order of writes

-- the writes for a command are made in turn
abbrev pub CommandsWriteInTurn : Type 0 → Type 0
CommandsWriteInTurn M =
    (h : StationPlace M) (x : Reaching M) (c : NeighbourCommand) → WritesInTurn (hear_command h x c)

-- and those for a broadcast and an ask
abbrev pub CallsWriteInTurn : Type 0 → Type 0
CallsWriteInTurn M =
    (h : StationPlace M) (x : Reaching M)
    → ((datagram : List ℕ) → WritesInTurn (broadcast h x datagram))
    × ((target : ℕ) → WritesInTurn (ask_path h x target))

-- how many frames take a broadcast on
abbrev pub frames_on : Broadcast → ℕ
frames_on b = if nat_lt b.hops 2 then 0 else 1

-- a broadcast that is handed up stores the mark of its origin and then the counter of its frame
abbrev pub MarkedBeforeTheCounter : Type 0 → Type 0
MarkedBeforeTheCounter M =
    (h : StationPlace M) (x : Reaching M) (own : ℕ) (b : Broadcast) (heard : CommandHeard)
    → (hear_broadcast_in h x own (Some b)).answer ≡ Ok heard
    → (hear_broadcast_in h x own (Some b)).puts
    ≡ puts_of (keep_write x.beside.log.marks b.origin b.number)
    ++ puts_of (counter.reserve_write (h.station x.memory).counter (frames_on b))

-- # What goes out

-- a command of code 03, 04 or 05
abbrev pub IsNeighbourUnit : MeshUnit → Type 0
IsNeighbourUnit (units.Local code body) = (3 ≤ code) × (code ≤ 5)
IsNeighbourUnit (units.Whole mesh octets) = ⊥
IsNeighbourUnit (units.Part mesh piece) = ⊥
IsNeighbourUnit (units.Carried mesh body) = ⊥

-- a sealed frame with such a command, under the note 0
abbrev pub IsNeighbourFrame : Sent → Type 0
IsNeighbourFrame (Sealed sealed_unit) = (sealed_unit.note ≡ 0) × IsNeighbourUnit sealed_unit.unit
IsNeighbourFrame (Up agent from message) = ⊥
IsNeighbourFrame (Down from message) = ⊥

-- no frame, or one of these
abbrev pub AtMostACommand : List Sent → Type 0
AtMostACommand [] = Unit {0}
AtMostACommand (frame ∷ []) = IsNeighbourFrame frame
AtMostACommand (frame ∷ other ∷ rest) = ⊥

-- a plan sends at most one frame, which is one of these
abbrev pub SendsACommand : {M A : Type 0} → Plan M A → Type 0
SendsACommand p = AtMostACommand p.frames

-- for a command that was heard
abbrev pub CommandsSendCommands : Type 0 → Type 0
CommandsSendCommands M =
    (h : StationPlace M) (x : Reaching M) (c : NeighbourCommand) → SendsACommand (hear_command h x c)

-- for a broadcast and an ask
abbrev pub CallsSendCommands : Type 0 → Type 0
CallsSendCommands M =
    (h : StationPlace M) (x : Reaching M)
    → ((datagram : List ℕ) → SendsACommand (broadcast h x datagram))
    × ((target : ℕ) → SendsACommand (ask_path h x target))

-- an acknowledgement is one too, and stores at most the counter of its frame
abbrev pub AcknowledgementsAreCommands : Type 0 → Type 0
AcknowledgementsAreCommands M =
    (h : StationPlace M) (to number origin : ℕ) (m : M)
    → SendsACommand (acknowledges h to number origin m) × WritesInTurn (acknowledges h to number origin m)

-- # What stays

-- A plan that changes nothing of the memory but the counter of its frames, and nothing of the scan.
pub record KeepsTheRest {M A : Type 0} (h : StationPlace M) (x : Reaching M) (p : Plan (Reaching M) A) : Type 0 where
  pub memory : (p.memory.memory ≡ x.memory)
      ⊎ ((c : counter.Counting) × (p.memory.memory ≡ h.with_station (record (h.station x.memory) { counter = c }) x.memory))
  pub scan : p.memory.beside.scan ≡ x.beside.scan

-- for a command that was heard
abbrev pub CommandsKeepTheRest : Type 0 → Type 0
CommandsKeepTheRest M =
    (h : StationPlace M) (x : Reaching M) (c : NeighbourCommand) → KeepsTheRest h x (hear_command h x c)

-- for a broadcast and an ask
abbrev pub CallsKeepTheRest : Type 0 → Type 0
CallsKeepTheRest M =
    (h : StationPlace M) (x : Reaching M)
    → ((datagram : List ℕ) → KeepsTheRest h x (broadcast h x datagram))
    × ((target : ℕ) → KeepsTheRest h x (ask_path h x target))
