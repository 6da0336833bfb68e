-- What holds of the rules whatever a node holds and whatever comes.
use Rattle.std.specs.Option.{option_map, option_and_then}
use Rattle.fragment_buffers.specs.PieceIntake.{blocks_held}
use Rattle.std.specs.Prelude.{IfSome, ◌<◌, ◌^◌, ◌≡◌, ◌⊎◌, ℕ, ◌-◌, ◌≤◌, ◌==◌, Bool, All, List, [], ◌∷◌, ◌++◌, length, Option, Some, None, Result, Ok, Err}
use Rattle.std.specs.Prelude.{if◌then◌else◌}
use Rattle.std.specs.FinMap.{empty, insert}
use Rattle.plc_base.specs.declared.keeper.Cut.{Cut}
use Rattle.plc_base.specs.Keeper.{Records, Write}
use Rattle.plc_base.specs.declared.address.Eui.{Eui}
use Rattle.plc_base.specs.declared.key.Key.{Key}
use Rattle.node_rules.specs.Accepted.{Accepted}
use Rattle.node_rules.specs.declared.heard.Path.TheVariants as paths
use Rattle.node_rules.specs.declared.refusal.Dropped.TheVariants as drops
use Rattle.node_rules.specs.declared.refusal.FrameRefusal.TheVariants as frames
use Rattle.node_rules.specs.declared.heard.SentHow.{SentHow}
use Rattle.node_rules.specs.declared.refusal.SendRefusal.{SendRefusal}
use Rattle.node_rules.specs.declared.refusal.SendRefusal.TheVariants as sends
use Rattle.node_rules.specs.declared.refusal.JoinRefusal.TheVariants as joins
use Rattle.node_rules.specs.declared.refusal.LeaveRefusal.TheVariants as leaves
use Rattle.node_rules.specs.declared.refusal.CoordinatorRefusal.TheVariants as orders
use Rattle.node_rules.specs.Frames.{Arrived}
use Rattle.node_rules.specs.Acceptance.{accept}
use Rattle.mesh_header.specs.Reader.{unit_in}
use Rattle.loadng_messages.specs.declared.message.Message.TheVariants.{Rrep}
use Rattle.node_rules.specs.HearingRules.{hear}
use Rattle.node_rules.specs.Replies.{route_message}
use Rattle.node_rules.specs.Calls as calls
use Rattle.node_rules.specs.Meters as meters
use Rattle.node_rules.specs.Coordinators as coordinator_rules
use Rattle.node_rules.specs.Drafts.{blocks_waiting}
pub use Rattle.fragment_buffers.specs.Loads.{IsShort}
use Rattle.fragment_buffers.specs.Loads.{Load, Datagram, Command}
use Rattle.node_rules.specs.Memory.{StationMemory, Body, Memory, Node, Role, node_address, node_route}
use Rattle.node_rules.specs.RestartStates.{memory_of, remembering, blank_station}
use Rattle.node_rules.specs.Plans.{Plan, Outcome, carry_out}
use Rattle.node_rules.specs.NodeSteps.{acts, stays}

-- # Store writes that fail

-- the records with all these writes made, in order
abbrev pub all_put : List Write → Records → Records
all_put [] records = records
all_put (w ∷ rest) records = all_put rest (insert records w.slot w.octets)

-- the loss of power that is still to come after this many writes
abbrev pub nearer_by : ℕ → Cut → Cut
nearer_by count cut = record cut { nth = cut.nth - count }

-- A plan that was carried out to its end: the loss of power was to come after its writes.
pub record IsWhole {M A : Type 0} (records : Records) (cut : Option Cut) (p : Plan M A) (o : Outcome M A) : Type 0 where
  pub spared : IfSome cut (λ c. (p.puts ≡ []) ⊎ (length p.puts < c.nth))
  pub cut_left : o.cut ≡ option_map (nearer_by (length p.puts)) cut
  pub answer : o.answer ≡ p.answer
  pub left : o.records ≡ all_put p.puts records
  pub memory : o.memory ≡ Some p.memory
  pub frames : o.frames ≡ p.frames
  pub made : o.made ≡ p.made
  pub opened : o.opened ≡ p.opened

-- A plan one of whose writes failed: those before it were made, and the failed one as the loss of power says, which is over.
pub record IsCutOff {M A : Type 0} (records : Records) (cut : Option Cut) (p : Plan M A)
    (o : Outcome M A) : Type 0 where
  pub front : List Write
  pub write : Write
  pub rest : List Write
  pub split : p.puts ≡ front ++ write ∷ rest
  pub by : Cut
  pub loss : cut ≡ Some by
  pub place : length front ≡ by.nth - 1
  pub left : o.records ≡ (if by.keeps_new then all_put (front ++ write ∷ []) records else all_put front records)
  pub cut_left : o.cut ≡ None
  pub answer : o.answer ≡ p.failed
  pub memory : o.memory ≡ None
  pub frames : o.frames ≡ []
  pub made : o.made ≡ []
  pub opened : o.opened ≡ p.opened

-- a plan is carried out whole, or up to the one write that fails
abbrev pub WritesFailCleanly : Type 0 → Type 0 → Type 0
WritesFailCleanly M A =
    (records : Records) (cut : Option Cut) (p : Plan M A)
    → IsWhole records cut p (carry_out records cut p) ⊎ IsCutOff records cut p (carry_out records cut p)

-- where no loss of power is to come, every plan is carried out whole, and none is to come after it either
abbrev pub NoCutNoFailure : Type 0 → Type 0 → Type 0
NoCutNoFailure M A = (records : Records) (p : Plan M A) → IsWhole records None p (carry_out records None p)

-- # Halted nodes

-- a halted node has no address and no route
abbrev pub HaltedHasNoAddress : Type 0
HaltedHasNoAddress = (x : Node) → x.memory ≡ None → (node_address x ≡ None) × ((dest : ℕ) → node_route x dest ≡ None)

-- nor has one without a ring
abbrev pub RinglessHasNoAddress : Type 0
RinglessHasNoAddress =
    (x : Node) (m : Memory) → x.memory ≡ Some m → m.station.ring ≡ None
    → (node_address x ≡ None) × ((dest : ℕ) → node_route x dest ≡ None)

-- a halted node answers each call with the word of halted nodes, and nothing changes, is sent, made or checked
abbrev pub HaltedDoesNothing : Type 0 → Type 0
HaltedDoesNothing A =
    (x : Node) (halted : A) (plan : Memory → Plan Memory A) → x.memory ≡ None → acts x halted plan ≡ stays x halted

-- # Refusals

-- A plan that changes nothing of a memory.
pub record ChangesNothing {M A : Type 0} (m : M) (p : Plan M A) : Type 0 where
  pub puts : p.puts ≡ []
  pub memory : p.memory ≡ m
  pub frames : p.frames ≡ []
  pub made : p.made ≡ []
  pub opened : p.opened ≡ []

-- a plan that refuses changes nothing, and every plan answers this word where a store write fails
abbrev pub RefusesCleanly : {M H E : Type 0} → E → M → Plan M (Result H E) → Type 0
RefusesCleanly store m p = (p.failed ≡ Err store) × ((reason : _) → p.answer ≡ Err reason → ChangesNothing m p)

-- a frame that is not accepted changes nothing
abbrev pub AFrameRefusedChangesNothing : Type 0
AFrameRefusedChangesNothing =
    (l : StationMemory) (own : Eui) (a : Option Arrived) → RefusesCleanly frames.Store l (accept l own a)

-- a frame that is dropped changes nothing: of a station, of a meter, and of the coordinator
abbrev pub ADropChangesNothing : Type 0
ADropChangesNothing =
    (l : StationMemory) (got : Accepted) (cost note now : ℕ) → RefusesCleanly drops.Store l (hear l got cost note now)

-- the same of a frame that a meter drops
abbrev pub AMetersDropChangesNothing : Type 0
AMetersDropChangesNothing =
    (x : meters.Identity) (m : Memory) (got : Accepted) (cost note now : ℕ)
    → RefusesCleanly drops.Store m (meters.hear_meter x m got cost note now)

-- the same of a frame that the coordinator drops
abbrev pub ACoordinatorsDropChangesNothing : Type 0
ACoordinatorsDropChangesNothing =
    (own : coordinator_rules.CoordinatorIdentity) (m : Memory) (got : Accepted) (cost note now : ℕ)
    → RefusesCleanly drops.Store m (coordinator_rules.hear_coordinator own m got cost note now)

-- a send that is refused changes nothing
abbrev pub ASendRefusedChangesNothing : Type 0
ASendRefusedChangesNothing =
    (l : StationMemory) (to : ℕ) (octets : List ℕ) (note now : ℕ)
    → RefusesCleanly sends.Store l (calls.send l to octets note now)
    × RefusesCleanly sends.Store l (calls.send_command l to octets now)

-- joining and leaving that are refused change nothing
abbrev pub AJoinRefusedChangesNothing : Type 0
AJoinRefusedChangesNothing =
    (x : meters.Identity) (m : Memory) (agent now : ℕ)
    → RefusesCleanly joins.Halted m (meters.join x m agent now) × RefusesCleanly leaves.Store m (meters.leave m)

-- an order that the coordinator refuses changes nothing
abbrev pub AnOrderRefusedChangesNothing : Type 0
AnOrderRefusedChangesNothing =
    (own : Eui) (m : Memory) (eui : Eui) (key : Key) (index now : ℕ)
    → RefusesCleanly orders.Store m (coordinator_rules.allow m eui key)
    × RefusesCleanly orders.Store m (coordinator_rules.depot m eui key)
    × RefusesCleanly orders.Store m (coordinator_rules.rekey m index key)
    × RefusesCleanly orders.Store m (coordinator_rules.activate_self m index)
    × RefusesCleanly orders.Store m (coordinator_rules.challenge own m eui now)
    × RefusesCleanly orders.Store m (coordinator_rules.activate m eui index now)
    × RefusesCleanly orders.Store m (coordinator_rules.kick m eui)

-- # Room for a command

-- what a command is answered with, by what stands in its way
abbrev pub command_answer : StationMemory → ℕ → Option SendRefusal → Result SentHow SendRefusal
command_answer l to None = Ok (calls.how l to)
command_answer l to (Some reason) = Err reason

-- a command is refused for what `room` answers, and but for a failed write for nothing else
abbrev pub TheRoomNamesTheRefusal : Type 0
TheRoomNamesTheRefusal =
    (l : StationMemory) (to : ℕ) (octets : List ℕ) (now : ℕ)
    → (calls.send_command l to octets now).answer ≡ command_answer l to (calls.room l to (length octets))

-- # How much is sent

-- What waits fits: at most 8 bodies, of at most 80 blocks.
pub record WaitingFits (l : StationMemory) : Type 0 where
  pub bodies : length l.waiting ≤ 8
  pub blocks : blocks_waiting l ≤ 80
  pub datagrams : All (λ (b : Body). IsShort b.load) l.waiting

-- A datagram has 1 to 1,280 octets, and the tag of its pieces two octets; a command has 1 to 374, its code first, as a station takes
-- it. A sealed frame has room for it: 400 octets, but for 15 of its header, 4 of its tag, 5 of the mesh header and the dispatch 40.
abbrev pub IsLoad : Load → Type 0
IsLoad (Datagram octets tag) = (1 ≤ length octets) × (length octets ≤ 1280) × (tag < 2 ^ 16)
IsLoad (Command octets) = (1 ≤ length octets) × (length octets ≤ 374)

-- No table of a node's memory passes its size, and each load that waits is one of these.
pub record IsWithin (Is : Load → Type 0) (m : Memory) : Type 0 where
  pub peers : length m.station.marks ≤ 64
  pub ranks : length m.station.routing.entries ≤ 64
  pub floors : length m.station.routing.floors ≡ 16
  pub reassemblies : (length m.station.reassemblies ≤ 8) × (blocks_held m.station.reassemblies ≤ 80)
  pub waiting : WaitingFits m.station
  pub loads : All (λ (b : Body). Is b.load) m.station.waiting
  pub sessions : length m.sessions ≤ 8
  pub randoms : length m.randoms ≤ 8
  pub book : length m.book ≤ 999

-- a node that is within its sizes sends at most 24 frames in a step
abbrev pub IsWithinSizes : Memory → Type 0
IsWithinSizes m = IsWithin IsLoad m

-- a plan sends at most 24 frames
abbrev pub SendsFew : {M A : Type 0} → Plan M A → Type 0
SendsFew p = length p.frames ≤ 24

-- # The order of writes

-- the turn of a slot: that of the floors, those of ranks, the ring, the book and marks, the tag's, the own number's, the counter's
abbrev pub turn_of : ℕ → ℕ
turn_of slot = if slot == 5 then 0 else if slot == 4 then 2 else if slot == 3 then 3 else if slot == 2 then 4 else 1

-- writes to slots whose turns do not fall, from a turn on
abbrev pub InTurnFrom : ℕ → List Write → Type 0
InTurnFrom turn [] = Unit {0}
InTurnFrom turn (w ∷ rest) = (turn ≤ turn_of w.slot) × InTurnFrom (turn_of w.slot) rest

-- the writes of a plan are made in turn
abbrev pub WritesInTurn : {M A : Type 0} → Plan M A → Type 0
WritesInTurn p = InTurnFrom 0 p.puts

-- # What a plan does at most

-- A plan whose writes are made in turn, and which sends at most 24 frames where what waits fits.
pub record IsBounded {M A : Type 0} (l : StationMemory) (p : Plan M A) : Type 0 where
  pub frames : WaitingFits l → SendsFew p
  pub writes : WritesInTurn p

-- what a station, a meter and the coordinator make of a frame
abbrev pub HearingIsBounded : Type 0
HearingIsBounded = (l : StationMemory) (got : Accepted) (cost note now : ℕ) → IsBounded l (hear l got cost note now)

-- A frame that carries a route reply makes a station send at most what waits and one frame more, so that an acknowledgement has room after
-- them.
abbrev pub RepliesAreFew : Type 0
RepliesAreFew =
    (l : StationMemory) (got : Accepted) (cost note now number c origin to : ℕ) → WaitingFits l
    → option_and_then route_message (unit_in got.payload) ≡ Some (Rrep number c origin to)
    → length (hear l got cost note now).frames ≤ 22

-- the same of a sealed one that a meter hears, and the coordinator
abbrev pub AMetersRepliesAreFew : Type 0
AMetersRepliesAreFew =
    (x : meters.Identity) (m : Memory) (got : Accepted) (cost note now from : ℕ) (all : Bool) (key : Key) (number c origin to : ℕ)
    → WaitingFits m.station → got.path ≡ paths.Sealed from all key
    → option_and_then route_message (unit_in got.payload) ≡ Some (Rrep number c origin to)
    → length (meters.hear_meter x m got cost note now).frames ≤ 22

abbrev pub ACoordinatorsRepliesAreFew : Type 0
ACoordinatorsRepliesAreFew =
    (own : coordinator_rules.CoordinatorIdentity) (m : Memory) (got : Accepted) (cost note now from : ℕ) (all : Bool) (key : Key)
    (number c origin to : ℕ) → WaitingFits m.station → got.path ≡ paths.Sealed from all key
    → option_and_then route_message (unit_in got.payload) ≡ Some (Rrep number c origin to)
    → length (coordinator_rules.hear_coordinator own m got cost note now).frames ≤ 22

-- the same of a frame that a meter hears
abbrev pub AMetersHearingIsBounded : Type 0
AMetersHearingIsBounded =
    (x : meters.Identity) (m : Memory) (got : Accepted) (cost note now : ℕ)
    → IsBounded m.station (meters.hear_meter x m got cost note now)

-- the same of a frame that the coordinator hears
abbrev pub ACoordinatorsHearingIsBounded : Type 0
ACoordinatorsHearingIsBounded =
    (own : coordinator_rules.CoordinatorIdentity) (m : Memory) (got : Accepted) (cost note now : ℕ)
    → IsBounded m.station (coordinator_rules.hear_coordinator own m got cost note now)

-- a send, of any datagram and of any command
abbrev pub ASendIsBounded : Type 0
ASendIsBounded =
    (l : StationMemory) (to : ℕ) (octets : List ℕ) (note now : ℕ)
    → IsBounded l (calls.send l to octets note now) × IsBounded l (calls.send_command l to octets now)

-- joining and leaving
abbrev pub AJoinIsBounded : Type 0
AJoinIsBounded =
    (x : meters.Identity) (m : Memory) (agent now : ℕ)
    → IsBounded m.station (meters.join x m agent now) × IsBounded m.station (meters.leave m)

-- the orders of the operator
abbrev pub AnOrderIsBounded : Type 0
AnOrderIsBounded =
    (own : Eui) (m : Memory) (eui : Eui) (key : Key) (index now : ℕ)
    → IsBounded m.station (coordinator_rules.allow m eui key)
    × IsBounded m.station (coordinator_rules.depot m eui key)
    × IsBounded m.station (coordinator_rules.rekey m index key)
    × IsBounded m.station (coordinator_rules.activate_self m index)
    × IsBounded m.station (coordinator_rules.challenge own m eui now)
    × IsBounded m.station (coordinator_rules.activate m eui index now)
    × IsBounded m.station (coordinator_rules.kick m eui)

-- # Accepting

-- a write of a sender's mark
abbrev pub IsMark : Write → Type 0
IsMark w = (0x0100 ≤ w.slot) × (w.slot ≤ 0x013F)

-- no write, or one of a mark
abbrev pub MarksAtMost : List Write → Type 0
MarksAtMost [] = Unit {0}
MarksAtMost (w ∷ []) = IsMark w
MarksAtMost (w ∷ v ∷ rest) = ⊥

-- A plan that stores at most a mark, and sends, makes and checks nothing.
pub record OnlyMarks {M A : Type 0} (p : Plan M A) : Type 0 where
  pub puts : MarksAtMost p.puts
  pub frames : p.frames ≡ []
  pub made : p.made ≡ []
  pub opened : p.opened ≡ []

-- accepting a frame stores at most the mark of its sender, at a table of at most 64 senders
abbrev pub AcceptingOnlyMarks : Type 0
AcceptingOnlyMarks =
    (l : StationMemory) (own : Eui) (a : Option Arrived) → length l.marks ≤ 64 → OnlyMarks (accept l own a)

-- # New nodes

-- a store without records gives a blank memory to a node of either role
abbrev pub AnEmptyStoreIsBlank : Type 0
AnEmptyStoreIsBlank = (role : Role) → memory_of role empty ≡ Ok (remembering blank_station [])
