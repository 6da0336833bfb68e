-- What a station does by itself: sending, time, its ring, and the settings of the workshop.
use Rattle.std.specs.Prelude.{ℕ, Bool, not, ◌==◌, ◌||◌, nat_lt, nat_le, List, [], length, is_some, Option, Some, None, Result, Ok, Err, if◌then◌else◌}
use Rattle.std.specs.Option.{option_map, option_map_or}
use Rattle.plc_base.specs.Faults.{◌then◌, ◌when◌}
use Rattle.plc_base.specs.declared.key.Key.{Key}
use Rattle.plc_base.specs.Grant.{Granted}
use Rattle.store_tables.specs.Writes.{puts_of}
use Rattle.frame_counters.specs.SendCounter as counter
use Rattle.node_rules.specs.declared.refusal.RingRefusal.{RingRefusal}
use Rattle.node_rules.specs.declared.refusal.RingRefusal.TheVariants as ring_faults
use Rattle.group_keys.specs.KeyRing as ring
use Rattle.routing_set.specs.declared.rank.Rank.{Rank}
use Rattle.routing_set.specs.RoutingSet as routing
use Rattle.routing_set.specs.OwnNumber as own_number
use Rattle.fragment_buffers.specs.PieceIntake as pieces
pub use Rattle.plc_base.specs.Times.{is_within}
use Rattle.fragment_buffers.specs.WaitingBodies.{still_waiting}
use Rattle.node_rules.specs.declared.heard.SentHow.{SentHow}
use Rattle.node_rules.specs.declared.heard.SentHow.TheVariants.{Sent, Waiting}
use Rattle.node_rules.specs.declared.refusal.SendRefusal.{SendRefusal}
use Rattle.node_rules.specs.declared.refusal.SendRefusal.TheVariants.{NotJoined, BadSize, ToSelf, WaitingFull, SeqSpent, CounterSpent, Store}
use Rattle.node_rules.specs.declared.refusal.PresetFault.{PresetFault}
use Rattle.node_rules.specs.declared.refusal.PresetFault.TheVariants as presets
use Rattle.node_rules.specs.Memory.{StationMemory, Datagram, Command, address_of, next_hop}
use Rattle.node_rules.specs.Plans.{Plan, resting}
use Rattle.node_rules.specs.Acceptance.{is_own}
use Rattle.node_rules.specs.Drafts.{Draft, Ends, Lack, OfRoom, OfNumbers, alone, empty_draft, with_rank, with_ring, with_next_tag, sets_out, lack, is_awaited}
use Rattle.node_rules.specs.Drafts.{counters_left, refused, sealing, sealed, checked, choose}

-- # Sending

-- what a node does about a body that is to go to an address
abbrev pub Sending : Type 0
Sending = Plan StationMemory (Result SentHow SendRefusal)

-- how its words say that counters are spent, and that a store write failed
abbrev pub sending_ends : Ends SendRefusal
sending_ends = record { spent = CounterSpent; store = Store }

-- how they say what a body lacks
abbrev pub lacking : Lack → SendRefusal
lacking OfRoom = WaitingFull
lacking OfNumbers = SeqSpent

-- whether a body goes out or waits
abbrev pub how : StationMemory → ℕ → SentHow
how l to = if is_some (next_hop l to) then Sent else Waiting

-- a datagram that is cut takes a tag, also where it waits
abbrev pub tag_taken : List ℕ → Draft StationMemory → Draft StationMemory
tag_taken octets d = if nat_le (length octets) 375 then d else with_next_tag d

-- what is wrong with a datagram for an address, in the order of the refusals
abbrev pub send_fault : StationMemory → ℕ → List ℕ → Option SendRefusal
send_fault l to datagram =
    Some BadSize when ((length datagram == 0) || nat_lt 1280 (length datagram))
    then Some ToSelf when is_own l to
    then option_map lacking (lack l to (length datagram))

-- a datagram sets out from the own address
abbrev pub send_from : StationMemory → ℕ → ℕ → List ℕ → (note now : ℕ) → Sending
send_from l own to datagram note now =
    checked sending_ends l (send_fault l to datagram)
    (sealed alone sending_ends l
    (sets_out own to note (Datagram datagram l.next_tag) now (tag_taken datagram (empty_draft l))) (how l to))

-- a datagram is sent
abbrev pub send : StationMemory → ℕ → List ℕ → (note now : ℕ) → Sending
send l to datagram note now =
    option_map_or (λ own. send_from l own to datagram note now) (address_of l) (refused sending_ends l NotJoined)

-- a command goes on its way to an address
abbrev pub commands : ℕ → ℕ → List ℕ → ℕ → Draft StationMemory → Draft StationMemory
commands own to octets now d = sets_out own to 0 (Command octets) now d

-- a command sets out from the own address
abbrev pub command_from : StationMemory → ℕ → ℕ → List ℕ → ℕ → Sending
command_from l own to octets now =
    checked sending_ends l (option_map lacking (lack l to (length octets)))
    (sealed alone sending_ends l (commands own to octets now (empty_draft l)) (how l to))

-- a command is sent, whose code stands first; the own address is treated as any other
abbrev pub send_command : StationMemory → ℕ → List ℕ → ℕ → Sending
send_command l to octets now =
    option_map_or (λ own. command_from l own to octets now) (address_of l) (refused sending_ends l NotJoined)

-- how many frames a command for an address needs: one by its route, and one to seek a route that nothing seeks yet
abbrev pub command_frames : StationMemory → ℕ → ℕ
command_frames l to = if is_some (next_hop l to) then 1 else (if is_awaited l to then 0 else 1)

-- what a command of this many octets for an address lacks, its counters among it, in the words of an answer
abbrev pub command_fault : {E : Type 0} → Ends E → (Lack → E) → StationMemory → (to octets : ℕ) → Option E
command_fault ends word l to octets =
    option_map word (lack l to octets)
    then Some ends.spent when nat_lt (counters_left l) (command_frames l to)

-- the same in the words of a sender
abbrev pub room_fault : StationMemory → ℕ → ℕ → Option SendRefusal
room_fault = command_fault sending_ends lacking

-- what a command of this many octets for an address would be refused for
abbrev pub room : StationMemory → ℕ → ℕ → Option SendRefusal
room l to octets = option_map_or (λ _. room_fault l to octets) (address_of l) (Some NotJoined)

-- # Routes and time

-- the link to a neighbour broke: the routes by it end
abbrev pub broke : ℕ → StationMemory → StationMemory
broke next l = record l { routing = routing.without_next l.routing next }

-- what is held ends as its time passes: the routes, the reassemblies and the bodies that wait
abbrev pub tick : ℕ → StationMemory → StationMemory
tick now l = record l {
  routing = routing.expired l.routing now;
  reassemblies = pieces.unexpired l.reassemblies now;
  waiting = still_waiting now l.waiting;
}

-- # The ring

-- what a node does about its ring
abbrev pub Ringing : Type 0
Ringing = Plan StationMemory (Result (Unit {0}) RingRefusal)

-- a ring takes no counter, so one word serves for both
abbrev pub ringing_ends : Ends RingRefusal
ringing_ends = record { spent = ring_faults.Store; store = ring_faults.Store }

-- a doing that sends nothing, carried to its end
abbrev pub ring_ends : Draft StationMemory → Ringing
ring_ends d = sealing alone ringing_ends d tt

-- a grant is installed
abbrev pub install : StationMemory → Granted → Ringing
install l granted = ring_ends (with_ring (Some granted) (empty_draft l))

-- the ring has another key at an index
abbrev pub with_key_at : StationMemory → ℕ → Key → Draft StationMemory → Draft StationMemory
with_key_at l index key d = with_ring (ring.with_key l.ring index key) d

-- a key comes to an index
abbrev pub put_key : StationMemory → ℕ → Key → Ringing
put_key l index key = ring_ends (with_key_at l index key (empty_draft l))

-- whether the ring has a key at an index
abbrev pub has_key : StationMemory → ℕ → Bool
has_key l index = is_some (ring.key_in_ring l.ring index)

-- the ring seals with the key at an index
abbrev pub with_active : StationMemory → ℕ → Draft StationMemory → Draft StationMemory
with_active l index d = with_ring (ring.with_active l.ring index) d

-- a key seals from now on
abbrev pub activate : StationMemory → ℕ → Ringing
activate l index =
    choose (has_key l index) (ring_ends (with_active l index (empty_draft l)))
    (refused ringing_ends l ring_faults.NotHeld)

-- the routes, what is gathered and what waits end; ranks, marks and numbers stay
abbrev pub idled : StationMemory → StationMemory
idled l = record l { routing = routing.at_rest l.routing; reassemblies = []; waiting = [] }

-- the ring is dropped, and with it what hangs on the address
abbrev pub without_ring : Draft StationMemory → Draft StationMemory
without_ring d = with_ring None (record d { memory = idled d.memory })

-- the station leaves the network
abbrev pub leave : StationMemory → Ringing
leave l = ring_ends (without_ring (empty_draft l))

-- # Settings of the workshop

-- what a node does about a value that the setup gives it
abbrev pub Presetting : Type 0
Presetting = Plan StationMemory (Result (Unit {0}) PresetFault)

-- a value takes no counter, so one word serves for both
abbrev pub presetting_ends : Ends PresetFault
presetting_ends = record { spent = presets.Store; store = presets.Store }

-- the next counter, which is stored as the limit
abbrev pub preset_counter : StationMemory → ℕ → Presetting
preset_counter l value = record (resting l (Ok tt) (Err presets.Store)) {
  puts = puts_of (counter.limit_write value);
  memory = record l { counter = counter.counting_at value };
}

-- the last own number, which is stored as the limit
abbrev pub preset_number : StationMemory → ℕ → Presetting
preset_number l value = record (resting l (Ok tt) (Err presets.Store)) {
  puts = puts_of (own_number.limit_write value);
  memory = record l { own_number = own_number.numbering_at value };
}

-- the rank of number 1 over a link
abbrev pub near_rank : ℕ → Rank
near_rank cost = record { number = 1; cost = cost }

-- what is wrong with a neighbour that the setup gives
abbrev pub preset_fault : StationMemory → ℕ → ℕ → ℕ → Option PresetFault
preset_fault l to cost now =
    Some presets.NotBetter when not (routing.is_better l.routing to (near_rank cost))
    then Some presets.RoutesFull when routing.is_full l.routing to now

-- a neighbour is offered by itself
abbrev pub preset_near : StationMemory → ℕ → ℕ → ℕ → Presetting
preset_near l to cost now =
    checked presetting_ends l (preset_fault l to cost now)
    (sealing alone presetting_ends (with_rank to (near_rank cost) to now (empty_draft l)) tt)
