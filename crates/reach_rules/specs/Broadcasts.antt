-- Broadcast datagrams: each goes from node to node while it has hops left, and is handed up once by each. The mark of its origin is
-- stored before it is handed up or sent on; what the log holds is said by `broadcast_log`.
use Rattle.std.specs.Prelude.{ℕ, ◌-◌, ◌==◌, ◌||◌, Bool, nat_lt, List, ◌++◌, length, Option, Some, None, Result, Ok, Err, if◌then◌else◌}
use Rattle.std.specs.Option.{option_map_or}
use Rattle.plc_base.specs.Faults.{◌then◌, ◌when◌}
use Rattle.store_tables.specs.Writes.{puts_of}
use Rattle.broadcast_log.specs.declared.broadcast.Broadcast.{Broadcast}
use Rattle.broadcast_log.specs.declared.fault.LogFault.{LogFault}
use Rattle.broadcast_log.specs.declared.fault.LogFault.TheVariants as log_faults
use Rattle.broadcast_log.specs.Grammar.{spelling}
use Rattle.broadcast_log.specs.Reader.{broadcast_in}
use Rattle.broadcast_log.specs.NextNumber.{is_spent, number_put}
use Rattle.broadcast_log.specs.OriginMarks.{room_for, keep_write}
use Rattle.broadcast_log.specs.Log.{Log, numbered_log, admitted_log}
use Rattle.node_rules.specs.declared.refusal.Dropped.TheVariants.{BadUnit}
use Rattle.node_rules.specs.Frames.{to_all}
use Rattle.node_rules.specs.Memory.{address_of}
use Rattle.node_rules.specs.Plans.{Plan}
use Rattle.node_rules.specs.Drafts.{Draft, StationPlace, Ends, empty_draft, refused, sealed, checked, choose}
use Rattle.reach_rules.specs.declared.heard.CommandHeard.TheVariants as heard
use Rattle.reach_rules.specs.declared.refusal.ReachDropped.{ReachDropped}
use Rattle.reach_rules.specs.declared.refusal.ReachDropped.TheVariants.{Known, Old, OriginsFull}
use Rattle.reach_rules.specs.declared.refusal.BroadcastRefusal.{BroadcastRefusal}
use Rattle.reach_rules.specs.declared.refusal.BroadcastRefusal.TheVariants.{NotJoined, BadSize, NumberSpent, CounterSpent, Store}
use Rattle.reach_rules.specs.ReachingNodes.{Reaching, Commanding, in_reach, with_log, reach_ends, drop_it, adds_local}

-- # Words

-- the number of an origin is kept as its mark, which is stored where it has to be
unfoldable pub with_broadcast_mark : {M : Type 0} → (origin number : ℕ) → Draft (Reaching M) → Draft (Reaching M)
with_broadcast_mark origin number d = record d {
  puts = d.puts ++ puts_of (keep_write d.memory.beside.log.marks origin number);
  memory = with_log (admitted_log d.memory.beside.log origin number) d.memory;
}

-- the number of an own broadcast is taken
unfoldable pub with_broadcast_number : {M : Type 0} → Draft (Reaching M) → Draft (Reaching M)
with_broadcast_number d = record d {
  puts = d.puts ++ puts_of (number_put d.memory.beside.log.numbering);
  memory = with_log (numbered_log d.memory.beside.log) d.memory;
}

-- # Hearing a broadcast

-- why the marks do not admit a number
abbrev pub mark_fault : Result (Unit {0}) LogFault → Option ReachDropped
mark_fault (Ok u) = None
mark_fault (Err log_faults.NumberSpent) = Some Old
mark_fault (Err log_faults.Store) = Some Old
mark_fault (Err log_faults.Old) = Some Old
mark_fault (Err log_faults.OriginsFull) = Some OriginsFull

-- what is wrong with a broadcast: it is an own one, or the marks do not admit its number
unfoldable pub broadcast_fault : (own : ℕ) → Log → Broadcast → Option ReachDropped
broadcast_fault own log b = Some Old when (b.origin == own) then mark_fault (room_for log.marks b.origin b.number)

-- the broadcast with one hop less
abbrev pub hop_less : Broadcast → Broadcast
hop_less b = record b { hops = b.hops - 1 }

-- it goes on to all while it has a hop more
unfoldable pub goes_further : {M : Type 0} → Broadcast → Draft (Reaching M) → Draft (Reaching M)
goes_further b d = if nat_lt b.hops 2 then d else adds_local to_all 4 (spelling (hop_less b)) d

-- a broadcast is handed up, marked and sent on
abbrev pub admits_broadcast : {M : Type 0} → StationPlace M → Reaching M → Broadcast → Commanding M
admits_broadcast h x b =
    sealed (in_reach h) reach_ends x
    (goes_further b (with_broadcast_mark b.origin b.number (empty_draft x)))
    (heard.Broadcast b.origin b.number b.octets)

-- octets that are no broadcast are dropped
abbrev pub hear_broadcast_in : {M : Type 0} → StationPlace M → Reaching M → (own : ℕ) → Option Broadcast → Commanding M
hear_broadcast_in h x own None = drop_it x (Known BadUnit)
hear_broadcast_in h x own (Some b) = checked reach_ends x (broadcast_fault own x.beside.log b) (admits_broadcast h x b)

-- a command of code 04, which may not go to one node
abbrev pub hear_broadcast : {M : Type 0} → StationPlace M → Reaching M → (own : ℕ) → (all : Bool) → List ℕ → Commanding M
hear_broadcast h x own all body =
    choose all (hear_broadcast_in h x own (broadcast_in body)) (drop_it x (Known BadUnit))

-- # Sending a broadcast

-- what a node does about a broadcast of its own
abbrev pub Broadcasting : Type 0 → Type 0
Broadcasting M = Plan (Reaching M) (Result (Unit {0}) BroadcastRefusal)

-- how its words say that counters are spent, and that a store write failed
abbrev pub broadcast_ends : Ends BroadcastRefusal
broadcast_ends = record { spent = CounterSpent; store = Store }

-- what is wrong with a datagram for all
unfoldable pub datagram_fault : Log → List ℕ → Option BroadcastRefusal
datagram_fault log datagram =
    Some BadSize when ((length datagram == 0) || nat_lt 360 (length datagram))
    then Some NumberSpent when is_spent log.numbering

-- the own broadcast with the next number, which may go 14 hops
abbrev pub own_broadcast : (own : ℕ) → Log → List ℕ → Broadcast
own_broadcast own log datagram =
    record { hops = 14; origin = own; number = log.numbering.next; octets = datagram }

-- a datagram goes to all from the own address
abbrev pub broadcast_from : {M : Type 0} → StationPlace M → Reaching M → (own : ℕ) → List ℕ → Broadcasting M
broadcast_from h x own datagram =
    checked broadcast_ends x (datagram_fault x.beside.log datagram)
    (sealed (in_reach h) broadcast_ends x
    (adds_local to_all 4 (spelling (own_broadcast own x.beside.log datagram))
    (with_broadcast_number (empty_draft x))) tt)

-- a datagram is sent to all
abbrev pub broadcast : {M : Type 0} → StationPlace M → Reaching M → List ℕ → Broadcasting M
broadcast h x datagram =
    option_map_or (λ own. broadcast_from h x own datagram) (address_of (h.station x.memory))
    (refused broadcast_ends x NotJoined)
