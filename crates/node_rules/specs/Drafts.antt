-- The words that rules are made of: each one phrase of what a node does on the line.
use Rattle.std.specs.Prelude.{ℕ, ◌+◌, ◌-◌, Bool, false, not, nat_lt, List, [], ◌∷◌, ◌++◌, length, Option, Some, None, is_some, Result, Ok, Err, if◌then◌else◌}
use Rattle.std.specs.List.{filter, flat_map}
use Rattle.std.specs.Option.{option_map_or}
use Rattle.plc_base.specs.Faults.{◌then◌, ◌when◌}
use Rattle.plc_base.specs.declared.tags.PairTag.{PairTag}
use Rattle.plc_base.specs.declared.key.Key.{Key}
use Rattle.plc_base.specs.Grant.{Granted, key_at}
use Rattle.plc_base.specs.Keeper.{Write}
use Rattle.store_tables.specs.Writes.{puts_of}
use Rattle.frame_counters.specs.SendCounter as counter
use Rattle.group_keys.specs.KeyRing as ring
use Rattle.routing_set.specs.declared.rank.Rank.{Rank}
use Rattle.routing_set.specs.RoutingSet as routing
use Rattle.routing_set.specs.OwnNumber as own_number
pub use Rattle.fragment_buffers.specs.Loads.{UnsealedUnit, own_mesh, units_of, all_go}
pub use Rattle.fragment_buffers.specs.WaitingBodies.{waits_for}
use Rattle.fragment_buffers.specs.WaitingBodies.{is_awaited_in, waiting_blocks, no_room_in}
pub use Rattle.fragment_buffers.specs.NextTag.{tag_slot, tag_after, tag_write}
use Rattle.mesh_header.specs.declared.unit.Unit.{Unit}
use Rattle.mesh_header.specs.declared.unit.Unit.TheVariants.{Local}
use Rattle.loadng_messages.specs.declared.message.Message.{Message}
use Rattle.loadng_messages.specs.declared.message.Message.TheVariants.{Rreq}
use Rattle.loadng_messages.specs.Grammar as messages
use Rattle.node_rules.specs.Frames.{Sent, Sealed, to_all}
use Rattle.node_rules.specs.Memory.{StationMemory, Load, next_hop}
use Rattle.node_rules.specs.Plans.{Plan, resting}

-- What is being done, up to the sealing of its units, which comes last.
pub record Draft (M : Type 0) : Type 0 where
  -- the store writes so far, in order
  pub puts : List Write
  -- the memory that is left
  pub memory : M
  -- the units to be sealed, and the plain frames, in order
  pub units : List UnsealedUnit
  pub plain : List Sent
  pub made : List PairTag
  pub opened : List PairTag

-- nothing is done yet
unfoldable pub empty_draft : {M : Type 0} → M → Draft M
empty_draft m = record { puts = []; memory = m; units = []; plain = []; made = []; opened = [] }

-- # Words of what is stored and kept

-- the rank of an address is offered by a next hop: floors and rank are stored, and the route is valid
unfoldable pub with_rank : ℕ → Rank → ℕ → ℕ → Draft StationMemory → Draft StationMemory
with_rank dest rank by now d = record d {
  puts = d.puts ++ routing.offer_writes d.memory.routing dest rank by now;
  memory = record d.memory { routing = routing.offered d.memory.routing dest rank by now };
}

-- an own number is taken
unfoldable pub with_own_number : Draft StationMemory → Draft StationMemory
with_own_number d = record d {
  puts = d.puts ++ puts_of (own_number.advance_write d.memory.own_number);
  memory = record d.memory { own_number = own_number.advanced d.memory.own_number };
}

-- the number that is taken
abbrev pub number_of : Draft StationMemory → ℕ
number_of d = d.memory.own_number.last + 1

-- the tag of a datagram is taken: the next one is stored
unfoldable pub with_next_tag : Draft StationMemory → Draft StationMemory
with_next_tag d = record d {
  puts = d.puts ++ tag_write d.memory.next_tag ∷ [];
  memory = record d.memory { next_tag = tag_after d.memory.next_tag };
}

-- the ring is another one
unfoldable pub with_ring : ring.Ring → Draft StationMemory → Draft StationMemory
with_ring r d = record d { puts = d.puts ++ puts_of (ring.ring_write r); memory = record d.memory { ring = r } }

-- the routes are other ones, of which nothing is stored
unfoldable pub with_routing_by : (routing.Routing → routing.Routing) → Draft StationMemory → Draft StationMemory
with_routing_by change d = record d { memory = record d.memory { routing = change d.memory.routing } }

-- # Words of what goes out

-- a unit goes to one node or to all
unfoldable pub goes : ℕ → Unit → ℕ → Draft StationMemory → Draft StationMemory
goes to unit note d = record d { units = d.units ++ record { to = to; unit = unit; note = note } ∷ [] }

-- a route message goes to one node or to all
abbrev pub send_message : ℕ → Message → Draft StationMemory → Draft StationMemory
send_message to message d = goes to (Local 1 (messages.spelling message)) 0 d

-- a body goes to a next hop
unfoldable pub body_goes : ℕ → ℕ → ℕ → ℕ → Load → Draft StationMemory → Draft StationMemory
body_goes own hop to note load d = record d { units = d.units ++ all_go hop note (units_of own to load) }

-- # Bodies that wait

-- whether something waits for an address
abbrev pub is_awaited : StationMemory → ℕ → Bool
is_awaited l dest = is_awaited_in l.waiting dest

-- a body waits from now on
unfoldable pub waits : ℕ → ℕ → Load → ℕ → Draft StationMemory → Draft StationMemory
waits to note load now d =
    record d {
      memory = record d.memory
          { waiting = d.memory.waiting ++ record { to = to; note = note; since = now; load = load } ∷ [] };
    }

-- an own number is taken, and a request for the route to an address goes to all
abbrev pub seeks : ℕ → ℕ → Draft StationMemory → Draft StationMemory
seeks own dest d = send_message to_all (Rreq (number_of d) 0 own dest) (with_own_number d)

-- the route is sought unless something waits for it already
unfoldable pub seeks_once : ℕ → ℕ → Draft StationMemory → Draft StationMemory
seeks_once own dest d = if is_awaited d.memory dest then d else seeks own dest d

-- a body goes on its way to an address: by the valid route, or it waits for one
abbrev pub sets_out : ℕ → ℕ → ℕ → Load → ℕ → Draft StationMemory → Draft StationMemory
sets_out own to note load now d = set_out_by (next_hop d.memory to)
  where
    set_out_by : Option ℕ → Draft StationMemory
    set_out_by None = waits to note load now (seeks_once own to d)
    set_out_by (Some hop) = body_goes own hop to note load d

-- the bodies that wait for an address leave by this hop, in the order of their arrival
unfoldable pub leave : ℕ → ℕ → ℕ → Draft StationMemory → Draft StationMemory
leave own dest hop d = record d {
  units =
      d.units ++ flat_map (λ b. all_go hop b.note (units_of own b.to b.load))
      (filter (waits_for dest) d.memory.waiting);
  memory = record d.memory { waiting = filter (λ b. not (waits_for dest b)) d.memory.waiting };
}

-- # What stands in the way of a body

-- There is no room for a body that waits, or an own number is needed and they are spent.
pub data Lack : Type 0 where
  OfRoom : Lack
  OfNumbers : Lack

-- how many blocks the waiting bodies fill
abbrev pub blocks_waiting : StationMemory → ℕ
blocks_waiting l = waiting_blocks l.waiting

-- whether a body of this many octets more can't wait: 8 bodies wait, or their blocks pass 80
abbrev pub no_room : StationMemory → ℕ → Bool
no_room l octets = no_room_in l.waiting octets

-- whether no own number is left
abbrev pub numbers_spent : StationMemory → Bool
numbers_spent l = own_number.is_spent l.own_number

-- what a body of this many octets for an address lacks, if it lacks something: with a route nothing
unfoldable pub lack : StationMemory → ℕ → ℕ → Option Lack
lack l to octets =
    if is_some (next_hop l to) then None
    else (Some OfRoom when no_room l octets
    then Some OfNumbers when (if is_awaited l to then false else numbers_spent l))

-- # Sealing

-- how many counters are left
abbrev pub counters_left : StationMemory → ℕ
counters_left l = 4294967295 - l.counter.next

-- the key that seals
abbrev pub sealing_key : Granted → Option Key
sealing_key g = key_at g g.active

-- units as letters, with counters from the first on
abbrev pub sealed_units : Granted → Key → ℕ → List UnsealedUnit → List Sent
sealed_units g key first [] = []
sealed_units g key first (o ∷ rest) =
    Sealed (record {
      to = o.to;
      from = g.address;
      counter = first;
      index = g.active;
      key = key;
      unit = o.unit;
      note = o.note;
    })
    ∷ sealed_units g key (first + 1) rest

-- a node without a ring seals nothing
abbrev pub sealed_by : ring.Ring → ℕ → List UnsealedUnit → List Sent
sealed_by None first units = []
sealed_by (Some g) first units = option_map_or (λ key. sealed_units g key first units) (sealing_key g) []

-- where a memory holds what a node is on the line
pub record StationPlace (M : Type 0) : Type 0 where
  pub station : M → StationMemory
  pub with_station : StationMemory → M → M

-- the line alone
abbrev pub alone : StationPlace StationMemory
alone = record { station = λ l. l; with_station = λ l m. l }

-- the counters of this many frames are taken
abbrev pub counted : {M : Type 0} → StationPlace M → ℕ → M → M
counted h count m = h.with_station (record (h.station m) { counter = counter.reserved (h.station m).counter count }) m

-- What refusals of a kind of answer say that the counters are spent, and that a store write failed.
pub record Ends (E : Type 0) : Type 0 where
  pub spent : E
  pub store : E

-- nothing is done, for this reason
abbrev pub refused : {M H E : Type 0} → Ends E → M → E → Plan M (Result H E)
refused ends m reason = resting m (Err reason) (Err ends.store)

-- the doing is carried to its end: the counter of its letters is the last to be stored, and the ring that is left seals them
abbrev pub sealing : {M H E : Type 0} → StationPlace M → Ends E → Draft M → H → Plan M (Result H E)
sealing h ends d answer = record {
  answer = Ok answer;
  failed = Err ends.store;
  puts = d.puts ++ puts_of (counter.reserve_write (h.station d.memory).counter (length d.units));
  memory = counted h (length d.units) d.memory;
  frames = d.plain ++ sealed_by (h.station d.memory).ring (h.station d.memory).counter.next d.units;
  made = d.made;
  opened = d.opened;
}

-- refused where fewer counters are left than units are to be sealed
unfoldable pub sealed : {M H E : Type 0} → StationPlace M → Ends E → M → Draft M → H → Plan M (Result H E)
sealed h ends m d answer =
    if nat_lt (counters_left (h.station m)) (length d.units) then refused ends m ends.spent else sealing h ends d answer

-- the first fault refuses
unfoldable pub checked : {M H E : Type 0} → Ends E → M → Option E → Plan M (Result H E) → Plan M (Result H E)
checked ends m None plan = plan
checked ends m (Some reason) plan = refused ends m reason

-- a choice of two plans
unfoldable pub choose : {M A : Type 0} → Bool → Plan M A → Plan M A → Plan M A
choose test p q = if test then p else q
