-- The line of a station, of its parts and its bodies.
use Rattle.std.specs.Prelude.{[], Option, Some, None, Result, Ok, Err}
use Rattle.plc_base.specs.declared.keeper.BadStore.{BadStore}
use Rattle.node_rules.specs.Memory.{StationMemory}
use Rattle.station_queues.specs.Bodies.{Held}
use Rattle.plc_station.specs.declared.parts.Parts.{Parts}

-- no body
abbrev pub no_bodies : Held
no_bodies = record { reassemblies = []; waiting = [] }

-- the line of these parts and these bodies
abbrev pub station_in : Parts → Held → StationMemory
station_in p h = record {
  ring = p.ring;
  counter = p.counter;
  marks = p.marks;
  routing = p.routing;
  own_number = p.own_number;
  next_tag = p.next_tag;
  reassemblies = h.reassemblies;
  waiting = h.waiting;
}

-- the memory that a reading gives, none where there is no reading
abbrev pub if_read : Result StationMemory BadStore → Option StationMemory
if_read (Ok l) = Some l
if_read (Err bad) = None

-- the answer that a reading gives
abbrev pub read_answer : Result StationMemory BadStore → Result (Unit {0}) BadStore
read_answer (Ok l) = Ok tt
read_answer (Err bad) = Err bad
