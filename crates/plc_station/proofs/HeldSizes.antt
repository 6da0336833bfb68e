-- What a station holds keeps its sizes.
use Rattle.std.proofs.Common.{get_or}
use Rattle.fragment_buffers.specs.Loads.{Load, Datagram, Command, IsShort}
use Rattle.node_rules.specs.Laws.{WaitingFits}
use Rattle.node_rules.specs.Memory.{StationMemory}
use Rattle.station_queues.specs.Sizes.{IsLoadSized, AreSized}

short_load : (load : Load) → IsLoadSized load → IsShort load
short_load (Datagram octets tag) s = s.1
short_load (Command octets) s = tt

-- what waits fits
pub waiting_fits : (l : StationMemory) → AreSized (record { reassemblies = l.reassemblies; waiting = l.waiting }) → WaitingFits l
waiting_fits l s = record {
  bodies = s.bodies;
  blocks = s.waiting;
  datagrams = λ k d lt. short_load (get_or l.waiting k d).load (s.loads k d lt);
}
