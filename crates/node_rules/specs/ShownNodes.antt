-- What is shown of a node.
use Rattle.std.specs.Prelude.{true, false, [], map, replicate, None}
use Rattle.std.specs.Option.{option_map, option_map_or, option_and_then}
use Rattle.plc_base.specs.Grant.{Granted}
pub use Rattle.plc_base.specs.Orders.{placed_by, ordered_by}
use Rattle.frame_counters.specs.PeerMarks.{PeerMark}
use Rattle.routing_set.specs.declared.entry.RoutingEntry.{RoutingEntry}
use Rattle.node_rules.specs.Memory.{StationMemory, Node, address_of}
use Rattle.node_rules.specs.declared.shown.Shown.{Shown}
use Rattle.node_rules.specs.declared.shown.ShownRoute.{ShownRoute}
use Rattle.node_rules.specs.declared.shown.ShownPeer.{ShownPeer}

-- a rank, with its next hop where the route is valid
abbrev pub shown_route : RoutingEntry → ShownRoute
shown_route e =
    record { dest = e.address; number = e.rank.number; cost = e.rank.cost; next = option_map (λ t. t.next) e.route }

-- the mark of a peer
abbrev pub shown_peer : PeerMark → ShownPeer
shown_peer p = record { from = p.address; mark = p.mark }

-- # A node

-- a halted node shows that it is halted, and nothing else
abbrev pub nothing_shown : Shown
nothing_shown = record {
  halted = true;
  address = None;
  active = None;
  next_counter = 0;
  last_number = 0;
  key0 = None;
  key1 = None;
  routes = [];
  floors = replicate 16 0;
  peers = [];
}

-- what a node that is not halted shows
abbrev pub shown_station : StationMemory → Shown
shown_station l = record {
  halted = false;
  address = address_of l;
  active = option_map (λ (g : Granted). g.active) l.ring;
  next_counter = l.counter.next;
  last_number = l.own_number.last;
  key0 = option_and_then (λ (g : Granted). g.key0) l.ring;
  key1 = option_and_then (λ (g : Granted). g.key1) l.ring;
  routes = map shown_route (ordered_by (λ (e : RoutingEntry). e.address) l.routing.entries);
  floors = l.routing.floors;
  peers = map shown_peer (ordered_by (λ (p : PeerMark). p.address) l.marks);
}

-- a halted node shows that it is halted, and nothing else
abbrev pub shown_of : Node → Shown
shown_of x = option_map_or (λ m. shown_station m.station) x.memory nothing_shown
