-- In every run of the network what waits is loads that a frame carries, commands among them.
use Rattle.std.proofs.Common.{◌≤◌, List, [], ◌∷◌, Option, Some, None}
use Rattle.std.specs.Prelude.{All, IfSome}
use Rattle.std.proofs.lemmas.List.Elements.{All-nil, All-cons, All-head, All-tail}
use Rattle.node_rules.specs.Laws.{IsLoad, IsWithin, IsWithinSizes}
use Rattle.node_rules.specs.Memory.{Body, Load, Datagram, Command, Memory, Node}
use Rattle.line_rules.specs.Runs.{Entry}
use Rattle.line_rules.specs.SafeRuns.{IsSized}
use Rattle.line_rules.specs.Worlds.{World}
use Rattle.line_laws.specs.Sizes.{IsAnyLoad}
use Rattle.line_laws.proofs.Nodes.{NodeOk}
use Rattle.line_laws.proofs.OctetCalls.{NodeSpeaks}
use Rattle.line_laws.proofs.OctetDrafts.{BodySpeaks, MemorySpeaks, IsCommandShort}
use Rattle.line_laws.proofs.OctetRuns.{WorldSpeaks}
use Rattle.line_laws.proofs.EveryRun.{node_sized}
use Rattle.line_laws.proofs.Worlds.{WorldOk}

is_load : (load : Load) → IsAnyLoad load → IsCommandShort load → IsLoad load
is_load (Datagram octets tag) h short = h
is_load (Command octets) h short = (h, short)

abbrev AnyBody : Body → Type 0
AnyBody b = IsAnyLoad b.load

abbrev LoadBody : Body → Type 0
LoadBody b = IsLoad b.load

loads_in : (bodies : List Body) → All AnyBody bodies → All BodySpeaks bodies → All LoadBody bodies
loads_in [] h s = All-nil LoadBody
loads_in (b ∷ bodies) h s = All-cons LoadBody b bodies (is_load b.load (All-head AnyBody b bodies h) (All-head BodySpeaks b bodies s).2)
    (loads_in bodies (All-tail AnyBody b bodies h) (All-tail BodySpeaks b bodies s))

memory_within : (m : Memory) → IsWithin IsAnyLoad m → MemorySpeaks m → IsWithinSizes m
memory_within m h s = record {
  peers = h.peers;
  ranks = h.ranks;
  floors = h.floors;
  reassemblies = h.reassemblies;
  waiting = h.waiting;
  loads = loads_in m.station.waiting h.loads s.waiting;
  sessions = h.sessions;
  randoms = h.randoms;
  book = h.book;
}

abbrev NodeWithin : Node → Type 0
NodeWithin x = IfSome x.memory IsWithinSizes

node_within : (x : Node) → NodeOk x → NodeSpeaks x → NodeWithin x
node_within x ok s = by_memory x.memory (node_sized x ok) s
  where
    by_memory : (o : Option Memory) → IfSome o (IsWithin IsAnyLoad) → IfSome o MemorySpeaks → IfSome o IsWithinSizes
    by_memory None h s = tt
    by_memory (Some m) h s = memory_within m h s

nodes_within : (xs : List Node) → All NodeOk xs → All NodeSpeaks xs → All NodeWithin xs
nodes_within [] ok s = All-nil NodeWithin
nodes_within (x ∷ xs) ok s = All-cons NodeWithin x xs (node_within x (All-head NodeOk x xs ok) (All-head NodeSpeaks x xs s))
    (nodes_within xs (All-tail NodeOk x xs ok) (All-tail NodeSpeaks x xs s))

pub world_within : (w : World) → WorldOk w → WorldSpeaks w → IsSized w
world_within w ok s = record { nodes = ok.count; memories = nodes_within w.nodes ok.nodes s.nodes }

abbrev pub EntrySized : Entry → Type 0
EntrySized x = IsSized x.after × (x.trace.happenings.flights ≤ 24)
