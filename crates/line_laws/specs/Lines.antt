-- What holds of a line of nodes after every event, forged or not: of each node and its store, of what a script gave of it, and of the
-- counters of its flights.
use Rattle.std.specs.Prelude.{◌≡◌, ℕ, ◌<◌, ◌≤◌, false, AllPairs, All, [], length, Option, Some, None, IfSome}
use Rattle.plc_base.specs.Keeper.{Records}
use Rattle.plc_base.specs.declared.key.Key.{Key}
use Rattle.frame_counters.specs.PeerMarks as marks
use Rattle.frame_counters.specs.SendCounter as counter
use Rattle.node_rules.specs.Memory.{Memory, Coordinator, Meter, Node}
use Rattle.line_rules.specs.Worlds.{World, Flight, node_at}
use Rattle.line_rules.specs.Nonces.{nonce_parts, CounterRises}
use Rattle.line_laws.specs.Owed.{AreOctets}
use Rattle.line_laws.specs.Sizes.{IsMemorySized}
use Rattle.line_laws.specs.Stores.{IsKept, HasEui, IsPair}

-- # What a node has in memory

-- Some memory is what the records give.
pub record Reads {M : Type 0} (Q : M → Records → Type 0) (r : Records) : Type 0 where
  pub memory : M
  pub kept : Q memory r

-- the memory that is left is what the records give; where a write failed, some memory is
abbrev pub Left : {M : Type 0} → (M → Records → Type 0) → Records → Option M → Type 0
Left Q r None = Reads Q r
Left Q r (Some m) = Q m r

-- no mark in memory is above the stored one
abbrev pub AreCovered : Option Memory → Type 0
AreCovered o = IfSome o (λ (m : Memory). marks.IsCovered m.station.marks)

-- What holds of a node.
pub record NodeOk (x : Node) : Type 0 where
  pub kept : Left (IsKept x.role) x.store.records x.memory
  pub sized : IfSome x.memory IsMemorySized
  pub covered : AreCovered x.memory

-- What a line of the script gave of a node.
pub record NodeFits (x : Node) : Type 0 where
  pub eui : HasEui x.eui
  pub psk : (psk : Key) → x.role ≡ Meter psk → IsPair psk

-- # Counters of flights

abbrev pub FlightFits : Flight → Type 0
FlightFits f = AreOctets f.octets

-- the counter that comes next, or what a halted node would go on from
abbrev pub next_of : Option Memory → Records → ℕ
next_of None r = counter.stored_limit r
next_of (Some m) r = m.station.counter.next

abbrev pub frontier : Node → ℕ
frontier x = next_of x.memory x.store.records

-- a flight of this node has a counter below a bound
abbrev pub IsBelow : ℕ → ℕ → Flight → Type 0
IsBelow number bound f = f.from ≡ number → IfSome (nonce_parts f) (λ p. p.counter < bound)

-- The counters of the flights rise, and each is below the frontier of its node, which is there.
pub record Rising (w : World) : Type 0 where
  pub below : (number : ℕ) (x : Node) → node_at w number ≡ Some x → All (IsBelow number (frontier x)) w.flights
  pub pairs : AllPairs CounterRises w.flights
  pub homes : All (λ (f : Flight). f.from < length w.nodes) w.flights

-- # All of it

-- What holds of a line of nodes.
pub record WorldOk (w : World) : Type 0 where
  pub nodes : All NodeOk w.nodes
  pub fits : All NodeFits w.nodes
  pub first : (c : Node) → node_at w 0 ≡ Some c → c.role ≡ Coordinator
  pub count : length w.nodes ≤ 1000
  pub rising : Rising w
  pub quiet : w.running ≡ false → w.flights ≡ []
