-- What becomes of a broadcast that a node hands up: it goes on to all with one hop less, while it has a hop more.
use Rattle.std.specs.Prelude.{◌≡◌, ℕ, nat_lt, List, [], ◌∷◌, Some, Ok, if◌then◌else◌}
use Rattle.mesh_header.specs.declared.unit.Unit.TheVariants as units
use Rattle.broadcast_log.specs.declared.broadcast.Broadcast.{Broadcast}
use Rattle.broadcast_log.specs.Grammar.{spelling}
use Rattle.broadcast_log.specs.Reader.{broadcast_in}
use Rattle.node_rules.specs.Drafts.{sealed_by}
use Rattle.node_rules.specs.Frames.{to_all}
use Rattle.node_rules.specs.Memory.{Memory}
use Rattle.node_rules.specs.MemoryDrafts.{in_memory}
use Rattle.reach_rules.specs.declared.heard.CommandHeard.TheVariants as heard
use Rattle.reach_rules.specs.Broadcasts.{hop_less}
use Rattle.reach_rules.specs.ReachingNodes.{Beside, Commanding}
use Rattle.reach_rules.specs.FurtherReceptions.{NeighbourCommand, hear_command}

-- The command carries the broadcast that is handed up. With two hops or more it goes to all, sealed with the next counter, with one hop less, and nothing
-- else is sent; with fewer nothing is.
pub record GoesFurther (m : Memory) (c : NeighbourCommand) (origin number : ℕ) (octets : List ℕ) (p : Commanding Memory) : Type 0 where
  pub broadcast : Broadcast
  pub read : broadcast_in c.body ≡ Some broadcast
  pub origin_is : broadcast.origin ≡ origin
  pub number_is : broadcast.number ≡ number
  pub octets_are : broadcast.octets ≡ octets
  pub frames : p.frames
      ≡ (if nat_lt broadcast.hops 2 then []
      else sealed_by m.station.ring m.station.counter.next
      (record { to = to_all; unit = units.Local 4 (spelling (hop_less broadcast)); note = 0 } ∷ []))

abbrev pub BroadcastsGoFurther : Type 0
BroadcastsGoFurther =
    (m : Memory) (b : Beside) (c : NeighbourCommand) (origin number : ℕ) (octets : List ℕ)
    → (hear_command in_memory (record { memory = m; beside = b }) c).answer ≡ Ok (heard.Broadcast origin number octets)
    → GoesFurther m c origin number octets (hear_command in_memory (record { memory = m; beside = b }) c)
