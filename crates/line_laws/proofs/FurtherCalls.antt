-- A broadcast and an ask keep all that the laws rest on: what holds of a world says whom they go to, and that they may be sealed.
use Rattle.std.proofs.Common.{◌≡◌, ℕ, [], ◌∷◌, Some, Err, subst, arith}
use Rattle.std.specs.Prelude.{IfSome}
use Rattle.path_requests.specs.declared.message.PathMessage.TheVariants.{Ask}
use Rattle.node_rules.specs.Memory.{Memory, Node}
use Rattle.node_rules.specs.MemoryDrafts.{in_memory}
use Rattle.reach_rules.specs.declared.refusal.AskRefusal.TheVariants as asks
use Rattle.reach_rules.specs.declared.refusal.BroadcastRefusal.TheVariants as broadcasts
use Rattle.reach_rules.specs.Broadcasts.{broadcast, own_broadcast}
use Rattle.reach_rules.specs.PathRequests.{ask_path}
use Rattle.line_rules.specs.Further.{with_beside}
use Rattle.line_rules.specs.Worlds.{World, node_at}
use Rattle.line_laws.specs.FurtherLines.{CallsKeepAll}
use Rattle.line_laws.specs.Ranges.{IsStationRanged, NodeRanged, WorldRanged}
use Rattle.line_laws.proofs.FurtherForms.{AnyUnits, ask_is, broadcast_is}
use Rattle.line_laws.proofs.FurtherLines.{all_target}
use Rattle.line_laws.proofs.FurtherRanges.{datagram_short, low_target, may_broadcast, may_path, route_low}
use Rattle.line_laws.proofs.FurtherSeals.{IsOne, One}
use Rattle.line_laws.proofs.LaterKeeps.{further_keeps}
use Rattle.line_laws.proofs.Worlds.{at_place}

station_in : (w : World) → WorldRanged w → (number : ℕ) (x : Node) (m : Memory) → node_at w number ≡ Some x → x.memory ≡ Some m → IsStationRanged m.station
station_in w r number x m there here =
    subst (λ o. IfSome o (λ (n : Memory). IsStationRanged n.station)) here (at_place NodeRanged w.nodes number x there r.nodes)

pub calls_keep_all : CallsKeepAll
calls_keep_all w number x b runs there = (
  λ datagram are given sent taken all home ups h.
      further_keeps (Err broadcasts.Halted) (with_beside b (λ y. broadcast in_memory y datagram)) (λ m. broadcast_is AnyUnits b datagram m (λ own here e. tt))
      w number x
      (λ m is. broadcast_is IsOne b datagram m (λ own here e.
      One _ _ all_target (may_broadcast (own_broadcast own b.log datagram) (omega arith) (datagram_short b datagram e) are)))
      runs there given sent taken all home ups h,
  λ target given sent taken all home ups h.
      further_keeps (Err asks.Halted) (with_beside b (λ y. ask_path in_memory y target)) (λ m. ask_is AnyUnits b target m (λ own hop here e. tt)) w number x
      (λ m is. ask_is IsOne b target m (λ own hop here e.
      One hop _ (low_target hop (route_low m.station target hop (station_in w h.ranged number x m there is) e))
      (may_path (Ask target (own ∷ [])) (omega arith))))
      runs there given sent taken all home ups h,
)
