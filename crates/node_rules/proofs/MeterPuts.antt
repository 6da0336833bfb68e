-- What a meter makes of a frame, joining and leaving put three times at most, before the counter.
use Rattle.std.proofs.Common.{ℕ, Bool, List, Option, Some, None, Result}
use Rattle.std.specs.Option.{option_map, option_map_or}
use Rattle.plc_base.specs.declared.address.Eui.{Eui}
use Rattle.plc_base.specs.Grant.{Granted}
use Rattle.joining_messages.specs.declared.message.JoinMessage.{JoinMessage}
use Rattle.joining_messages.specs.declared.message.JoinBody.{JoinBody}
use Rattle.joining_messages.specs.declared.message.JoinBody.TheVariants as body
use Rattle.joining_messages.specs.Reader.{join_in}
use Rattle.eap_psk.specs.Faults.{first_fault}
use Rattle.eap_psk.specs.declared.peer.Peer.{Peer}
use Rattle.node_rules.specs.Accepted.{Accepted}
use Rattle.node_rules.specs.declared.heard.Heard.{Heard}
use Rattle.node_rules.specs.declared.heard.MeterHeard.{MeterHeard}
use Rattle.node_rules.specs.declared.heard.MeterHeard.TheVariants as heard
use Rattle.node_rules.specs.declared.heard.Way.{Way}
use Rattle.node_rules.specs.declared.heard.Way.TheVariants.{Air, Near, Mesh}
use Rattle.node_rules.specs.declared.refusal.Dropped.{Dropped}
use Rattle.node_rules.specs.declared.refusal.Dropped.TheVariants.{BadUnit, NoSession, NoRandom}
use Rattle.node_rules.specs.Memory.{StationMemory, Memory, MeterSession, SessionWay, ByAgent, ByCommand, address_of}
use Rattle.node_rules.specs.Plans.{Plan}
use Rattle.node_rules.specs.Drafts.{Draft, empty_draft, checked, choose}
use Rattle.node_rules.specs.HearingRules as station_rules
use Rattle.node_rules.specs.HearingRules.{dropped}
use Rattle.node_rules.specs.JoiningPackets.{message}
use Rattle.eap_psk.specs.Sessions.{peer_for, identifier_of}
use Rattle.node_rules.specs.MemoryDrafts.{in_memory, goes_down, oldest, Unread, unread, packet_fault}
use Rattle.node_rules.specs.Meters.{Hearing, Identity, drop_it, ends, carry_up, carries_down, carry_down, reply_with, reply, take_with, take_by, take, takes}
use Rattle.node_rules.specs.Meters.{replies, challenged, declined, kicked, activated, hear_near, hear_order, hear_join, hear_join_in, heard_by, hear_meter}
use Rattle.node_rules.specs.Meters.{joining_ends, join, leaving_ends, leave}
use Rattle.node_rules.proofs.Shapes.{Rests, rests_shape, checked_shape, choose_shape, sealed_shape, sealing_shape, option_shape}
use Rattle.node_rules.proofs.PutCounts.{Does, memory_does, down_does, begins}
use Rattle.node_rules.proofs.HeardPuts.{StationFew, hear_few}
use Rattle.node_rules.proofs.MemoryPuts.{MemoryFew, within_few}

ruleset words = (rests_shape, checked_shape, choose_shape, sealed_shape, sealing_shape, memory_does)

module _ (x : Identity) (m : Memory) where
  abbrev IsRule : Hearing → Type 0
  IsRule p = MemoryFew dropped m p

  chosen : (test : Bool) (p q : Hearing) → IsRule p → IsRule q → IsRule (choose test p q)
  chosen test p q s t = choose_shape in_memory dropped m Does test p q s t

  passed : (fault : Option Dropped) (p : Hearing) → IsRule p → IsRule (checked dropped m fault p)
  passed fault p s = checked_shape in_memory dropped m Does fault p s

  ended : (d : Draft Memory) (answer : MeterHeard) → Does d → IsRule (ends m d answer)
  ended d answer done = sealed_shape in_memory dropped m Does d answer done

  by_option : {X : Type 0} (f : X → Hearing) (o : Option X) (p : Hearing) → ((y : X) → IsRule (f y)) → IsRule p → IsRule (option_map_or f o p)
  by_option f o p s t = option_shape in_memory dropped m Does f o p s t

  carry_up_shape : (from : Eui) (join : JoinMessage) (b : JoinBody) (now : ℕ) → IsRule (carry_up m from join b now)
  carry_up_shape from join (body.Join eap) now = search words depth 16
  carry_up_shape from join _ now = Rests _

  carries_down_shape : (join : JoinMessage) → IsRule (carries_down m join)
  carries_down_shape join = by_option (λ own. ends m (goes_down own join (empty_draft m)) heard.Carried) (address_of m.station) (drop_it m BadUnit)
      (λ own. ended _ _ (down_does own join (empty_draft m) (begins m))) (Rests _)

  carry_down_shape : (join : JoinMessage) (b : JoinBody) → IsRule (carry_down m join b)
  carry_down_shape join (body.Challenge eap) = carries_down_shape join
  carry_down_shape join (body.Accept identifier) = carries_down_shape join
  carry_down_shape join body.Decline = carries_down_shape join
  carry_down_shape join _ = Rests _

  replies_shape : (session_way : SessionWay) (peer : Peer) (join : JoinMessage) (now : ℕ) → IsRule (replies m session_way peer join now)
  replies_shape (ByAgent agent) peer join now = search words depth 16
  replies_shape ByCommand peer join now = search words depth 16

  reply_shape : (session_way : SessionWay) (packet : List ℕ) (now : ℕ) → IsRule (reply x m session_way packet now)
  reply_shape session_way packet now = passed _ _
      (by_option (λ value. checked dropped m (option_map packet_fault (first_fault packet)) (reply_with x m session_way packet now value)) (oldest m)
      (drop_it m NoRandom)
      (λ value. passed _ _ (replies_shape session_way (peer_for x.eui value packet)
      (message x.eui (body.Join (x.ciphers.second x.psk (identifier_of packet) (peer_for x.eui value packet)))) now)) (Rests _))

  takes_shape : (session_way : SessionWay) (peer : Peer) (identifier : ℕ) (granted : Granted) (join : JoinMessage) (now : ℕ)
      → IsRule (takes m session_way peer identifier granted join now)
  takes_shape (ByAgent agent) peer identifier granted join now = search words depth 16
  takes_shape ByCommand peer identifier granted join now = search words depth 16

  take_with_shape : (session_way : SessionWay) (packet : List ℕ) (now : ℕ) (peer : Peer) (granted : Option Granted)
      → IsRule (take_with x m session_way packet now peer granted)
  take_with_shape session_way packet now peer None = Rests _
  take_with_shape session_way packet now peer (Some granted) = takes_shape session_way peer _ granted _ now

  take_by_shape : (session_way : SessionWay) (packet : List ℕ) (now : ℕ) (peer : Option Peer) → IsRule (take_by x m session_way packet now peer)
  take_by_shape session_way packet now None = Rests _
  take_by_shape session_way packet now (Some peer) = passed _ _ (take_with_shape session_way packet now peer (x.ciphers.granted x.psk peer packet))

  take_shape : (session_way : SessionWay) (packet : List ℕ) (now : ℕ) → IsRule (take x m session_way packet now)
  take_shape session_way packet now = passed _ _
      (by_option (λ (s : MeterSession). take_by x m session_way packet now s.peer) m.session (drop_it m NoSession)
      (λ s. take_by_shape session_way packet now s.peer)
      (Rests _))

  challenged_shape : (session_way : SessionWay) (packet : List ℕ) (now : ℕ) → IsRule (challenged x m session_way packet now)
  challenged_shape session_way packet now = chosen _ _ _ (reply_shape session_way packet now) (take_shape session_way packet now)

  declined_shape : (agent : ℕ) → IsRule (declined m agent)
  declined_shape agent = search words depth 16

  kicked_shape : IsRule (kicked m)
  kicked_shape = search words depth 16

  activated_shape : (index : ℕ) → IsRule (activated m index)
  activated_shape index = search words depth 16

  noted_shape : IsRule (ends m (empty_draft m) heard.Noted)
  noted_shape = search words depth 16

  near_shape : (agent : ℕ) (b : JoinBody) (now : ℕ) → IsRule (hear_near x m agent b now)
  near_shape agent (body.Challenge eap) now = challenged_shape (ByAgent agent) eap now
  near_shape agent (body.Accept identifier) now = noted_shape
  near_shape agent body.Decline now = declined_shape agent
  near_shape agent _ now = Rests _

  order_shape : (b : JoinBody) (now : ℕ) → IsRule (hear_order x m b now)
  order_shape (body.Challenge eap) now = challenged_shape ByCommand eap now
  order_shape (body.Accept identifier) now = noted_shape
  order_shape body.Kick now = kicked_shape
  order_shape (body.Activate index) now = activated_shape index
  order_shape _ now = Rests _

  join_shape : (way : Way) (join : JoinMessage) (now : ℕ) → IsRule (hear_join x m way join now)
  join_shape (Air from) join now = carry_up_shape from join join.body now
  join_shape (Near agent) join now = chosen _ _ _ (near_shape agent join.body now) (Rests _)
  join_shape (Mesh origin) join now = chosen _ _ _ (chosen _ _ _ (order_shape join.body now) (carry_down_shape join join.body)) (Rests _)

  join_in_shape : (way : Way) (join : Option JoinMessage) (now : ℕ) → IsRule (hear_join_in x m way join now)
  join_in_shape way None now = Rests _
  join_in_shape way (Some join) now = join_shape way join now

  heard_by_shape : (now : ℕ) (p : Plan StationMemory (Result Heard Dropped)) (u : Option Unread) → StationFew m.station p
      → IsRule (heard_by x m now p u)
  heard_by_shape now p None s = within_few heard.Station m p s
  heard_by_shape now p (Some u) s = join_in_shape u.way (join_in u.body) now

  pub meter_few : (got : Accepted) (cost note now : ℕ) → MemoryFew dropped m (hear_meter x m got cost note now)
  meter_few got cost note now =
      let p = station_rules.hear m.station got cost note now in
      heard_by_shape now p (unread p.answer) (hear_few m.station got cost note now)

  pub joins_few : (agent now : ℕ) → MemoryFew joining_ends m (join x m agent now)
  joins_few agent now = search words depth 16

  pub leaves_few : MemoryFew leaving_ends m (leave m)
  leaves_few = search words depth 16
