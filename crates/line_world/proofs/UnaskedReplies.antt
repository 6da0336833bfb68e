-- A frame without a route message makes no node send a route reply.
use Rattle.std.proofs.Common.{◌≡◌, ℕ, ◌+◌, Bool, true, false, List, [], ◌∷◌, ◌++◌, Option, Some, None, Result, Err, refl, sym, ap, subst, ◌∙◌}
use Rattle.std.specs.Prelude.{◌==◌, if◌then◌else◌, is_some}
use Rattle.std.specs.Option.{option_and_then, option_map, option_map_or}
use Rattle.plc_base.specs.declared.address.Eui.{Eui}
use Rattle.plc_base.specs.declared.key.Key.{Key}
use Rattle.plc_base.specs.declared.key.RandomOctets.{RandomOctets}
use Rattle.plc_base.specs.declared.tags.PairTag.{PairTag}
use Rattle.plc_base.specs.Fields.{octet}
use Rattle.plc_base.specs.Grant.{Granted}
use Rattle.store_tables.specs.Writes.{Written, write}
use Rattle.fragment_buffers.specs.Loads.{Command, UnsealedUnit}
use Rattle.mesh_header.specs.declared.unit.Unit.{Unit as MeshUnit}
use Rattle.mesh_header.specs.declared.unit.Unit.TheVariants as units
use Rattle.mesh_header.specs.Reader.{unit_in}
use Rattle.loadng_messages.specs.declared.message.Message.{Message}
use Rattle.loadng_messages.specs.declared.message.Message.TheVariants.{Rreq}
use Rattle.loadng_messages.specs.Faults.{message_fault}
use Rattle.loadng_messages.specs.Grammar as messages
use Rattle.loadng_messages.specs.Reader.{fields_in, message_in}
use Rattle.group_keys.specs.declared.key_book.BookEntry.{BookEntry}
use Rattle.group_keys.specs.KeyRing as ring
use Rattle.joining_messages.specs.declared.message.JoinMessage.{JoinMessage}
use Rattle.joining_messages.specs.declared.message.JoinBody.{JoinBody}
use Rattle.joining_messages.specs.declared.message.JoinBody.TheVariants as body
use Rattle.joining_messages.specs.Reader.{join_in}
use Rattle.eap_psk.specs.Faults.{first_fault}
use Rattle.eap_psk.specs.declared.peer.Peer.{Peer}
use Rattle.eap_psk.specs.declared.server.Server.{Server}
use Rattle.eap_psk.specs.Sessions.{identifier_of, peer_for, rand_p_in}
use Rattle.node_rules.specs.Accepted.{Accepted}
use Rattle.node_rules.specs.declared.heard.Heard.{Heard}
use Rattle.node_rules.specs.declared.heard.MeterHeard.TheVariants as meter_words
use Rattle.node_rules.specs.declared.heard.Path.{Path}
use Rattle.node_rules.specs.declared.heard.Path.TheVariants as paths
use Rattle.node_rules.specs.declared.heard.Reply.{Reply}
use Rattle.node_rules.specs.declared.heard.Way.{Way}
use Rattle.node_rules.specs.declared.heard.Way.TheVariants.{Air, Mesh, Near}
use Rattle.node_rules.specs.declared.refusal.Dropped.{Dropped}
use Rattle.node_rules.specs.declared.refusal.Dropped.TheVariants as drops
use Rattle.node_rules.specs.Calls.{idled}
use Rattle.node_rules.specs.Ciphers.{network}
use Rattle.node_rules.specs.Coordinators as coordinators
use Rattle.node_rules.specs.Drafts.{Draft, StationPlace, Ends, body_goes, checked, choose, empty_draft, goes, is_awaited, sealed_units, seeks, seeks_once}
use Rattle.node_rules.specs.Drafts.{sealed_by, sealing_key, sets_out, waits, with_own_number, with_ring}
use Rattle.node_rules.specs.Frames.{Sent, Up, Down, to_all}
use Rattle.node_rules.specs.HearingRules as stations
use Rattle.node_rules.specs.HearingRules.{dropped}
use Rattle.node_rules.specs.JoiningPackets.{command_of, message, server_for}
use Rattle.node_rules.specs.Memory.{ByAgent, ByCommand, Coordinator, CoordinatorSession, SessionWay, Memory, Meter, MeterSession, Node, Role, StationMemory}
use Rattle.node_rules.specs.Memory.{address_of, next_hop}
use Rattle.node_rules.specs.MemoryDrafts.{Unread, goes_down, goes_up, in_memory, is_commanded, oldest, on_station, packet_fault, station_part, unread}
use Rattle.node_rules.specs.MemoryDrafts.{with_memory_by, with_pair_tags}
use Rattle.node_rules.specs.Meters as meters
use Rattle.node_rules.specs.NodeSteps.{NodeStep, acts, answering, left_by, stays}
use Rattle.node_rules.specs.Plans.{Plan, carry_out, finished, halted as cut_off, resting}
use Rattle.node_rules.specs.Replies.{first_of, reply_among, reply_of, reply_with, route_message}
use Rattle.node_rules.proofs.Shapes.{Ended, Keeps, Rests, Shape, checked_shape, choose_shape, option_shape, rests_shape, sealed_shape, sealing_shape}
use Rattle.plc_station.proofs.SentReplies.{over_mesh_quiet}
use Rattle.reach_rules.specs.CheckedReplies.{message_of}
use Rattle.line_rules.specs.Answers.{Reception, coordinator_reception, meter_reception}
use Rattle.line_rules.specs.Steps.{hearing_step, identity}

-- # Doings that send no reply

-- the first reply among units on their way out
abbrev reply_in : List UnsealedUnit → Option Reply
reply_in [] = None
reply_in (o ∷ os) = first_of (reply_with o.to (route_message o.unit)) (reply_in os)

sealed_units_reply : (g : Granted) (key : Key) (first : ℕ) (us : List UnsealedUnit) → reply_among (sealed_units g key first us) ≡ reply_in us
unfolding reply_of
sealed_units_reply g key first [] = refl
sealed_units_reply g key first (u ∷ us) = ap (first_of (reply_with u.to (route_message u.unit))) (sealed_units_reply g key (first + 1) us)

sealed_none : (r : ring.Ring) (first : ℕ) (us : List UnsealedUnit) → reply_in us ≡ None → reply_among (sealed_by r first us) ≡ None
sealed_none None first us e = refl
sealed_none (Some g) first us e = by_key (sealing_key g)
  where
    by_key : (k : Option Key) → reply_among (option_map_or (λ key. sealed_units g key first us) k []) ≡ None
    by_key None = refl
    by_key (Some key) = sealed_units_reply g key first us ∙ e

first_none : (r t u : Option Reply) → (t ≡ None → u ≡ None) → first_of r t ≡ None → first_of r u ≡ None
first_none None t u tail e = tail e
first_none (Some reply) t u tail e = e

units_after : (xs : List UnsealedUnit) (y : UnsealedUnit) → reply_in xs ≡ None → reply_with y.to (route_message y.unit) ≡ None → reply_in (xs ++ y ∷ []) ≡ None
units_after [] y e none = ap (λ (r : Option Reply). first_of r None) none
units_after (x ∷ xs) y e none = first_none (reply_with x.to (route_message x.unit)) (reply_in xs) (reply_in (xs ++ y ∷ [])) (λ t. units_after xs y t none) e

frames_after : (xs ys : List Sent) → reply_among xs ≡ None → reply_among ys ≡ None → reply_among (xs ++ ys) ≡ None
frames_after [] ys e none = none
frames_after (x ∷ xs) ys e none = first_none (reply_of x) (reply_among xs) (reply_among (xs ++ ys)) (λ t. frames_after xs ys t none) e

-- What is being done sends no reply.
record Quiet {M : Type 0} (d : Draft M) : Type 0 where
  units : reply_in d.units ≡ None
  plain : reply_among d.plain ≡ None

-- a plan that sends none
abbrev QuietPlan : {M H E : Type 0} → StationPlace M → Ends E → M → Plan M (Result H E) → Type 0
QuietPlan h ends m p = Shape h ends m Quiet p

sends_none : {M H E : Type 0} (h : StationPlace M) (ends : Ends E) (m : M) (p : Plan M (Result H E)) → QuietPlan h ends m p → reply_among p.frames ≡ None
unfolding resting
sends_none h ends m p (Rests answer) = refl
sends_none h ends m p (Keeps n answer) = refl
sends_none h ends m p (Ended d answer q) =
    frames_after d.plain (sealed_by (h.station d.memory).ring (h.station d.memory).counter.next d.units) q.plain
    (sealed_none (h.station d.memory).ring (h.station d.memory).counter.next d.units q.units)

-- # Words

empty_quiet : {M : Type 0} (m : M) → Quiet (empty_draft m)
unfolding empty_draft
empty_quiet m = record { units = refl; plain = refl }

-- the spelling of a request reads as no reply
request_none : (to number cost origin dest : ℕ) → reply_with to (message_in (messages.spelling (Rreq number cost origin dest))) ≡ None
unfolding message_in octet
request_none to number cost origin dest = by_fault (is_some (message_fault (messages.spelling (Rreq number cost origin dest))))
  where
    by_fault : (b : Bool) → reply_with to (if b then None else Some (fields_in 1 (messages.spelling (Rreq number cost origin dest)))) ≡ None
    by_fault true = refl
    by_fault false = refl

seeks_quiet : (own dest : ℕ) (d : Draft StationMemory) → Quiet d → Quiet (seeks_once own dest d)
unfolding seeks_once goes with_own_number
seeks_quiet own dest d q = by_wait (is_awaited d.memory dest)
  where
    by_wait : (w : Bool) → Quiet (if w then d else seeks own dest d)
    by_wait true = q
    by_wait false = record {
      units = units_after d.units _ q.units (request_none to_all (d.memory.own_number.last + 1) 0 own dest);
      plain = q.plain;
    }

waits_quiet : (to note : ℕ) (octets : List ℕ) (now : ℕ) (d : Draft StationMemory) → Quiet d → Quiet (waits to note (Command octets) now d)
unfolding waits
waits_quiet to note octets now d q = record { units = q.units; plain = q.plain }

body_quiet : (own hop to note : ℕ) (octets : List ℕ) (d : Draft StationMemory) → Quiet d → Quiet (body_goes own hop to note (Command octets) d)
unfolding body_goes
body_quiet own hop to note octets d q = record { units = units_after d.units _ q.units refl; plain = q.plain }

sets_out_quiet : (own to note : ℕ) (octets : List ℕ) (now : ℕ) (d : Draft StationMemory) → Quiet d → Quiet (sets_out own to note (Command octets) now d)
sets_out_quiet own to note octets now d q = by_hop (next_hop d.memory to) refl
  where
    by_hop : (hop : Option ℕ) → next_hop d.memory to ≡ hop → Quiet (sets_out own to note (Command octets) now d)
    by_hop None e = rw e (waits_quiet to note octets now _ (seeks_quiet own to d q))
    by_hop (Some hop) e = rw e (body_quiet own hop to note octets d q)

commands_quiet : (to : ℕ) (m : JoinMessage) (now : ℕ) (d : Draft Memory) → Quiet d → Quiet (is_commanded to m now d)
unfolding is_commanded on_station
commands_quiet to m now d q = by_address (address_of d.memory.station)
  where
    by_address : (own : Option ℕ) → Quiet (option_map_or (λ own. on_station (sets_out own to 0 (Command (command_of m)) now) d) own d)
    by_address None = q
    by_address (Some own) =
        let s = sets_out_quiet own to 0 (command_of m) now (station_part d) (record { units = q.units; plain = q.plain }) in
        record { units = s.units; plain = s.plain }

rings_quiet : (r : ring.Ring) (d : Draft Memory) → Quiet d → Quiet (on_station (with_ring r) d)
unfolding on_station with_ring
rings_quiet r d q = record { units = q.units; plain = q.plain }

idles_quiet : (d : Draft Memory) → Quiet d → Quiet (on_station (λ x. with_ring None (record x { memory = idled x.memory })) d)
unfolding on_station with_ring
idles_quiet d q = record { units = q.units; plain = q.plain }

remembers_quiet : (change : Memory → Memory) (d : Draft Memory) → Quiet d → Quiet (with_memory_by change d)
unfolding with_memory_by
remembers_quiet change d q = record { units = q.units; plain = q.plain }

tags_quiet : (made opened : List PairTag) (d : Draft Memory) → Quiet d → Quiet (with_pair_tags made opened d)
unfolding with_pair_tags
tags_quiet made opened d q = record { units = q.units; plain = q.plain }

enters_quiet : (e : BookEntry) (d : Draft Memory) → Quiet d → Quiet (coordinators.with_book_entry e d)
unfolding coordinators.with_book_entry
enters_quiet e d q = record { units = q.units; plain = q.plain }

up_quiet : (agent : ℕ) (own : Eui) (m : JoinMessage) (d : Draft Memory) → Quiet d → Quiet (goes_up agent own m d)
unfolding goes_up reply_of
up_quiet agent own m d q = record { units = q.units; plain = frames_after d.plain (Up agent own m ∷ []) q.plain refl }

down_quiet : (own : ℕ) (m : JoinMessage) (d : Draft Memory) → Quiet d → Quiet (goes_down own m d)
unfolding goes_down reply_of
down_quiet own m d q = record { units = q.units; plain = frames_after d.plain (Down own m ∷ []) q.plain refl }

ruleset words = (
  rests_shape,
  checked_shape,
  choose_shape,
  sealed_shape,
  sealing_shape,
  empty_quiet,
  commands_quiet,
  rings_quiet,
  idles_quiet,
  remembers_quiet,
  tags_quiet,
  enters_quiet,
  up_quiet,
  down_quiet,
)

-- # What both do

module _ {H : Type 0} (m : Memory) where
  abbrev IsRule : Plan Memory (Result H Dropped) → Type 0
  IsRule p = QuietPlan in_memory dropped m p

  chosen : (test : Bool) (p q : Plan Memory (Result H Dropped)) → IsRule p → IsRule q → IsRule (choose test p q)
  chosen test p q s t = choose_shape in_memory dropped m Quiet test p q s t

  passed : (fault : Option Dropped) (p : Plan Memory (Result H Dropped)) → IsRule p → IsRule (checked dropped m fault p)
  passed fault p s = checked_shape in_memory dropped m Quiet fault p s

  by_option : {X : Type 0} (f : X → Plan Memory (Result H Dropped)) (o : Option X) (p : Plan Memory (Result H Dropped)) → ((y : X) → IsRule (f y)) → IsRule p
      → IsRule (option_map_or f o p)
  by_option f o p s t = option_shape in_memory dropped m Quiet f o p s t

-- # Meters

module _ (x : meters.Identity) (m : Memory) where
  abbrev OfMeter : meters.Hearing → Type 0
  OfMeter p = QuietPlan in_memory dropped m p

  carry_up_quiet : (from : Eui) (join : JoinMessage) (b : JoinBody) (now : ℕ) → OfMeter (meters.carry_up m from join b now)
  carry_up_quiet from join (body.Join eap) now = search words depth 16
  carry_up_quiet from join _ now = Rests _

  carries_down_quiet : (join : JoinMessage) → OfMeter (meters.carries_down m join)
  carries_down_quiet join =
      by_option m (λ own. meters.ends m (goes_down own join (empty_draft m)) meter_words.Carried) (address_of m.station) (meters.drop_it m drops.BadUnit)
      (λ own. sealed_shape in_memory dropped m Quiet (goes_down own join (empty_draft m)) meter_words.Carried
      (down_quiet own join (empty_draft m) (empty_quiet m))) (Rests _)

  carry_down_quiet : (join : JoinMessage) (b : JoinBody) → OfMeter (meters.carry_down m join b)
  carry_down_quiet join (body.Challenge eap) = carries_down_quiet join
  carry_down_quiet join (body.Accept identifier) = carries_down_quiet join
  carry_down_quiet join body.Decline = carries_down_quiet join
  carry_down_quiet join _ = Rests _

  replies_quiet : (session_way : SessionWay) (peer : Peer) (join : JoinMessage) (now : ℕ) → OfMeter (meters.replies m session_way peer join now)
  replies_quiet (ByAgent agent) peer join now = search words depth 16
  replies_quiet ByCommand peer join now = search words depth 16

  reply_quiet : (session_way : SessionWay) (packet : List ℕ) (now : ℕ) → OfMeter (meters.reply x m session_way packet now)
  reply_quiet session_way packet now = passed m _ _
      (by_option m (λ value. checked dropped m (option_map packet_fault (first_fault packet)) (meters.reply_with x m session_way packet now value)) (oldest m)
      (meters.drop_it m drops.NoRandom)
      (λ value. passed m _ _ (replies_quiet session_way (peer_for x.eui value packet)
      (message x.eui (body.Join (x.ciphers.second x.psk (identifier_of packet) (peer_for x.eui value packet)))) now)) (Rests _))

  takes_quiet : (session_way : SessionWay) (peer : Peer) (identifier : ℕ) (granted : Granted) (join : JoinMessage) (now : ℕ)
      → OfMeter (meters.takes m session_way peer identifier granted join now)
  takes_quiet (ByAgent agent) peer identifier granted join now = search words depth 16
  takes_quiet ByCommand peer identifier granted join now = search words depth 16

  take_with_quiet : (session_way : SessionWay) (packet : List ℕ) (now : ℕ) (peer : Peer) (granted : Option Granted)
      → OfMeter (meters.take_with x m session_way packet now peer granted)
  take_with_quiet session_way packet now peer None = Rests _
  take_with_quiet session_way packet now peer (Some granted) = takes_quiet session_way peer _ granted _ now

  take_by_quiet : (session_way : SessionWay) (packet : List ℕ) (now : ℕ) (peer : Option Peer) → OfMeter (meters.take_by x m session_way packet now peer)
  take_by_quiet session_way packet now None = Rests _
  take_by_quiet session_way packet now (Some peer) = passed m _ _ (take_with_quiet session_way packet now peer (x.ciphers.granted x.psk peer packet))

  take_quiet : (session_way : SessionWay) (packet : List ℕ) (now : ℕ) → OfMeter (meters.take x m session_way packet now)
  take_quiet session_way packet now = passed m _ _
      (by_option m (λ (s : MeterSession). meters.take_by x m session_way packet now s.peer) m.session (meters.drop_it m drops.NoSession)
      (λ s. take_by_quiet session_way packet now s.peer) (Rests _))

  challenged_quiet : (session_way : SessionWay) (packet : List ℕ) (now : ℕ) → OfMeter (meters.challenged x m session_way packet now)
  challenged_quiet session_way packet now = chosen m _ _ _ (reply_quiet session_way packet now) (take_quiet session_way packet now)

  declined_quiet : (agent : ℕ) → OfMeter (meters.declined m agent)
  declined_quiet agent = search words depth 16

  kicked_quiet : OfMeter (meters.kicked m)
  kicked_quiet = search words depth 16

  activated_quiet : (index : ℕ) → OfMeter (meters.activated m index)
  activated_quiet index = search words depth 16

  noted_quiet : OfMeter (meters.answers m meter_words.Noted)
  noted_quiet = search words depth 16

  near_quiet : (agent : ℕ) (b : JoinBody) (now : ℕ) → OfMeter (meters.hear_near x m agent b now)
  near_quiet agent (body.Challenge eap) now = challenged_quiet (ByAgent agent) eap now
  near_quiet agent (body.Accept identifier) now = noted_quiet
  near_quiet agent body.Decline now = declined_quiet agent
  near_quiet agent _ now = Rests _

  order_quiet : (b : JoinBody) (now : ℕ) → OfMeter (meters.hear_order x m b now)
  order_quiet (body.Challenge eap) now = challenged_quiet ByCommand eap now
  order_quiet (body.Accept identifier) now = noted_quiet
  order_quiet body.Kick now = kicked_quiet
  order_quiet (body.Activate index) now = activated_quiet index
  order_quiet _ now = Rests _

  join_quiet : (way : Way) (join : JoinMessage) (now : ℕ) → OfMeter (meters.hear_join x m way join now)
  join_quiet (Air from) join now = carry_up_quiet from join join.body now
  join_quiet (Near agent) join now = chosen m _ _ _ (near_quiet agent join.body now) (Rests _)
  join_quiet (Mesh origin) join now = chosen m _ _ _ (chosen m _ _ _ (order_quiet join.body now) (carry_down_quiet join join.body)) (Rests _)

  join_in_quiet : (way : Way) (join : Option JoinMessage) (now : ℕ) → OfMeter (meters.hear_join_in x m way join now)
  join_in_quiet way None now = Rests _
  join_in_quiet way (Some join) now = join_quiet way join now

  meter_heard : (now : ℕ) (p : stations.Hearing) (u : Option Unread) → reply_among p.frames ≡ None → reply_among (meters.heard_by x m now p u).frames ≡ None
  meter_heard now p None none = none
  meter_heard now p (Some u) none = sends_none in_memory dropped m _ (join_in_quiet u.way (join_in u.body) now)

-- # The coordinator

module _ (own : coordinators.CoordinatorIdentity) (m : Memory) where
  abbrev OfCoordinator : coordinators.Hearing → Type 0
  OfCoordinator p = QuietPlan in_memory dropped m p

  declines_quiet : (way : Way) (join : JoinMessage) (now : ℕ) → OfCoordinator (coordinators.declines m way join now)
  declines_quiet (Air eui) join now = search words depth 16
  declines_quiet (Near agent) join now = search words depth 16
  declines_quiet (Mesh origin) join now = search words depth 16

  challenges_quiet : (way : Way) (server : Server) (now : ℕ) → OfCoordinator (coordinators.challenges m way server now)
  challenges_quiet (Air eui) server now = search words depth 16
  challenges_quiet (Near agent) server now = search words depth 16
  challenges_quiet (Mesh origin) server now = search words depth 16

  open_quiet : (way : Way) (eui : Eui) (now : ℕ) → OfCoordinator (coordinators.open_session own m way eui now)
  open_quiet way eui now = passed m _ _
      (by_option m (λ value. coordinators.challenges m way (server_for eui own.eui value) now) (oldest m) (coordinators.drop_it m drops.NoRandom)
      (λ value. challenges_quiet way (server_for eui own.eui value) now) (Rests _))

  asked_quiet : (way : Way) (eui : Eui) (now : ℕ) → OfCoordinator (coordinators.join_without_packet own m way eui now)
  asked_quiet way eui now = chosen m _ _ _ (open_quiet way eui now) (declines_quiet way _ now)

  keys_quiet : (s : CoordinatorSession) (e : BookEntry) (rand_p : RandomOctets) (granted : Granted) (now : ℕ)
      → OfCoordinator (coordinators.keys_for own m s e rand_p granted now)
  keys_quiet s e rand_p granted now = by_way s.way refl
    where
      by_way : (way : Way) → s.way ≡ way → OfCoordinator (coordinators.keys_for own m s e rand_p granted now)
      by_way (Air eui) is = rw is (search words depth 16)
      by_way (Near agent) is = rw is (search words depth 16)
      by_way (Mesh origin) is = rw is (search words depth 16)

  second_quiet : (s : CoordinatorSession) (e : BookEntry) (packet : List ℕ) (now : ℕ) → OfCoordinator (coordinators.take_second own m s e packet now)
  second_quiet s e packet now = passed m _ _
      (by_option m (λ granted. coordinators.keys_for own m s e (rand_p_in packet) granted now) (coordinators.grant_for m s.server.eui)
      (coordinators.drop_it m drops.NotAllowed)
      (λ granted. keys_quiet s e _ granted now) (Rests _))

  fourth_quiet : (s : CoordinatorSession) (e : BookEntry) (packet : List ℕ) (rand_p : RandomOctets) (now : ℕ)
      → OfCoordinator (coordinators.take_fourth own m s e packet rand_p now)
  fourth_quiet s e packet rand_p now = passed m _ _ (by_way s.way refl)
    where
      by_way : (way : Way) → s.way ≡ way → OfCoordinator (coordinators.accepts m s rand_p now)
      by_way (Air eui) is = rw is (search words depth 16)
      by_way (Near agent) is = rw is (search words depth 16)
      by_way (Mesh origin) is = rw is (search words depth 16)

  packet_quiet : (e : BookEntry) (packet : List ℕ) (now : ℕ) (s : CoordinatorSession) → OfCoordinator (coordinators.take_packet own m e packet now s)
  packet_quiet e packet now s =
      by_option m (λ rand_p. coordinators.take_fourth own m s e packet rand_p now) s.server.rand_p (coordinators.take_second own m s e packet now)
      (λ rand_p. fourth_quiet s e packet rand_p now) (second_quiet s e packet now)

  answered_quiet : (eui : Eui) (packet : List ℕ) (now : ℕ) → OfCoordinator (coordinators.join_with_packet own m eui packet now)
  answered_quiet eui packet now =
      by_option m (λ e. option_map_or (coordinators.take_packet own m e packet now) (coordinators.session_of m eui) (coordinators.drop_it m drops.NoSession))
      (coordinators.allowed_entry m eui) (coordinators.drop_it m drops.NotAllowed)
      (λ e. by_option m (coordinators.take_packet own m e packet now) (coordinators.session_of m eui) (coordinators.drop_it m drops.NoSession)
      (λ s. packet_quiet e packet now s) (Rests _)) (Rests _)

  asks_quiet : (way : Way) (eui : Eui) (b : JoinBody) (now : ℕ) → OfCoordinator (coordinators.hear_join own m way eui b now)
  asks_quiet way eui (body.Join []) now = asked_quiet way eui now
  asks_quiet way eui (body.Join (y ∷ packet)) now = answered_quiet eui (y ∷ packet) now
  asks_quiet way eui _ now = Rests _

  asks_in_quiet : (way : Way) (join : Option JoinMessage) (now : ℕ) → OfCoordinator (coordinators.hear_join_in own m way join now)
  asks_in_quiet way None now = Rests _
  asks_in_quiet way (Some join) now = chosen m _ _ _ (asks_quiet way join.eui join.body now) (Rests _)

  coordinator_heard : (now : ℕ) (p : stations.Hearing) (u : Option Unread) → reply_among p.frames ≡ None
      → reply_among (coordinators.heard_by own m now p u).frames ≡ None
  coordinator_heard now p None none = none
  coordinator_heard now p (Some u) none = sends_none in_memory dropped m _ (asks_in_quiet u.way (join_in u.body) now)

-- # A station

module _ (l : StationMemory) (cost note now : ℕ) where
  dropped_none : (reason : Dropped) → reply_among (stations.drop_it l reason).frames ≡ None
  unfolding resting
  dropped_none reason = refl

  rests_none : (a b : Result Heard Dropped) → reply_among (resting l a b).frames ≡ None
  unfolding resting
  rests_none a b = refl

  choose_none : (test : Bool) (p q : stations.Hearing) → reply_among p.frames ≡ None → reply_among q.frames ≡ None → reply_among (choose test p q).frames ≡ None
  unfolding choose
  choose_none true p q a b = a
  choose_none false p q a b = b

  by_code : (own from : ℕ) (all : Bool) (first : Bool) (m : Option Message) (other : stations.Hearing) → (if first then m else None) ≡ None
      → reply_among other.frames ≡ None
      → reply_among (choose first (stations.hear_message_in l own from all cost now m) other).frames ≡ None
  unfolding choose
  by_code own from all true m other e none =
      subst (λ (o : Option Message). reply_among (stations.hear_message_in l own from all cost now o).frames ≡ None) (sym e) (dropped_none drops.BadUnit)
  by_code own from all false m other e none = none

  sealed_heard : (own from : ℕ) (all : Bool) (u : MeshUnit) → route_message u ≡ None
      → reply_among (stations.hear_sealed l own from all u cost note now).frames ≡ None
  sealed_heard own from all (units.Local code octets) e =
      by_code own from all (code == 1) (message_in octets) _ e (choose_none (code == 2) _ _ (dropped_none drops.BadUnit) (rests_none _ _))
  sealed_heard own from all (units.Whole mesh octets) e =
      choose_none all _ _ (dropped_none drops.BadUnit) (over_mesh_quiet l own (units.Whole mesh octets) note now)
  sealed_heard own from all (units.Part mesh piece) e =
      choose_none all _ _ (dropped_none drops.BadUnit) (over_mesh_quiet l own (units.Part mesh piece) note now)
  sealed_heard own from all (units.Carried mesh octets) e =
      choose_none all _ _ (dropped_none drops.BadUnit) (over_mesh_quiet l own (units.Carried mesh octets) note now)

  addressed_heard : (own : Option ℕ) (from : ℕ) (all : Bool) (u : MeshUnit) → route_message u ≡ None
      → reply_among (option_map_or (λ a. stations.hear_sealed l a from all u cost note now) own (stations.drop_it l drops.BadUnit)).frames ≡ None
  addressed_heard None from all u e = dropped_none drops.BadUnit
  addressed_heard (Some own) from all u e = sealed_heard own from all u e

  plain_heard : (answer : List ℕ → Heard) (o : Option (List ℕ)) → reply_among (stations.hear_plain l answer o).frames ≡ None
  plain_heard answer None = dropped_none drops.BadUnit
  plain_heard answer (Some octets) = rests_none _ _

  unit_heard : (path : Path) (u : Option MeshUnit) → option_and_then route_message u ≡ None
      → reply_among (stations.hear_unit_in l path u cost note now).frames ≡ None
  unit_heard path None e = dropped_none drops.BadUnit
  unit_heard (paths.Sealed from all key) (Some u) e = addressed_heard (address_of l) from all u e
  unit_heard (paths.Up from) (Some u) e = plain_heard _ (stations.is_joining u)
  unit_heard (paths.Down from) (Some u) e = plain_heard _ (stations.is_joining u)

-- # Nodes

acts_none : {A : Type 0} (x : Node) (halted : A) (plan : Memory → Plan Memory A) → ((m : Memory) → reply_among (plan m).frames ≡ None)
    → reply_among (acts x halted plan).frames ≡ None
unfolding acts carry_out
acts_none {A} x halted plan none = by_memory x.memory
  where
    by_whole : (b : Bool) (m : Memory) (w : Written) → reply_among (if b then finished w (plan m) else cut_off w (plan m)).frames ≡ None
    by_whole true m w = none m
    by_whole false m w = refl

    by_memory : (o : Option Memory)
        → reply_among (option_map_or (λ m. left_by x (carry_out x.store.records x.store.cut (plan m))) o (stays x halted)).frames ≡ None
    by_memory None = refl
    by_memory (Some m) =
        let w : Written = write (plan m).puts x.store.cut x.store.records in
        by_whole w.whole m w

-- a node sends no reply where it heard no route message
module _ (x : Node) (got : Accepted) (cost note now : ℕ) (none : message_of got ≡ None) where
  at_station : (l : StationMemory) → reply_among (stations.hear l got cost note now).frames ≡ None
  at_station l = unit_heard l cost note now got.path (unit_in got.payload) none

  abbrev hears_as : Role → NodeStep Reception
  hears_as Coordinator =
      answering coordinator_reception
      (acts x (Err drops.Store) (λ m. coordinators.hear_coordinator (record { eui = x.eui; ciphers = network }) m got cost note now))
  hears_as (Meter psk) = answering meter_reception (acts x (Err drops.Store) (λ m. meters.hear_meter (identity network x psk) m got cost note now))

  by_role : (role : Role) → reply_among (hears_as role).frames ≡ None
  by_role Coordinator = acts_none x (Err drops.Store) (λ m. coordinators.hear_coordinator (record { eui = x.eui; ciphers = network }) m got cost note now)
      (λ m. coordinator_heard (record { eui = x.eui; ciphers = network }) m now (stations.hear m.station got cost note now)
      (unread (stations.hear m.station got cost note now).answer) (at_station m.station))
  by_role (Meter psk) = acts_none x (Err drops.Store) (λ m. meters.hear_meter (identity network x psk) m got cost note now)
      (λ m. meter_heard (identity network x psk) m now (stations.hear m.station got cost note now) (unread (stations.hear m.station got cost note now).answer)
      (at_station m.station))

  pub none_unasked : reply_among (hearing_step network x got cost note now).frames ≡ None
  none_unasked = by_role x.role
