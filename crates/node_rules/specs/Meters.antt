-- What a meter does: joining, carrying the messages of others, leaving, and the keys that it is ordered to use.
use Rattle.std.specs.Prelude.{ℕ, Bool, true, false, ◌==◌, List, [], ◌∷◌, is_some, Option, Some, None, Result, Ok, Err, if◌then◌else◌}
use Rattle.std.specs.Option.{option_map, option_map_or}
use Rattle.plc_base.specs.Faults.{◌then◌, ◌when◌, ◌unless◌}
use Rattle.plc_base.specs.declared.address.Eui.{Eui}
use Rattle.plc_base.specs.declared.key.Key.{Key}
use Rattle.plc_base.specs.declared.key.RandomOctets.{RandomOctets}
use Rattle.plc_base.specs.Grant.{Granted}
use Rattle.node_rules.specs.declared.refusal.RingRefusal.{RingRefusal}
use Rattle.joining_messages.specs.declared.message.JoinMessage.{JoinMessage}
use Rattle.joining_messages.specs.declared.message.JoinBody.{JoinBody}
use Rattle.joining_messages.specs.declared.message.JoinBody.TheVariants as body
use Rattle.joining_messages.specs.Reader.{join_in}
use Rattle.eap_psk.specs.Messages.{granting_text}
use Rattle.eap_psk.specs.Faults.{first_fault}
use Rattle.eap_psk.specs.Tags.{mac_p_tag, mac_s_tag, granting_tag, success_tag}
use Rattle.eap_psk.specs.declared.peer.Peer.{Peer}
use Rattle.node_rules.specs.Accepted.{Accepted}
use Rattle.node_rules.specs.declared.heard.Heard.{Heard}
use Rattle.node_rules.specs.declared.heard.MeterHeard.{MeterHeard}
use Rattle.node_rules.specs.declared.heard.MeterHeard.TheVariants as heard
use Rattle.node_rules.specs.declared.heard.Way.{Way}
use Rattle.node_rules.specs.declared.heard.Way.TheVariants.{Air, Near, Mesh}
use Rattle.node_rules.specs.declared.refusal.Dropped.{Dropped}
use Rattle.node_rules.specs.declared.refusal.Dropped.TheVariants.{BadUnit, NoSession, NoRandom, Form, NoSuccess, NotHeld}
use Rattle.node_rules.specs.declared.refusal.JoinRefusal.{JoinRefusal}
use Rattle.node_rules.specs.declared.refusal.JoinRefusal.TheVariants.{AlreadyJoined, Halted}
use Rattle.node_rules.specs.declared.refusal.LeaveRefusal.{LeaveRefusal}
use Rattle.node_rules.specs.declared.refusal.LeaveRefusal.TheVariants as leaving
use Rattle.node_rules.specs.Ciphers.{Ciphers}
use Rattle.node_rules.specs.Memory.{StationMemory, Memory, MeterSession, SessionWay, ByAgent, ByCommand, address_of}
use Rattle.node_rules.specs.Plans.{Plan, within}
use Rattle.node_rules.specs.Acceptance.{same_eui}
use Rattle.node_rules.specs.Drafts.{Draft, Ends, empty_draft, with_ring, refused, sealing, sealed, checked, choose}
use Rattle.node_rules.specs.HearingRules.{dropped, hear}
use Rattle.node_rules.specs.Calls as calls
use Rattle.node_rules.specs.JoiningPackets.{is_first, message}
use Rattle.eap_psk.specs.Sessions.{peer_for, identifier_of, agreed_by}
use Rattle.node_rules.specs.MemoryDrafts.{with_station, in_memory, on_station, with_memory_by, with_pair_tags, goes_up, goes_down, is_commanded, command_lack}
use Rattle.node_rules.specs.MemoryDrafts.{oldest, without_oldest, Unread, unread, packet_fault}
use Rattle.node_rules.specs.declared.session_time.TheConstants.{SESSION_TIME}

-- what a meter does about a frame that was accepted
abbrev pub Hearing : Type 0
Hearing = Plan Memory (Result MeterHeard Dropped)

-- A meter: its identity, the pair key, and what its packets are made with.
pub record Identity : Type 0 where
  pub eui : Eui
  pub psk : Key
  pub ciphers : Ciphers

-- nothing has changed
abbrev pub drop_it : Memory → Dropped → Hearing
drop_it m reason = refused dropped m reason

-- the doing is carried to its end
abbrev pub ends : Memory → Draft Memory → MeterHeard → Hearing
ends m d answer = sealed in_memory dropped m d answer

-- nothing is changed
abbrev pub answers : Memory → MeterHeard → Hearing
answers m answer = ends m (empty_draft m) answer

-- whether the meter is joined
abbrev pub is_joined : Memory → Bool
is_joined m = is_some m.station.ring

-- # Sessions

-- whether a session runs so
abbrev pub same_session_way : SessionWay → SessionWay → Bool
same_session_way (ByAgent a) (ByAgent b) = a == b
same_session_way (ByAgent a) ByCommand = false
same_session_way ByCommand (ByAgent b) = false
same_session_way ByCommand ByCommand = true

-- whether the session that is open took this course
abbrev pub has_session : Memory → SessionWay → Bool
has_session m session_way = option_map_or (λ (s : MeterSession). same_session_way s.session_way session_way) m.session false

-- the memory with another session, or with none
abbrev pub with_session : Option MeterSession → Memory → Memory
with_session session m = record m { session = session }

-- # Carrying the messages of others

-- up: a plain JOIN of its sender goes to the coordinator in a command
abbrev pub carries_up : Memory → JoinMessage → ℕ → Hearing
carries_up m join now =
    checked dropped m (command_lack m 0 join) (ends m (is_commanded 0 join now (empty_draft m)) heard.Carried)

-- a JOIN in a plain frame is carried up to the coordinator, where it comes from its own meter
abbrev pub carry_up : Memory → Eui → JoinMessage → JoinBody → ℕ → Hearing
carry_up m from join (body.Join eap) now = choose (same_eui join.eui from) (carries_up m join now) (drop_it m BadUnit)
carry_up m from join _ now = drop_it m BadUnit

-- down: what the coordinator says to another node goes to it in a plain frame
abbrev pub carries_down : Memory → JoinMessage → Hearing
carries_down m join =
    option_map_or (λ own. ends m (goes_down own join (empty_draft m)) heard.Carried) (address_of m.station)
    (drop_it m BadUnit)

-- a CHALLENGE, an ACCEPT and a DECLINE are carried down to their meter
abbrev pub carry_down : Memory → JoinMessage → JoinBody → Hearing
carry_down m join (body.Challenge eap) = carries_down m join
carry_down m join (body.Accept identifier) = carries_down m join
carry_down m join body.Decline = carries_down m join
carry_down m join _ = drop_it m BadUnit

-- # Challenges

-- what the meter says goes back the same way
abbrev pub says : SessionWay → Eui → JoinMessage → ℕ → Draft Memory → Draft Memory
says (ByAgent agent) own join now d = goes_up agent own join d
says ByCommand own join now d = is_commanded 0 join now d

-- what the message lacks: only a command lacks anything
abbrev pub say_lack : SessionWay → Memory → JoinMessage → Option Dropped
say_lack (ByAgent agent) m join = None
say_lack ByCommand m join = command_lack m 0 join

-- what is wrong with a challenge over the air: the meter is joined, or no session runs by that agent. In a command a first packet needs
-- no session, and any other one a session by command.
abbrev pub air_fault : Memory → SessionWay → Option Dropped
air_fault m session_way = Some BadUnit when is_joined m then Some NoSession unless has_session m session_way

-- what stands in the way of the first packet by the course that it took
abbrev pub first_way_fault : Memory → SessionWay → Option Dropped
first_way_fault m (ByAgent agent) = air_fault m (ByAgent agent)
first_way_fault m ByCommand = None

-- what stands in the way of the third packet by the course that it took
abbrev pub third_way_fault : Memory → SessionWay → Option Dropped
third_way_fault m (ByAgent agent) = air_fault m (ByAgent agent)
third_way_fault m ByCommand = Some NoSession unless has_session m ByCommand

-- a first packet: the oldest random value is taken, the peer answers, and the session awaits the third message from now on
abbrev pub replies : Memory → SessionWay → Peer → JoinMessage → ℕ → Hearing
replies m session_way peer join now =
    checked dropped m (say_lack session_way m join)
    (ends m
    (says session_way peer.eui join now
    (with_pair_tags (mac_p_tag peer.eui peer.id_s peer.rand_s peer.rand_p ∷ []) []
    (with_memory_by (λ n. with_session (Some (record { session_way = session_way; peer = Some peer; since = now }))
    (without_oldest n)) (empty_draft m))))
    heard.Replied)

-- the second packet goes out, made with a random value
abbrev pub reply_with : Identity → Memory → SessionWay → List ℕ → ℕ → RandomOctets → Hearing
reply_with x m session_way packet now value =
    let peer = peer_for x.eui value packet in
    replies m session_way peer (message x.eui (body.Join (x.ciphers.second x.psk (identifier_of packet) peer))) now

-- the first packet is refused by its first fault, and answered else
abbrev pub reply : Identity → Memory → SessionWay → List ℕ → ℕ → Hearing
reply x m session_way packet now =
    checked dropped m (first_way_fault m session_way)
    (option_map_or (λ value. checked dropped m (option_map packet_fault (first_fault packet))
    (reply_with x m session_way packet now value))
    (oldest m) (drop_it m NoRandom))

-- a third packet without a fault: the ring is installed from its grant, the session ends, and the peer answers under that ring
abbrev pub takes : Memory → SessionWay → Peer → ℕ → Granted → JoinMessage → ℕ → Hearing
takes m session_way peer identifier granted join now =
    checked dropped m (say_lack session_way m join)
    (ends m
    (says session_way peer.eui join now
    (with_pair_tags (success_tag peer.eui identifier peer.rand_s peer.rand_p ∷ [])
    (mac_s_tag peer.eui peer.id_s peer.rand_p
    ∷ granting_tag peer.eui identifier peer.rand_s peer.rand_p (granting_text granted) ∷ [])
    (on_station (with_ring (Some granted)) (with_memory_by (with_session None) (empty_draft m)))))
    (heard.Took (agreed_by peer)))

-- the third packet has to carry a grant
abbrev pub take_with : Identity → Memory → SessionWay → List ℕ → ℕ → Peer → Option Granted → Hearing
take_with x m session_way packet now peer None = drop_it m NoSuccess
take_with x m session_way packet now peer (Some granted) =
    takes m session_way peer (identifier_of packet) granted
    (message x.eui (body.Join (x.ciphers.fourth x.psk (identifier_of packet) peer))) now

-- the third packet is refused by its first fault
abbrev pub take_by : Identity → Memory → SessionWay → List ℕ → ℕ → Option Peer → Hearing
take_by x m session_way packet now None = drop_it m Form
take_by x m session_way packet now (Some peer) =
    checked dropped m (option_map packet_fault (x.ciphers.third_fault x.psk peer packet))
    (take_with x m session_way packet now peer (x.ciphers.granted x.psk peer packet))

-- the third packet needs a session
abbrev pub take : Identity → Memory → SessionWay → List ℕ → ℕ → Hearing
take x m session_way packet now =
    checked dropped m (third_way_fault m session_way)
    (option_map_or (λ (s : MeterSession). take_by x m session_way packet now s.peer) m.session (drop_it m NoSession))

-- a first packet begins a session, any other one is taken for the third
abbrev pub challenged : Identity → Memory → SessionWay → List ℕ → ℕ → Hearing
challenged x m session_way packet now = choose (is_first packet) (reply x m session_way packet now) (take x m session_way packet now)

-- # What else the coordinator says

-- a decline over the air ends a session by that agent
abbrev pub declined : Memory → ℕ → Hearing
declined m agent =
    choose (is_joined m) (drop_it m BadUnit)
    (choose (has_session m (ByAgent agent)) (ends m (with_memory_by (with_session None) (empty_draft m)) heard.Declined)
    (drop_it m NoSession))

-- the ring is dropped; the routes, what is gathered, what waits and the session end
abbrev pub leaves : Memory → Draft Memory
leaves m = with_memory_by (with_session None) (on_station calls.without_ring (empty_draft m))

-- the meter leaves
abbrev pub kicked : Memory → Hearing
kicked m = ends m (leaves m) heard.Left

-- another key seals from now on
abbrev pub activated : Memory → ℕ → Hearing
activated m index =
    choose (calls.has_key m.station index)
    (ends m (on_station (calls.with_active m.station index) (empty_draft m)) heard.Activated)
    (drop_it m NotHeld)

-- # A joining message

-- on a plain frame down, from a neighbour
abbrev pub hear_near : Identity → Memory → ℕ → JoinBody → ℕ → Hearing
hear_near x m agent (body.Challenge eap) now = challenged x m (ByAgent agent) eap now
hear_near x m agent (body.Accept identifier) now = answers m heard.Noted
hear_near x m agent body.Decline now = declined m agent
hear_near x m agent _ now = drop_it m BadUnit

-- in a command from the coordinator, for this meter
abbrev pub hear_order : Identity → Memory → JoinBody → ℕ → Hearing
hear_order x m (body.Challenge eap) now = challenged x m ByCommand eap now
hear_order x m (body.Accept identifier) now = answers m heard.Noted
hear_order x m body.Kick now = kicked m
hear_order x m (body.Activate index) now = activated m index
hear_order x m _ now = drop_it m BadUnit

-- a joining message, by the way that it came
abbrev pub hear_join : Identity → Memory → Way → JoinMessage → ℕ → Hearing
hear_join x m (Air from) join now = carry_up m from join join.body now
hear_join x m (Near agent) join now =
    choose (same_eui join.eui x.eui) (hear_near x m agent join.body now) (drop_it m BadUnit)
hear_join x m (Mesh origin) join now =
    choose (origin == 0)
    (choose (same_eui join.eui x.eui) (hear_order x m join.body now) (carry_down m join join.body))
    (drop_it m BadUnit)

-- octets that spell no joining message are dropped
abbrev pub hear_join_in : Identity → Memory → Way → Option JoinMessage → ℕ → Hearing
hear_join_in x m way None now = drop_it m BadUnit
hear_join_in x m way (Some join) now = hear_join x m way join now

-- # A frame that was accepted

-- what the line made of a frame, as a meter says it
abbrev pub heard_by_station : Result Heard Dropped → Result MeterHeard Dropped
heard_by_station (Ok h) = Ok (heard.Station h)
heard_by_station (Err reason) = Err reason

-- a joining command is for the meter, all else is what the line made of it
abbrev pub heard_by : Identity → Memory → ℕ → Plan StationMemory (Result Heard Dropped) → Option Unread → Hearing
heard_by x m now p None = within (λ l. with_station l m) heard_by_station p
heard_by x m now p (Some u) = hear_join_in x m u.way (join_in u.body) now

-- what a meter makes of an accepted frame, which came over a link of this cost under this note
abbrev pub hear_meter : Identity → Memory → Accepted → (cost note now : ℕ) → Hearing
hear_meter x m got cost note now =
    let p = hear m.station got cost note now in heard_by x m now p (unread p.answer)

-- # What a meter does by itself

-- asking takes no counter and is not stored, so neither end is met
abbrev pub joining_ends : Ends JoinRefusal
joining_ends = record { spent = Halted; store = Halted }

-- a session by the agent begins, and JOIN without a packet goes to it
abbrev pub join : Identity → Memory → ℕ → ℕ → Plan Memory (Result (Unit {0}) JoinRefusal)
join x m agent now =
    choose (is_joined m) (refused joining_ends m AlreadyJoined)
    (sealing in_memory joining_ends
    (goes_up agent x.eui (message x.eui (body.Join []))
    (with_memory_by (with_session (Some (record { session_way = ByAgent agent; peer = None; since = now })))
    (empty_draft m))) tt)

-- leaving takes no counter, so one word serves for both
abbrev pub leaving_ends : Ends LeaveRefusal
leaving_ends = record { spent = leaving.Store; store = leaving.Store }

-- a meter that is joined leaves
abbrev pub leave : Memory → Plan Memory (Result (Unit {0}) LeaveRefusal)
leave m = choose (is_joined m) (sealing in_memory leaving_ends (leaves m) tt) (refused leaving_ends m leaving.NotJoined)

-- the grant of the workshop is installed
abbrev pub provision : Memory → Granted → Plan Memory (Result (Unit {0}) RingRefusal)
provision m granted = within (λ l. with_station l m) (λ r. r) (calls.install m.station granted)

-- a session ends whose time has passed
abbrev pub session_within : ℕ → MeterSession → Option MeterSession
session_within now s = if calls.is_within SESSION_TIME now s.since then Some s else None

-- the clock goes on: what is too old ends
abbrev pub tick : ℕ → Memory → Memory
tick now m =
    record m { station = calls.tick now m.station; session = option_map_or (session_within now) m.session None }
