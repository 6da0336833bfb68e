-- That a meter joins which the coordinator allows, where nothing is lost: what holds of both, and the events that bring their messages.
use Rattle.std.specs.Prelude.{◌≡◌, ℕ, ◌+◌, ◌≤◌, false, List, [], ◌∷◌, length, Option, Some, None}
use Rattle.std.specs.Option.{option_and_then}
use Rattle.plc_base.specs.declared.address.Eui.{Eui}
use Rattle.plc_base.specs.declared.key.Key.{Key}
use Rattle.plc_base.specs.declared.key.RandomOctets.{RandomOctets}
use Rattle.plc_base.specs.Grant.{Granted}
use Rattle.plc_base.specs.Keeper.{Records}
use Rattle.mac_frames.specs.Grammar.{IsEui}
use Rattle.group_keys.specs.declared.key_book.BookEntry.{BookEntry}
use Rattle.eap_psk.specs.declared.server.Agreed.{Agreed}
use Rattle.eap_psk.specs.declared.server.Server.{Server}
use Rattle.node_rules.specs.Acceptance.{same_eui}
use Rattle.node_rules.specs.Ciphers.{Ciphers}
use Rattle.node_rules.specs.Coordinators.{allowed_entry, grant_for, session_of, sessions_full}
use Rattle.node_rules.specs.JoiningPackets.{server_for}
use Rattle.node_rules.specs.Memory.{Coordinator, Memory, Node, Meter}
use Rattle.node_rules.specs.MemoryDrafts.{oldest}
use Rattle.line_events.specs.declared.event.Answer.{Answer}
use Rattle.line_events.specs.declared.event.Answer.TheVariants as answers
use Rattle.line_events.specs.declared.event.Event.{Event}
use Rattle.line_events.specs.declared.event.Event.TheVariants.{Join, Deliver}
use Rattle.line_events.specs.declared.event.TheConstants.{MAX_EVENTS}
use Rattle.line_rules.specs.Runs.{Entry, all_of, last_world, one_of, run, takings}
use Rattle.line_rules.specs.Steps.{number_of}
use Rattle.line_rules.specs.Worlds.{Pairing, World, node_at}
use Rattle.line_progress.specs.Arrival.{answers_of}
use Rattle.line_progress.specs.Packets.{PacketsPass}

-- # The two ends

-- A meter that is to join: its number, its identity and its pair key, what it has stored and holds in memory, and the random value that it takes
-- next. Frames come to it over a link of this cost.
pub record Newcomer : Type 0 where
  pub number : ℕ
  pub cost : ℕ
  pub eui : Eui
  pub psk : Key
  pub records : Records
  pub memory : Memory
  pub value : RandomOctets

-- its node, which runs, and to which no loss of power is to come
abbrev pub meter_of : Newcomer → Node
meter_of x =
    record { role = Meter x.psk; eui = x.eui; store = record { records = x.records; cut = None }; memory = Some x.memory }

-- The coordinator: its identity, what it has stored and holds in memory, its ring, and the random value that it takes next; its entry of a meter,
-- and what it grants that meter. Frames come to it over a link of this cost.
pub record Admitter : Type 0 where
  pub cost : ℕ
  pub eui : Eui
  pub records : Records
  pub memory : Memory
  pub ring : Granted
  pub value : RandomOctets
  pub entry : BookEntry
  pub grant : Granted

-- its node, which runs, and to which no loss of power is to come
abbrev pub coordinator_of : Admitter → Node
coordinator_of c =
    record { role = Coordinator; eui = c.eui; store = record { records = c.records; cut = None }; memory = Some c.memory }

-- its end of the joining
abbrev pub server_of : Newcomer → Admitter → Server
server_of x c = server_for x.eui c.eui c.value

-- the random values that both ends then hold
abbrev pub agreed_of : Newcomer → Admitter → Agreed
agreed_of x c = record { rand_s = c.value; rand_p = x.value }

-- A meter may join: it is there and not joined, the first node of its EUI, which is eight octets, and it has a random value.
pub record IsOutside (w : World) (x : Newcomer) : Type 0 where
  pub there : node_at w x.number ≡ Some (meter_of x)
  pub named : number_of w x.eui ≡ x.number
  pub eui : IsEui x.eui
  pub alone : x.memory.station.ring ≡ None
  pub value : oldest x.memory ≡ Some x.value

-- The coordinator lets it in: it is node 0, with the address 0 and another EUI; it allows the meter with the same pair key, has room for its session,
-- and has a random value.
pub record LetsIn (w : World) (x : Newcomer) (c : Admitter) : Type 0 where
  pub there : node_at w 0 ≡ Some (coordinator_of c)
  pub apart : same_eui c.eui x.eui ≡ false
  pub eui : length c.eui.0 ≡ 8
  pub ring : c.memory.station.ring ≡ Some c.ring
  pub address : c.ring.address ≡ 0
  pub allows : allowed_entry c.memory x.eui ≡ Some c.entry
  pub psk : c.entry.psk ≡ x.psk
  pub grants : grant_for c.memory x.eui ≡ Some c.grant
  pub room : sessions_full c.memory x.eui ≡ false
  pub value : oldest c.memory ≡ Some c.value
  pub octets : length c.value.0 ≡ 16

-- # What comes of it

-- the joinings that the coordinator has done, in order
abbrev pub doings : List Entry → List Pairing
doings entries = all_of (λ d. one_of d.done) entries

-- the memory of a node
abbrev pub memory_at : World → ℕ → Option Memory
memory_at w number = option_and_then (λ (x : Node). x.memory) (node_at w number)

-- The events of a joining are answered so. In them the meter took its grant once, and the coordinator has done the joining once, with the same random
-- values of these two; and after them the meter has the ring of its grant, and neither end has a session of it.
pub record IsJoined (expected : List Answer) (x : Newcomer) (c : Admitter) (w : World) (entries : List Entry) : Type 0 where
  pub answers : answers_of entries ≡ expected
  pub taken : takings entries ≡ record { node = x.number; agreed = agreed_of x c } ∷ []
  pub done : doings entries ≡ record { node = x.number; agreed = agreed_of x c } ∷ []
  pub memory : Memory
  pub holds : memory_at (last_world w entries) x.number ≡ Some memory
  pub ring : memory.station.ring ≡ Some c.grant
  pub over : memory.session ≡ None
  pub book : Memory
  pub keeps : memory_at (last_world w entries) 0 ≡ Some book
  pub closed : session_of book x.eui ≡ None

-- # Over the air

-- the meter asks the coordinator, and each message comes: JOIN, the first packet, the second, the third, the fourth, ACCEPT. Their flights are
-- numbered from the first on.
abbrev pub over_the_air : (first : ℕ) → Newcomer → Admitter → List Event
over_the_air first x c =
    Join x.number 0
    ∷ Deliver first 0 c.cost ∷ Deliver (first + 1) x.number x.cost ∷ Deliver (first + 2) 0 c.cost ∷ Deliver (first + 3) x.number x.cost
    ∷ Deliver (first + 4) 0 c.cost ∷ Deliver (first + 5) x.number x.cost ∷ []

-- what is answered
abbrev pub air_answers : List Answer
air_answers =
    answers.Asked ∷ answers.Challenged ∷ answers.Replied ∷ answers.Keyed ∷ answers.Took ∷ answers.Done ∷ answers.Noted ∷ []

-- A meter may join over the air: the coordinator lets it in, their packets pass, and the run may have the events.
pub record MayJoin (ciphers : Ciphers) (w : World) (x : Newcomer) (c : Admitter) : Type 0 where
  pub outside : IsOutside w x
  pub lets : LetsIn w x c
  pub pass : PacketsPass ciphers x.psk (server_of x c) x.value c.grant
  pub room : w.events + 7 ≤ MAX_EVENTS

-- A meter that the coordinator allows, and that asks it over the air, has joined when six messages have come, each once.
abbrev pub JoiningsArrive : Type 0
JoiningsArrive =
    (ciphers : Ciphers) (w : World) (x : Newcomer) (c : Admitter) → MayJoin ciphers w x c
    → IsJoined air_answers x c w (run ciphers w (over_the_air (length w.flights + 1) x c))
