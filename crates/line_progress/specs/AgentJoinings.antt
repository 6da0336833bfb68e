-- That a meter joins through an agent, a meter that is joined and has the coordinator for a neighbour: what holds of the three, and the events that bring
-- their messages.
use Rattle.std.specs.Prelude.{◌≡◌, ◌≢◌, ℕ, ◌+◌, ◌≤◌, false, List, [], ◌∷◌, length, Some, None}
use Rattle.plc_base.specs.declared.address.Eui.{Eui}
use Rattle.plc_base.specs.declared.key.Key.{Key}
use Rattle.plc_base.specs.Grant.{Granted}
use Rattle.plc_base.specs.Keeper.{Records}
use Rattle.node_rules.specs.Acceptance.{same_eui}
use Rattle.node_rules.specs.Ciphers.{Ciphers, OpensWhatItSeals}
use Rattle.node_rules.specs.Memory.{Memory, Meter, Node}
use Rattle.line_events.specs.declared.event.Answer.{Answer}
use Rattle.line_events.specs.declared.event.Answer.TheVariants as answers
use Rattle.line_events.specs.declared.event.Event.{Event}
use Rattle.line_events.specs.declared.event.Event.TheVariants.{Join, Deliver}
use Rattle.line_events.specs.declared.event.TheConstants.{MAX_EVENTS}
use Rattle.line_rules.specs.Runs.{run}
use Rattle.line_rules.specs.Worlds.{World, node_at}
use Rattle.line_progress.specs.Arrival.{HasLink, IsReady, Stop}
use Rattle.line_progress.specs.Packets.{PacketsPass}
use Rattle.line_progress.specs.Joinings.{Admitter, IsJoined, IsOutside, LetsIn, Newcomer, coordinator_of, server_of}

-- An agent: its number, its identity and its pair key, what it has stored and holds in memory, its ring, the key that it seals with, and the one that the
-- coordinator seals with. Frames of the meter come to it over a link of the first cost, those of the coordinator over one of the second.
pub record Agent : Type 0 where
  pub number : ℕ
  pub below : ℕ
  pub above : ℕ
  pub eui : Eui
  pub psk : Key
  pub records : Records
  pub memory : Memory
  pub ring : Granted
  pub key : Key
  pub home_key : Key

-- its node, which runs, and to which no loss of power is to come
abbrev pub agent_of : Agent → Node
agent_of a =
    record { role = Meter a.psk; eui = a.eui; store = record { records = a.records; cut = None }; memory = Some a.memory }

-- the two ends of the link between the agent and the coordinator
abbrev pub agent_end : Agent → Stop
agent_end a = record { number = a.number; cost = a.above; node = agent_of a; memory = a.memory; granted = a.ring; key = a.key }

abbrev pub home_end : Admitter → Agent → Stop
home_end c a = record { number = 0; cost = c.cost; node = coordinator_of c; memory = c.memory; granted = c.ring; key = a.home_key }

-- An agent carries messages between a meter and the coordinator: both are ready, the link between them holds for three frames each way, and both nodes
-- have other identities, and will have other addresses, than the meter.
pub record Carries (w : World) (x : Newcomer) (c : Admitter) (a : Agent) : Type 0 where
  pub there : node_at w a.number ≡ Some (agent_of a)
  pub ready : IsReady (agent_end a)
  pub home : IsReady (home_end c a)
  pub up : HasLink 3 0 (agent_end a) (home_end c a)
  pub down : HasLink 3 a.ring.address (home_end c a) (agent_end a)
  pub apart : same_eui a.eui x.eui ≡ false
  pub other : c.grant.address ≢ a.ring.address

-- the meter asks the agent, and each message comes to the agent and from there to its end: JOIN, the four packets, ACCEPT. Their flights are numbered
-- from the first on.
abbrev pub by_agent : (first : ℕ) → Newcomer → Admitter → Agent → List Event
by_agent first x c a =
    Join x.number a.number
    ∷ Deliver first a.number a.below ∷ Deliver (first + 1) 0 c.cost ∷ Deliver (first + 2) a.number a.above ∷ Deliver (first + 3) x.number x.cost
    ∷ Deliver (first + 4) a.number a.below ∷ Deliver (first + 5) 0 c.cost ∷ Deliver (first + 6) a.number a.above ∷ Deliver (first + 7) x.number x.cost
    ∷ Deliver (first + 8) a.number a.below ∷ Deliver (first + 9) 0 c.cost ∷ Deliver (first + 10) a.number a.above
    ∷ Deliver (first + 11) x.number x.cost ∷ []

-- what is answered
abbrev pub agent_answers : List Answer
agent_answers =
    answers.Asked ∷ answers.Carried ∷ answers.Challenged ∷ answers.Carried ∷ answers.Replied ∷ answers.Carried ∷ answers.Keyed ∷ answers.Carried
    ∷ answers.Took ∷ answers.Carried ∷ answers.Done ∷ answers.Carried ∷ answers.Noted ∷ []

-- A meter may join by an agent: the coordinator lets it in, the agent carries their messages, their packets pass, the ciphers open what they seal, and the
-- run may have the events.
pub record MayJoinBy (ciphers : Ciphers) (w : World) (x : Newcomer) (c : Admitter) (a : Agent) : Type 0 where
  pub opens : OpensWhatItSeals ciphers
  pub outside : IsOutside w x
  pub lets : LetsIn w x c
  pub carries : Carries w x c a
  pub pass : PacketsPass ciphers x.psk (server_of x c) x.value c.grant
  pub room : w.events + 13 ≤ MAX_EVENTS

-- A meter that the coordinator allows, and that asks a joined neighbour of the coordinator, has joined when six messages have come, each once to the
-- agent and once from there.
abbrev pub JoiningsArriveByAgent : Type 0
JoiningsArriveByAgent =
    (ciphers : Ciphers) (w : World) (x : Newcomer) (c : Admitter) (a : Agent) → MayJoinBy ciphers w x c a
    → IsJoined agent_answers x c w (run ciphers w (by_agent (length w.flights + 1) x c a))
