-- What a frame without a seal costs a node: the frames with which a joining begins meet what the law asks of them, and a frame that misses one thing alone
-- costs
-- more.
use Rattle.std.specs.Prelude.{◌≡◌, ℕ, true, false, List, [], ◌∷◌, ◌++◌, length, map, is_some, Result, Ok, Err, unwrap_or}
use Rattle.group_keys.specs.declared.key_book.BookEntry.{BookEntry}
use Rattle.line_events.specs.declared.event.Event.{Event}
use Rattle.line_events.specs.declared.event.Event.TheVariants.{Deliver, Kick, Near, Send}
use Rattle.node_rules.specs.Acceptance.{Accepting, accept}
use Rattle.node_rules.specs.Accepted.{Accepted}
use Rattle.node_rules.specs.Coordinators as coordinators
use Rattle.node_rules.specs.Frames.{arrived}
use Rattle.node_rules.specs.Memory.{Memory, Node, Coordinator}
use Rattle.node_rules.specs.Meters as meters
use Rattle.node_rules.specs.RestartStates.{blank_station, remembering}
use Rattle.node_rules.specs.declared.heard.CoordinatorHeard.TheVariants as coordinator_heard
use Rattle.node_rules.specs.declared.heard.MeterHeard.TheVariants as meter_heard
use Rattle.node_rules.specs.declared.heard.Path.TheVariants as paths
use Rattle.node_rules.specs.declared.refusal.FrameRefusal.{FrameRefusal}
use Rattle.line_rules.specs.Steps.{blank_node, identity, psk_of}
use Rattle.line_rules.specs.Worlds.{node_at}
use Rattle.line_progress.specs.PlainCosts.{HasNoSeal}
use Rattle.worked_scripts.specs.JoiningScripts.{asking}
use Rattle.worked_scripts.specs.Scripts.{plain, eui, pair_key, octets_of, two_meters, world_of}

-- # What a node makes of a flight

-- the node of a number after a script, and what it holds
abbrev pub node_after : List Event → ℕ → Node
node_after events number = unwrap_or (node_at (world_of events) number) (blank_node Coordinator (eui 0))

abbrev pub held_after : List Event → ℕ → Memory
held_after events number = unwrap_or (node_after events number).memory (remembering blank_station [])

-- its accepting of the octets of a flight
abbrev pub accepting_of : List Event → (number flight : ℕ) → Accepting
accepting_of events number flight =
    accept (held_after events number).station (node_after events number).eui (arrived plain (unwrap_or (octets_of events flight) []))

-- the frame that it accepted
abbrev pub frame_of : List Event → (number flight : ℕ) → Accepted
frame_of events number flight = by_answer (accepting_of events number flight).answer
  where
    by_answer : Result Accepted FrameRefusal → Accepted
    by_answer (Ok got) = got
    by_answer (Err reason) = record { path = paths.Sealed 0 false pair_key; payload = [] }

-- what a meter makes of that frame
abbrev pub meter_plan : List Event → (number flight : ℕ) → meters.Hearing
meter_plan events number flight =
    meters.hear_meter (identity plain (node_after events number) (unwrap_or (psk_of (node_after events number)) pair_key)) (held_after events number)
    (frame_of events number flight) 1 0 0

-- and what the coordinator makes of it
abbrev pub coordinator_plan : List Event → (flight : ℕ) → coordinators.Hearing
coordinator_plan events flight =
    coordinators.hear_coordinator (record { eui = (node_after events 0).eui; ciphers = plain }) (held_after events 0) (frame_of events 0 flight) 1 0 0

-- # The law's premises are met

-- the meter has asked, the coordinator has challenged it, it has replied, and the coordinator has sent the keys
abbrev pub challenged : List Event
challenged = asking ++ (Deliver 1 0 1 ∷ [])

abbrev pub replied : List Event
replied = challenged ++ (Deliver 2 1 1 ∷ [])

abbrev pub keyed : List Event
keyed = replied ++ (Deliver 3 0 1 ∷ [])

-- The first message comes up to the coordinator, which opens a session, and the second one down to the meter, which replies: each is accepted without a seal,
-- and
-- no pair tag was found right in it.
unfoldable pub TheFirstFramesHaveNoSeal : Type 0
TheFirstFramesHaveNoSeal =
    ((accepting_of asking 0 1).answer ≡ Ok (frame_of asking 0 1))
    × HasNoSeal (frame_of asking 0 1).path
    × ((coordinator_plan asking 1).opened ≡ [])
    × ((coordinator_plan asking 1).answer ≡ Ok coordinator_heard.Challenged)
    × ((accepting_of challenged 1 2).answer ≡ Ok (frame_of challenged 1 2))
    × HasNoSeal (frame_of challenged 1 2).path
    × ((meter_plan challenged 1 2).opened ≡ [])
    × ((meter_plan challenged 1 2).answer ≡ Ok meter_heard.Replied)

-- # One of them is missed

-- A frame without a seal in which a pair tag is right costs more: by the second packet the coordinator notes a key in its book, and by the third one the meter
-- gets its ring.
unfoldable pub ARightTagCostsMore : Type 0
ARightTagCostsMore =
    HasNoSeal (frame_of replied 0 3).path
    × (length (coordinator_plan replied 3).opened ≡ 1)
    × (map (λ (e : BookEntry). is_some e.issued0) (held_after replied 0).book ≡ false ∷ [])
    × (map (λ (e : BookEntry). is_some e.issued0) (coordinator_plan replied 3).memory.book ≡ true ∷ [])
    × HasNoSeal (frame_of keyed 1 4).path
    × (length (meter_plan keyed 1 4).opened ≡ 2)
    × (is_some (held_after keyed 1).station.ring ≡ false)
    × (is_some (meter_plan keyed 1 4).memory.station.ring ≡ true)

-- a datagram waits at a meter, which asks all for a route; and the coordinator kicks a meter
abbrev pub seeking : List Event
seeking = two_meters ++ (Send 1 2 (0xaa ∷ []) ∷ [])

abbrev pub kicking : List Event
kicking = two_meters ++ (Near 0 1 1 ∷ Kick 1 ∷ [])

-- A frame with a seal costs more, also where no pair tag is right in it: a mark is kept as it is accepted, by a request the coordinator keeps a rank, and by a
-- kick the meter loses its ring.
unfoldable pub ASealCostsMore : Type 0
ASealCostsMore =
    (length (held_after seeking 0).station.marks ≡ 0)
    × (length (accepting_of seeking 0 1).memory.marks ≡ 1)
    × ((coordinator_plan seeking 1).opened ≡ [])
    × (length (held_after seeking 0).station.routing.entries ≡ 0)
    × (length (coordinator_plan seeking 1).memory.station.routing.entries ≡ 1)
    × ((meter_plan kicking 1 1).opened ≡ [])
    × (is_some (held_after kicking 1).station.ring ≡ true)
    × (is_some (meter_plan kicking 1 1).memory.station.ring ≡ false)
