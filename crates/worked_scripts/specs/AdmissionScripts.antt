-- A meter joins over the air where it may; and where one thing alone is lacking, it does not.
use Rattle.std.specs.Prelude.{◌≡◌, ℕ, ◌-◌, List, [], ◌∷◌, ◌++◌, drop, map, replicate, take, Some, None, unwrap_or}
use Rattle.std.specs.Option.{option_map}
use Rattle.byteorder.specs.Endian.{big_bytes}
use Rattle.plc_base.specs.declared.address.Eui.{Eui}
use Rattle.plc_base.specs.declared.key.RandomOctets.{RandomOctets as Value}
use Rattle.plc_base.specs.Grant.{Granted}
use Rattle.frame_counters.specs.PeerMarks as marks
use Rattle.frame_counters.specs.SendCounter as counter
use Rattle.group_keys.specs.KeyBook as book
use Rattle.eap_psk.specs.declared.fault.EapFault.TheVariants.{BadMac}
use Rattle.node_rules.specs.Coordinators.{allowed_entry, grant_for}
use Rattle.node_rules.specs.Drafts.{sealing_key}
use Rattle.node_rules.specs.declared.heard.Way.TheVariants.{Air}
use Rattle.node_rules.specs.JoiningPackets.{server_for}
use Rattle.node_rules.specs.Memory.{CoordinatorSession, Memory, Node, Coordinator, Meter}
use Rattle.node_rules.specs.MemoryDrafts.{oldest}
use Rattle.node_rules.specs.RestartStates.{blank_station, first_grant, remembering}
use Rattle.line_events.specs.declared.event.Answer.{Answer}
use Rattle.line_events.specs.declared.event.Answer.TheVariants as answers
use Rattle.line_events.specs.declared.event.Event.{Event}
use Rattle.line_events.specs.declared.event.Event.TheVariants as events
use Rattle.line_events.specs.declared.event.TheConstants.{MAX_EVENTS}
use Rattle.line_rules.specs.Runs.{run, takings}
use Rattle.line_rules.specs.Steps.{blank_node, psk_of}
use Rattle.line_rules.specs.Worlds.{Pairing, World, node_at}
use Rattle.line_progress.specs.Arrival.{answers_of}
use Rattle.line_progress.specs.AgentJoinings.{Agent, MayJoinBy, agent_answers, by_agent}
use Rattle.line_progress.specs.Joinings.{Admitter, IsJoined, MayJoin, Newcomer, air_answers, doings, over_the_air}
use Rattle.worked_scripts.specs.ArrivalScripts.{with_node, with_second_key, with_station_at, with_grant_at, with_cut_at}
use Rattle.worked_scripts.specs.Scripts.{plain, eui, group_key, pair_key, second_key, rand_k, rand_r, world_of}

-- # A meter that may join

-- the coordinator allows meter 1, and both have a random value
abbrev pub allowed : World
allowed =
    world_of (events.Coordinator (eui 1) group_key ∷ events.Meter (eui 2) pair_key ∷ events.Allow 1 ∷ events.RandomOctets 0 rand_k
    ∷ events.RandomOctets 1 rand_r ∷ [])

-- what a node is as a meter that is to join, over a link of cost 1
abbrev pub newcomer_of : World → ℕ → Newcomer
newcomer_of w number = by_node (unwrap_or (node_at w number) (blank_node Coordinator (eui 0)))
  where
    by_memory : Node → Memory → Newcomer
    by_memory x m =
        record {
          number = number;
          cost = 1;
          eui = x.eui;
          psk = unwrap_or (psk_of x) pair_key;
          records = x.store.records;
          memory = m;
          value = unwrap_or (oldest m) rand_k;
        }

    by_node : Node → Newcomer
    by_node x = by_memory x (unwrap_or x.memory (remembering blank_station []))

-- what node 0 is as the coordinator that lets a meter in, over a link of cost 1
abbrev pub admitter_of : World → Eui → Admitter
admitter_of w of = by_node (unwrap_or (node_at w 0) (blank_node Coordinator (eui 0)))
  where
    by_memory : Node → Memory → Admitter
    by_memory x m =
        record {
          cost = 1;
          eui = x.eui;
          records = x.store.records;
          memory = m;
          ring = unwrap_or m.station.ring (first_grant group_key);
          value = unwrap_or (oldest m) rand_k;
          entry = unwrap_or (allowed_entry m of) (book.allowed_entry of pair_key None);
          grant = unwrap_or (grant_for m of) (first_grant group_key);
        }

    by_node : Node → Admitter
    by_node x = by_memory x (unwrap_or x.memory (remembering blank_station []))

-- Meter 1 may join.
unfoldable pub TheMeterMayJoin : Type 0
TheMeterMayJoin = MayJoin plain allowed (newcomer_of allowed 1) (admitter_of allowed (eui 2))

-- its events: it asks, and six flights come
abbrev pub messages : ℕ → List Event
messages number = over_the_air 1 (newcomer_of allowed number) (admitter_of allowed (eui 2))

-- It joins.
unfoldable pub TheMeterJoins : Type 0
TheMeterJoins = IsJoined air_answers (newcomer_of allowed 1) (admitter_of allowed (eui 2)) allowed (run plain allowed (messages 1))

-- # What it lacks

-- the answers of another line, or with other ciphers
abbrev pub joins_with : (World → World) → List Answer
joins_with change = answers_of (run plain (change allowed) (messages 1))

-- whose node holds other things
abbrev pub with_memory_at : ℕ → (Memory → Memory) → World → World
with_memory_at number change w = with_node number (λ x. record x { memory = option_map change x.memory }) w

-- whose node was given these random values
abbrev pub with_randoms_at : ℕ → List Value → World → World
with_randoms_at number values w = with_memory_at number (λ m. record m { randoms = values }) w

-- a second node has the EUI of meter 1
abbrev pub with_twin : World → World
with_twin w = record w { nodes = w.nodes ++ (unwrap_or (node_at w 1) (blank_node Coordinator (eui 0)) ∷ []) }

-- A meter does not join where its node is not there, is halted or loses power, where it is joined, or has no random value; nor where its EUI has seven
-- octets. Where another node before it has its EUI, the joining that is done is the other one's.
unfoldable pub TheMeterIsOutside : Type 0
TheMeterIsOutside =
    (joins_with (λ w. record w { nodes = take 1 w.nodes }) ≡ [])
    × (joins_with (with_node 1 (λ x. record x { memory = None })) ≡ answers.Halted ∷ [])
    × (joins_with (with_cut_at 1) ≡ answers.Asked ∷ answers.Challenged ∷ answers.Replied ∷ answers.Keyed ∷ answers.Store ∷ [])
    × (joins_with (with_station_at 1 (λ l. record l { ring = Some (first_grant group_key) })) ≡ answers.AlreadyJoined ∷ [])
    × (joins_with (with_randoms_at 1 []) ≡ answers.Asked ∷ answers.Challenged ∷ answers.NoRandom ∷ [])
    × (joins_with (with_node 1 (λ x. record x { eui = record { 0 = big_bytes 7 2 } })) ≡ answers.Asked ∷ answers.BadUnit ∷ [])
    × (map (λ (p : Pairing). p.node)
    (takings (run plain (with_twin allowed) (over_the_air 1 (newcomer_of (with_twin allowed) 2) (admitter_of allowed (eui 2)))))
    ≡ 2 ∷ [])
    × (map (λ (p : Pairing). p.node) (doings (run plain (with_twin allowed) (over_the_air 1 (newcomer_of (with_twin allowed) 2) (admitter_of allowed (eui 2)))))
    ≡ 1 ∷ [])

-- a session of another meter
abbrev pub other_session : CoordinatorSession
other_session = record { server = server_for (eui 9) (eui 1) rand_k; way = Air (eui 9); since = 0 }

-- Nor where the coordinator is halted, loses power or is not joined, or has the meter's EUI, one of seven octets, or another address; where it does not
-- allow the meter, has another pair key for it, eight sessions, no random value, or one of 15 octets.
unfoldable pub TheCoordinatorLetsItIn : Type 0
TheCoordinatorLetsItIn =
    (joins_with (with_node 0 (λ x. record x { memory = None })) ≡ answers.NoAddress ∷ [])
    × (joins_with (with_cut_at 0) ≡ answers.Asked ∷ answers.Challenged ∷ answers.Replied ∷ answers.Store ∷ [])
    × (joins_with (with_station_at 0 (λ l. record l { ring = None })) ≡ answers.NoAddress ∷ [])
    × (joins_with (with_node 0 (λ x. record x { eui = eui 2 })) ≡ answers.Asked ∷ answers.NotForMe ∷ [])
    × (joins_with (with_node 0 (λ x. record x { eui = record { 0 = big_bytes 7 1 } })) ≡ answers.Asked ∷ answers.Challenged ∷ answers.Form ∷ [])
    × (joins_with (with_grant_at 0 (λ g. record g { address = 5 })) ≡ answers.Asked ∷ answers.Challenged ∷ answers.NoSession ∷ [])
    × (joins_with (with_memory_at 0 (λ m. record m { book = [] })) ≡ answers.Asked ∷ answers.Declined ∷ answers.Declined ∷ [])
    × (joins_with (with_node 1 (λ x. record x { role = Meter second_key }))
    ≡ answers.Asked ∷ answers.Challenged ∷ answers.Replied ∷ answers.BadMac ∷ [])
    × (joins_with (with_memory_at 0 (λ m. record m { sessions = replicate 8 other_session })) ≡ answers.Asked ∷ answers.SessionsFull ∷ [])
    × (joins_with (with_randoms_at 0 []) ≡ answers.Asked ∷ answers.NoRandom ∷ [])
    × (joins_with (with_randoms_at 0 (record { 0 = big_bytes 15 1 } ∷ [])) ≡ answers.Asked ∷ answers.Challenged ∷ answers.Form ∷ [])

-- Nor where a packet is not taken, or the run may not have the events.
unfoldable pub PacketsHaveToPass : Type 0
PacketsHaveToPass =
    (answers_of (run (record plain { third_fault = λ psk peer packet. Some BadMac }) allowed (messages 1))
    ≡ answers.Asked ∷ answers.Challenged ∷ answers.Replied ∷ answers.Keyed ∷ answers.BadMac ∷ [])
    × (joins_with (λ w. record w { events = MAX_EVENTS - 6 })
    ≡ answers.Asked ∷ answers.Challenged ∷ answers.Replied ∷ answers.Keyed ∷ answers.Took ∷ answers.Done ∷ [])

-- # Through an agent

-- meter 1 is joined, beside the coordinator, which allows meter 2
abbrev pub allowed_beside : World
allowed_beside =
    world_of (events.Coordinator (eui 1) group_key ∷ events.Meter (eui 2) pair_key ∷ events.Meter (eui 3) second_key ∷ events.Depot 1
    ∷ events.Near 0 1 1 ∷ events.Allow 2 ∷ events.RandomOctets 0 rand_k ∷ events.RandomOctets 2 rand_r ∷ [])

-- what a node is as an agent, over links of cost 1
abbrev pub agent_at : World → ℕ → Agent
agent_at w number = by_node (unwrap_or (node_at w number) (blank_node Coordinator (eui 0)))
  where
    by_ring : Node → Memory → Granted → Agent
    by_ring x m g =
        record {
          number = number;
          below = 1;
          above = 1;
          eui = x.eui;
          psk = unwrap_or (psk_of x) pair_key;
          records = x.store.records;
          memory = m;
          ring = g;
          key = unwrap_or (sealing_key g) group_key;
          home_key = group_key;
        }

    by_memory : Node → Memory → Agent
    by_memory x m = by_ring x m (unwrap_or m.station.ring (first_grant group_key))

    by_node : Node → Agent
    by_node x = by_memory x (unwrap_or x.memory (remembering blank_station []))

-- Meter 2 may join by meter 1.
unfoldable pub TheMeterMayJoinByAnAgent : Type 0
TheMeterMayJoinByAnAgent =
    MayJoinBy plain allowed_beside (newcomer_of allowed_beside 2) (admitter_of allowed_beside (eui 3)) (agent_at allowed_beside 1)

-- its events: it asks, and twelve flights come
abbrev pub messages_carried : List Event
messages_carried = by_agent 1 (newcomer_of allowed_beside 2) (admitter_of allowed_beside (eui 3)) (agent_at allowed_beside 1)

-- the answers of another line
abbrev pub carried_with : (World → World) → List Answer
carried_with change = answers_of (run plain (change allowed_beside) messages_carried)

-- whose node has this many counters left, and one that admits only counters above 5000 of a sender
abbrev pub with_counters_at : ℕ → ℕ → World → World
with_counters_at number left w = with_station_at number (λ l. record l { counter = counter.counting_at (4294967295 - left) }) w

abbrev pub with_mark_at : ℕ → ℕ → World → World
with_mark_at number from w = with_station_at number (λ l. record l { marks = marks.kept_after l.marks from 5000 }) w

-- A meter does not join by an agent that is halted, loses power or is not joined, has the meter's EUI, has another key than the coordinator, two counters
-- only, or is admitted no more; nor where the coordinator has two counters only or is admitted no more, the ciphers do not open what they seal, or the
-- run may not have the events.
unfoldable pub TheAgentCarries : Type 0
TheAgentCarries =
    (carried_with (with_node 1 (λ x. record x { memory = None })) ≡ answers.NoAddress ∷ [])
    × (carried_with (with_cut_at 1) ≡ answers.Asked ∷ answers.Store ∷ [])
    × (carried_with (with_station_at 1 (λ l. record l { ring = None })) ≡ answers.NoAddress ∷ [])
    × (carried_with (with_node 1 (λ x. record x { eui = eui 3 })) ≡ answers.Asked ∷ answers.NotForMe ∷ [])
    × (carried_with (with_grant_at 1 (λ g. record g { key0 = Some second_key })) ≡ answers.Asked ∷ answers.Carried ∷ answers.BadTag ∷ [])
    × (carried_with (with_counters_at 1 2)
    ≡ answers.Asked ∷ answers.Carried ∷ answers.Challenged ∷ answers.Carried ∷ answers.Replied ∷ answers.Carried ∷ answers.Keyed ∷ answers.Carried
    ∷ answers.Took ∷ answers.CounterSpent ∷ [])
    × (carried_with (with_mark_at 0 1) ≡ answers.Asked ∷ answers.Carried ∷ answers.Replayed ∷ [])
    × (carried_with (with_counters_at 0 2)
    ≡ answers.Asked ∷ answers.Carried ∷ answers.Challenged ∷ answers.Carried ∷ answers.Replied ∷ answers.Carried ∷ answers.Keyed ∷ answers.Carried
    ∷ answers.Took ∷ answers.Carried ∷ answers.CounterSpent ∷ [])
    × (carried_with (with_mark_at 1 0) ≡ answers.Asked ∷ answers.Carried ∷ answers.Challenged ∷ answers.Replayed ∷ [])
    × (answers_of (run (record plain { opens = λ key head front body. None }) allowed_beside messages_carried)
    ≡ answers.Asked ∷ answers.Carried ∷ answers.BadTag ∷ [])
    × (carried_with (λ w. record w { events = MAX_EVENTS - 12 })
    ≡ answers.Asked ∷ answers.Carried ∷ answers.Challenged ∷ answers.Carried ∷ answers.Replied ∷ answers.Carried ∷ answers.Keyed ∷ answers.Carried
    ∷ answers.Took ∷ answers.Carried ∷ answers.Done ∷ answers.Carried ∷ [])

-- a node without ranks and routes
abbrev pub with_no_route_at : ℕ → World → World
with_no_route_at number w = with_station_at number (λ l. record l { routing = blank_station.routing }) w

-- Nor where the agent or the coordinator has no route to the other, so that a message waits and a route is sought; or where the coordinator would give the
-- meter the agent's address, since the last message is then not for the meter; or where the agent seals under an index above 1.
unfoldable pub TheAgentHasRoutes : Type 0
TheAgentHasRoutes =
    (carried_with (with_no_route_at 1) ≡ answers.Asked ∷ answers.Carried ∷ answers.Answered ∷ answers.Learned ∷ answers.NotForMe ∷ [])
    × (carried_with (with_no_route_at 0) ≡ answers.Asked ∷ answers.Carried ∷ answers.Challenged ∷ answers.Answered ∷ answers.NotForMe ∷ [])
    × (carried_with (with_memory_at 0 (λ m. record m { book = drop 1 m.book })) ≡ take 12 agent_answers ++ answers.NotForMe ∷ [])
    × (carried_with (λ w. with_grant_at 0 with_second_key (with_grant_at 1 (λ g. record (with_second_key g) { active = 2 }) w))
    ≡ answers.Asked ∷ answers.Carried ∷ answers.Malformed ∷ [])
