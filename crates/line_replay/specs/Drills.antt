-- What a drill does: meters that join over up to three hops, send readings and change their key.
use Rattle.std.specs.Prelude.{ℕ, zero, suc, ◌+◌, ◌-◌, ◌*◌, ◌%◌, min, nat_lt, nat_le, ◌==◌, List, ◌∷◌, ◌++◌, replicate, codes, Ok, Err, if◌then◌else◌}
use Rattle.std.specs.Option.{option_map_or}
use Rattle.std.specs.Int.{w16, w32, to_be_bytes}
use Rattle.std.specs.Fmt.{decimal}
use Rattle.plc_base.specs.declared.address.Eui.{Eui}
use Rattle.plc_base.specs.declared.key.Key.{Key}
use Rattle.plc_base.specs.declared.key.RandomOctets.{RandomOctets}
use Rattle.node_rules.specs.Ciphers.{network}
use Rattle.line_events.specs.declared.event.Event.{Event}
use Rattle.line_events.specs.declared.event.Event.TheVariants as events
use Rattle.line_events.specs.declared.event.TheConstants.{MAX_EVENTS}
use Rattle.line_rules.specs.Worlds.{World, Flight, flight_at, start}
use Rattle.line_rules.specs.Steps.{Step}
use Rattle.line_rules.specs.Further.{line_step}
use Rattle.line_script.specs.Texts.{end_text}
use Rattle.line_replay.specs.Texts.{totals}

-- # The words of its events

-- a number in sixteen octets
unfoldable pub wide : (number : ℕ) → List ℕ
wide number = replicate 12 0 ++ to_be_bytes w32 number

-- the first and the second group key
abbrev pub group_key : ℕ → Key
group_key number = record { 0 = wide number }

-- the pair key of a meter
abbrev pub pair_key : ℕ → Key
pair_key node = record { 0 = wide (1000 + node) }

-- the random value that is the nth of a drill
abbrev pub drawn : ℕ → RandomOctets
drawn number = record { 0 = wide number }

-- the EUI of a node
unfoldable pub eui : ℕ → Eui
eui node = record { 0 = 0 ∷ 0 ∷ 0 ∷ 0 ∷ to_be_bytes w32 (node + 1) }

-- the node by which a meter joins: the coordinator for the first 20, and else the meter of 20 numbers less
unfoldable pub parent : ℕ → ℕ
parent node = if nat_le node 20 then 0 else node - 20

-- the cost of the link between two nodes: 1 to 7
unfoldable pub cost : ℕ → ℕ → ℕ
cost a b = 1 + (a + b) % 7

-- the reading of a meter in a round, with zeros after it
unfoldable pub reading : (node round zeros : ℕ) → List ℕ
reading node round zeros = to_be_bytes w16 node ++ (to_be_bytes w16 round ++ replicate zeros 0)

-- # What it does

-- A drill as far as it has come.
pub record Drilling : Type 0 where
  pub world : World
  -- the flights that were brought to all neighbours of their senders
  pub drained : ℕ

-- an event that is not taken changes nothing
abbrev pub world_by : World → Step → World
world_by w (Ok r) = r.0
world_by w (Err fault) = w

-- an event is taken, unless a run has all its events
unfoldable pub after : Event → Drilling → Drilling
after event d =
    record d {
      world = if nat_lt d.world.events MAX_EVENTS then world_by d.world (line_step network d.world event)
          else d.world;
    }

-- what is done for each number from 1 to a last one, in their order
unfoldable pub each : {A : Type 0} → (ℕ → A → A) → ℕ → A → A
each f zero a = a
each f (suc last) a = f (suc last) (each f last a)

-- a flight of a node comes to a node
unfoldable pub bring : (flight from node : ℕ) → Drilling → Drilling
bring flight from node = after (events.Deliver flight node (cost from node))

-- a flight of a meter comes to its parent, and then to the meter that joins by it, if there is one
abbrev pub bring_both : (meters flight from : ℕ) → Drilling → Drilling
bring_both meters flight from d =
    let up = bring flight from (parent from) d in
    if nat_le (from + 20) meters then bring flight from (from + 20) up else up

-- a flight comes to each neighbour of its sender; those of the coordinator are the first 20 meters
unfoldable pub bring_round : (meters flight from : ℕ) → Drilling → Drilling
bring_round meters flight from d =
    if from == 0 then each (λ node. bring flight 0 node) (min meters 20) d else bring_both meters flight from d

-- the next flight comes to the neighbours of its sender
abbrev pub drain_one : (meters : ℕ) → Flight → Drilling → Drilling
drain_one meters f d =
    record (bring_round meters (d.drained + 1) f.from d) { drained = d.drained + 1 }

-- so does each flight that is left, the least number first, as long as turns are left
unfoldable pub drain_within : (turns meters : ℕ) → Drilling → Drilling
drain_within zero meters d = d
drain_within (suc turns) meters d =
    option_map_or (λ f. drain_within turns meters (drain_one meters f d)) (flight_at d.world (d.drained + 1)) d

-- every flight that is left comes to the neighbours of its sender: no run needs more turns than it has events
unfoldable pub drain : (meters : ℕ) → Drilling → Drilling
drain meters = drain_within MAX_EVENTS meters

-- a meter is made
unfoldable pub make_meter : (node : ℕ) → Drilling → Drilling
make_meter node = after (events.Meter (eui node) (pair_key node))

-- the coordinator is made
unfoldable pub make_coordinator : Drilling → Drilling
make_coordinator = after (events.Coordinator (eui 0) (group_key 1))

-- the nodes are made
unfoldable pub make : (meters : ℕ) → Drilling → Drilling
make meters d = each make_meter meters (make_coordinator d)

-- the coordinator and a meter are given the next two random values, for a session
unfoldable pub draw : (first node : ℕ) → Drilling → Drilling
draw first node d = after (events.RandomOctets node (drawn (first + 1))) (after (events.RandomOctets 0 (drawn first)) d)

-- a meter joins by its parent
unfoldable pub join : (meters node : ℕ) → Drilling → Drilling
join meters node d =
    drain meters (after (events.Join node (parent node)) (draw (2 * node - 1) node (after (events.Allow node) d)))

-- a meter sends its reading of a round to the coordinator
unfoldable pub send : (meters round zeros node : ℕ) → Drilling → Drilling
send meters round zeros node d = drain meters (after (events.Send node 0 (reading node round zeros)) d)

-- after an hour each meter sends its reading of a round
unfoldable pub read : (meters round zeros : ℕ) → Drilling → Drilling
read meters round zeros d = each (send meters round zeros) meters (after (events.Tick 3600) d)

-- a meter is challenged, and so gets the new key
unfoldable pub challenge : (meters node : ℕ) → Drilling → Drilling
challenge meters node d = drain meters (after (events.Challenge node) (draw (2 * meters + 2 * node - 1) node d))

-- a node is to seal with the new key
unfoldable pub activate : (meters node : ℕ) → Drilling → Drilling
activate meters node d = drain meters (after (events.Activate node 1) d)

-- each meter gets the new key, and then each node seals with it
unfoldable pub rekey : (meters : ℕ) → Drilling → Drilling
rekey meters d =
    after (events.Activate 0 1)
    (each (activate meters) meters (each (challenge meters) meters (after (events.Rekey 1 (group_key 2)) d)))

-- all meters join, send two short readings and a long one, change their key and send a short one
unfoldable pub drill_from : (meters : ℕ) → Drilling → Drilling
drill_from meters d =
    read meters 4 0 (rekey meters (read meters 3 400 (read meters 2 0 (read meters 1 0
    (each (join meters) meters (make meters d))))))

-- the world that a whole drill leaves
unfoldable pub drilled : (meters : ℕ) → World
drilled meters = (drill_from meters (record { world = start; drained = 0 })).world

-- # Its text

-- drill <meters>, done <joinings>, end <events> <flights> <sends> <ups> <forged>
abbrev pub drill_text_of : ℕ → World → List ℕ
drill_text_of meters w =
    codes "drill " ++ (decimal meters ++ (codes "\ndone " ++ (decimal w.done ++ (codes "\n" ++ end_text (totals w)))))

-- the text of a drill with this many meters
unfoldable pub drill_text : (meters : ℕ) → List ℕ
drill_text meters = drill_text_of meters (drilled meters)
