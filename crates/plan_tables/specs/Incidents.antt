-- What happens to the line: failures, the owner's orders, attackers.
use Rattle.std.specs.Prelude.{ℕ, ◌==◌, List, [], ◌∷◌, ◌++◌, codes, true, false, if◌then◌else◌, Option, None, Some, Result, Ok, Err}
use Rattle.std.specs.Str.{bytes_eq}
use Rattle.std.specs.Option.{option_and_then}
use Rattle.toml.specs.Data.{Data, as_str, as_array}
use Rattle.plan_tables.specs.declared.keys.Key.{Key}
use Rattle.plan_tables.specs.declared.keys.Key.TheVariants as keys
use Rattle.plan_tables.specs.declared.fault.Wanted.{Wanted}
use Rattle.plan_tables.specs.declared.fault.Wanted.TheVariants as wanted
use Rattle.plan_tables.specs.declared.fault.WrongValue.{WrongValue}
use Rattle.plan_tables.specs.declared.incidents.Leaves.{Leaves}
use Rattle.plan_tables.specs.declared.incidents.Leaves.TheVariants as leaves
use Rattle.plan_tables.specs.declared.incidents.WhatKind.{WhatKind}
use Rattle.plan_tables.specs.declared.incidents.WhatKind.TheVariants as kinds
use Rattle.plan_tables.specs.declared.incidents.What.{What}
use Rattle.plan_tables.specs.declared.incidents.What.TheVariants.{PowerFails, WriteFails, NoiseComes, LinkFails, MetersKicked, KeyChanges}
use Rattle.plan_tables.specs.declared.incidents.What.TheVariants.{FramesReplayed, FramesDelayed, JoinsForged}
use Rattle.plan_tables.specs.declared.incidents.Incident.{Incident}
use Rattle.plan_tables.specs.declared.incidents.NodesOf.{NodesOf}
use Rattle.plan_tables.specs.declared.incidents.Outline.{Outline}
use Rattle.plan_tables.specs.declared.places.PlacePlan.{PlacePlan}
use Rattle.plan_tables.specs.Values.{number_up_to, number_from_one_to, seconds_in}
use Rattle.plan_tables.specs.Faults.{TableAt, ◌>>=◌, checked_at, get_at, wrong_at, value_at, number_at, positive_at, seconds_at, chance_at}
use Rattle.plan_tables.specs.Links.{listed}
use Rattle.plan_tables.specs.Places.{may_hear}

abbrev pub needed : {A : Type 0} → (Data → Option A) → Option Data → Option A
needed read d = option_and_then read d

-- the value of a key that has to be given
abbrev pub needed_at : {A : Type 0} → TableAt → Key → Wanted → (Data → Option A) → Result A WrongValue
needed_at table key what read = checked_at table key what (needed read (get_at table key))

-- # What happens

abbrev pub what_named : List ℕ → Option WhatKind
what_named word =
    if bytes_eq word (codes "power") then Some kinds.Power
    else if bytes_eq word (codes "torn") then Some kinds.Torn
    else if bytes_eq word (codes "noise") then Some kinds.Noise
    else if bytes_eq word (codes "link") then Some kinds.LinkDown
    else if bytes_eq word (codes "kick") then Some kinds.Kick
    else if bytes_eq word (codes "rekey") then Some kinds.Rekey
    else if bytes_eq word (codes "replay") then Some kinds.Replay
    else if bytes_eq word (codes "delay") then Some kinds.Delay
    else if bytes_eq word (codes "false_joins") then Some kinds.FalseJoins
    else None

unfoldable pub what_in : Data → Option WhatKind
what_in d = option_and_then what_named (as_str d)

abbrev pub what_at : TableAt → Result WhatKind WrongValue
what_at table = needed_at table keys.What wanted.Word what_in

abbrev pub leaves_named : List ℕ → Option Leaves
leaves_named word =
    if bytes_eq word (codes "old") then Some leaves.Old
    else if bytes_eq word (codes "new") then Some leaves.New
    else None

unfoldable pub leaves_in : Data → Option Leaves
leaves_in d = option_and_then leaves_named (as_str d)

abbrev pub leaves_at : TableAt → Result Leaves WrongValue
leaves_at table = value_at table keys.Leaves wanted.Word leaves_in leaves.Old

-- for how long
abbrev pub length_at : TableAt → Result ℕ WrongValue
length_at table = seconds_at table keys.For 60

unfoldable pub torn_at : TableAt → Result What WrongValue
torn_at table = do
  seconds ← length_at table
  left ← leaves_at table
  write ← positive_at table keys.Write 1 1000
  Ok (WriteFails write left seconds)

unfoldable pub noise_at : TableAt → Result What WrongValue
noise_at table = do
  seconds ← length_at table
  loss ← chance_at table keys.Loss 5000
  Ok (NoiseComes loss seconds)

unfoldable pub delay_at : TableAt → Result What WrongValue
delay_at table = do
  seconds ← length_at table
  later ← seconds_at table keys.Later 60
  Ok (FramesDelayed seconds later)

unfoldable pub rekey_at : TableAt → Result What WrongValue
rekey_at table = number_at table keys.Index 1 1 >>= λ index. Ok (KeyChanges index)

unfoldable pub replay_at : TableAt → Result What WrongValue
replay_at table = number_at table keys.Count 10 10000 >>= λ count. Ok (FramesReplayed count)

unfoldable pub what_of : TableAt → WhatKind → Result What WrongValue
what_of table kinds.Power = length_at table >>= λ seconds. Ok (PowerFails seconds)
what_of table kinds.Torn = torn_at table
what_of table kinds.Noise = noise_at table
what_of table kinds.LinkDown = length_at table >>= λ seconds. Ok (LinkFails seconds)
what_of table kinds.Kick = Ok MetersKicked
what_of table kinds.Rekey = rekey_at table
what_of table kinds.Replay = replay_at table
what_of table kinds.Delay = delay_at table
what_of table kinds.FalseJoins = Ok JoinsForged

-- # Nodes

-- which nodes may be named: not the coordinator, where meters are shut out
abbrev pub nodes_of : What → ℕ → NodesOf
nodes_of MetersKicked meters = record { meters = meters; is_meter = true }
nodes_of what meters = record { meters = meters; is_meter = false }

abbrev pub wanted_one : NodesOf → Wanted
wanted_one those = if those.is_meter then wanted.FromOneTo those.meters else wanted.UpTo those.meters

abbrev pub wanted_list : NodesOf → Wanted
wanted_list those = if those.is_meter then wanted.Meters else wanted.Nodes

unfoldable pub node_of : NodesOf → Data → Option ℕ
node_of those d = if those.is_meter then number_from_one_to those.meters d else number_up_to those.meters d

-- nodes, and those of more values
abbrev pub numbers_from : NodesOf → List ℕ → List Data → Option (List ℕ)
numbers_from those nodes [] = Some nodes
numbers_from those nodes (d ∷ ds) = option_and_then (λ node. numbers_from those (nodes ++ node ∷ []) ds) (node_of those d)

abbrev pub one_of : Option ℕ → Option (List ℕ)
one_of (Some node) = Some (node ∷ [])
one_of None = None

-- the node that a value is
unfoldable pub one_node : NodesOf → Data → Option (List ℕ)
one_node those d = one_of (node_of those d)

-- the nodes that a value lists
unfoldable pub some_nodes : NodesOf → Data → Option (List ℕ)
some_nodes those d = option_and_then (λ values. numbers_from those [] (listed values)) (as_array d)

abbrev pub nodes_by : NodesOf → TableAt → Option Data → Option Data → Result (List ℕ) WrongValue
nodes_by those table (Some d) (Some e) = Err (wrong_at table keys.Node wanted.NoNode)
nodes_by those table (Some d) None = checked_at table keys.Node (wanted_one those) (one_node those d)
nodes_by those table None (Some e) = checked_at table keys.Nodes (wanted_list those) (some_nodes those e)
nodes_by those table None None = Ok []

-- the nodes that `node` or `nodes` names; not both may be there
unfoldable pub nodes_at : NodesOf → TableAt → Result (List ℕ) WrongValue
nodes_at those table = nodes_by those table (get_at table keys.Node) (get_at table keys.Nodes)

-- what the nodes of a link that fails have to be, where these are not: two, of which one may hear the other
abbrev pub link_wanted : PlacePlan → List ℕ → Option Wanted
link_wanted place (a ∷ b ∷ []) =
    if a == b then Some wanted.TwoNodes else if may_hear place a b then None else Some wanted.Linked
link_wanted place nodes = Some wanted.TwoNodes

abbrev pub nodes_wanted : What → PlacePlan → List ℕ → Option Wanted
nodes_wanted (LinkFails seconds) place nodes = link_wanted place nodes
nodes_wanted what place nodes = None

-- # An incident

abbrev pub time_at : TableAt → Result ℕ WrongValue
time_at table = needed_at table keys.At wanted.Time seconds_in

-- how many meters are drawn
unfoldable pub drawn_at : ℕ → TableAt → Result ℕ WrongValue
drawn_at meters table = number_at table keys.Meters 1 meters

unfoldable pub outline_at : ℕ → TableAt → Result Outline WrongValue
outline_at meters table = do
  at ← time_at table
  kind ← what_at table
  what ← what_of table kind
  drawn ← drawn_at meters table
  Ok (record { at = at; what = what; meters = drawn })

abbrev pub incident_with : TableAt → Outline → List ℕ → Option Wanted → Result Incident WrongValue
incident_with table outline nodes (Some what) = Err (wrong_at table keys.Nodes what)
incident_with table outline nodes None =
    Ok (record { at = outline.at; what = outline.what; nodes = nodes; meters = outline.meters })

-- of a line with this many meters at a place
unfoldable pub incident_at : ℕ → PlacePlan → TableAt → Result Incident WrongValue
incident_at meters place table = do
  outline ← outline_at meters table
  nodes ← nodes_at (nodes_of outline.what meters) table
  incident_with table outline nodes (nodes_wanted outline.what place nodes)
