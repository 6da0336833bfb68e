-- A node on the air: what waits in its queue, and what it hears.
use Rattle.std.specs.Prelude.{ℕ, ◌+◌, eqb, not, ◌&&◌, ◌||◌, cond, Bool, true, false, List, [], ◌∷◌, ◌++◌, map, Option, Some, None, slice_get, slice_set}
use Rattle.std.specs.Prelude.{position}
use Rattle.std.specs.List.{remove, fold}
use Rattle.line_air.specs.declared.frame.Waiting.{Waiting}
use Rattle.line_air.specs.declared.node.Ear.{Ear}
use Rattle.line_air.specs.declared.nodes.Heard.{Heard}
use Rattle.line_place.specs.declared.link.Link.{Link}

pub record NodeState : Type 0 where
  pub powered : Bool
  pub joined : Bool
  pub sending : Bool
  pub armed : Bool
  pub queue : List Waiting
  pub heard : List Ear

-- a node with power that has not joined
abbrev pub new_node : NodeState
new_node =
    record { powered = true; joined = false; sending = false; armed = false; queue = []; heard = [] }

abbrev pub has_none : {A : Type 0} → List A → Bool
has_none [] = true
has_none (a ∷ rest) = false

-- # What waits

abbrev pub first_waiting : List Waiting → Option Waiting
first_waiting [] = None
first_waiting (w ∷ ws) = Some w

abbrev pub with_first : Waiting → List Waiting → List Waiting
with_first v [] = []
with_first v (w ∷ ws) = v ∷ ws

abbrev pub without_first : List Waiting → List Waiting
without_first [] = []
without_first (w ∷ ws) = ws

-- a frame waits behind the others, unless the node has no power
unfoldable pub with_frame : Waiting → NodeState → NodeState
with_frame w n = cond n.powered (record n { queue = n.queue ++ (w ∷ []) }) n

-- an attempt has to be made: a frame waits, and neither an attempt nor the end of a frame is due
unfoldable pub may_arm : NodeState → Bool
may_arm n = n.powered && (not n.armed && (not n.sending && not (has_none n.queue)))

-- power fails: what waits is gone
unfoldable pub without_power : NodeState → NodeState
without_power n = record n { powered = false; armed = false; sending = false; queue = [] }

-- # What is heard

-- it senses that somebody sends, or sends itself
unfoldable pub is_busy : NodeState → Bool
is_busy n = n.sending || not (has_none n.heard)

-- what it hears, disturbed
unfoldable pub disturbed_ears : List Ear → List Ear
disturbed_ears ears = map (λ (e : Ear). record e { clean = false }) ears

-- a frame begins: it is clean where nothing else is heard or sent, and disturbs what is heard otherwise
unfoldable pub hearing_more : Bool → ℕ → NodeState → NodeState
hearing_more collisions from n =
    let clean = not (is_busy n) || not collisions in
    record n { heard = cond clean n.heard (disturbed_ears n.heard) ++ (record { from = from; clean = clean } ∷ []) }

abbrev pub is_clean_at : List Ear → Option ℕ → Bool
is_clean_at ears None = false
is_clean_at ears (Some i) = elim (slice_get ears i) as (λ _. Bool) [ None ↦ false | Some e ↦ e.clean ]

-- whether the first frame of a sender that is heard is clean
unfoldable pub is_clean : ℕ → List Ear → Bool
is_clean from ears = is_clean_at ears (position (λ (e : Ear). eqb e.from from) ears)

abbrev pub without_at : List Ear → Option ℕ → List Ear
without_at ears None = ears
without_at ears (Some i) = remove ears i

-- what is heard without it
unfoldable pub without : ℕ → List Ear → List Ear
without from ears = without_at ears (position (λ (e : Ear). eqb e.from from) ears)

-- # All nodes

-- nodes with one changed, all as they were where there is none of that number
unfoldable pub changed : ℕ → (NodeState → NodeState) → List NodeState → List NodeState
changed node f nodes = elim (slice_get nodes node) as (λ _. List NodeState) [ None ↦ nodes | Some n ↦ slice_set nodes node (f n) ]

-- # One of them

abbrev pub state_of : Option NodeState → (NodeState → Bool) → Bool
state_of None test = false
state_of (Some n) test = test n

abbrev pub has_power : NodeState → Bool
has_power n = n.powered

-- frames to all come to joined nodes with power
abbrev pub may_hear_all : NodeState → Bool
may_hear_all n = n.powered && n.joined

-- a node that is not on the line has no power, has not joined, and is not busy
unfoldable pub is_one : (NodeState → Bool) → ℕ → List NodeState → Bool
is_one test node nodes = state_of (slice_get nodes node) test

abbrev pub queue_of : Option NodeState → List Waiting
queue_of None = []
queue_of (Some n) = n.queue

-- the frame that waits first at a node
unfoldable pub first_of : ℕ → List NodeState → Option Waiting
first_of node nodes = first_waiting (queue_of (slice_get nodes node))

-- the frame of a sender is heard undisturbed
abbrev pub hears_clean : ℕ → NodeState → Bool
hears_clean from n = is_clean from n.heard

unfoldable pub with_joined : Bool → NodeState → NodeState
with_joined joined n = record n { joined = joined }

unfoldable pub with_power : NodeState → NodeState
with_power n = record n { powered = true }

unfoldable pub with_sending : Bool → NodeState → NodeState
with_sending sending n = record n { sending = sending }

unfoldable pub with_armed : Bool → NodeState → NodeState
with_armed armed n = record n { armed = armed }

-- an attempt is due, and the first frame is held no longer
unfoldable pub armed_with : Waiting → NodeState → NodeState
armed_with w n = record n { armed = true; queue = with_first (record w { held = 0 }) n.queue }

unfoldable pub waiting_first : Waiting → NodeState → NodeState
waiting_first w n = record n { queue = with_first w n.queue }

unfoldable pub first_gone : NodeState → NodeState
first_gone n = record n { queue = without_first n.queue }

unfoldable pub hearing_less : ℕ → NodeState → NodeState
hearing_less from n = record n { heard = without from n.heard }

-- # A frame begins, and ends

-- each hearer of a node hears a frame more
unfoldable pub heard_by : Bool → ℕ → List Link → List NodeState → List NodeState
heard_by collisions from links nodes =
    fold (λ (ns : List NodeState) (l : Link). changed l.to (hearing_more collisions from) ns) nodes links

-- the nodes, and those that a frame reached
pub record Silence : Type 0 where
  pub nodes : List NodeState
  pub heard : List Heard

abbrev pub silent_at : ℕ → Silence → Link → Silence
silent_at from s l = record {
  nodes = changed l.to (hearing_less from) s.nodes;
  heard = s.heard ++ (record { link = l; clear = is_one (hears_clean from) l.to s.nodes } ∷ []);
}

-- the frame of a node ends at each of its hearers
unfoldable pub silenced_by : ℕ → List Link → Silence → Silence
silenced_by from links s = fold (silent_at from) s links
