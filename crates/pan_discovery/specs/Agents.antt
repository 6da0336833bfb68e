-- Which agents a list of beacons shows, and in which order; and what one more beacon makes of the first 16 of them.
use Rattle.std.specs.Prelude.{ℕ, ◌+◌, ◌-◌, ◌*◌, Bool, List, [], ◌∷◌, not, nat_le, take, slice_get, Option, option_map, ◌==◌, ◌&&◌, if◌then◌else◌}
use Rattle.std.specs.List.{filter, list_any}
use Rattle.plc_base.specs.Orders.{placed_by, ordered_by}
use Rattle.pan_discovery.specs.declared.agents.Agent.{Agent}

-- What a beacon shows: its sender, with the cost in it and that of the link that it came by.
abbrev pub shown : (from cost link : ℕ) → Agent
shown from cost link = record { address = from; total = cost + link }

-- The order of agents: by total, and by address where totals are equal. Addresses have 16 bits.
abbrev pub rank : Agent → ℕ
rank a = a.total * 65536 + a.address

-- what is not of an address
abbrev pub without : (address : ℕ) → List Agent → List Agent
without address agents = filter (λ (a : Agent). not (a.address == address)) agents

-- of each address the first
abbrev pub firsts : List Agent → List Agent
firsts [] = []
firsts (a ∷ agents) = a ∷ without a.address (firsts agents)

-- The agents of a list of beacons: all that was heard in its order, and of each address the first, which has the least
-- total.
abbrev pub agents_of : (heard : List Agent) → List Agent
agents_of heard = firsts (ordered_by rank heard)

-- the k-th of the agents, counted from 1, with its total
abbrev pub kth_of : List Agent → (k : ℕ) → Option (ℕ × ℕ)
kth_of agents k = option_map (λ (a : Agent). (a.address, a.total)) (slice_get agents (k - 1))

-- whether an agent with this address stands there at the same total or a lower one
abbrev pub is_known_by : (heard other : Agent) → Bool
is_known_by heard other = heard.address == other.address && nat_le other.total heard.total

-- What one more beacon makes of at most 16 agents: nothing where its sender stands there and is no dearer; else the
-- sender stands at its new place, and the 17th goes.
abbrev pub agents_after : (heard : Agent) → List Agent → List Agent
agents_after heard agents =
    if list_any (is_known_by heard) agents then agents
    else take 16 (placed_by rank heard (without heard.address agents))
