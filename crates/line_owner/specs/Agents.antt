-- The agents within reach of a meter: joined neighbours with power, that hear it and that it hears.
use Rattle.std.specs.Prelude.{◌≡◌, ℕ, ◌+◌, ◌*◌, ◌%◌, zero, suc, eqb, ltb, ◌&&◌, ◌||◌, cond, Bool, true, false, List, Option, None, Some, is_some, find}
use Rattle.std.specs.Prelude.{option_map, IfSome, slice_get}
use Rattle.std.specs.List.{fold}
use Rattle.line_place.specs.declared.link.Link.{Link}
use Rattle.line_place.specs.Rows.{hearers}
use Rattle.line_place.specs.Hops.{Reaches}
use Rattle.line_owner.specs.declared.agents.Agent.{Agent}
use Rattle.line_owner.specs.declared.member.Member.{Member}
use Rattle.line_owner.specs.Members.{member_at}

-- what the link to a node costs, where there is one
unfoldable pub cost_to : List Link → ℕ → Option ℕ
cost_to links node = option_map (λ (l : Link). l.cost) (find (λ (l : Link). eqb l.to node) links)

-- a neighbour as an agent, at the cost of its link to the meter
abbrev pub agent_by : List Member → ℕ → ℕ → Option Agent
agent_by members a cost =
    let m = member_at a members in
    cond (m.joined && m.powered) (Some (record { weight = m.depth * 8 + cost; node = a })) None

abbrev pub agent_over : List Member → ℕ → Option ℕ → Option Agent
agent_over members a None = None
agent_over members a (Some cost) = agent_by members a cost

-- a hearer of the meter as an agent: its own frames have to reach the meter
unfoldable pub agent_at : List (List Link) → List Member → ℕ → Link → Option Agent
agent_at rows members node link = agent_over members link.to (cost_to (hearers rows link.to) node)

-- by weight, and then by number
unfoldable pub is_before : Agent → Agent → Bool
is_before a b = ltb a.weight b.weight || (eqb a.weight b.weight && ltb a.node b.node)

abbrev pub is_after : Option Agent → Agent → Bool
is_after None a = true
is_after (Some last) a = is_before last a

abbrev pub first_of_two : Option Agent → Agent → Option Agent
first_of_two None a = Some a
first_of_two (Some best) a = cond (is_before a best) (Some a) (Some best)

abbrev pub best_with : Option Agent → Option Agent → Option Agent → Option Agent
best_with last best None = best
best_with last best (Some a) = cond (is_after last a) (first_of_two best a) best

unfoldable pub best_step : List (List Link) → List Member → ℕ → Option Agent → Option Agent → Link → Option Agent
best_step rows members node last best link = best_with last best (agent_at rows members node link)

-- the first agent after another one
unfoldable pub next_agent : List (List Link) → List Member → ℕ → Option Agent → Option Agent
next_agent rows members node last = fold (best_step rows members node last) None (hearers rows node)

abbrev pub count_step : List (List Link) → List Member → ℕ → ℕ → Link → ℕ
count_step rows members node count link = cond (is_some (agent_at rows members node link)) (count + 1) count

-- how many agents there are
unfoldable pub agent_count : List (List Link) → List Member → ℕ → ℕ
agent_count rows members node = fold (count_step rows members node) 0 (hearers rows node)

-- the agent with this many before it
unfoldable pub nth_agent : List (List Link) → List Member → ℕ → ℕ → Option Agent
nth_agent rows members node zero = next_agent rows members node None
nth_agent rows members node (suc k) = next_agent rows members node (nth_agent rows members node k)

-- a neighbour that has joined and has power, which the meter hears, and which hears the meter
pub record IsWithinReach (rows : List (List Link)) (members : List Member) (node : ℕ) (agent : Agent) : Type 0 where
  pub joined : (member_at agent.node members).joined ≡ true
  pub powered : (member_at agent.node members).powered ≡ true
  pub hears : Reaches rows node agent.node
  pub heard : Reaches rows agent.node node

-- the agent whose turn it is: all in their order, and then from the first again
unfoldable pub agent_of_turn : List (List Link) → List Member → ℕ → ℕ → Option Agent
agent_of_turn rows members node turn =
    let count = agent_count rows members node in
    cond (eqb count 0) None (nth_agent rows members node (turn % count))

-- # The order of agents

-- one was found, and another is not before it
abbrev pub Precedes : Option Agent → Agent → Type 0
Precedes None agent = ⊥
Precedes (Some found) agent = is_before agent found ≡ false

-- no agent of the meter that comes after the last one is before the one that was found, which comes after the last one itself
pub record IsFirstAfter (rows : List (List Link)) (members : List Member) (node : ℕ) (last found : Option Agent) : Type 0 where
  pub after : IfSome found (λ agent. is_after last agent ≡ true)
  pub first : (k : ℕ) (link : Link) (agent : Agent) → slice_get (hearers rows node) k ≡ Some link → agent_at rows members node link ≡ Some agent
      → is_after last agent ≡ true → Precedes found agent

abbrev pub AgentsComeInOrder : Type 0
AgentsComeInOrder =
    (rows : List (List Link)) (members : List Member) (node : ℕ) (last : Option Agent)
    → IsFirstAfter rows members node last (next_agent rows members node last)
