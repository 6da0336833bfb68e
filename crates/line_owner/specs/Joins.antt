-- How meters join, and leave.
use Rattle.std.specs.Prelude.{ℕ, ◌+◌, leb, ◌||◌, cond, true, false, List, Option, None, Some}
use Rattle.air_draws.specs.Draws.{below}
use Rattle.line_place.specs.declared.link.Link.{Link}
use Rattle.line_owner.specs.declared.agents.Agent.{Agent}
use Rattle.line_owner.specs.declared.acts.Act.TheVariants.{Step, Put, Do}
use Rattle.line_owner.specs.declared.acts.Acts.TheVariants.{One, Four}
use Rattle.line_owner.specs.declared.acts.Command.TheVariants.{Join}
use Rattle.line_owner.specs.declared.acts.Task.TheVariants.{TryJoin, Give}
use Rattle.line_owner.specs.Members.{more, member_at}
use Rattle.line_owner.specs.Agents.{agent_of_turn}
use Rattle.line_owner.specs.States.{OwnerState, Turned, does, rests, timed, with_node}
use Rattle.line_owner.specs.Times.{micros, later}

-- with an agent the meter asks, and tries again after a while; without one it looks again after half a minute
abbrev pub joins_by : ℕ → ℕ → Option Agent → OwnerState → Turned
joins_by now node None o = does (timed o) (One (Put (later (later now 30000000) (below 5000000 o.times)) (TryJoin node)))
joins_by now node (Some agent) o =
    let m = member_at node o.members in
    does (timed (with_node node (record m { turns = more m.turns; join_tries = m.join_tries + 1; agent = agent.node }) o))
    (Four (Do (Give 0 2)) (Do (Give node 1)) (Step (Join node agent.node))
    (Put (later (later now (micros o.settings.joining.retry)) (below 5000000 o.times)) (TryJoin node)))

unfoldable pub joins_with_power : List (List Link) → ℕ → ℕ → OwnerState → Turned
joins_with_power rows now node o =
    joins_by now node (agent_of_turn rows o.members node (member_at node o.members).turns) o

unfoldable pub tries_to_join : List (List Link) → ℕ → ℕ → OwnerState → Turned
tries_to_join rows now node o =
    let m = member_at node o.members in
    cond (m.joined || leb o.settings.joining.tries m.join_tries) (rests o)
    (cond m.powered (joins_with_power rows now node o)
    (does o (One (Put (later now (micros o.settings.joining.retry)) (TryJoin node)))))

-- a meter took its grant: it is one hop farther than its agent
unfoldable pub takes_grant : ℕ → OwnerState → Turned
takes_grant node o =
    let m = member_at node o.members in
    cond m.joined (rests o)
    (rests (with_node node (record m { joined = true; missed = 0; depth = more (member_at m.agent o.members).depth }) o))

-- a meter has left: it tries to join again
unfoldable pub has_left : ℕ → ℕ → OwnerState → Turned
has_left now node o =
    let m = member_at node o.members in
    does (with_node node (record m { joined = false; join_tries = 0; missed = 0 }) o) (One (Put (later now 1000000) (TryJoin node)))
