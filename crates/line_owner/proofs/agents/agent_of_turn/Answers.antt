use Rattle.std.proofs.Common.{◌%◌, sym, subst}
use Rattle.line_owner.proofs.Reach.{IsReached, nth_is_reached}
use Rattle.line_owner.proofs.agents.agent_of_turn.Goals as goal

pub returns-clause-within_reach : goal.returns-clause-within_reach
returns-clause-within_reach c =
    let rows = c.args.place.now in
    let members = c.args.members.now in
    subst (IsReached rows members c.args.node) (sym c.nth_agent.ensures)
    (nth_is_reached rows members c.args.node (c.args.turn % c.agent_count-count.result))
