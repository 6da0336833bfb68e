-- The place that `position` answers, or the length where it answers none.
use Rattle.std.proofs.Common.{ap, length, sym, ◌∙◌}
use Rattle.pan_discovery.proofs.AgentPlaces.{place_none, place_some}
use Rattle.pan_discovery.proofs.agents.Agents.place_of.Goals as goal

pub returns-in-Some-clause-value : goal.returns-in-Some-clause-value
returns-in-Some-clause-value c = (place_some c.args.heard.now c.args.self.now _ (sym c.first_after.ensures ∙ c.in-Some.is)).0

pub returns-in-Some-clause-within : goal.returns-in-Some-clause-within
returns-in-Some-clause-within c = (place_some c.args.heard.now c.args.self.now _ (sym c.first_after.ensures ∙ c.in-Some.is)).1

pub returns-in-None-clause-value : goal.returns-in-None-clause-value
returns-in-None-clause-value c =
    c.len.ensures.value ∙ ap length c.self.view_is ∙ place_none c.args.heard.now c.args.self.now (sym c.first_after.ensures ∙ c.in-None.is)
