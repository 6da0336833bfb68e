use Rattle.std.proofs.Common.{Bool, ◌∙◌, ap, subst}
use Rattle.line_simulation.specs.Attackers.{has_attackers}
use Rattle.line_sim.specs.Tool.{Ends}
use Rattle.line_sim.proofs.tool.run_plan.Goals as goal

pub returns-then-has_attackers : goal.returns-then-has_attackers
returns-then-has_attackers g c =
    subst (λ (b : Bool). Ends c.args.mode b c.args.plan c.args.place (g.K.Sink.state c.args.sink.now) (g.K.Sink.state c.run_over.new.sink)
    c.run_over.result)
    (c.if-has_attackers.ensures ∙ ap has_attackers c.incidents.ensures) c.run_over.ensures

pub returns : goal.returns
returns g c =
    subst (λ (b : Bool). Ends c.args.mode b c.args.plan c.args.place (g.K.Sink.state c.args.sink.now) (g.K.Sink.state c.run_over-2.new.sink)
    c.run_over-2.result)
    (c.if-has_attackers.ensures ∙ ap has_attackers c.incidents.ensures) c.run_over-2.ensures
