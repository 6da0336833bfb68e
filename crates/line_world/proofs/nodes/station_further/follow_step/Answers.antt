-- What becomes of a path message that is taken.
use Rattle.std.proofs.Common.{ℕ, List, Ok, Err, ap, sym, ◌∙◌}
use Rattle.node_rules.specs.declared.refusal.Dropped.TheVariants.{Store}
use Rattle.node_rules.specs.Drafts.{alone}
use Rattle.path_requests.specs.declared.step.PathStep.{PathStep}
use Rattle.reach_rules.specs.declared.heard.CommandHeard.TheVariants as commands
use Rattle.reach_rules.specs.declared.refusal.ReachDropped.TheVariants.{Known}
use Rattle.reach_rules.specs.PathRequests.{follows_path}
use Rattle.reach_rules.specs.ReachingNodes.{Beside, remembers}
use Rattle.line_world.specs.declared.nodes.station_further.PathHeard.TheVariants as paths
use Rattle.line_world.proofs.FurtherPlans.{held_by}
use Rattle.line_world.proofs.PathPlans.{path_went, remembers_after, sent_ended}
use Rattle.line_world.proofs.nodes.station_further.follow_step.Goals as goal

pub returns-in-Forward-clause-reaches : goal.returns-in-Forward-clause-reaches
returns-in-Forward-clause-reaches c =
    let m = held_by c.args.station.now.memory c.requires.running in
    let b : Beside = record { checks = c.beside.inside.checks; log = c.beside.inside.log; scan = c.beside.inside.scan } in
    rw (← c.beside.view_is)
    (path_went c.args.station.now c.path_goes-sent.new.station b (λ y. follows_path alone y (Ok c.args.step.now)) m.0 c.in-Forward.to c.in-Forward.message
    commands.Relayed c.path_goes-sent.result _ c.args.out.now c.path_goes-sent.new.out c.path_goes-sent.new.log
    m.1 (ap (λ (p : PathStep). follows_path alone (record { memory = m.0; beside = b }) (Ok p)) c.in-Forward.is) c.path_goes-sent.ensures.carries
    c.path_goes-sent.ensures.log
    (sent_ended paths.Relayed c.path_goes-sent.result c.sent_on.result c.path_sent.result c.sent_on.ensures c.path_sent.ensures))

pub returns-in-Answer-clause-reaches : goal.returns-in-Answer-clause-reaches
returns-in-Answer-clause-reaches c =
    let m = held_by c.args.station.now.memory c.requires.running in
    let b : Beside = record { checks = c.beside.inside.checks; log = c.beside.inside.log; scan = c.beside.inside.scan } in
    rw (← c.beside.view_is)
    (path_went c.args.station.now c.path_goes-sent-in-Answer.new.station b (λ y. follows_path alone y (Ok c.args.step.now)) m.0 c.in-Answer.to
    c.in-Answer.message commands.Answered c.path_goes-sent-in-Answer.result _ c.args.out.now c.path_goes-sent-in-Answer.new.out
    c.path_goes-sent-in-Answer.new.log
    m.1 (ap (λ (p : PathStep). follows_path alone (record { memory = m.0; beside = b }) (Ok p)) c.in-Answer.is) c.path_goes-sent-in-Answer.ensures.carries
    c.path_goes-sent-in-Answer.ensures.log
    (sent_ended paths.Answered c.path_goes-sent-in-Answer.result c.sent_on-in-Answer.result c.path_sent-in-Answer.result c.sent_on-in-Answer.ensures
    c.path_sent-in-Answer.ensures))

pub returns-in-Done-clause-reaches : goal.returns-in-Done-clause-reaches
returns-in-Done-clause-reaches c =
    let s = c.args.station.now in
    let b = c.args.beside.now in
    let m = held_by s.memory c.requires.running in
    remembers_after s b b (Err (Known Store)) (λ y. follows_path alone y (Ok c.args.step.now)) m.0 (Ok (commands.Path c.copied.result)) (Err (Known Store))
    c.args.out.now m.1
    (ap (λ (p : PathStep). follows_path alone (record { memory = m.0; beside = b }) (Ok p)) c.in-Done.is
    ∙ ap (λ (w : List ℕ). remembers (record { memory = m.0; beside = b }) (commands.Path w)) (sym c.copied.ensures))
