-- A path message that is heard.
use Rattle.std.proofs.Common.{◌≡◌, ℕ, Option, Result, Ok, Err, ap, sym, ◌∙◌}
use Rattle.path_requests.specs.declared.step.PathRefusal.{PathRefusal}
use Rattle.path_requests.specs.declared.step.PathStep.{PathStep}
use Rattle.path_requests.specs.Reader.{path_in}
use Rattle.path_requests.specs.PathSteps.{taken}
use Rattle.node_rules.specs.declared.refusal.Dropped.TheVariants.{BadUnit, Store}
use Rattle.node_rules.specs.Drafts.{alone}
use Rattle.plc_station.proofs.CarriedPlans.{at_some}
use Rattle.reach_rules.specs.declared.refusal.ReachDropped.TheVariants.{Known}
use Rattle.reach_rules.specs.PathRequests.{follows_path, hear_path, next_toward}
use Rattle.reach_rules.specs.ReachingNodes.{drop_it}
use Rattle.line_world.proofs.FurtherPlans.{held_by}
use Rattle.line_world.proofs.PathPlans.{hears_for_all, hears_read, hears_unread, reaches_as, remembers_after}
use Rattle.line_world.proofs.nodes.station_further.hear_path.Goals as goal

pub returns-then-command-clause-reaches : goal.returns-then-command-clause-reaches
returns-then-command-clause-reaches c =
    let s = c.args.station.now in
    let b = c.args.beside.now in
    let d = c.args.command.now in
    let m = held_by s.memory c.requires.running in
    remembers_after s b b (Err (Known Store)) (λ y. hear_path alone y c.args.own d.from d.to_all d.body) m.0 (Err (Known BadUnit)) (Err (Known Store))
    c.args.out.now m.1
    (hears_for_all (record { memory = m.0; beside = b }) c.args.own d.from d.to_all d.body c.if-command.true)

pub returns-in_default-clause-reaches : goal.returns-in_default-clause-reaches
returns-in_default-clause-reaches c =
    let s = c.args.station.now in
    let b = c.args.beside.now in
    let d = c.args.command.now in
    let m = held_by s.memory c.requires.running in
    remembers_after s b b (Err (Known Store)) (λ y. hear_path alone y c.args.own d.from d.to_all d.body) m.0 (Err (Known BadUnit)) (Err (Known Store))
    c.args.out.now m.1
    (hears_unread (record { memory = m.0; beside = b }) c.args.own d.from d.to_all d.body c.if-command.false
    (ap path_in (sym c.octets.ensures) ∙ c.read_path.ensures.value ∙ c.in_default.is))

pub returns-in-Err-clause-reaches : goal.returns-in-Err-clause-reaches
returns-in-Err-clause-reaches c =
    let s = c.args.station.now in
    let b = c.args.beside.now in
    let d = c.args.command.now in
    let m = held_by s.memory c.requires.running in
    remembers_after s b b (Err (Known Store)) (λ y. hear_path alone y c.args.own d.from d.to_all d.body) m.0 (Err c.path_word.result) (Err (Known Store))
    c.args.out.now m.1
    (hears_read (record { memory = m.0; beside = b }) c.args.own d.from d.to_all d.body c.in-Some.message c.if-command.false
    (ap path_in (sym c.octets.ensures) ∙ c.read_path.ensures.value ∙ c.in-Some.is)
    ∙ ap (λ (p : Result PathStep PathRefusal). follows_path alone (record { memory = m.0; beside = b }) p)
    (sym (c.take_path.ensures.step ∙ ap (λ (n : Option ℕ). taken c.args.own d.from n c.in-Some.message)
    (at_some s.memory (λ k. c.next_toward-next.result ≡ next_toward k c.in-Some.message) m.0 m.1 c.next_toward-next.ensures)) ∙ c.in-Err.is)
    ∙ ap (drop_it (record { memory = m.0; beside = b })) (sym c.path_word.ensures))

pub returns-in-Ok-clause-reaches : goal.returns-in-Ok-clause-reaches
returns-in-Ok-clause-reaches c =
    let s = c.args.station.now in
    let b = c.args.beside.now in
    let d = c.args.command.now in
    reaches_as (λ y. follows_path alone y (Ok c.in-Ok.step)) (λ y. hear_path alone y c.args.own d.from d.to_all d.body)
    (λ l e. ap (λ (p : Result PathStep PathRefusal). follows_path alone (record { memory = l; beside = b }) p)
    (sym c.in-Ok.is ∙ c.take_path.ensures.step ∙ ap (λ (n : Option ℕ). taken c.args.own d.from n c.in-Some.message)
    (at_some s.memory (λ k. c.next_toward-next.result ≡ next_toward k c.in-Some.message) l e c.next_toward-next.ensures))
    ∙ sym (hears_read (record { memory = l; beside = b }) c.args.own d.from d.to_all d.body c.in-Some.message c.if-command.false
    (ap path_in (sym c.octets.ensures) ∙ c.read_path.ensures.value ∙ c.in-Some.is)))
    c.follow_step.ensures.reaches
