-- A node takes a random value in.
use Rattle.std.proofs.Common.{Err, false, ap, ◌∙◌}
use Rattle.line_events.specs.declared.event.StepFault.{StepFault}
use Rattle.std.proofs.lemmas.Result.{err_from_is_err_and}
use Rattle.node_rules.specs.declared.refusal.RandomFault.TheVariants as randoms
use Rattle.node_rules.specs.MemoryDrafts.{give_random}
use Rattle.node_rules.specs.NodeSteps.{acts}
use Rattle.line_rules.specs.Answers.{random_word}
use Rattle.line_rules.specs.Steps.{happenings, rand}
use Rattle.line_world.specs.Lines.{world_of}
use Rattle.line_world.proofs.EventSteps.{steps_as, begun, at_node, is_there, node_answered, not_found, has_coordinator}
use Rattle.line_world.proofs.line.Line.rand.Goals as goal

pub returns-in_err-number : goal.returns-in_err-number
unfolding rand
returns-in_err-number c =
    let p = err_from_is_err_and c.from_residual.result c.from_residual.ensures.1 in
    rw p.1 (not_found false (world_of c.args.self.now) c.args.node _ p.0 c.requires.bounds (ap (λ (f : StepFault). Err f) p.2 ∙ c.in_err-number.ensures))

pub give_random-given-requires : goal.give_random-given-requires
give_random-given-requires c = record { there = (is_there (world_of c.args.self.now) c.args.node c.in_ok-number.number c.in_ok-number.ensures).within }

pub returns : goal.returns
unfolding rand
returns c =
    let w = world_of c.args.self.now in
    let there = is_there w c.args.node c.in_ok-number.number c.in_ok-number.ensures in
    steps_as _ _ (begun w _ (has_coordinator (world_of c.args.self.now) c.args.node c.in_ok-number.number c.in_ok-number.ensures)
    ∙ at_node w c.args.node there.node _ there.at)
    (node_answered false w _ there (λ x. acts x (Err randoms.Halted) (λ m. give_random m c.args.value)) random_word _ _ _ c.requires.bounds c.requires.events
    c.give_random-given.ensures (c.answered.ensures.reported ∙ ap (λ a. happenings w a) c.random_word.ensures) (ap world_of c.answered.ensures.line))
