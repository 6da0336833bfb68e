-- Another key is to seal.
use Rattle.std.proofs.Common.{◌≡◌, ℕ, ◌<◌, ◌≤◌, Bool, true, length, Ok, Err, sym, ap, subst, ◌∙◌, if◌then◌else◌, arith}
use Rattle.line_events.specs.declared.event.StepFault.{StepFault}
use Rattle.std.proofs.lemmas.Result.{err_from_is_err_and}
use Rattle.std.specs.Prelude.{◌==◌, is_ok, not}
use Rattle.node_rules.specs.declared.refusal.CoordinatorRefusal.TheVariants as orders
use Rattle.node_rules.specs.Ciphers.{network}
use Rattle.node_rules.specs.Coordinators as coordinators
use Rattle.node_rules.specs.Memory.{Node}
use Rattle.node_rules.specs.NodeSteps.{acts}
use Rattle.line_events.specs.declared.event.Answer.TheVariants as answers
use Rattle.line_rules.specs.Answers.{ordered_word}
use Rattle.line_rules.specs.Steps.{activate, by_coordinator, happenings}
use Rattle.line_rules.specs.Worlds.{World}
use Rattle.line_world.specs.Lines.{world_of}
use Rattle.line_world.proofs.EventSteps.{IsThere, steps_as, begun, is_there, node_acted, node_answered, not_found, has_coordinator, unreserved, taking}
use Rattle.line_world.proofs.Orders.{Runs, about_node, first_there, is_some_meter, of_found, reserved, still_runs, said_with}
use Rattle.line_world.proofs.line.Line.activate.Goals as goal

pub returns-in_err-number : goal.returns-in_err-number
unfolding activate
returns-in_err-number c =
    let p = err_from_is_err_and c.from_residual.result c.from_residual.ensures.1 in
    rw p.1 (not_found (not (c.args.node == 0)) (world_of c.args.self.now) c.args.node _ p.0 c.requires.bounds
    (ap (λ (f : StepFault). Err f) p.2 ∙ c.in_err-number.ensures))

-- at the coordinator itself
activates_self : {w : World} {number found : ℕ} (r : Runs w) (there : IsThere w number found) (index : ℕ) → found ≡ 0
    → activate network w number index ≡ Ok (by_coordinator network w (first_there w r.begun).node answers.Activated (λ k. coordinators.activate_self k index))
unfolding activate
activates_self {w} {number} r there index zero =
    let c = (first_there w r.begun).node in
    let is : (number == 0) ≡ true = ap (λ (n : ℕ). n == 0) (sym there.same ∙ zero) in
    about_node r there _ ∙ ap (λ (b : Bool). Ok (if b then by_coordinator network w c answers.Activated (λ k. coordinators.activate_self k index)
    else by_coordinator network w c answers.Ordered (λ k. coordinators.activate k there.node.eui index w.clock))) is

-- at a meter, by an order
activates_meter : {w : World} {number found : ℕ} (r : Runs w) (there : IsThere w number found) (index : ℕ) → 1 ≤ found
    → activate network w number index
    ≡ Ok (by_coordinator network w (first_there w r.begun).node answers.Ordered (λ k. coordinators.activate k there.node.eui index w.clock))
unfolding activate
activates_meter {w} {number} r there index some =
    let c = (first_there w r.begun).node in
    about_node r there _ ∙ ap (λ (b : Bool). Ok (if b then by_coordinator network w c answers.Activated (λ k. coordinators.activate_self k index)
    else by_coordinator network w c answers.Ordered (λ k. coordinators.activate k there.node.eui index w.clock))) (is_some_meter there some)

pub returns-then-number-eq0 : goal.returns-then-number-eq0
returns-then-number-eq0 c =
    let w = world_of c.args.self.now in
    let r : Runs w = record {
      begun = (has_coordinator (world_of c.args.self.now) c.args.node c.in_ok-number.number c.in_ok-number.ensures);
      bounds = c.requires.bounds;
      room = c.requires.events;
    } in
    let there = is_there w c.args.node c.in_ok-number.number c.in_ok-number.ensures in
    steps_as _ _ (activates_self r there c.args.index c.if-number-eq0.true)
    (node_answered (not (c.args.node == 0)) w _ (first_there w r.begun) (λ x. acts x (Err orders.Halted) (λ k. coordinators.activate_self k c.args.index))
    (ordered_word answers.Activated) _ _ _
    r.bounds r.room c.activate_self-done.ensures (c.answered.ensures.reported ∙ ap (λ a. happenings w a) c.ordered_word.ensures)
    (ap world_of c.answered.ensures.line))

pub returns-in_err-reserve : goal.returns-in_err-reserve
returns-in_err-reserve c =
    let w = world_of c.args.self.now in
    let p = err_from_is_err_and c.from_residual-in_err-reserve.result c.from_residual-in_err-reserve.ensures.1 in
    let r : Runs w = record {
      begun = has_coordinator w c.args.node c.in_ok-number.number c.in_ok-number.ensures;
      bounds = c.requires.bounds;
      room = c.requires.events;
    } in
    let there = is_there w c.args.node c.in_ok-number.number c.in_ok-number.ensures in
    let some : 1 ≤ c.in_ok-number.number = omega (arith, c.if-number-eq0.false) in
    rw p.1 (taking (ap (λ (b : Bool). not b) (is_some_meter there some))
    (unreserved w (world_of c.reserve.new.self) _ p.0 c.requires.bounds c.reserve.ensures.world (ap is_ok (activates_meter r there c.args.index some))
    (ap (λ (f : StepFault). Err f) p.2 ∙ c.in_err-reserve.ensures.err)))

pub eui-eui-requires-clause-there : goal.eui-eui-requires-clause-there
eui-eui-requires-clause-there c =
    let there = is_there (world_of c.args.self.now) c.args.node c.in_ok-number.number c.in_ok-number.ensures in
    subst (λ (it : World). c.in_ok-number.number < length it.nodes) (sym c.reserve.ensures.world) there.within

pub returns : goal.returns
returns c =
    let w = world_of c.args.self.now in
    let kept = world_of c.reserve.new.self in
    let same : kept ≡ w = c.reserve.ensures.world in
    let r : Runs kept = still_runs same (record {
      begun = (has_coordinator (world_of c.args.self.now) c.args.node c.in_ok-number.number c.in_ok-number.ensures);
      bounds = c.requires.bounds;
      room = c.requires.events;
    }) in
    let there : IsThere kept c.args.node c.in_ok-number.number =
    subst (λ (it : World). IsThere it c.args.node c.in_ok-number.number) (sym same) (is_there w c.args.node c.in_ok-number.number c.in_ok-number.ensures) in
    let some : 1 ≤ c.in_ok-number.number = omega (arith, c.if-number-eq0.false) in
    let eui = of_found there (λ (x : Node). c.eui-eui.result ≡ x.eui) c.eui-eui.ensures in
    let first = first_there kept r.begun in
    taking (ap (λ (b : Bool). not b) (is_some_meter there some)) (reserved kept w (λ it. activate network it c.args.node c.args.index) same
    (steps_as _ _ (activates_meter r there c.args.index some
    ∙ ap (λ e. Ok (by_coordinator network kept first.node answers.Ordered (λ k. coordinators.activate k e c.args.index kept.clock))) (sym eui))
    (node_acted true kept _ first (λ x. acts x (Err orders.Halted) (λ k. coordinators.activate k c.eui-eui.result c.args.index kept.clock))
    (ordered_word answers.Ordered) _ _ _ _
    r.bounds r.room c.node_outcome.ensures.frames c.node_outcome.ensures.tags c.activate-done.ensures
    (said_with kept _ _ _ _ c.node_outcome.ensures.reported c.ordered_word-2.ensures)
    c.node_outcome.ensures.world)))
