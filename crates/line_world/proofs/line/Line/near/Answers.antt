-- Two nodes are made neighbours.
use Rattle.std.proofs.Common.{◌≡◌, ℕ, ◌<◌, length, false, Result, Ok, Err, ap, subst, sym, ◌∙◌, refl}
use Rattle.line_events.specs.declared.event.StepFault.{StepFault}
use Rattle.std.proofs.lemmas.Result.{err_from_is_err_and}
use Rattle.std.specs.Prelude.{IfSome, slice_get}
use Rattle.node_rules.specs.declared.refusal.PresetFault.{PresetFault}
use Rattle.node_rules.specs.Calls as calls
use Rattle.node_rules.specs.CarriedPlans.{nothing}
use Rattle.node_rules.specs.Ciphers.{network}
use Rattle.node_rules.specs.Memory.{Node}
use Rattle.node_rules.specs.NodeSteps.{NodeStep, acts, of_station}
use Rattle.line_world.specs.NodeOutcomes.{Did}
use Rattle.line_events.specs.declared.event.StepFault.TheVariants as faults
use Rattle.line_events.specs.declared.event.Answer.TheVariants as answers
use Rattle.line_rules.specs.Steps.{near, happenings, set_up}
use Rattle.line_world.specs.declared.line.Line.{Line}
use Rattle.line_world.specs.Lines.{world_of}
use Rattle.line_world.specs.Steps.{Steps}
use Rattle.line_world.proofs.EventSteps.{is_there, refused}
use Rattle.line_world.proofs.SetupSteps.{no_setup, near_first, near_second, have_addresses, near_itself, near_full, near_done, near_long, no_such_node}
use Rattle.line_world.proofs.SetupSteps.{no_such_second}
use Rattle.line_world.proofs.line.Line.near.Goals as goal

pub returns-then-not-takes_setup : goal.returns-then-not-takes_setup
unfolding near
returns-then-not-takes_setup c = refused faults.Setup refl _ _ _ c.requires.bounds (no_setup (world_of c.args.self.now) _ c.if-not-takes_setup.ensures)

pub returns-in_err-x : goal.returns-in_err-x
unfolding near
returns-in_err-x c =
    let p = err_from_is_err_and c.from_residual.result c.from_residual.ensures.1 in
    rw p.1 (no_such_node (world_of c.args.self.now) c.args.a _ p.0 c.requires.bounds c.if-not-takes_setup.ensures
    (ap (λ (f : StepFault). Err f) p.2 ∙ c.in_err-x.ensures))

pub returns-in_err-y : goal.returns-in_err-y
unfolding near
returns-in_err-y c =
    let p = err_from_is_err_and c.from_residual-in_err-y.result c.from_residual-in_err-y.ensures.1 in
    rw p.1 (no_such_second (world_of c.args.self.now) c.args.a c.in_ok-x.x c.args.b _ p.0 c.requires.bounds c.if-not-takes_setup.ensures c.in_ok-x.ensures
    (ap (λ (f : StepFault). Err f) p.2 ∙ c.in_err-y.ensures))

pub address-requires : goal.address-requires
address-requires c =
    let w = world_of c.args.self.now in
    record { there = (is_there w c.args.a c.in_ok-x.x c.in_ok-x.ensures).within }

pub returns-in_default : goal.returns-in_default
returns-in_default c =
    let w = world_of c.args.self.now in
    let there = is_there w c.args.a c.in_ok-x.x c.in_ok-x.ensures in
    let here = is_there w c.args.b c.in_ok-y.y c.in_ok-y.ensures in
    refused faults.Setup refl _ _ _ c.requires.bounds
    (near_first there here c.args.cost c.address.result c.if-not-takes_setup.ensures c.address.ensures c.in_default.is)

pub address-requires-2 : goal.address-requires-2
address-requires-2 c =
    let w = world_of c.args.self.now in
    record { there = (is_there w c.args.b c.in_ok-y.y c.in_ok-y.ensures).within }

pub returns-in_default-address : goal.returns-in_default-address
returns-in_default-address c =
    let w = world_of c.args.self.now in
    let there = is_there w c.args.a c.in_ok-x.x c.in_ok-x.ensures in
    let here = is_there w c.args.b c.in_ok-y.y c.in_ok-y.ensures in
    refused faults.Setup refl _ _ _ c.requires.bounds
    (near_second there here c.args.cost c.in-Some.p c.address.result c.address-2.result c.if-not-takes_setup.ensures c.address.ensures c.in-Some.is
    c.address-2.ensures
    c.in_default-address.is)

pub returns-then-a-b : goal.returns-then-a-b
returns-then-a-b c =
    let w = world_of c.args.self.now in
    let there = is_there w c.args.a c.in_ok-x.x c.in_ok-x.ensures in
    let here = is_there w c.args.b c.in_ok-y.y c.in_ok-y.ensures in
    refused faults.Setup refl _ _ _ c.requires.bounds
    (near_itself there here c.args.cost c.in-Some.p c.in-Some-address.q c.if-not-takes_setup.ensures
    (have_addresses there here c.in-Some.p c.in-Some-address.q c.address.result c.address-2.result c.address.ensures c.in-Some.is c.address-2.ensures
    c.in-Some-address.is)
    c.if-a-b.true)

pub can_meet-requires-clause-x : goal.can_meet-requires-clause-x
can_meet-requires-clause-x c =
    let w = world_of c.args.self.now in
    (is_there w c.args.a c.in_ok-x.x c.in_ok-x.ensures).within

pub can_meet-requires-clause-y : goal.can_meet-requires-clause-y
can_meet-requires-clause-y c =
    let w = world_of c.args.self.now in
    (is_there w c.args.b c.in_ok-y.y c.in_ok-y.ensures).within

pub returns-then-not-can_meet : goal.returns-then-not-can_meet
returns-then-not-can_meet c =
    let w = world_of c.args.self.now in
    let there = is_there w c.args.a c.in_ok-x.x c.in_ok-x.ensures in
    let here = is_there w c.args.b c.in_ok-y.y c.in_ok-y.ensures in
    subst (λ (l : Line). Steps false w (Err faults.Setup) (world_of l) (near network w c.args.a c.args.b c.args.cost)) (sym c.can_meet.ensures.same)
    (refused faults.Setup refl _ _ _ c.requires.bounds
    (near_full there here c.args.cost c.in-Some.p c.in-Some-address.q c.can_meet.result c.if-not-takes_setup.ensures
    (have_addresses there here c.in-Some.p c.in-Some-address.q c.address.result c.address-2.result c.address.ensures c.in-Some.is c.address-2.ensures
    c.in-Some-address.is)
    c.can_meet.ensures.value c.if-not-can_meet.true))

pub preset_near-requires : goal.preset_near-requires
preset_near-requires c =
    let w = world_of c.args.self.now in
    record {
      there = subst (λ (l : Line). c.in_ok-x.x < length l.nodes) (sym c.can_meet.ensures.same)
          (is_there w c.args.a c.in_ok-x.x c.in_ok-x.ensures).within;
    }

-- what a node is offered
abbrev offers : Node → (to cost now : ℕ) → NodeStep (Result (Unit {0}) PresetFault)
offers n to cost now = acts n (Ok tt) (λ m. of_station m (calls.preset_near m.station to cost now))

pub preset_near-requires-2 : goal.preset_near-requires-2
preset_near-requires-2 c =
    let w = world_of c.args.self.now in
    let there = is_there w c.args.a c.in_ok-x.x c.in_ok-x.ensures in
    let here = is_there w c.args.b c.in_ok-y.y c.in_ok-y.ensures in
    let first =
    subst (λ (l : Line). IfSome (slice_get l.nodes c.in_ok-x.x)
    (λ n. Did (offers n c.in-Some-address.q c.args.cost l.clock) l.nodes c.in_ok-x.x c.preset_near.result nothing
    c.preset_near.new.self)) c.can_meet.ensures.same c.preset_near.ensures in
    let long : length c.preset_near.new.self
    ≡ length w.nodes = near_long there c.args.cost c.in-Some-address.q c.preset_near.result c.preset_near.new.self first in
    record { there = subst (λ n. c.in_ok-y.y < n) (sym long) here.within }

pub returns : goal.returns
returns c =
    let w = world_of c.args.self.now in
    let there = is_there w c.args.a c.in_ok-x.x c.in_ok-x.ensures in
    let here = is_there w c.args.b c.in_ok-y.y c.in_ok-y.ensures in
    let first =
    subst (λ (l : Line). IfSome (slice_get l.nodes c.in_ok-x.x)
    (λ n. Did (offers n c.in-Some-address.q c.args.cost l.clock) l.nodes c.in_ok-x.x c.preset_near.result nothing
    c.preset_near.new.self)) c.can_meet.ensures.same c.preset_near.ensures in
    let second =
    subst (λ (l : Line). IfSome (slice_get c.preset_near.new.self c.in_ok-y.y)
    (λ n. Did (offers n c.in-Some.p c.args.cost l.clock) c.preset_near.new.self c.in_ok-y.y
    c.preset_near-2.result nothing c.preset_near-2.new.self)) c.can_meet.ensures.same c.preset_near-2.ensures in
    near_done _ there here c.args.cost c.in-Some.p c.in-Some-address.q c.can_meet.result c.preset_near.result c.preset_near-2.result c.preset_near.new.self
    c.preset_near-2.new.self _
    c.requires.bounds c.requires.events c.if-not-takes_setup.ensures
    (have_addresses there here c.in-Some.p c.in-Some-address.q c.address.result c.address-2.result c.address.ensures c.in-Some.is c.address-2.ensures
    c.in-Some-address.is)
    c.if-a-b.false c.can_meet.ensures.value c.if-not-can_meet.false first second
    (c.happenings.ensures ∙ ap (λ (l : Line). happenings (world_of l) answers.Set) c.set_up.ensures
    ∙ ap (λ (l : Line). happenings (world_of l) answers.Set) c.can_meet.ensures.same)
    (ap world_of c.set_up.ensures ∙ ap (λ (l : Line). record (set_up (world_of l)) { nodes = c.preset_near-2.new.self }) c.can_meet.ensures.same)
