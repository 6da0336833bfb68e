-- A meter begins to join by an agent that it heard.
use Rattle.std.proofs.Common.{rules, ◌≡◌, ◌∙◌, ◌<◌, ℕ, true, false, not, List, length, Option, Some, Ok, Err, sym, ap, subst}
use Rattle.std.specs.Prelude.{IfSome, is_ok, is_some, slice_get}
use Rattle.std.proofs.lemmas.Result.{err_from_is_err_and}
use Rattle.plc_base.specs.declared.key.Key.{Key}
use Rattle.pan_discovery.specs.Agents.{kth_of}
use Rattle.node_rules.specs.Ciphers.{network}
use Rattle.node_rules.specs.Memory.{Node, node_address}
use Rattle.reach_rules.specs.declared.refusal.ChooseRefusal.TheVariants as choices
use Rattle.reach_rules.specs.ReachingNodes.{Beside}
use Rattle.line_events.specs.declared.event.StepFault.{StepFault}
use Rattle.line_rules.specs.Further.{beside_at, choose, chooses_by}
use Rattle.line_rules.specs.Steps.{psk_of, running_world}
use Rattle.line_rules.specs.Worlds.{World}
use Rattle.line_world.specs.Discovery.{joins_in}
use Rattle.line_world.specs.Lines.{world_of}
use Rattle.line_world.specs.Steps.{Steps}
use Rattle.line_world.proofs.FurtherCalls.{beside_found}
use Rattle.line_world.proofs.Discoveries.{address_in, below_in, choice_halted, choice_joined, choice_joins, choice_nobody, choice_refused, choose_at, joined_in}
use Rattle.line_world.proofs.Discoveries.{memory_in, none_in}
use Rattle.line_world.proofs.Orders.{IsMeter, Runs, is_meter, meter_begun, meter_not_found, of_found, reserved, still_runs}
use Rattle.line_world.proofs.EventSteps.{steps_as, unreserved}
use Rattle.line_world.proofs.line.Line.choose.Goals as goal

pub returns-in_err-number : goal.returns-in_err-number
unfolding choose
returns-in_err-number c =
    let p = err_from_is_err_and c.from_residual.result c.from_residual.ensures.1 in
    rw p.1 (meter_not_found true (world_of c.args.self.now) c.args.node _ p.0 c.requires.bounds (ap (λ (f : StepFault). Err f) p.2 ∙ c.in_err-number.ensures))

pub returns-in_err-reserve : goal.returns-in_err-reserve
returns-in_err-reserve c =
    let w = world_of c.args.self.now in
    let p = err_from_is_err_and c.from_residual-in_err-reserve.result c.from_residual-in_err-reserve.ensures.1 in
    let number = c.in_ok-number.number in
    let r : Runs w = record { begun = meter_begun w c.args.node number c.in_ok-number.ensures; bounds = c.requires.bounds; room = c.requires.events } in
    rw p.1 (unreserved w (world_of c.reserve.new.self) _ p.0 c.requires.bounds c.reserve.ensures.world
    (ap is_ok (choose_at r (is_meter w c.args.node number c.in_ok-number.ensures) c.args.k))
    (ap (λ (f : StepFault). Err f) p.2 ∙ c.in_err-reserve.ensures.err))

pub psk-psk-requires-clause-there : goal.psk-psk-requires-clause-there
psk-psk-requires-clause-there c =
    subst (λ (it : World). c.in_ok-number.number < length it.nodes) (sym c.reserve.ensures.world)
    (is_meter (world_of c.args.self.now) c.args.node c.in_ok-number.number c.in_ok-number.ensures).there.within

pub halted-requires : goal.halted-requires
halted-requires c =
    record {
      there = subst (λ (it : World). c.in_ok-number.number < length it.nodes) (sym c.reserve.ensures.world)
          (is_meter (world_of c.args.self.now) c.args.node c.in_ok-number.number c.in_ok-number.ensures).there.within;
    }

-- the meter that was found, in the world after memory was reserved
record Found (w : World) (node number : ℕ) (psk : Key) : Type 0 where
  meter : IsMeter w node number
  runs : Runs w
  key : psk_of meter.there.node ≡ Some psk
  at : slice_get w.nodes node ≡ Some meter.there.node

found_so : (w kept : World) (node number : ℕ) (psk : Key) → kept ≡ w → IsMeter w node number → Runs w
    → IfSome (slice_get kept.nodes number) (λ x. psk_of x ≡ Some psk) → Found kept node number psk
found_so w kept node number psk same m runs key =
    let meter : IsMeter kept node number = subst (λ (it : World). IsMeter it node number) (sym same) m in
    record { meter = meter; runs = still_runs same runs; key = of_found meter.there (λ (x : Node). psk_of x ≡ Some psk) key; at = meter.there.at }

-- the rule of it
chooses_so : {w : World} {node number : ℕ} {psk : Key} (f : Found w node number psk) (k : ℕ)
    → choose network w node k ≡ Ok (chooses_by network w node f.meter.there.node k (Some psk))
chooses_so {w} {node} {number} f k =
    let key = f.key in
    choose_at f.runs f.meter k ∙ (λ i. Ok (chooses_by network w node f.meter.there.node k (key i)))

pub returns-then-halted : goal.returns-then-halted
returns-then-halted c =
    let w = world_of c.args.self.now in
    let kept = world_of c.reserve.new.self in
    let same : kept ≡ w = c.reserve.ensures.world in
    let node = c.args.node in
    let number = c.in_ok-number.number in
    let r : Runs w = record { begun = meter_begun w node number c.in_ok-number.ensures; bounds = c.requires.bounds; room = c.requires.events } in
    let f : Found kept node number c.psk-psk.result = found_so w kept node number c.psk-psk.result same (is_meter w node number c.in_ok-number.ensures) r
    c.psk-psk.ensures in
    let x = f.meter.there.node in
    let none = none_in x.memory (of_found f.meter.there (λ (y : Node). true ≡ not (is_some y.memory)) c.if-halted.ensures.value) in
    reserved kept w (λ it. choose network it node c.args.k) same
    (steps_as _ _ (chooses_so f c.args.k)
    (choice_halted kept _ node x c.args.k c.psk-psk.result _ f.at none f.runs.bounds f.runs.room c.answered.ensures.reported
    (ap world_of c.answered.ensures.line ∙ (λ i. record (running_world kept) { nodes = c.if-halted.ensures.same i }))))

pub address-requires : goal.address-requires
address-requires c =
    record {
      there = subst (λ (ns : List Node). c.in_ok-number.number < length ns) (sym c.if-halted.ensures.same)
          (subst (λ (it : World). c.in_ok-number.number < length it.nodes) (sym c.reserve.ensures.world)
          (is_meter (world_of c.args.self.now) c.args.node c.in_ok-number.number c.in_ok-number.ensures).there.within);
    }

pub returns-then-is_some : goal.returns-then-is_some
returns-then-is_some c =
    let w = world_of c.args.self.now in
    let kept = world_of c.reserve.new.self in
    let same : kept ≡ w = c.reserve.ensures.world in
    let node = c.args.node in
    let number = c.in_ok-number.number in
    let r : Runs w = record { begun = meter_begun w node number c.in_ok-number.ensures; bounds = c.requires.bounds; room = c.requires.events } in
    let f : Found kept node number c.psk-psk.result = found_so w kept node number c.psk-psk.result same (is_meter w node number c.in_ok-number.ensures) r
    c.psk-psk.ensures in
    let x = f.meter.there.node in
    let m = memory_in x.memory (of_found f.meter.there (λ (y : Node). false ≡ not (is_some y.memory)) c.if-halted.ensures.value) in
    let at = address_in x m.0 c.address.result m.1
    (of_found f.meter.there (λ (y : Node). c.address.result ≡ node_address y)
    (subst (λ (ns : List Node). IfSome (slice_get ns number) (λ y. c.address.result ≡ node_address y)) c.if-halted.ensures.same c.address.ensures)) in
    let joined = joined_in m.0 c.address.result at ∙ sym c.if-is_some.ensures in
    reserved kept w (λ it. choose network it node c.args.k) same
    (steps_as _ _ (chooses_so f c.args.k)
    (choice_refused kept node x c.args.k c.psk-psk.result m.0 f.at m.1 _ _ choices.AlreadyJoined f.runs.bounds f.runs.room
    (choice_joined kept node x c.args.k c.psk-psk.result m.0 f.at m.1 joined) c.answered-then-is_some.ensures.reported
    (ap world_of c.answered-then-is_some.ensures.line ∙ (λ i. record (running_world kept) { nodes = c.if-halted.ensures.same i }))))

pub index-requires : goal.index-requires
index-requires c =
    let w = world_of c.args.self.now in
    let number = c.in_ok-number.number in
    let below : number < length c.reserve.new.self.beside.items =
    subst (λ (it : World). number < length it.beside) (sym c.reserve.ensures.world)
    (subst (λ (n : ℕ). number < n) (sym c.requires.beside) (is_meter w c.args.node number c.in_ok-number.ensures).there.within) in
    search rules

pub returns-in_default : goal.returns-in_default
returns-in_default c =
    let w = world_of c.args.self.now in
    let kept = world_of c.reserve.new.self in
    let same : kept ≡ w = c.reserve.ensures.world in
    let node = c.args.node in
    let number = c.in_ok-number.number in
    let r : Runs w = record { begun = meter_begun w node number c.in_ok-number.ensures; bounds = c.requires.bounds; room = c.requires.events } in
    let f : Found kept node number c.psk-psk.result = found_so w kept node number c.psk-psk.result same (is_meter w node number c.in_ok-number.ensures) r
    c.psk-psk.ensures in
    let x = f.meter.there.node in
    let m = memory_in x.memory (of_found f.meter.there (λ (y : Node). false ≡ not (is_some y.memory)) c.if-halted.ensures.value) in
    let at = address_in x m.0 c.address.result m.1
    (of_found f.meter.there (λ (y : Node). c.address.result ≡ node_address y)
    (subst (λ (ns : List Node). IfSome (slice_get ns number) (λ y. c.address.result ≡ node_address y)) c.if-halted.ensures.same c.address.ensures)) in
    let apart = joined_in m.0 c.address.result at ∙ sym c.if-is_some.ensures in
    let within : number < length kept.beside =
    subst (λ (it : World). number < length it.beside) (sym same)
    (subst (λ (n : ℕ). number < n) (sym c.requires.beside) (is_meter w node number c.in_ok-number.ensures).there.within) in
    let b = c.behind-self.inside in
    let held : record { checks = b.checks; log = b.log; scan = b.scan } ≡ beside_at kept node =
    c.behind-self.view_is ∙ beside_found kept.beside number c.index.result.now within c.index.ensures ∙ ap (beside_at kept) f.meter.there.same in
    let none = c.in_default.ensures.value ∙ ap (λ (y : Beside). kth_of y.scan.agents c.args.k) held in
    let answered = c.answered-in_default in
    reserved kept w (λ it. choose network it node c.args.k) same
    (steps_as _ _ (chooses_so f c.args.k)
    (choice_refused kept node x c.args.k c.psk-psk.result m.0 f.at m.1 _ _ choices.NoBeacon f.runs.bounds f.runs.room
    (choice_nobody kept node x c.args.k c.psk-psk.result m.0 f.at m.1 apart none) answered.ensures.reported
    (ap world_of answered.ensures.line ∙ (λ i. record (running_world kept) { nodes = c.if-halted.ensures.same i }))))

pub join_by-requires-clause-there : goal.join_by-requires-clause-there
join_by-requires-clause-there c =
    subst (λ (ns : List Node). c.in_ok-number.number < length ns) (sym c.if-halted.ensures.same)
    (subst (λ (it : World). c.in_ok-number.number < length it.nodes) (sym c.reserve.ensures.world)
    (is_meter (world_of c.args.self.now) c.args.node c.in_ok-number.number c.in_ok-number.ensures).there.within)

pub returns : goal.returns
returns c =
    let w = world_of c.args.self.now in
    let kept = world_of c.reserve.new.self in
    let same : kept ≡ w = c.reserve.ensures.world in
    let node = c.args.node in
    let number = c.in_ok-number.number in
    let psk = c.psk-psk.result in
    let r : Runs w = record { begun = meter_begun w node number c.in_ok-number.ensures; bounds = c.requires.bounds; room = c.requires.events } in
    let f : Found kept node number psk = found_so w kept node number psk same (is_meter w node number c.in_ok-number.ensures) r c.psk-psk.ensures in
    let x = f.meter.there.node in
    let m = memory_in x.memory (of_found f.meter.there (λ (y : Node). false ≡ not (is_some y.memory)) c.if-halted.ensures.value) in
    let at = address_in x m.0 c.address.result m.1
    (of_found f.meter.there (λ (y : Node). c.address.result ≡ node_address y)
    (subst (λ (ns : List Node). IfSome (slice_get ns number) (λ y. c.address.result ≡ node_address y)) c.if-halted.ensures.same c.address.ensures)) in
    let apart = joined_in m.0 c.address.result at ∙ sym c.if-is_some.ensures in
    let within : number < length kept.beside =
    subst (λ (it : World). number < length it.beside) (sym same)
    (subst (λ (n : ℕ). number < n) (sym c.requires.beside) (is_meter w node number c.in_ok-number.ensures).there.within) in
    let b = c.behind-self.inside in
    let held : record { checks = b.checks; log = b.log; scan = b.scan } ≡ beside_at kept node =
    c.behind-self.view_is ∙ beside_found kept.beside number c.index.result.now within c.index.ensures ∙ ap (beside_at kept) f.meter.there.same in
    let agent = c.in-Some.agent in
    let some = c.in-Some.ensures.value ∙ ap (λ (y : Beside). kth_of y.scan.agents c.args.k) held in
    let new = world_of c.join_by.new.self in
    let result = c.join_by.result in
    let joined = subst (λ (it : World). IfSome (slice_get it.nodes number)
    (λ y. IfSome (psk_of y) (λ key. Steps true it (Ok result) new (Ok (joins_in it number y key agent.0 agent.1)))))
    (λ i. record kept { nodes = c.if-halted.ensures.same i }) c.join_by.ensures in
    let by_key : Steps true kept (Ok result) new (Ok (joins_in kept number x psk agent.0 agent.1)) =
    subst (λ (o : Option Key). IfSome o (λ key. Steps true kept (Ok result) new (Ok (joins_in kept number x key agent.0 agent.1)))) f.key
    (of_found f.meter.there (λ (y : Node). IfSome (psk_of y) (λ key. Steps true kept (Ok result) new (Ok (joins_in kept number y key agent.0 agent.1))))
    joined) in
    let below = below_in kept.nodes node x m.0 c.short_tables.ensures.counters f.at m.1 in
    reserved kept w (λ it. choose network it node c.args.k) same
    (steps_as _ _ (chooses_so f c.args.k ∙ sym (ap Ok (choice_joins kept node x c.args.k psk m.0 f.at m.1 agent.0 agent.1 apart some below))
    ∙ ap (λ (n : ℕ). Ok (joins_in kept n x psk agent.0 agent.1)) (sym f.meter.there.same)) by_key)
