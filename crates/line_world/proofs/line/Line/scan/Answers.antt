-- A meter begins to scan.
use Rattle.std.proofs.Common.{◌≡◌, ◌∙◌, ◌<◌, ℕ, true, false, not, List, length, Option, Some, Ok, Err, sym, ap, subst}
use Rattle.std.specs.Prelude.{IfSome, is_ok, is_some, slice_get, slice_set}
use Rattle.std.proofs.lemmas.Result.{err_from_is_err_and}
use Rattle.pan_discovery.specs.History.{begun}
use Rattle.pan_discovery.specs.declared.message.Discovery.TheVariants as discoveries
use Rattle.node_rules.specs.Memory.{Memory, Node, node_address}
use Rattle.reach_rules.specs.declared.refusal.ScanRefusal.TheVariants as scan_faults
use Rattle.reach_rules.specs.Beacons.{begin_scan}
use Rattle.line_events.specs.declared.event.Answer.TheVariants as answers
use Rattle.line_events.specs.declared.event.StepFault.{StepFault}
use Rattle.line_rules.specs.Answers.{scan_word}
use Rattle.line_rules.specs.Further.{beside_at, scan, scanning, scans_by, set_beside}
use Rattle.line_rules.specs.Steps.{running_world}
use Rattle.line_rules.specs.Worlds.{World}
use Rattle.line_world.specs.Discovery.{flies_in}
use Rattle.line_world.specs.Lines.{world_of}
use Rattle.line_world.proofs.FurtherCalls.{beside_found}
use Rattle.line_world.proofs.Discoveries.{address_in, discovery_sends, discovery_stays, joined_in, memory_in, none_in, scan_at, scan_begins, scan_joined}
use Rattle.line_world.proofs.Orders.{IsMeter, Runs, is_meter, meter_begun, meter_not_found, of_found, only_said, reserved, still_runs}
use Rattle.line_world.proofs.EventSteps.{steps_as, unreserved}
use Rattle.line_world.proofs.line.Line.scan.Goals as goal

pub returns-in_err-number : goal.returns-in_err-number
unfolding scan
returns-in_err-number c =
    let p = err_from_is_err_and c.from_residual.result c.from_residual.ensures.1 in
    rw p.1 (meter_not_found true (world_of c.args.self.now) c.args.node _ p.0 c.requires.bounds (ap (λ (f : StepFault). Err f) p.2 ∙ c.in_err-number.ensures))

pub returns-in_err-reserve : goal.returns-in_err-reserve
returns-in_err-reserve c =
    let w = world_of c.args.self.now in
    let p = err_from_is_err_and c.from_residual-in_err-reserve.result c.from_residual-in_err-reserve.ensures.1 in
    let number = c.in_ok-number.number in
    let r : Runs w = record { begun = meter_begun w c.args.node number c.in_ok-number.ensures; bounds = c.requires.bounds; room = c.requires.events } in
    rw p.1 (unreserved w (world_of c.reserve.new.self) _ p.0 c.requires.bounds c.reserve.ensures.world
    (ap is_ok (scan_at r (is_meter w c.args.node number c.in_ok-number.ensures)))
    (ap (λ (f : StepFault). Err f) p.2 ∙ c.in_err-reserve.ensures.err))

pub halted-requires : goal.halted-requires
halted-requires c =
    record {
      there = subst (λ (it : World). c.in_ok-number.number < length it.nodes) (sym c.reserve.ensures.world)
          (is_meter (world_of c.args.self.now) c.args.node c.in_ok-number.number c.in_ok-number.ensures).there.within;
    }

pub returns-then-halted : goal.returns-then-halted
returns-then-halted c =
    let w = world_of c.args.self.now in
    let kept = world_of c.reserve.new.self in
    let same : kept ≡ w = c.reserve.ensures.world in
    let number = c.in_ok-number.number in
    let m : IsMeter kept c.args.node number = subst (λ (it : World). IsMeter it c.args.node number) (sym same)
    (is_meter w c.args.node number c.in_ok-number.ensures) in
    let r : Runs kept = still_runs same
    (record { begun = meter_begun w c.args.node number c.in_ok-number.ensures; bounds = c.requires.bounds; room = c.requires.events }) in
    let none = none_in m.there.node.memory (of_found m.there (λ (x : Node). true ≡ not (is_some x.memory)) c.if-halted.ensures.value) in
    reserved kept w (λ it. scan it c.args.node) same
    (steps_as _ _ (scan_at r m ∙ ap (λ (o : Option Memory). Ok (scans_by kept c.args.node o)) none)
    (only_said true kept _ answers.Halted _ r.bounds r.room c.answered.ensures.reported
    (ap world_of c.answered.ensures.line ∙ (λ i. record (running_world kept) { nodes = c.if-halted.ensures.same i }))))

pub address-requires : goal.address-requires
address-requires c =
    record {
      there = subst (λ (ns : List Node). c.in_ok-number.number < length ns) (sym c.if-halted.ensures.same)
          (subst (λ (it : World). c.in_ok-number.number < length it.nodes) (sym c.reserve.ensures.world)
          (is_meter (world_of c.args.self.now) c.args.node c.in_ok-number.number c.in_ok-number.ensures).there.within);
    }

pub returns-then-is_some : goal.returns-then-is_some
returns-then-is_some c =
    let w = world_of c.args.self.now in
    let kept = world_of c.reserve.new.self in
    let same : kept ≡ w = c.reserve.ensures.world in
    let number = c.in_ok-number.number in
    let m : IsMeter kept c.args.node number = subst (λ (it : World). IsMeter it c.args.node number) (sym same)
    (is_meter w c.args.node number c.in_ok-number.ensures) in
    let r : Runs kept = still_runs same
    (record { begun = meter_begun w c.args.node number c.in_ok-number.ensures; bounds = c.requires.bounds; room = c.requires.events }) in
    let k = memory_in m.there.node.memory (of_found m.there (λ (x : Node). false ≡ not (is_some x.memory)) c.if-halted.ensures.value) in
    let at = address_in m.there.node k.0 c.address.result k.1
    (of_found m.there (λ (x : Node). c.address.result ≡ node_address x)
    (subst (λ (ns : List Node). IfSome (slice_get ns number) (λ x. c.address.result ≡ node_address x)) c.if-halted.ensures.same c.address.ensures)) in
    let joined = joined_in k.0 c.address.result at ∙ sym c.if-is_some.ensures in
    reserved kept w (λ it. scan it c.args.node) same
    (steps_as _ _ (scan_at r m ∙ ap (λ (o : Option Memory). Ok (scans_by kept c.args.node o)) k.1)
    (discovery_stays kept _ c.args.node scan_word (scanning c.args.node) (begin_scan k.0 (beside_at kept c.args.node).scan) _ r.bounds r.room
    (Err scan_faults.AlreadyJoined)
    (scan_joined k.0 (beside_at kept c.args.node).scan joined) c.answered-then-is_some.ensures.reported
    (ap world_of c.answered-then-is_some.ensures.line ∙ (λ i. record (running_world kept) { nodes = c.if-halted.ensures.same i }))))

pub discovery_flies-requires-clause-there : goal.discovery_flies-requires-clause-there
discovery_flies-requires-clause-there c =
    subst (λ (ns : List Node). c.in_ok-number.number < length ns) (sym c.if-halted.ensures.same)
    (subst (λ (it : World). c.in_ok-number.number < length it.nodes) (sym c.reserve.ensures.world)
    (is_meter (world_of c.args.self.now) c.args.node c.in_ok-number.number c.in_ok-number.ensures).there.within)

pub returns : goal.returns
returns c =
    let w = world_of c.args.self.now in
    let kept = world_of c.reserve.new.self in
    let same : kept ≡ w = c.reserve.ensures.world in
    let number = c.in_ok-number.number in
    let node = c.args.node in
    let m : IsMeter kept node number = subst (λ (it : World). IsMeter it node number) (sym same) (is_meter w node number c.in_ok-number.ensures) in
    let r : Runs kept = still_runs same
    (record { begun = meter_begun w node number c.in_ok-number.ensures; bounds = c.requires.bounds; room = c.requires.events }) in
    let k = memory_in m.there.node.memory (of_found m.there (λ (x : Node). false ≡ not (is_some x.memory)) c.if-halted.ensures.value) in
    let at = address_in m.there.node k.0 c.address.result k.1
    (of_found m.there (λ (x : Node). c.address.result ≡ node_address x)
    (subst (λ (ns : List Node). IfSome (slice_get ns number) (λ x. c.address.result ≡ node_address x)) c.if-halted.ensures.same c.address.ensures)) in
    let apart = joined_in k.0 c.address.result at ∙ sym c.if-is_some.ensures in
    let within : number < length kept.beside =
    subst (λ (it : World). number < length it.beside) (sym same)
    (subst (λ (n : ℕ). number < n) (sym c.requires.beside) (is_meter w node number c.in_ok-number.ensures).there.within) in
    let b = c.behind-self.inside in
    let held : record { checks = b.checks; log = b.log; scan = b.scan } ≡ beside_at kept number =
    c.behind-self.view_is ∙ beside_found kept.beside number c.index_mut.result.now within c.index_mut.ensures.value in
    let request = discoveries.Request 0 in
    reserved kept w (λ it. scan it node) same
    (steps_as _ _ (scan_at r m ∙ ap (λ (o : Option Memory). Ok (scans_by kept node o)) k.1)
    (discovery_sends kept _ node scan_word (scanning node) (begin_scan k.0 (beside_at kept node).scan) _ r.bounds r.room (Ok tt) begun request
    (scan_begins k.0 (beside_at kept node).scan apart) c.discovery_flies.ensures.reported
    (c.discovery_flies.ensures.world
    ∙ (λ i. flies_in (record kept {
      nodes = c.if-halted.ensures.same i;
      beside = slice_set kept.beside number (record (held i) { scan = c.begin.ensures.value i });
    }) number (Some request))
    ∙ ap (λ (n : ℕ). set_beside n (record (beside_at kept n) { scan = begun }) (flies_in kept n (Some request))) m.there.same)))
