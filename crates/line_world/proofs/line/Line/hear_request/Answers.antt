-- A request is answered by a node that has an address.
use Rattle.std.proofs.Common.{◌≡◌, ◌∙◌, ℕ, true, Option, Some, None, Ok, Err, ap}
use Rattle.std.specs.Option.{option_and_then}
use Rattle.plc_base.specs.declared.address.TheConstants.{PAN}
use Rattle.pan_discovery.specs.History.{Scanned}
use Rattle.pan_discovery.specs.declared.message.Discovery.{Discovery}
use Rattle.pan_discovery.specs.declared.message.Discovery.TheVariants as discoveries
use Rattle.node_rules.specs.Memory.{Memory, Node, node_address}
use Rattle.reach_rules.specs.declared.heard.DiscoveryHeard.TheVariants as discovered
use Rattle.reach_rules.specs.declared.refusal.DiscoveryDropped.TheVariants as drops
use Rattle.reach_rules.specs.Beacons.{cost_to_coordinator, hear_request}
use Rattle.line_rules.specs.Answers.{discovery_word}
use Rattle.line_rules.specs.Further.{beacon_taken, beside_at}
use Rattle.line_rules.specs.Steps.{running_world}
use Rattle.line_world.specs.Discovery.{discovers_in, flies_in}
use Rattle.line_world.specs.Lines.{world_of}
use Rattle.line_world.specs.Steps.{Steps}
use Rattle.line_world.proofs.Discoveries.{address_in, at_number, by_memory, cost_in, discovery_sends, discovery_stays, request_answered, request_elsewhere}
use Rattle.line_world.proofs.Discoveries.{request_routeless, scan_stays}
use Rattle.line_world.proofs.line.Line.hear_request.Goals as goal

pub returns-in_default : goal.returns-in_default
returns-in_default c =
    let w = world_of c.args.self.now in
    let node = c.args.node in
    let scan : Scanned = (beside_at w node).scan in
    by_memory w.nodes node
    (λ x m. (seq : ℕ) → Steps true w (Ok c.answered.result) (world_of c.answered.new.self)
    (Ok (discovers_in w node x.role m.station (Some (discoveries.Request seq)) 0)))
    (λ x m at here seq.
    discovery_stays w (world_of c.answered.new.self) node discovery_word (beacon_taken node (Some (discoveries.Request seq)) 0)
    (hear_request x.role m.station scan) c.answered.result
    c.requires.bounds c.requires.events (Err drops.NotForMe)
    (request_elsewhere x.role m.station scan
    (address_in x m None here (at_number _ x (λ (y : Node). ◌≡◌ {A = Option ℕ} None (node_address y)) at c.in_default.ensures)))
    c.answered.ensures.reported (ap world_of c.answered.ensures.line))

pub returns-in_default-cost_to_coordinator : goal.returns-in_default-cost_to_coordinator
returns-in_default-cost_to_coordinator c =
    let w = world_of c.args.self.now in
    let node = c.args.node in
    let scan : Scanned = (beside_at w node).scan in
    let answered = c.answered-in_default-cost_to_coordinator in
    by_memory w.nodes node
    (λ x m. (seq : ℕ) → Steps true w (Ok answered.result) (world_of answered.new.self)
    (Ok (discovers_in w node x.role m.station (Some (discoveries.Request seq)) 0)))
    (λ x m at here seq.
    discovery_stays w (world_of answered.new.self) node discovery_word (beacon_taken node (Some (discoveries.Request seq)) 0)
    (hear_request x.role m.station scan) answered.result
    c.requires.bounds c.requires.events (Err drops.NoRoute)
    (request_routeless x.role m.station scan c.in-Some.own
    (address_in x m (Some c.in-Some.own) here (at_number _ x (λ (y : Node). ◌≡◌ {A = Option ℕ} (Some c.in-Some.own) (node_address y)) at c.in-Some.ensures))
    (cost_in x m None here
    (at_number _ x (λ (y : Node). ◌≡◌ {A = Option ℕ} None (option_and_then (λ (k : Memory). cost_to_coordinator y.role k.station) y.memory)) at
    c.in_default-cost_to_coordinator.ensures.value)))
    answered.ensures.reported (ap world_of answered.ensures.line ∙ (λ i. record (running_world w) { nodes = c.cost_to_coordinator.ensures.same i })))

pub returns : goal.returns
returns c =
    let w = world_of c.args.self.now in
    let node = c.args.node in
    let scan : Scanned = (beside_at w node).scan in
    let own = c.in-Some.own in
    let cost = c.in-Some-cost_to_coordinator.cost in
    let beacon : Discovery = discoveries.Beacon 0 PAN own cost in
    let flown = c.discovery_flies in
    by_memory w.nodes node
    (λ x m. (seq : ℕ) → Steps true w (Ok flown.result) (world_of flown.new.self) (Ok (discovers_in w node x.role m.station (Some (discoveries.Request seq)) 0)))
    (λ x m at here seq.
    discovery_sends w (world_of flown.new.self) node discovery_word (beacon_taken node (Some (discoveries.Request seq)) 0) (hear_request x.role m.station scan)
    flown.result
    c.requires.bounds c.requires.events (Ok discovered.Beacon) scan beacon
    (request_answered x.role m.station scan own cost
    (address_in x m (Some own) here (at_number _ x (λ (y : Node). ◌≡◌ {A = Option ℕ} (Some own) (node_address y)) at c.in-Some.ensures))
    (cost_in x m (Some cost) here
    (at_number _ x (λ (y : Node). ◌≡◌ {A = Option ℕ} (Some cost) (option_and_then (λ (k : Memory). cost_to_coordinator y.role k.station) y.memory)) at
    c.in-Some-cost_to_coordinator.ensures.value)))
    flown.ensures.reported
    (flown.ensures.world ∙ (λ i. flies_in (record w { nodes = c.cost_to_coordinator.ensures.same i }) node (Some beacon)) ∙ scan_stays w node (Some beacon)))
