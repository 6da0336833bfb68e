-- A frame of discovery is heard by a node that is not halted.
use Rattle.std.proofs.Common.{ℕ, true, Option, Some, Ok, sym, ap, subst}
use Rattle.std.specs.Prelude.{IfSome}
use Rattle.pan_discovery.specs.declared.message.Discovery.{Discovery}
use Rattle.pan_discovery.specs.declared.message.Discovery.TheVariants as discoveries
use Rattle.node_rules.specs.Memory.{Memory, Node}
use Rattle.line_world.specs.Discovery.{HearsBeacon, discovers_in}
use Rattle.line_world.specs.Lines.{world_of}
use Rattle.line_world.specs.Steps.{Steps}
use Rattle.line_world.proofs.Discoveries.{at_number, beacon_counts, by_memory}
use Rattle.line_world.proofs.line.Line.hear_frame.Goals as goal

pub returns-in-Request : goal.returns-in-Request
returns-in-Request c =
    let w = world_of c.args.self.now in
    let node = c.args.node in
    let link = c.args.link in
    let new = world_of c.hear_request.new.self in
    let result = c.hear_request.result in
    let seq = c.in-Request.seq in
    by_memory w.nodes node (λ x m. Steps true w (Ok result) new (Ok (discovers_in w node x.role m.station (Some c.args.frame.now) link)))
    (λ x m at here.
    subst (λ (f : Discovery). Steps true w (Ok result) new (Ok (discovers_in w node x.role m.station (Some f) link))) (sym c.in-Request.is)
    (subst (λ (o : Option Memory). IfSome o
    (λ k. (n : ℕ) → Steps true w (Ok result) new (Ok (discovers_in w node x.role k.station (Some (discoveries.Request n)) 0)))) here
    (at_number _ x (λ (y : Node). IfSome y.memory
    (λ k. (n : ℕ) → Steps true w (Ok result) new (Ok (discovers_in w node y.role k.station (Some (discoveries.Request n)) 0)))) at c.hear_request.ensures)
    seq))

pub returns-in-Beacon : goal.returns-in-Beacon
returns-in-Beacon c =
    let w = world_of c.args.self.now in
    let node = c.args.node in
    let link = c.args.link in
    let heard = world_of c.hear_beacon-answer.new.self in
    let answer = c.hear_beacon-answer.result in
    let new = world_of c.answered.new.self in
    let result = c.answered.result in
    let b = c.in-Beacon in
    by_memory w.nodes node (λ x m. Steps true w (Ok result) new (Ok (discovers_in w node x.role m.station (Some c.args.frame.now) link)))
    (λ x m at here.
    subst (λ (f : Discovery). Steps true w (Ok result) new (Ok (discovers_in w node x.role m.station (Some f) link))) (sym b.is)
    (beacon_counts w heard new node m.station b.seq b.pan b.from b.cost link answer result c.requires.bounds c.requires.events
    (subst (λ (o : Option Memory). IfSome o (λ k. HearsBeacon w node k.station b.pan b.from b.cost link answer heard)) here
    (at_number _ x (λ (y : Node). IfSome y.memory (λ k. HearsBeacon w node k.station b.pan b.from b.cost link answer heard)) at c.hear_beacon-answer.ensures))
    c.answered.ensures.reported (ap world_of c.answered.ensures.line)))
