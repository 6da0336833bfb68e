-- A beacon is heard.
use Rattle.std.proofs.Common.{◌≡◌, ◌∙◌, ◌<◌, ℕ, Option, Some, None, refl, sym, subst}
use Rattle.std.specs.Prelude.{length}
use Rattle.std.proofs.lemmas.Bool.{eq-eqb, ne_eqb}
use Rattle.plc_base.specs.declared.address.TheConstants.{PAN}
use Rattle.node_rules.specs.Memory.{Node, node_address}
use Rattle.reach_rules.specs.ReachingNodes.{Beside}
use Rattle.line_rules.specs.Further.{beside_at}
use Rattle.line_events.specs.declared.event.Answer.TheVariants as answers
use Rattle.line_world.specs.Discovery.{HearsBeacon, TakesBeacon}
use Rattle.line_world.specs.Lines.{world_of}
use Rattle.line_world.proofs.Discoveries.{address_in, at_number, beacon_elsewhere, beacon_joined, beacon_own, beacon_taken_in, beside_has, by_memory}
use Rattle.line_world.proofs.line.Line.hear_beacon.Goals as goal

pub returns-then-pan-ne-PAN : goal.returns-then-pan-ne-PAN
returns-then-pan-ne-PAN c =
    let w = world_of c.args.self.now in
    let a = c.args in
    by_memory w.nodes a.node (λ x m. HearsBeacon w a.node m.station a.pan a.from a.cost a.link answers.NotForMe w)
    (λ x m at here. beacon_elsewhere w a.node m.station a.pan a.from a.cost a.link (ne_eqb a.pan PAN c.if-pan-ne-PAN.true))

pub returns-then-number : goal.returns-then-number
returns-then-number c =
    let w = world_of c.args.self.now in
    let a = c.args in
    let own = c.in-Some.own in
    by_memory w.nodes a.node (λ x m. HearsBeacon w a.node m.station a.pan a.from a.cost a.link answers.NotForMe w)
    (λ x m at here. beacon_own w a.node m.station a.pan a.from a.cost a.link own (eq-eqb a.pan PAN c.if-pan-ne-PAN.false)
    (address_in x m (Some own) here (at_number _ x (λ (y : Node). ◌≡◌ {A = Option ℕ} (Some own) (node_address y)) at c.in-Some.ensures))
    (eq-eqb own a.from (sym c.number.ensures.value ∙ c.if-number.true ∙ c.number-in-Some.ensures.value)))

pub returns-else-number : goal.returns-else-number
returns-else-number c =
    let w = world_of c.args.self.now in
    let a = c.args in
    let own = c.in-Some.own in
    by_memory w.nodes a.node (λ x m. HearsBeacon w a.node m.station a.pan a.from a.cost a.link answers.NotScanning w)
    (λ x m at here. beacon_joined w a.node m.station a.pan a.from a.cost a.link own (eq-eqb a.pan PAN c.if-pan-ne-PAN.false)
    (address_in x m (Some own) here (at_number _ x (λ (y : Node). ◌≡◌ {A = Option ℕ} (Some own) (node_address y)) at c.in-Some.ensures))
    (ne_eqb own a.from (λ e. c.if-number.false (c.number.ensures.value ∙ e ∙ sym c.number-in-Some.ensures.value))))

pub returns-in-None : goal.returns-in-None
returns-in-None c =
    let w = world_of c.args.self.now in
    let a = c.args in
    let new = world_of c.take_beacon.new.self in
    let answer = c.take_beacon.result in
    let within : a.node < length w.beside = subst (λ (n : ℕ). a.node < n) (sym c.requires.beside) c.requires.there in
    let taken = beside_has w.beside a.node (λ (b : Beside). TakesBeacon w a.node b a.from a.cost a.link answer new) within c.take_beacon.ensures in
    by_memory w.nodes a.node (λ x m. HearsBeacon w a.node m.station a.pan a.from a.cost a.link answer new)
    (λ x m at here. beacon_taken_in w new a.node m.station a.pan a.from a.cost a.link (beside_at w a.node) answer (eq-eqb a.pan PAN c.if-pan-ne-PAN.false)
    (address_in x m None here (at_number _ x (λ (y : Node). ◌≡◌ {A = Option ℕ} None (node_address y)) at c.in-None.ensures)) refl taken)
