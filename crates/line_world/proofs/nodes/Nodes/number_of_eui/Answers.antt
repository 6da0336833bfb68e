-- The first node with an EUI.
use Rattle.std.proofs.Common.{◌≡◌, List, Some, None, false, sym, ap, ◌∙◌}
use Rattle.std.specs.Prelude.{◌==◌, position}
use Rattle.std.proofs.lemmas.Bool.{ne_eqb}
use Rattle.group_keys.specs.KeyBook.{eui_number}
use Rattle.meter_node.specs.MeterStates.{MeterState}
use Rattle.node_rules.specs.Acceptance.{same_eui}
use Rattle.line_world.specs.Nodes.{has_eui}
use Rattle.line_world.proofs.FirstNodes.{among_meters}
use Rattle.line_world.proofs.nodes.Nodes.number_of_eui.Goals as goal

pub returns-in_err-place : goal.returns-in_err-place
returns-in_err-place c =
    let other : same_eui c.in-Some.coordinator.station.eui c.args.eui ≡ false =
    (λ i. (ap eui_number (sym c.eui.ensures) ∙ sym c.number.ensures) i == sym c.number-2.ensures i)
    ∙ ne_eqb c.number.result c.number-2.result c.if-number.false in
    let found : None ≡ position (has_eui c.args.eui) c.self.inside.meters.items =
    sym c.in_err-place.was ∙ c.place_of.ensures ∙ ap (λ (ms : List MeterState). position (has_eui c.args.eui) ms) c.deref.ensures.value in
    c.from_residual.ensures
    ∙ sym (among_meters c.self.inside.coordinator c.in-Some.coordinator c.self.inside.meters.items c.args.self.now c.args.eui None c.self.view_is
    c.in-Some.is other found)

pub returns : goal.returns
returns c =
    let other : same_eui c.in-Some.coordinator.station.eui c.args.eui ≡ false =
    (λ i. (ap eui_number (sym c.eui.ensures) ∙ sym c.number.ensures) i == sym c.number-2.ensures i)
    ∙ ne_eqb c.number.result c.number-2.result c.if-number.false in
    let found : Some c.in_ok-place.place ≡ position (has_eui c.args.eui) c.self.inside.meters.items =
    sym c.in_ok-place.was ∙ c.place_of.ensures ∙ ap (λ (ms : List MeterState). position (has_eui c.args.eui) ms) c.deref.ensures.value in
    sym (among_meters c.self.inside.coordinator c.in-Some.coordinator c.self.inside.meters.items c.args.self.now c.args.eui (Some c.in_ok-place.place)
    c.self.view_is c.in-Some.is other found)
