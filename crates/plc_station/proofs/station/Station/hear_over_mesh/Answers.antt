use Rattle.std.proofs.Common.{◌≡◌, ℕ, true, false, Ok, Err, List, ap, ◌∙◌, arith}
use Rattle.std.specs.Prelude.{◌==◌}
use Rattle.std.proofs.lemmas.Bool.Decides.{nat_tests}
use Rattle.plc_base.specs.Grant.{Granted}
use Rattle.mesh_header.specs.declared.unit.Unit.TheVariants.{Whole, Part, Carried}
use Rattle.node_rules.specs.declared.heard.Heard.{Heard}
use Rattle.node_rules.specs.declared.heard.Heard.TheVariants.{Up, Joining}
use Rattle.node_rules.specs.declared.heard.Way.TheVariants.{Mesh}
use Rattle.node_rules.specs.declared.refusal.Dropped.TheVariants.{BadUnit, Store}
use Rattle.node_rules.specs.HearingRules.{dropped, forward}
use Rattle.node_rules.specs.Plans.{resting}
use Rattle.plc_station.proofs.CarriedPlans.{if_some, at_some}
use Rattle.plc_station.proofs.EndedSteps.{refusal, rested, carried_by}
use Rattle.plc_station.proofs.ForwardCases.{whole_here, whole_on, part_here, part_on, carried_here, carried_on, local_bad}
use Rattle.plc_station.proofs.station.Station.hear_over_mesh.Goals as goal

pub returns-then-number-clause-carries : goal.returns-then-number-clause-carries
returns-then-number-clause-carries g c =
    let here : true ≡ (c.in-Whole.mesh.to == c.args.grant.now.address) = grind
    (arith, nat_tests, c.if-number.true, c.number.ensures.value, c.number-in-Whole.ensures.value, ap (λ (g : Granted). g.address) c.grant.view_is) in
    if_some _ _ (λ l m. rested c.args.self.now l _ (Err Store) _ _ m
    (ap (λ (h : Heard). resting l (Ok h) (Err Store))
    (c.handed_up.ensures ∙ ap (λ (os : List ℕ). Up c.in-Whole.mesh.origin c.args.last.now.note os) (c.new-octets.ensures ∙ c.octets.ensures))
    ∙ whole_here l c.args.grant.now.address c.args.unit.now c.in-Whole.mesh c.in-Whole.octets c.args.last.now.note c.args.last.now.time c.in-Whole.is here)
    c.requires.ready.empty)

pub returns-then-number-2-clause-carries : goal.returns-then-number-2-clause-carries
returns-then-number-2-clause-carries g c =
    let here : true ≡ (c.in-Part.mesh.to == c.args.grant.now.address) = grind
    (arith, nat_tests, c.if-number-2.true, c.number-in-Part.ensures.value, c.number-in-Part-2.ensures.value, ap (λ (g : Granted). g.address) c.grant.view_is) in
    if_some _ _ (λ l m. carried_by _ _ _ _ _ _
    (part_here l c.args.grant.now.address c.args.unit.now c.in-Part.mesh c.in-Part.piece c.args.last.now.note c.args.last.now.time
    c.in-Part.is here) (at_some c.args.self.now.memory _ l m c.gather.ensures.carries))

pub returns-then-number-3-clause-carries : goal.returns-then-number-3-clause-carries
returns-then-number-3-clause-carries g c =
    let here : true ≡ (c.in-Carried.mesh.to == c.args.grant.now.address) = grind (
      arith,
      nat_tests,
      c.if-number-3.true,
      c.number-in-Carried.ensures.value,
      c.number-in-Carried-2.ensures.value,
      ap (λ (g : Granted). g.address) c.grant.view_is,
    ) in
    if_some _ _ (λ l m. rested c.args.self.now l _ (Err Store) _ _ m
    (ap (λ (h : Heard). resting l (Ok h) (Err Store))
    (c.joining_over.ensures ∙ ap (λ (os : List ℕ). Joining (Mesh c.in-Carried.mesh.origin) os) (c.new-body.ensures ∙ c.octets-in-Carried.ensures))
    ∙ carried_here l c.args.grant.now.address c.args.unit.now c.in-Carried.mesh c.in-Carried.body c.args.last.now.note c.args.last.now.time c.in-Carried.is
    here)
    c.requires.ready.empty)

pub returns-else-number-clause-carries : goal.returns-else-number-clause-carries
returns-else-number-clause-carries g c =
    let here : false ≡ (c.in-Whole.mesh.to == c.args.grant.now.address) = grind
    (arith, nat_tests, c.if-number.false, c.number.ensures.value, c.number-in-Whole.ensures.value, ap (λ (g : Granted). g.address) c.grant.view_is) in
    if_some _ _ (λ l m. carried_by _ _ _ _ _ _
    ((λ i. forward l c.args.grant.now.address c.in-Whole.mesh (Whole (c.hop_less.ensures.value i) ((c.new-octets.ensures ∙ c.octets.ensures) i))
    c.args.last.now.note)
    ∙ whole_on l c.args.grant.now.address c.args.unit.now c.in-Whole.mesh c.in-Whole.octets c.args.last.now.note c.args.last.now.time c.in-Whole.is here)
    (at_some c.args.self.now.memory _ l m c.forward.ensures.carries))

pub returns-else-number-2-clause-carries : goal.returns-else-number-2-clause-carries
returns-else-number-2-clause-carries g c =
    let here : false ≡ (c.in-Part.mesh.to == c.args.grant.now.address) = grind (
      arith,
      nat_tests,
      c.if-number-2.false,
      c.number-in-Part.ensures.value,
      c.number-in-Part-2.ensures.value,
      ap (λ (g : Granted). g.address) c.grant.view_is,
    ) in
    if_some _ _ (λ l m. carried_by _ _ _ _ _ _
    ((λ i. forward l c.args.grant.now.address c.in-Part.mesh (Part (c.hop_less-in-Part.ensures.value i) (c.again.ensures i)) c.args.last.now.note)
    ∙ part_on l c.args.grant.now.address c.args.unit.now c.in-Part.mesh c.in-Part.piece c.args.last.now.note c.args.last.now.time c.in-Part.is here)
    (at_some c.args.self.now.memory _ l m c.forward-in-Part.ensures.carries))

pub returns-else-number-3-clause-carries : goal.returns-else-number-3-clause-carries
returns-else-number-3-clause-carries g c =
    let here : false ≡ (c.in-Carried.mesh.to == c.args.grant.now.address) = grind (
      arith,
      nat_tests,
      c.if-number-3.false,
      c.number-in-Carried.ensures.value,
      c.number-in-Carried-2.ensures.value,
      ap (λ (g : Granted). g.address) c.grant.view_is,
    ) in
    if_some _ _ (λ l m. carried_by _ _ _ _ _ _
    ((λ i. forward l c.args.grant.now.address c.in-Carried.mesh
    (Carried (c.hop_less-in-Carried.ensures.value i) ((c.new-body.ensures ∙ c.octets-in-Carried.ensures) i)) c.args.last.now.note)
    ∙ carried_on l c.args.grant.now.address c.args.unit.now c.in-Carried.mesh c.in-Carried.body c.args.last.now.note c.args.last.now.time c.in-Carried.is here)
    (at_some c.args.self.now.memory _ l m c.forward-in-Carried.ensures.carries))

pub returns-in-Local-clause-carries : goal.returns-in-Local-clause-carries
returns-in-Local-clause-carries g c =
    if_some _ _ (λ l m. refusal dropped c.args.self.now l BadUnit _ _ m
    (local_bad l c.args.grant.now.address c.args.unit.now _ _ c.args.last.now.note c.args.last.now.time c.in-Local.is) c.requires.ready.empty)
