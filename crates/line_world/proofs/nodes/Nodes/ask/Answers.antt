-- What the station of a node did, the node of its number did.
use Rattle.std.proofs.Common.{Err, arith}
use Rattle.node_rules.specs.Drafts.{alone}
use Rattle.node_rules.specs.MemoryDrafts.{in_memory}
use Rattle.reach_rules.specs.declared.refusal.AskRefusal.TheVariants as asks
use Rattle.reach_rules.specs.PathRequests.{ask_path}
use Rattle.line_world.proofs.LentFurther.{ask_lent}
use Rattle.line_world.proofs.LentNodes.{coordinator_lends, meter_lends, first_sound_still, lent_agrees, reached_first}
use Rattle.line_world.proofs.nodes.Nodes.ask.Goals as goal

pub ask_at-requires : goal.ask_at-requires
ask_at-requires c =
    let its = meter_lends c.self.inside.coordinator c.self.inside.meters.items _ c.args.number c.index_mut.result.now c.station.result.now c.self.view_is
    c.self.invariant
    c.if-number-gt0.true c.requires.there c.index_mut.ensures.value c.station.ensures.value in record { agrees = lent_agrees its }

pub returns-then-number-gt0 : goal.returns-then-number-gt0
returns-then-number-gt0 c =
    let its = meter_lends c.self.inside.coordinator c.self.inside.meters.items _ c.args.number c.index_mut.result.now c.station.result.now c.self.view_is
    c.self.invariant
    c.if-number-gt0.true c.requires.there c.index_mut.ensures.value c.station.ensures.value in
    reached_first its c.ask_at.new.station c.args.beside.now c.ask_at.new.beside (Err asks.Halted) c.ask_at.result
    (λ y. ask_path in_memory y c.args.target) (λ y. ask_path alone y c.args.target) (λ _ m. ask_lent c.args.beside.now m c.args.target) c.ask_at.new.out
    c.ask_at.ensures.reaches

pub invariant_of-self : goal.invariant_of-self
invariant_of-self c =
    let its = meter_lends c.self.inside.coordinator c.self.inside.meters.items _ c.args.number c.index_mut.result.now c.station.result.now c.self.view_is
    c.self.invariant
    c.if-number-gt0.true c.requires.there c.index_mut.ensures.value c.station.ensures.value in
    first_sound_still its c.ask_at.new.station c.args.beside.now c.ask_at.new.beside (Err asks.Halted) c.ask_at.result
    (λ y. ask_path in_memory y c.args.target) (λ y. ask_path alone y c.args.target) (λ _ m. ask_lent c.args.beside.now m c.args.target) c.ask_at.new.out
    c.ask_at.ensures.reaches c.ask_at.ensures.agrees

pub ask_at-requires-2 : goal.ask_at-requires-2
ask_at-requires-2 c =
    let its = coordinator_lends c.self.inside.coordinator c.self.inside.meters.items _ c.args.number c.in-Some.coordinator c.station-2.result.now c.self.view_is
    c.self.invariant c.in-Some.is
    (omega (arith, c.if-number-gt0.false)) c.station-2.ensures.value in record { agrees = lent_agrees its }

pub returns : goal.returns
returns c =
    let its = coordinator_lends c.self.inside.coordinator c.self.inside.meters.items _ c.args.number c.in-Some.coordinator c.station-2.result.now c.self.view_is
    c.self.invariant c.in-Some.is
    (omega (arith, c.if-number-gt0.false)) c.station-2.ensures.value in
    reached_first its c.ask_at-2.new.station c.args.beside.now c.ask_at-2.new.beside (Err asks.Halted) c.ask_at-2.result
    (λ y. ask_path in_memory y c.args.target) (λ y. ask_path alone y c.args.target) (λ _ m. ask_lent c.args.beside.now m c.args.target) c.ask_at-2.new.out
    c.ask_at-2.ensures.reaches

pub invariant_of-self-2 : goal.invariant_of-self-2
invariant_of-self-2 c =
    let its = coordinator_lends c.self.inside.coordinator c.self.inside.meters.items _ c.args.number c.in-Some.coordinator c.station-2.result.now c.self.view_is
    c.self.invariant c.in-Some.is
    (omega (arith, c.if-number-gt0.false)) c.station-2.ensures.value in
    first_sound_still its c.ask_at-2.new.station c.args.beside.now c.ask_at-2.new.beside (Err asks.Halted) c.ask_at-2.result
    (λ y. ask_path in_memory y c.args.target) (λ y. ask_path alone y c.args.target) (λ _ m. ask_lent c.args.beside.now m c.args.target) c.ask_at-2.new.out
    c.ask_at-2.ensures.reaches c.ask_at-2.ensures.agrees
