-- A broadcast is heard.
use Rattle.std.proofs.Common.{◌≡◌, ◌∙◌, Some, Err, sym, ap}
use Rattle.plc_station.proofs.CarriedPlans.{at_some}
use Rattle.node_rules.specs.Drafts.{alone}
use Rattle.node_rules.specs.Memory.{address_of}
use Rattle.node_rules.specs.declared.refusal.Dropped.TheVariants as drops
use Rattle.reach_rules.specs.declared.refusal.ReachDropped.TheVariants.{Known}
use Rattle.reach_rules.specs.Broadcasts.{admits_broadcast, broadcast_fault, hear_broadcast_in}
use Rattle.reach_rules.specs.ReachingNodes.{Beside, reach_ends}
use Rattle.line_world.specs.FurtherOutcomes.{broadcast_of, handed_up}
use Rattle.line_world.proofs.FurtherPlans.{held_by}
use Rattle.line_world.proofs.BroadcastPlans.{hears_fault, hears_right, joined_by, refused_after, right_marks, same_after}
use Rattle.line_world.proofs.nodes.station_broadcasts.hear_broadcast.Goals as goal

pub returns-in-Some-clause-reaches : goal.returns-in-Some-clause-reaches
returns-in-Some-clause-reaches c =
    let s = c.args.station.now in
    let b = c.args.beside.now in
    let y = broadcast_of c.args.broadcast.now in
    let h = held_by s.memory c.requires.running in
    refused_after reach_ends s b (Err (Known drops.Store)) (λ x. hear_broadcast_in alone x c.args.own (Some y)) h.0 h.1 c.in-Some.fault
    (hears_fault h.0 b y c.args.own c.in-Some.fault
    (sym (sym c.in-Some.is ∙ c.broadcast_fault.ensures ∙ ap (λ (x : Beside). broadcast_fault c.args.own x.log y) c.beside.view_is))) c.args.out.now

pub returns-clause-reaches : goal.returns-clause-reaches
returns-clause-reaches c =
    let s = c.args.station.now in
    let b = c.args.beside.now in
    let y = broadcast_of c.args.broadcast.now in
    let h = held_by s.memory c.requires.running in
    same_after s c.admit_broadcast.new.station b c.admit_broadcast.new.beside (Err (Known drops.Store)) (handed_up y c.admit_broadcast.result)
    (λ x. admits_broadcast alone x y)
    (λ x. hear_broadcast_in alone x c.args.own (Some y)) h.0 h.1 (sym
    (hears_right h.0 b y c.args.own (sym (sym c.in_default.is ∙ c.broadcast_fault.ensures
    ∙ ap (λ (x : Beside). broadcast_fault c.args.own x.log y) c.beside.view_is)))) c.args.out.now c.admit_broadcast.new.out c.admit_broadcast.ensures.reaches

pub admit_broadcast-requires-clause-joined : goal.admit_broadcast-requires-clause-joined
admit_broadcast-requires-clause-joined c =
    let s = c.args.station.now in
    let h = held_by s.memory c.requires.running in
    joined_by s.memory h.0 c.args.own h.1 (at_some s.memory (λ l. address_of l ≡ Some c.args.own) h.0 h.1 c.requires.own)

pub admit_broadcast-requires-clause-marks : goal.admit_broadcast-requires-clause-marks
admit_broadcast-requires-clause-marks c =
    let y = broadcast_of c.args.broadcast.now in
    right_marks c.args.own c.args.beside.now.log y
    (sym (sym c.in_default.is ∙ c.broadcast_fault.ensures ∙ ap (λ (x : Beside). broadcast_fault c.args.own x.log y) c.beside.view_is))
