-- A datagram goes to all.
use Rattle.std.proofs.Common.{◌≡◌, Some, None, Err}
use Rattle.plc_station.proofs.CarriedPlans.{at_some}
use Rattle.node_rules.specs.Drafts.{alone}
use Rattle.reach_rules.specs.declared.refusal.BroadcastRefusal.TheVariants as refusals
use Rattle.reach_rules.specs.Broadcasts.{broadcast, broadcast_ends, broadcast_from}
use Rattle.line_world.proofs.FurtherPlans.{first_stayed, held_by, own_of}
use Rattle.line_world.proofs.BroadcastPlans.{joined_so, refused_first, same_first, unjoined}
use Rattle.line_world.proofs.nodes.station_broadcasts.broadcast_at.Goals as goal

pub returns-then-halted-clause-reaches : goal.returns-then-halted-clause-reaches
returns-then-halted-clause-reaches c =
    rw c.clear.ensures (first_stayed c.args.station.now c.args.beside.now (Err refusals.Halted) (λ y. broadcast alone y c.args.datagram.now)
    c.if-halted.ensures)

pub returns-in_default-clause-reaches : goal.returns-in_default-clause-reaches
returns-in_default-clause-reaches c =
    let s = c.args.station.now in
    let h = held_by s.memory c.if-halted.ensures in
    let own = own_of h.0 c.ring.result.now None (at_some s.memory (λ l. c.ring.result.now ≡ l.ring) h.0 h.1 c.ring.ensures) c.in_default.ensures in
    refused_first broadcast_ends s c.args.beside.now (Err refusals.Halted) (λ y. broadcast alone y c.args.datagram.now) h.0 h.1 refusals.NotJoined
    (unjoined h.0 c.args.beside.now c.args.datagram.now own) c.clear.new.self c.clear.ensures

pub broadcast_from-requires-clause-own : goal.broadcast_from-requires-clause-own
broadcast_from-requires-clause-own c =
    let s = c.args.station.now in
    let h = held_by s.memory c.if-halted.ensures in
    rw h.1 (own_of h.0 c.ring.result.now (Some c.in-Some.own) (at_some s.memory (λ l. c.ring.result.now ≡ l.ring) h.0 h.1 c.ring.ensures) c.in-Some.ensures)

pub broadcast_from-requires-clause-kept : goal.broadcast_from-requires-clause-kept
broadcast_from-requires-clause-kept c =
    let s = c.args.station.now in
    let h = held_by s.memory c.if-halted.ensures in
    at_some s.memory _ h.0 h.1 c.requires.kept

pub returns-clause-reaches : goal.returns-clause-reaches
returns-clause-reaches c =
    let s = c.args.station.now in
    let h = held_by s.memory c.if-halted.ensures in
    let own = own_of h.0 c.ring.result.now (Some c.in-Some.own) (at_some s.memory (λ l. c.ring.result.now ≡ l.ring) h.0 h.1 c.ring.ensures) c.in-Some.ensures in
    same_first s c.broadcast_from.new.station c.args.beside.now c.broadcast_from.new.beside (Err refusals.Halted) c.broadcast_from.result
    (λ y. broadcast_from alone y c.in-Some.own c.args.datagram.now)
    (λ y. broadcast alone y c.args.datagram.now) h.0 h.1 (joined_so h.0 c.args.beside.now c.in-Some.own c.args.datagram.now own) c.broadcast_from.new.out
    c.broadcast_from.ensures.reaches
