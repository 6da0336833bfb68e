-- A datagram goes to all, from the own address.
use Rattle.std.proofs.Common.{◌≡◌, ◌∙◌, ◌+◌, ℕ, List, None, Result, Err, true, false, sym, ap, subst}
use Rattle.std.specs.Prelude.{is_some}
use Rattle.plc_station.proofs.CarriedPlans.{at_some}
use Rattle.node_rules.specs.Drafts.{alone}
use Rattle.reach_rules.specs.ReachingNodes.{Beside}
use Rattle.line_world.proofs.FurtherPlans.{held_by}
use Rattle.broadcast_log.specs.Grammar.{spelling}
use Rattle.broadcast_log.specs.Log.{numbered_log}
use Rattle.broadcast_log.specs.NextNumber.{number_put}
use Rattle.reach_rules.specs.declared.refusal.BroadcastRefusal.{BroadcastRefusal}
use Rattle.reach_rules.specs.declared.refusal.BroadcastRefusal.TheVariants as refusals
use Rattle.reach_rules.specs.Broadcasts.{broadcast_ends, broadcast_from, own_broadcast}
use Rattle.line_world.specs.FurtherOutcomes.{ReachesFirst}
use Rattle.line_world.proofs.BroadcastPlans.{OnlyPut, refused_first, refuses_size, refuses_spent, refuses_uncounted, own_goes, spent_number, left_number}
use Rattle.line_world.proofs.BroadcastPlans.{spent_at, left_at, first_recorded, first_unrecorded, sent_as, still_held, own_after, log_left, log_lost}
use Rattle.line_world.proofs.nodes.station_broadcasts.broadcast_from.Goals as goal

pub returns-then-is_bad_size-clause-reaches : goal.returns-then-is_bad_size-clause-reaches
returns-then-is_bad_size-clause-reaches c =
    let b = c.args.beside.now in
    let h = held_by c.args.station.now.memory c.requires.running in
    refused_first broadcast_ends c.args.station.now b (Err refusals.Halted) (λ y. broadcast_from alone y c.args.own c.args.datagram.now) h.0 h.1
    refusals.BadSize
    (refuses_size h.0 b c.args.own c.args.datagram.now (sym c.if-is_bad_size.ensures)) c.args.out.now c.requires.empty

pub returns-then-number_left-eq0-clause-reaches : goal.returns-then-number_left-eq0-clause-reaches
returns-then-number_left-eq0-clause-reaches c =
    let b : Beside = record { checks = c.beside.inside.checks; log = c.beside.inside.log; scan = c.beside.inside.scan } in
    let h = held_by c.args.station.now.memory c.requires.running in
    rw (← c.beside.view_is) (refused_first broadcast_ends c.args.station.now b (Err refusals.Halted)
    (λ y. broadcast_from alone y c.args.own c.args.datagram.now) h.0 h.1 refusals.NumberSpent
    (refuses_spent h.0 b c.args.own c.args.datagram.now (sym c.if-is_bad_size.ensures)
    (spent_number b.log.numbering c.number_left.result c.number_left.ensures c.if-number_left-eq0.true)) c.args.out.now c.requires.empty)

pub returns-then-counters_left-eq0-clause-reaches : goal.returns-then-counters_left-eq0-clause-reaches
returns-then-counters_left-eq0-clause-reaches c =
    let b : Beside = record { checks = c.beside.inside.checks; log = c.beside.inside.log; scan = c.beside.inside.scan } in
    let h = held_by c.args.station.now.memory c.requires.running in
    rw (← c.beside.view_is) (refused_first broadcast_ends c.args.station.now b (Err refusals.Halted)
    (λ y. broadcast_from alone y c.args.own c.args.datagram.now) h.0 h.1 refusals.CounterSpent
    (refuses_uncounted h.0 b c.args.own c.args.datagram.now (sym c.if-is_bad_size.ensures)
    (left_number b.log.numbering c.number_left.result c.number_left.ensures c.if-number_left-eq0.false)
    (spent_at h.0 c.counters_left.result (at_some c.args.station.now.memory (λ l. c.counters_left.result + l.counter.next ≡ 4294967295) h.0 h.1
    c.counters_left.ensures) c.if-counters_left-eq0.true))
    c.args.out.now c.requires.empty)

pub returns-in_default-clause-reaches : goal.returns-in_default-clause-reaches
returns-in_default-clause-reaches c =
    let s = c.args.station.now in
    let b : Beside = record { checks = c.beside.inside.checks; log = c.beside.inside.log; scan = c.beside.inside.scan } in
    let h = held_by s.memory c.requires.running in
    let goes = own_goes h.0 b c.args.own c.args.datagram.now (sym c.if-is_bad_size.ensures)
    (left_number b.log.numbering c.number_left.result c.number_left.ensures c.if-number_left-eq0.false)
    (left_at h.0 c.counters_left.result (at_some s.memory (λ l. c.counters_left.result + l.counter.next ≡ 4294967295) h.0 h.1 c.counters_left.ensures)
    c.if-counters_left-eq0.false) in
    let put : OnlyPut s (number_put b.log.numbering) false
    c.take_number.new.station = record { stores = c.in_default.ensures.stores; state = c.in_default.ensures.station } in
    rw (← c.beside.view_is) (subst (λ (x : Beside). ReachesFirst s b (Err refusals.Halted) (λ y. broadcast_from alone y c.args.own c.args.datagram.now)
    (Err refusals.Store) c.clear.new.self c.take_number.new.station x)
    (sym (log_lost b c.take_number.new.log c.in_default.ensures.log))
    (first_unrecorded broadcast_ends s b (Err refusals.Halted) (λ y. broadcast_from alone y c.args.own c.args.datagram.now) h.0 h.1 (number_put b.log.numbering)
    (numbered_log b.log) tt 4 None
    (spelling (own_broadcast c.args.own b.log c.args.datagram.now)) goes c.clear.new.self c.take_number.new.station c.clear.ensures put))

pub returns-clause-reaches : goal.returns-clause-reaches
returns-clause-reaches c =
    let s = c.args.station.now in
    let b : Beside = record { checks = c.beside.inside.checks; log = c.beside.inside.log; scan = c.beside.inside.scan } in
    let m = c.take_number.new.station in
    let h = held_by s.memory c.requires.running in
    let goes = own_goes h.0 b c.args.own c.args.datagram.now (sym c.if-is_bad_size.ensures)
    (left_number b.log.numbering c.number_left.result c.number_left.ensures c.if-number_left-eq0.false)
    (left_at h.0 c.counters_left.result (at_some s.memory (λ l. c.counters_left.result + l.counter.next ≡ 4294967295) h.0 h.1 c.counters_left.ensures)
    c.if-counters_left-eq0.false) in
    let put : OnlyPut s (number_put b.log.numbering) true m = record { stores = c.in-Some.ensures.stores; state = c.in-Some.ensures.station } in
    let body : List ℕ = spelling (own_broadcast c.args.own b.log c.args.datagram.now) in
    let same = c.octets.ensures.value ∙ c.write_broadcast.ensures
    ∙ ap (λ (n : ℕ). spelling (record { hops = 14; origin = c.args.own; number = n; octets = c.args.datagram.now })) c.in-Some.ensures.number in
    rw (← c.beside.view_is) (subst (λ (r : Result (Unit {0}) BroadcastRefusal). ReachesFirst s b (Err refusals.Halted)
    (λ y. broadcast_from alone y c.args.own c.args.datagram.now) r c.send_local-sent.new.out c.send_local-sent.new.station
    (record b { log = c.send_local-sent.new.log }))
    (own_after c.send_local-sent.result ∙ sym c.ended_by.ensures)
    (first_recorded broadcast_ends s b (Err refusals.Halted) (λ y. broadcast_from alone y c.args.own c.args.datagram.now) h.0 h.1 (number_put b.log.numbering)
    (numbered_log b.log) tt 4 None body goes
    c.args.out.now c.send_local-sent.new.out m c.send_local-sent.new.station c.send_local-sent.result (record b { log = c.send_local-sent.new.log })
    c.requires.empty put
    (sent_as m c.send_local-sent.new.station h.0 4 None c.octets.result.now body c.send_local-sent.result c.args.out.now c.send_local-sent.new.out
    (still_held s m (number_put b.log.numbering) h.0 put h.1) same c.send_local-sent.ensures.carries)
    (log_left b (numbered_log b.log) c.take_number.new.log c.send_local-sent.new.log (is_some c.send_local-sent.new.station.memory)
    c.send_local-sent.ensures.log
    c.in-Some.ensures.log)))
