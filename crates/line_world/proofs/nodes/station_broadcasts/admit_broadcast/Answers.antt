-- A broadcast that is not at fault is marked, and sent on.
use Rattle.std.proofs.Common.{◌≡◌, ◌∙◌, ◌+◌, ℕ, List, None, Result, Ok, Err, true, false, sym, ap, subst}
use Rattle.std.specs.Prelude.{is_some}
use Rattle.plc_base.specs.declared.out_frame.Out.{Out}
use Rattle.node_rules.specs.CarriedPlans.{nothing}
use Rattle.plc_station.proofs.CarriedPlans.{at_some}
use Rattle.node_rules.specs.Drafts.{alone}
use Rattle.reach_rules.specs.ReachingNodes.{Beside, reach_ends}
use Rattle.line_world.proofs.FurtherPlans.{held_by}
use Rattle.broadcast_log.specs.Grammar.{spelling}
use Rattle.broadcast_log.specs.Log.{Log, admitted_log}
use Rattle.broadcast_log.specs.OriginMarks.{keep_write}
use Rattle.node_rules.specs.Agreement.{AgreesWith}
use Rattle.node_rules.specs.declared.refusal.Dropped.TheVariants as drops
use Rattle.reach_rules.specs.declared.heard.CommandHeard.{CommandHeard}
use Rattle.reach_rules.specs.declared.heard.CommandHeard.TheVariants as heard
use Rattle.reach_rules.specs.declared.refusal.ReachDropped.{ReachDropped}
use Rattle.reach_rules.specs.declared.refusal.ReachDropped.TheVariants.{Known}
use Rattle.reach_rules.specs.Broadcasts.{admits_broadcast, hop_less}
use Rattle.line_world.specs.FurtherOutcomes.{Reaches, broadcast_of, handed_up}
use Rattle.line_world.proofs.BroadcastPlans.{OnlyPut, refused_after, admits_uncounted, admits_on, admits_last, is_last, is_not_last, recorded, unrecorded}
use Rattle.line_world.proofs.BroadcastPlans.{only_recorded, only_unrecorded, sent_as, still_held, heard_reported, log_left, log_lost, spent_at, left_at}
use Rattle.line_world.proofs.nodes.station_broadcasts.admit_broadcast.Goals as goal

pub returns-then-keep_mark-clause-reaches : goal.returns-then-keep_mark-clause-reaches
returns-then-keep_mark-clause-reaches c =
    let s = c.args.station.now in
    let b : Beside = record { checks = c.beside.inside.checks; log = c.beside.inside.log; scan = c.beside.inside.scan } in
    let y = broadcast_of c.args.broadcast.now in
    let m = c.keep_mark.new.station in
    let h = held_by s.memory c.requires.running in
    let known = at_some s.memory (λ l. AgreesWith l s.store.records) h.0 h.1 c.requires.agrees in
    let put : OnlyPut s (keep_write b.log.marks y.origin y.number) true
    m = record { stores = c.if-keep_mark.ensures.stores; state = c.if-keep_mark.ensures.station } in
    rw (← c.beside.view_is) (subst (λ (x : Beside). Reaches s b (Err (Known drops.Store)) (λ x. admits_broadcast alone x y)
    (Ok (heard.Broadcast y.origin y.number y.octets)) c.args.out.now c.args.out.now m x)
    (ap (λ (g : Log). record b { log = g }) (sym c.if-keep_mark.ensures.log))
    (only_recorded s b (Err (Known drops.Store)) (λ x. admits_broadcast alone x y) h.0 h.1 (keep_write b.log.marks y.origin y.number)
    (admitted_log b.log y.origin y.number)
    (Ok (heard.Broadcast y.origin y.number y.octets)) (Err (Known drops.Store))
    (admits_last h.0 b y (is_last y.hops c.if-broadcast-lt2.true) known.counter.below) c.args.out.now m put))

pub returns-then-broadcast-lt2-clause-reaches : goal.returns-then-broadcast-lt2-clause-reaches
returns-then-broadcast-lt2-clause-reaches c =
    let s = c.args.station.now in
    let b : Beside = record { checks = c.beside.inside.checks; log = c.beside.inside.log; scan = c.beside.inside.scan } in
    let y = broadcast_of c.args.broadcast.now in
    let m = c.keep_mark.new.station in
    let h = held_by s.memory c.requires.running in
    let known = at_some s.memory (λ l. AgreesWith l s.store.records) h.0 h.1 c.requires.agrees in
    let put : OnlyPut s (keep_write b.log.marks y.origin y.number) false
    m = record { stores = c.if-keep_mark.ensures.stores; state = c.if-keep_mark.ensures.station } in
    rw (← c.beside.view_is) (subst (λ (o : Out). Reaches s b (Err (Known drops.Store)) (λ x. admits_broadcast alone x y) (Err (Known drops.Store))
    c.args.out.now o m (record b { log = c.keep_mark.new.log })) (sym c.clear.ensures)
    (subst (λ (x : Beside). Reaches s b (Err (Known drops.Store)) (λ x. admits_broadcast alone x y) (Err (Known drops.Store)) c.args.out.now nothing m x)
    (sym (log_lost b c.keep_mark.new.log c.if-keep_mark.ensures.log))
    (only_unrecorded s b (Err (Known drops.Store)) (λ x. admits_broadcast alone x y) h.0 h.1 (keep_write b.log.marks y.origin y.number)
    (admitted_log b.log y.origin y.number)
    (Ok (heard.Broadcast y.origin y.number y.octets)) (Err (Known drops.Store))
    (admits_last h.0 b y (is_last y.hops c.if-broadcast-lt2.true) known.counter.below) c.args.out.now m put)))

pub returns-then-counters_left-eq0-clause-reaches : goal.returns-then-counters_left-eq0-clause-reaches
returns-then-counters_left-eq0-clause-reaches c =
    let s = c.args.station.now in
    let b : Beside = record { checks = c.beside.inside.checks; log = c.beside.inside.log; scan = c.beside.inside.scan } in
    let y = broadcast_of c.args.broadcast.now in
    let h = held_by s.memory c.requires.running in
    rw (← c.beside.view_is) (refused_after reach_ends s b (Err (Known drops.Store)) (λ x. admits_broadcast alone x y) h.0 h.1 (Known drops.CounterSpent)
    (admits_uncounted h.0 b y (is_not_last y.hops c.if-broadcast-lt2.false)
    (spent_at h.0 c.counters_left.result (at_some s.memory (λ l. c.counters_left.result + l.counter.next ≡ 4294967295) h.0 h.1 c.counters_left.ensures)
    c.if-counters_left-eq0.true)) c.args.out.now)

pub returns-then-not-keep_mark-clause-reaches : goal.returns-then-not-keep_mark-clause-reaches
returns-then-not-keep_mark-clause-reaches c =
    let s = c.args.station.now in
    let b : Beside = record { checks = c.beside.inside.checks; log = c.beside.inside.log; scan = c.beside.inside.scan } in
    let y = broadcast_of c.args.broadcast.now in
    let m = c.keep_mark-2.new.station in
    let h = held_by s.memory c.requires.running in
    let goes = admits_on h.0 b y (is_not_last y.hops c.if-broadcast-lt2.false)
    (left_at h.0 c.counters_left.result (at_some s.memory (λ l. c.counters_left.result + l.counter.next ≡ 4294967295) h.0 h.1 c.counters_left.ensures)
    c.if-counters_left-eq0.false) in
    let put : OnlyPut s (keep_write b.log.marks y.origin y.number) false
    m = record { stores = c.if-not-keep_mark.ensures.stores; state = c.if-not-keep_mark.ensures.station } in
    rw (← c.beside.view_is) (subst (λ (o : Out). Reaches s b (Err (Known drops.Store)) (λ x. admits_broadcast alone x y) (Err (Known drops.Store))
    c.args.out.now o m (record b { log = c.keep_mark-2.new.log })) (sym c.clear-then-not-keep_mark.ensures)
    (subst (λ (x : Beside). Reaches s b (Err (Known drops.Store)) (λ x. admits_broadcast alone x y) (Err (Known drops.Store)) c.args.out.now nothing m x)
    (sym (log_lost b c.keep_mark-2.new.log c.if-not-keep_mark.ensures.log))
    (unrecorded reach_ends s b (Err (Known drops.Store)) (λ x. admits_broadcast alone x y) h.0 h.1 (keep_write b.log.marks y.origin y.number)
    (admitted_log b.log y.origin y.number)
    (heard.Broadcast y.origin y.number y.octets) 4 None (spelling (hop_less y)) goes c.args.out.now m put)))

pub returns-clause-reaches : goal.returns-clause-reaches
returns-clause-reaches c =
    let s = c.args.station.now in
    let b : Beside = record { checks = c.beside.inside.checks; log = c.beside.inside.log; scan = c.beside.inside.scan } in
    let y = broadcast_of c.args.broadcast.now in
    let m = c.keep_mark-2.new.station in
    let t = c.send_local-sent.new.station in
    let h = held_by s.memory c.requires.running in
    let goes = admits_on h.0 b y (is_not_last y.hops c.if-broadcast-lt2.false)
    (left_at h.0 c.counters_left.result (at_some s.memory (λ l. c.counters_left.result + l.counter.next ≡ 4294967295) h.0 h.1 c.counters_left.ensures)
    c.if-counters_left-eq0.false) in
    let put : OnlyPut s (keep_write b.log.marks y.origin y.number) true
    m = record { stores = c.if-not-keep_mark.ensures.stores; state = c.if-not-keep_mark.ensures.station } in
    let body : List ℕ = spelling (hop_less y) in
    rw (← c.beside.view_is) (subst (λ (r : Result CommandHeard ReachDropped). Reaches s b (Err (Known drops.Store)) (λ x. admits_broadcast alone x y) r
    c.args.out.now c.send_local-sent.new.out t (record b { log = c.send_local-sent.new.log }))
    (heard_reported y c.send_local-sent.result ∙ ap (handed_up y) (sym c.sent_on.ensures))
    (recorded reach_ends s b (Err (Known drops.Store)) (λ x. admits_broadcast alone x y) h.0 h.1 (keep_write b.log.marks y.origin y.number)
    (admitted_log b.log y.origin y.number)
    (heard.Broadcast y.origin y.number y.octets) 4 None body goes c.args.out.now c.send_local-sent.new.out m t c.send_local-sent.result
    (record b { log = c.send_local-sent.new.log }) put
    (sent_as m t h.0 4 None c.octets-2.result.now body c.send_local-sent.result c.args.out.now c.send_local-sent.new.out
    (still_held s m (keep_write b.log.marks y.origin y.number) h.0 put h.1)
    (c.octets-2.ensures.value ∙ c.write_broadcast.ensures ∙ ap (λ (xs : List ℕ). spelling (record (hop_less y) { octets = xs })) c.octets.ensures)
    c.send_local-sent.ensures.carries)
    (log_left b (admitted_log b.log y.origin y.number) c.keep_mark-2.new.log c.send_local-sent.new.log (is_some t.memory) c.send_local-sent.ensures.log
    c.if-not-keep_mark.ensures.log)))
