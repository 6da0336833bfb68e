-- A node hears a frame that carries no command for its neighbours, where these are checked.
use Rattle.std.proofs.Common.{◌≡◌, ◌<◌, ◌∙◌, ℕ, List, Option, true, false, length, sym, ap, subst}
use Rattle.std.specs.Prelude.{IfSome, slice_get}
use Rattle.loadng_messages.specs.declared.message.Message.{Message}
use Rattle.plc_base.specs.declared.out_frame.Out.{Out}
use Rattle.node_rules.specs.Ciphers.{network}
use Rattle.reach_rules.specs.CheckedReplies.{is_unbelieved, message_of}
use Rattle.reach_rules.specs.ReachingNodes.{Beside}
use Rattle.line_rules.specs.Further.{beside_at}
use Rattle.line_world.specs.Arrivals.{Acknowledges, left_of, outcome_of_checked, outcome_of_further, outcome_of_unbelieved, reception_happenings}
use Rattle.line_world.specs.declared.nodes.reception.Reception.{Reception}
use Rattle.line_world.specs.Lines.{world_of}
use Rattle.line_world.proofs.FurtherCalls.{beside_found}
use Rattle.line_world.proofs.CheckedFrames.{beside_then, bounds_then, checked_bounds, checked_events, checked_then, events_then, joined_then, room_then}
use Rattle.line_world.proofs.CheckedFrames.{unacknowledged_then}
use Rattle.line_world.proofs.HeardFurther.{further_checked, further_unbelieved, named_so}
use Rattle.line_world.proofs.line.Line.checked.Goals as goal

pub returns-then-is_unbelieved : goal.returns-then-is_unbelieved
returns-then-is_unbelieved c =
    let w = world_of c.args.self.now in
    let got = c.args.got in
    let within : c.args.node < length w.beside = subst (λ (n : ℕ). c.args.node < n) (sym c.requires.ready.beside) c.requires.ready.there in
    let b = c.behind-self.inside in
    let held : (record { checks = b.checks; log = b.log; scan = b.scan })
    ≡ beside_at w c.args.node = c.behind-self.view_is ∙ beside_found w.beside c.args.node c.index.result.now within c.index.ensures in
    let is : is_unbelieved (beside_at w c.args.node).checks got.path (message_of got) ≡ true =
    sym ((rw c.path-path.ensures at c.if-is_unbelieved.ensures) ∙ ap (λ (k : Beside). is_unbelieved k.checks got.path c.args.message.now) held
    ∙ ap (λ (m : Option Message). is_unbelieved (beside_at w c.args.node).checks got.path m) c.requires.message) in
    named_so w _ c.args.node c.unbelieved.result
    (λ x. outcome_of_unbelieved network w c.args.node x c.args.origin)
    (λ x. outcome_of_further network w c.args.node x got c.args.origin c.args.cost)
    (λ x. further_unbelieved w c.args.node x got c.args.origin c.args.cost c.requires.checks is) c.unbelieved.ensures

pub acknowledged-requires-clause-joined : goal.acknowledged-requires-clause-joined
acknowledged-requires-clause-joined c =
    joined_then (world_of c.args.self.now) c.hear-reported.new.self c.args.node c.args.got c.args.origin c.args.cost c.hear-reported.result
    c.hear-reported.new.out
    c.args.message.now c.due.result
    c.requires.ready.there c.requires.ready.accepted c.hear-reported.ensures.received c.requires.message (rw c.path-path.ensures at c.due.ensures.value)

pub acknowledged-requires-clause-room : goal.acknowledged-requires-clause-room
acknowledged-requires-clause-room c =
    room_then (world_of c.args.self.now) c.hear-reported.new.self c.args.node c.args.got c.args.origin c.args.cost c.hear-reported.result
    c.hear-reported.new.out
    c.args.message.now c.due.result
    c.requires.ready.there c.requires.ready.accepted c.hear-reported.ensures.received c.requires.message (rw c.path-path.ensures at c.due.ensures.value)

pub received-requires-clause-bounds : goal.received-requires-clause-bounds
received-requires-clause-bounds c =
    bounds_then (world_of c.args.self.now) c.hear-reported.new.self c.args.node c.args.got c.args.origin c.args.cost c.hear-reported.result
    c.hear-reported.new.out
    c.args.message.now c.due.result
    c.requires.ready.there c.requires.ready.accepted c.hear-reported.ensures.received c.requires.message (rw c.path-path.ensures at c.due.ensures.value)
    (world_of c.acknowledged.new.self) c.acknowledged.result c.acknowledged.new.self.out c.acknowledged.ensures.acknowledges c.requires.ready.bounds

pub received-requires-clause-events : goal.received-requires-clause-events
received-requires-clause-events c =
    events_then (world_of c.args.self.now) c.hear-reported.new.self c.args.node c.args.got c.args.origin c.args.cost c.hear-reported.result
    c.hear-reported.new.out
    c.args.message.now c.due.result
    c.requires.ready.there c.requires.ready.accepted c.hear-reported.ensures.received c.requires.message (rw c.path-path.ensures at c.due.ensures.value)
    (world_of c.acknowledged.new.self) c.acknowledged.result c.acknowledged.new.self.out c.acknowledged.ensures.acknowledges c.requires.ready.events

pub begin_check-requires : goal.begin_check-requires
begin_check-requires c =
    let beside = beside_then (world_of c.args.self.now) c.hear-reported.new.self c.args.node c.args.got c.args.origin c.args.cost c.hear-reported.result
    c.hear-reported.new.out c.args.message.now c.due.result
    c.requires.ready.there c.requires.ready.accepted c.hear-reported.ensures.received c.requires.message (rw c.path-path.ensures at c.due.ensures.value)
    (world_of c.acknowledged.new.self) c.acknowledged.result c.acknowledged.new.self.out c.acknowledged.ensures.acknowledges in
    record {
      there = subst (λ (bs : List Beside). c.args.node < length bs) (sym beside)
          (subst (λ (n : ℕ). c.args.node < n) (sym c.requires.ready.beside) c.requires.ready.there);
    }

pub received-requires-2-clause-bounds : goal.received-requires-2-clause-bounds
received-requires-2-clause-bounds c =
    checked_bounds (world_of c.acknowledged.new.self) (world_of c.begin_check.new.self) c.args.node c.reply_of.result c.begin_check.ensures.world
    (bounds_then (world_of c.args.self.now) c.hear-reported.new.self c.args.node c.args.got c.args.origin c.args.cost c.hear-reported.result
    c.hear-reported.new.out
    c.args.message.now c.due.result
    c.requires.ready.there c.requires.ready.accepted c.hear-reported.ensures.received c.requires.message (rw c.path-path.ensures at c.due.ensures.value)
    (world_of c.acknowledged.new.self) c.acknowledged.result c.acknowledged.new.self.out c.acknowledged.ensures.acknowledges c.requires.ready.bounds)

pub received-requires-2-clause-events : goal.received-requires-2-clause-events
received-requires-2-clause-events c =
    checked_events (world_of c.acknowledged.new.self) (world_of c.begin_check.new.self) c.args.node c.reply_of.result c.begin_check.ensures.world
    (events_then (world_of c.args.self.now) c.hear-reported.new.self c.args.node c.args.got c.args.origin c.args.cost c.hear-reported.result
    c.hear-reported.new.out
    c.args.message.now c.due.result
    c.requires.ready.there c.requires.ready.accepted c.hear-reported.ensures.received c.requires.message (rw c.path-path.ensures at c.due.ensures.value)
    (world_of c.acknowledged.new.self) c.acknowledged.result c.acknowledged.new.self.out c.acknowledged.ensures.acknowledges c.requires.ready.events)

pub returns-then-not-acknowledged : goal.returns-then-not-acknowledged
returns-then-not-acknowledged c =
    let w = world_of c.args.self.now in
    let got = c.args.got in
    let within : c.args.node < length w.beside = subst (λ (n : ℕ). c.args.node < n) (sym c.requires.ready.beside) c.requires.ready.there in
    let b = c.behind-self.inside in
    let held : (record { checks = b.checks; log = b.log; scan = b.scan })
    ≡ beside_at w c.args.node = c.behind-self.view_is ∙ beside_found w.beside c.args.node c.index.result.now within c.index.ensures in
    let is : is_unbelieved (beside_at w c.args.node).checks got.path (message_of got) ≡ false =
    sym ((rw c.path-path.ensures at c.if-is_unbelieved.ensures) ∙ ap (λ (k : Beside). is_unbelieved k.checks got.path c.args.message.now) held
    ∙ ap (λ (m : Option Message). is_unbelieved (beside_at w c.args.node).checks got.path m) c.requires.message) in
    named_so w _ c.args.node c.received.result
    (λ x. outcome_of_checked network w c.args.node x got c.args.origin c.args.cost)
    (λ x. outcome_of_further network w c.args.node x got c.args.origin c.args.cost)
    (λ x. further_checked w c.args.node x got c.args.origin c.args.cost c.requires.checks is c.requires.plain)
    (unacknowledged_then (world_of c.args.self.now) c.hear-reported.new.self c.args.node c.args.got c.args.origin c.args.cost c.hear-reported.result
    c.hear-reported.new.out c.args.message.now c.due.result
    c.requires.ready.there c.requires.ready.accepted c.hear-reported.ensures.received c.requires.message (rw c.path-path.ensures at c.due.ensures.value)
    (world_of c.acknowledged.new.self) (world_of c.received.new.self) c.acknowledged.new.self.out c.is_forged-forged.result c.received.result
    c.requires.ready.bounds
    c.requires.ready.events
    c.received.ensures.frames c.received.ensures.tags c.is_forged-forged.ensures c.acknowledged.result c.if-not-acknowledged.true
    c.acknowledged.ensures.acknowledges
    (c.received.ensures.reported ∙ ap (λ (r : Reception). reception_happenings (world_of c.acknowledged.new.self) c.args.node c.acknowledged.new.self.out
    c.is_forged-forged.result r) c.reception_of.ensures.value)
    (c.received.ensures.world ∙ ap (λ (r : Reception). left_of (world_of c.acknowledged.new.self) c.args.node c.acknowledged.new.self.out
    c.is_forged-forged.result r) c.reception_of.ensures.value))

pub returns : goal.returns
returns c =
    let w = world_of c.args.self.now in
    let got = c.args.got in
    let within : c.args.node < length w.beside = subst (λ (n : ℕ). c.args.node < n) (sym c.requires.ready.beside) c.requires.ready.there in
    let b = c.behind-self.inside in
    let held : (record { checks = b.checks; log = b.log; scan = b.scan })
    ≡ beside_at w c.args.node = c.behind-self.view_is ∙ beside_found w.beside c.args.node c.index.result.now within c.index.ensures in
    let is : is_unbelieved (beside_at w c.args.node).checks got.path (message_of got) ≡ false =
    sym ((rw c.path-path.ensures at c.if-is_unbelieved.ensures) ∙ ap (λ (k : Beside). is_unbelieved k.checks got.path c.args.message.now) held
    ∙ ap (λ (m : Option Message). is_unbelieved (beside_at w c.args.node).checks got.path m) c.requires.message) in
    let out : c.begin_check.new.self.out ≡ c.acknowledged.new.self.out = c.begin_check.ensures.out in
    named_so w _ c.args.node c.received-2.result
    (λ x. outcome_of_checked network w c.args.node x got c.args.origin c.args.cost)
    (λ x. outcome_of_further network w c.args.node x got c.args.origin c.args.cost)
    (λ x. further_checked w c.args.node x got c.args.origin c.args.cost c.requires.checks is c.requires.plain)
    (checked_then (world_of c.args.self.now) c.hear-reported.new.self c.args.node c.args.got c.args.origin c.args.cost c.hear-reported.result
    c.hear-reported.new.out
    c.args.message.now c.due.result
    c.requires.ready.there c.requires.ready.accepted c.hear-reported.ensures.received c.requires.message (rw c.path-path.ensures at c.due.ensures.value)
    (world_of c.acknowledged.new.self) (world_of c.received-2.new.self) c.begin_check.new.self.out c.is_forged-forged.result c.received-2.result
    c.requires.ready.bounds c.requires.ready.events
    c.received-2.ensures.frames c.received-2.ensures.tags c.is_forged-forged.ensures (world_of c.begin_check.new.self) c.reply_of.result c.acknowledged.result
    c.if-not-acknowledged.false
    (subst (λ (o : Out). IfSome (slice_get c.hear-reported.new.self c.args.node)
    (λ y. Acknowledges (record (world_of c.args.self.now) { nodes = c.hear-reported.new.self }) c.args.node y c.due.result
    c.hear-reported.new.out c.acknowledged.result o (world_of c.acknowledged.new.self))) (sym out) c.acknowledged.ensures.acknowledges) c.reply_of.ensures
    c.hear-reported.ensures.replied c.begin_check.ensures.world c.received-2.ensures.reported c.received-2.ensures.world)
