-- What a frame that was heard meets where neighbours are checked.
use Rattle.std.proofs.Common.{◌≡◌, ℕ, ◌<◌, ◌≤◌, Bool, true, false, List, length, Option, Some, None, refl, sym, ap, subst, ◌∙◌, if◌then◌else◌, ◌||◌, Ok, arith}
use Rattle.std.specs.Prelude.{IfSome, IsSome, is_some, slice_get, slice_set}
use Rattle.std.specs.List.{list_any}
use Rattle.std.proofs.lemmas.List.{length-set}
use Rattle.std.proofs.lemmas.Option.{slice_get_within}
use Rattle.store_tables.proofs.SlotTables.{slice_get-set}
use Rattle.plc_base.specs.declared.out_frame.Out.{Out}
use Rattle.loadng_messages.specs.declared.message.Message.{Message}
use Rattle.node_rules.specs.Accepted.{Accepted}
use Rattle.node_rules.specs.declared.heard.Reply.{Reply}
use Rattle.node_rules.specs.Ciphers.{network}
use Rattle.node_rules.specs.Frames.{spelled}
use Rattle.node_rules.specs.Memory.{Memory, Node}
use Rattle.node_rules.specs.NodeSteps.{NodeStep}
use Rattle.node_rules.specs.Replies.{reply_among}
use Rattle.reach_rules.specs.CheckedReplies.{message_of}
use Rattle.line_flights.specs.declared.flights.Origin.{Origin}
use Rattle.line_events.specs.declared.event.Answer.{Answer}
use Rattle.line_events.specs.declared.event.TheConstants.{MAX_EVENTS}
use Rattle.line_events.specs.declared.happenings.Happenings.{Happenings}
use Rattle.line_rules.specs.Answers.{Reception}
use Rattle.line_rules.specs.Further.{due}
use Rattle.line_rules.specs.Steps.{hearing_step}
use Rattle.line_rules.specs.Worlds.{World, is_forged_tag}
use Rattle.line_world.specs.declared.line.Line.{Line}
use Rattle.line_world.specs.declared.nodes.reception.Reception as receiving
use Rattle.line_world.specs.Arrivals.{Acknowledges, acknowledging_if, outcome_of_checked, in_run, left_of, reception_happenings, with_check_of}
use Rattle.line_world.specs.Bounds.{IsBounded}
use Rattle.line_world.specs.Lines.{HasRoom}
use Rattle.line_world.specs.Receptions.{MayHear, Received}
use Rattle.line_world.specs.Steps.{Steps}
use Rattle.line_world.proofs.Arrivals.{as_many, at_node_after, at_some, in_run_again}
use Rattle.line_world.proofs.FurtherReceptions.{IsDue, is_due, joined, reply_few, unacknowledged, was_checked, was_unacknowledged}
use Rattle.line_world.proofs.SetupSteps.{bounded_beside}
use Rattle.line_world.proofs.EventSteps.{many_given}
use Rattle.line_world.proofs.UnaskedReplies.{none_unasked}

some_reply : (o : Option Reply) → IsSome o → (r : Reply) × (o ≡ Some r)
some_reply None is = absurd (cc)
some_reply (Some r) is = (r, refl)

-- a node hears a frame
module _ (w : World) (nodes : List Node) (number : ℕ) (got : Accepted) (origin : Origin) (cost : ℕ) (r : receiving.Reception) (before : Out)
    (message : Option Message) (reply : Option Reply)
    (there : number < length w.nodes) (accepted : IfSome (slice_get w.nodes number) (λ y. MayHear y got))
    (heard : IfSome (slice_get w.nodes number) (λ y. Received (hearing_step network y got cost origin.note w.clock) w.nodes number r before nodes))
    (message_is : message ≡ message_of got) (due_is : reply ≡ due got.path message r.answer) where
  abbrev x : Node
  x = (at_some w.nodes number there).0

  at : slice_get w.nodes number ≡ Some x
  at = (at_some w.nodes number there).1

  abbrev d : NodeStep Reception
  d = hearing_step network x got cost origin.note w.clock

  rec : Received d w.nodes number r before nodes
  rec = at_node_after w.nodes number x (λ y. Received (hearing_step network y got cost origin.note w.clock) w.nodes number r before nodes) at heard

  may : MayHear x got
  may = at_node_after w.nodes number x (λ y. MayHear y got) at accepted

  heard_at : slice_get nodes number ≡ Some d.node
  heard_at = ap (λ (ns : List Node). slice_get ns number) rec.did.nodes_are ∙ slice_get-set w.nodes number d.node (slice_get_within w.nodes number x at)

  -- the acknowledgement that is due by what was told is the one of the rule
  due_reply_is : due got.path (message_of got) d.answer.answer ≡ reply
  due_reply_is =
      sym (due_is ∙ ap (λ (m : Option Message). due got.path m r.answer) message_is ∙ ap (λ (a : Answer). due got.path (message_of got) a) rec.reports.answer)

  dues : IsSome reply → IsDue got.path (message_of got) d.answer.answer
  dues some = let one = some_reply reply some in is_due got.path (message_of got) d.answer.answer one.0 (due_reply_is ∙ one.1)

  -- a node that has to acknowledge has a ring, and room for one frame more
  pub joined_then : IsSome reply → IfSome (slice_get nodes number) (λ (y : Node). IfSome y.memory (λ (m : Memory). IsSome m.station.ring))
  joined_then some =
      subst (λ (o : Option Node). IfSome o (λ (y : Node). IfSome y.memory (λ (m : Memory). IsSome m.station.ring))) (sym heard_at) (by d.node.memory refl)
    where
      by : (o : Option Memory) → d.node.memory ≡ o → IfSome o (λ (m : Memory). IsSome m.station.ring)
      by None e = tt
      by (Some n) e = joined x got cost origin.note w.clock n (dues some) e

  pub room_then : IsSome reply → length before.frames < 24
  room_then some =
      let k = dues some in
      let few : length d.frames ≤ 22 = reply_few x got cost origin.note w.clock k.from false k.key k.number k.link k.origin k.to k.path_is k.message_is
      may.waits in
      let same : length before.frames ≡ length d.frames = ap (λ (o : Out). length o.frames) rec.did.out_is ∙ many_given (spelled network) d.frames in
      omega (arith, few, same)

  -- the reply that begins a check
  sent_then : (sent : Option Reply) → sent ≡ (if is_some message then r.replied else None)
      → (IsSome (message_of got) → IfSome (slice_get w.nodes number)
      (λ y. r.replied ≡ reply_among (hearing_step network y got cost origin.note w.clock).frames))
      → sent ≡ reply_among d.frames
  sent_then sent is replied =
      is ∙ ap (λ (m : Option Message). if is_some m then r.replied else None) message_is
      ∙ by (message_of got) refl (λ some. at_node_after w.nodes number x
      (λ y. r.replied ≡ reply_among (hearing_step network y got cost origin.note w.clock).frames) at
      (replied some))
    where
      by : (m : Option Message) → message_of got ≡ m → (IsSome m → r.replied ≡ reply_among d.frames)
          → (if is_some m then r.replied else None) ≡ reply_among d.frames
      by None e f = sym (none_unasked x got cost origin.note w.clock e)
      by (Some m) e f = f refl

  many : length nodes ≡ length w.nodes
  many = as_many d w.nodes number d.answer before nodes rec.did

  -- # After the acknowledgement

  module _ (v2 : World) (done : Bool) (out : Out)
      (acknowledges : IfSome (slice_get nodes number) (λ y. Acknowledges (record w { nodes = nodes }) number y reply before done out v2)) where
    ack : Acknowledges (record w { nodes = nodes }) number d.node reply before done out v2
    ack = at_node_after nodes number d.node (λ y. Acknowledges (record w { nodes = nodes }) number y reply before done out v2) heard_at acknowledges

    -- the world keeps its count of events, and what stands beside its nodes
    pub events_then : w.events < MAX_EVENTS → v2.events < MAX_EVENTS
    events_then less = subst (λ (u : World). u.events < MAX_EVENTS) (sym ack.world_is) less

    pub beside_then : v2.beside ≡ w.beside
    beside_then = ap (λ (u : World). u.beside) ack.world_is

    pub bounds_then : IsBounded (in_run w) → IsBounded (in_run v2)
    bounds_then b =
        let left = slice_set nodes number (acknowledging_if d.node reply).node in
        subst (λ (u : World). IsBounded (in_run u)) (sym ack.world_is)
        (in_run_again w left b (length-set nodes number (acknowledging_if d.node reply).node ∙ many))

  at_number : (P : Node → Type 0) → P x → IfSome (slice_get w.nodes number) P
  at_number P p = subst (λ (o : Option Node). IfSome o P) (sym at) p

  module _ (v2 new : World) (out : Out) (forged : Bool) (h : Happenings) (bounded : IsBounded (in_run w)) (room : w.events < MAX_EVENTS)
      (frames : length out.frames ≤ 24) (tags : length out.tags.made ≤ 2)
      (is_forged : forged ≡ (origin.is_forged || list_any (is_forged_tag w.made) before.tags.opened)) where
    pub checked_then : (v3 : World) (sent : Option Reply) (done : Bool) → done ≡ true
        → IfSome (slice_get nodes number) (λ y. Acknowledges (record w { nodes = nodes }) number y reply before done out v2)
        → sent ≡ (if is_some message then r.replied else None)
        → (IsSome (message_of got) → IfSome (slice_get w.nodes number)
        (λ y. r.replied ≡ reply_among (hearing_step network y got cost origin.note w.clock).frames))
        → v3 ≡ with_check_of v2 number sent → h ≡ reception_happenings v3 number out forged r → new ≡ left_of v3 number out forged r
        → IfSome (slice_get w.nodes number) (λ y. Steps true w (Ok h) new (Ok (outcome_of_checked network w number y got origin cost)))
    checked_then v3 sent done up acknowledges sent_is replied checks said is =
        at_number (λ y. Steps true w (Ok h) new (Ok (outcome_of_checked network w number y got origin cost)))
        (was_checked w v2 new number x got origin cost r before out nodes forged reply h bounded room frames tags at rec is_forged due_reply_is v3 sent
        (subst (λ (b : Bool). IfSome (slice_get nodes number) (λ y. Acknowledges (record w { nodes = nodes }) number y reply before b out v2)) up acknowledges)
        (sent_then sent sent_is replied) checks said is)

    pub unacknowledged_then : (done : Bool) → done ≡ false
        → IfSome (slice_get nodes number) (λ y. Acknowledges (record w { nodes = nodes }) number y reply before done out v2)
        → h ≡ reception_happenings v2 number out forged unacknowledged → new ≡ left_of v2 number out forged unacknowledged
        → IfSome (slice_get w.nodes number) (λ y. Steps true w (Ok h) new (Ok (outcome_of_checked network w number y got origin cost)))
    unacknowledged_then done down acknowledges said is =
        at_number (λ y. Steps true w (Ok h) new (Ok (outcome_of_checked network w number y got origin cost)))
        (was_unacknowledged w v2 new number x got origin cost r before out nodes forged reply h bounded room frames tags at rec is_forged due_reply_is
        (subst (λ (b : Bool). IfSome (slice_get nodes number) (λ y. Acknowledges (record w { nodes = nodes }) number y reply before b out v2)) down
        acknowledges) said is)

-- with other checks beside a node it keeps its bounds too
pub checked_bounds : (v2 v3 : World) (number : ℕ) (sent : Option Reply) → v3 ≡ with_check_of v2 number sent → IsBounded (in_run v2) → IsBounded (in_run v3)
checked_bounds v2 v3 number sent is b =
    subst (λ (u : World). IsBounded (in_run u)) (sym is) (bounded_beside (in_run v2) (with_check_of v2 number sent).beside b)

pub checked_events : (v2 v3 : World) (number : ℕ) (sent : Option Reply) → v3 ≡ with_check_of v2 number sent → v2.events < MAX_EVENTS → v3.events < MAX_EVENTS
checked_events v2 v3 number sent is less = subst (λ (u : World). u.events < MAX_EVENTS) (sym is) less

-- what is reserved stays
pub room_kept : (k l : Line) → k.flights ≡ l.flights → k.made ≡ l.made → HasRoom l → HasRoom k
room_kept k l flights made h = record {
  places = subst (λ f. 24 ≤ f.places) (sym flights) h.places;
  room = subst (λ f. 9600 ≤ f.room) (sym flights) h.room;
  tags = subst (λ t. 2 ≤ t.places) (sym made) h.tags;
}
