-- What octets that come to a node make of something that its station holds, whatever power is lost: one traversal, for bodies and for pieces.
use Rattle.std.proofs.Common.{◌≡◌, ℕ, Bool, true, false, List, [], ◌++◌, map, Option, Some, None, Result, Ok, Err, refl, sym, ap, subst, ◌∙◌}
use Rattle.std.specs.Prelude.{if◌then◌else◌, is_some, slice_get, slice_set, ◌==◌}
use Rattle.std.specs.Option.{option_map, option_map_or, option_and_then}
use Rattle.std.proofs.lemmas.List.{append_assoc, append-nil}
use Rattle.std.proofs.lemmas.Option.{same_Some}
use Rattle.store_tables.proofs.SlotTables.{slice_get-set}
use Rattle.mesh_header.specs.declared.unit.Unit.{Unit as MeshUnit}
use Rattle.mesh_header.specs.declared.unit.Unit.TheVariants as units
use Rattle.mesh_header.specs.Reader.{unit_in}
use Rattle.node_rules.specs.Accepted.{Accepted}
use Rattle.node_rules.specs.declared.heard.Heard.TheVariants as heard_words
use Rattle.node_rules.specs.declared.heard.Path.{Path}
use Rattle.node_rules.specs.declared.heard.Path.TheVariants as paths
use Rattle.node_rules.specs.declared.heard.Reply.{Reply}
use Rattle.node_rules.specs.declared.refusal.Dropped.TheVariants as drops
use Rattle.node_rules.specs.declared.refusal.FrameRefusal.{FrameRefusal}
use Rattle.node_rules.specs.declared.refusal.FrameRefusal.TheVariants as frames
use Rattle.node_rules.specs.declared.refusal.LocalRefusal.{LocalRefusal}
use Rattle.node_rules.specs.declared.refusal.LocalRefusal.TheVariants as locals
use Rattle.node_rules.specs.Acceptance.{accept}
use Rattle.node_rules.specs.Ciphers.{Ciphers}
use Rattle.node_rules.specs.Drafts.{choose}
use Rattle.node_rules.specs.Frames.{Sent, arrived, spelled}
use Rattle.node_rules.specs.HearingRules.{Hearing, drop_it, hear, hear_sealed, hear_unit_in}
use Rattle.node_rules.specs.Memory.{StationMemory, Memory, Node, address_of}
use Rattle.node_rules.specs.MemoryDrafts.{Unread, in_memory, unread}
use Rattle.node_rules.specs.NodeSteps.{NodeStep, acts, of_station}
use Rattle.node_rules.specs.Plans.{Plan, resting}
use Rattle.node_rules.specs.Replies.{reply_among}
use Rattle.node_rules.proofs.HaltedNodes.{does_nothing}
use Rattle.node_rules.proofs.Refusals.{frames_refused}
use Rattle.reach_rules.specs.declared.heard.CommandHeard.{CommandHeard}
use Rattle.reach_rules.specs.declared.refusal.ReachDropped.{ReachDropped}
use Rattle.reach_rules.specs.declared.refusal.ReachDropped.TheVariants as reach_drops
use Rattle.reach_rules.specs.Beacons.{is_discovery}
use Rattle.reach_rules.specs.CheckedReplies.{acknowledges, message_of}
use Rattle.reach_rules.specs.FurtherReceptions.{NeighbourCommand, command_of, command_on, command_with, hear_command}
use Rattle.line_events.specs.declared.event.Answer.TheVariants as answers
use Rattle.line_rules.specs.Answers.{Reception, command_word, frame_word}
use Rattle.line_rules.specs.Forgery.{accepting}
use Rattle.line_rules.specs.Further.{accepted_further, acknowledged, acknowledged_if, acknowledging, adds_frames, beside_at, checked, commanded, comes}
use Rattle.line_rules.specs.Further.{discovers_by, due, further_hearing_outcome, hearing_outcome_by, is_dropped, sends_nothing, unbelieved, with_beside}
use Rattle.line_rules.specs.Further.{with_check}
use Rattle.line_rules.specs.Steps.{flight_by, flights_of, handed_by, hearing_outcome, hearing_step, note_by, world_after}
use Rattle.line_rules.specs.Worlds.{World, Flight, Trace, node_at}
use Rattle.line_progress.specs.Held.{KeepsHeld}
use Rattle.line_progress.specs.Stations.{station_at}
use Rattle.line_progress.proofs.WholePlans.{Acted, Whole, Failed, acts_either}
use Rattle.line_progress.proofs.HeldEvents.{held_at, station_of}
use Rattle.line_progress.proofs.HeldKept.{held_on, same_held}
use Rattle.line_progress.proofs.NodeFates.{Makes, AsStation, Keeps, HasLeft, Halts, makes}
use Rattle.line_progress.proofs.ReachFails.{commands_fail}
use Rattle.line_progress.proofs.ReachKept.{IsMarked, accepts_marks, acks_keep, commands_keep}
use Rattle.line_progress.proofs.StationReceipts.{AsPlanned, HasHalted, says}
use Rattle.line_progress.proofs.SendEvents.{inside}

-- # Nodes

abbrev pub station_in : Option Memory → Option StationMemory
station_in o = option_map (λ (m : Memory). m.station) o

set_there : (xs : List Node) (number : ℕ) (x y : Node) → slice_get xs number ≡ Some x → slice_get (slice_set xs number y) number ≡ Some y
set_there xs number x y there = slice_get-set xs number y (inside xs number x there)

pub left_there : (xs : List Node) (number : ℕ) (x y : Node) → slice_get xs number ≡ Some x → held_at (slice_set xs number y) number ≡ station_of y
left_there xs number x y there = ap (option_and_then station_of) (set_there xs number x y there)

marked_held : (l n now : StationMemory) → IsMarked l n → KeepsHeld n now → KeepsHeld l now
marked_held l n now marked k = record {
  more = k.more;
  waiting = k.waiting ∙ ap (λ ws. ws ++ k.more) marked.waiting;
  reassemblies = k.reassemblies ∙ marked.reassemblies;
}

-- a station reads no joining message in a command for the neighbours
hands_no_joining : (l : StationMemory) (got : Accepted) (cost note now : ℕ) (c : NeighbourCommand) → command_of got ≡ Some c
    → unread (hear l got cost note now).answer ≡ None
unfolding resting choose
hands_no_joining l got cost note now c e = by_path got.path (unit_in got.payload) e
  where
    NoJoining : Hearing → Type 0
    NoJoining p = unread p.answer ≡ None

    by_code : (own from : ℕ) (all : Bool) (code : ℕ) (body : List ℕ) (s t : Bool) (p q : Hearing)
        → (if s then None else (if t then None else Some (record { from = from; to_all = all; code = code; body = body }))) ≡ Some c
        → NoJoining (if s then p else (if t then q else resting l (Ok (heard_words.Local from all code body)) (Err drops.Store)))
    by_code own from all code body true t p q is = absurd (cc (is))
    by_code own from all code body false true p q is = absurd (cc (is))
    by_code own from all code body false false p q is = refl

    by_address : (o : Option ℕ) (from : ℕ) (all : Bool) (unit : MeshUnit) → command_with from all (Some unit) ≡ Some c
        → NoJoining (option_map_or (λ a. hear_sealed l a from all unit cost note now) o (drop_it l drops.BadUnit))
    by_address None from all unit is = refl
    by_address (Some own) from all (units.Local code body) is = by_code own from all code body (code == 1) (code == 2) _ _ is
    by_address (Some own) from all (units.Whole mesh octets) is = absurd (cc (is))
    by_address (Some own) from all (units.Part mesh piece) is = absurd (cc (is))
    by_address (Some own) from all (units.Carried mesh body) is = absurd (cc (is))

    by_path : (p : Path) (o : Option MeshUnit) → command_on p o ≡ Some c → NoJoining (hear_unit_in l p o cost note now)
    by_path p None is = refl
    by_path (paths.Sealed from all key) (Some unit) is = by_address (address_of l) from all unit is
    by_path (paths.Up from) (Some unit) is = absurd (cc (is))
    by_path (paths.Down from) (Some unit) is = absurd (cc (is))

-- # After a frame was heard

-- What the node then held it holds still, and what flew has at most more after it; a command for the neighbours alone changes the answer; or
-- a write failed.
pub data After (ciphers : Ciphers) (w : World) (number : ℕ) (command : Option NeighbourCommand) (d : NodeStep Reception) (r : World × Trace) : Type 0 where
  GoesOn : (held now : StationMemory) → station_of d.node ≡ Some held → station_at r.0 number ≡ Some now → KeepsHeld held now → (more : List Flight)
      → r.0.flights ≡ w.flights ++ (flights_of ciphers number d ++ more) → r.1.happenings.up ≡ handed_by number d.answer.up
      → (command ≡ None → r.1.happenings.answer ≡ d.answer.answer) → After ciphers w number command d r
  Fails : r.1.happenings.answer ≡ answers.Store → station_at r.0 number ≡ None → After ciphers w number command d r

-- # The event

-- A node heard a frame: what it accepted, its station then, and what it holds after the event, in which it sent what its station planned, and
-- handed up what that says.
pub record IsHeard (ciphers : Ciphers) (w : World) (number cost : ℕ) (x : Node) (octets : List ℕ) (l : StationMemory) (r : World × Trace) : Type 0 where
  pub got : Accepted
  pub accepted : (accepting ciphers x octets).answer ≡ Ok got
  pub station : StationMemory
  pub marked : IsMarked l station
  pub now : StationMemory
  pub there : station_at r.0 number ≡ Some now
  pub held : KeepsHeld (hear station got cost (note_by w octets got.path) w.clock).memory now
  pub more : List Flight
  pub flights : r.0.flights
      ≡ w.flights
      ++ (map (λ (frame : Sent). flight_by number (spelled ciphers frame)) (hear station got cost (note_by w octets got.path) w.clock).frames ++ more)
  pub up : r.1.happenings.up ≡ handed_by number (says (hear station got cost (note_by w octets got.path) w.clock).answer).up

module _ (ciphers : Ciphers) (w : World) (number cost : ℕ) (x : Node) (octets : List ℕ) (there : node_at w number ≡ Some x) (y : Node) (got : Accepted)
    (n : Memory) (runs_on : y.memory ≡ Some n) where
  abbrev pub note_of : ℕ
  note_of = note_by w octets got.path

  abbrev pub d : NodeStep Reception
  d = hearing_step ciphers y got cost note_of w.clock

  abbrev pub plan_of : Hearing
  plan_of = hear n.station got cost note_of w.clock

  abbrev heard : World × Trace
  heard = hearing_outcome ciphers w number y octets got cost

  abbrev pub Then : World × Trace → Type 0
  Then r = After ciphers w number (command_of got) d r

  makes_so : Makes n.station plan_of d
  makes_so = makes ciphers y n runs_on got cost note_of w.clock

  at_node : station_at heard.0 number ≡ station_of d.node
  unfolding world_after
  at_node = left_there w.nodes number x d.node there

  flew : heard.0.flights ≡ w.flights ++ flights_of ciphers number d
  unfolding world_after
  flew = refl

  dead : d.node.memory ≡ None → d.answer.answer ≡ answers.Store
  dead e = by_makes makes_so
    where
      by_makes : Makes n.station plan_of d → d.answer.answer ≡ answers.Store
      by_makes (AsStation none (AsPlanned a f g)) = let h : station_of d.node ≡ None = ap station_in e in absurd (cc)
      by_makes (AsStation none (HasHalted a f g)) = ap (λ (r : Reception). r.answer) a
      by_makes (Keeps now g k) = let h : station_of d.node ≡ None = ap station_in e in absurd (cc)
      by_makes (HasLeft u now f g a) = let h : station_of d.node ≡ None = ap station_in e in absurd (cc)
      by_makes (Halts a g) = a

  -- what only stands beside the memories is another one
  beside_it : (r : World × Trace) → r.0.nodes ≡ heard.0.nodes → r.0.flights ≡ heard.0.flights → r.1.happenings ≡ heard.1.happenings → Then r
  beside_it r nodes flights said = by_memory d.node.memory refl
    where
      here : station_at r.0 number ≡ station_of d.node
      here = ap (λ ns. held_at ns number) nodes ∙ at_node

      by_memory : (o : Option Memory) → d.node.memory ≡ o → Then r
      by_memory None e = Fails (ap (λ h. h.answer) said ∙ dead e) (here ∙ ap station_in e)
      by_memory (Some k) e =
          GoesOn k.station k.station (ap station_in e) (here ∙ ap station_in e) (same_held k.station) []
          (flights ∙ flew ∙ ap (λ fs. w.flights ++ fs) (sym (append-nil (flights_of ciphers number d)))) (ap (λ h. h.up) said)
          (λ none. ap (λ h. h.answer) said)

  -- # A reply that is acknowledged

  module _ (reply : Reply) where
    abbrev before : World × Trace
    before = with_check w number (reply_among d.frames) heard

    abbrev ack : NodeStep (Result (Unit {0}) LocalRefusal)
    ack = acknowledging d.node reply

    abbrev ack_plan : Memory → Plan Memory (Result (Unit {0}) LocalRefusal)
    ack_plan k = acknowledges in_memory reply.to reply.number reply.origin k

    acked_at : held_at (world_after ciphers before.0 number ack).nodes number ≡ station_of ack.node
    unfolding world_after
    acked_at = left_there (slice_set w.nodes number d.node) number d.node ack.node (set_there w.nodes number x d.node there)

    acked_flew : (world_after ciphers before.0 number ack).flights ≡ w.flights ++ (flights_of ciphers number d ++ flights_of ciphers number ack)
    unfolding world_after
    acked_flew = append_assoc w.flights (flights_of ciphers number d) (flights_of ciphers number ack)

    abbrev outcome_by : Bool → World × Trace
    outcome_by b =
        if b then adds_frames (world_after ciphers before.0 number ack) before.1 ack
        else sends_nothing w (world_after ciphers before.0 number ack, before.1)

    ack_fails : ack.node.memory ≡ None → Then (acknowledged ciphers w number ack before)
    ack_fails e = subst (λ b. Then (outcome_by b)) (sym (ap is_some e)) (Fails refl (acked_at ∙ ap station_in e))

    ack_done : (k : Memory) → d.node.memory ≡ Some k → ack.node.memory ≡ Some (ack_plan k).memory → Then (acknowledged ciphers w number ack before)
    ack_done k e f =
        subst (λ b. Then (outcome_by b)) (sym (ap is_some f))
        (GoesOn k.station (ack_plan k).memory.station (ap station_in e) (acked_at ∙ ap station_in f)
        (acks_keep k reply.to reply.number reply.origin).held (flights_of ciphers number ack) acked_flew refl (λ none. refl))

    acked : Then (acknowledged ciphers w number ack before)
    acked = by_memory d.node.memory refl
      where
        by_act : (k : Memory) → d.node.memory ≡ Some k → Acted (ack_plan k) ack → Then (acknowledged ciphers w number ack before)
        by_act k e (Whole a f g) = ack_done k e g
        by_act k e (Failed a f g) = ack_fails g

        by_memory : (o : Option Memory) → d.node.memory ≡ o → Then (acknowledged ciphers w number ack before)
        by_memory None e =
            ack_fails (ap (λ (s : NodeStep (Result (Unit {0}) LocalRefusal)). s.node.memory) (does_nothing d.node (Err locals.Store) ack_plan e) ∙ e)
        by_memory (Some k) e = by_act k e (acts_either d.node k (Err locals.Store) ack_plan e)

  by_due : (o : Option Reply) → Then (acknowledged_if ciphers w number d.node o (with_check w number (reply_among d.frames) heard))
  by_due None = beside_it (with_check w number (reply_among d.frames) heard) refl refl refl
  by_due (Some reply) = acked reply

  by_checks : (b : Bool) → Then (if b then checked ciphers w number got d heard else heard)
  by_checks true = by_due (due got.path (message_of got) d.answer.answer)
  by_checks false = beside_it heard refl refl refl

  -- # A command for the neighbours

  module _ (c : NeighbourCommand) (is : command_of got ≡ Some c) where
    abbrev halted : Result CommandHeard ReachDropped
    halted = Err (reach_drops.Known drops.Store)

    abbrev said : Memory → Plan Memory (Result CommandHeard ReachDropped)
    said k = with_beside (beside_at heard.0 number) (λ z. hear_command in_memory z c) k

    abbrev hearing : NodeStep (Result CommandHeard ReachDropped)
    hearing = acts d.node halted said

    abbrev outcome : World × Trace
    outcome = commanded ciphers number d.node c heard

    commanded_at : station_at outcome.0 number ≡ station_of hearing.node
    unfolding world_after
    commanded_at = left_there (slice_set w.nodes number d.node) number d.node hearing.node (set_there w.nodes number x d.node there)

    commanded_flew : outcome.0.flights ≡ w.flights ++ (flights_of ciphers number d ++ flights_of ciphers number hearing)
    unfolding world_after
    commanded_flew = append_assoc w.flights (flights_of ciphers number d) (flights_of ciphers number hearing)

    not_none : command_of got ≡ None → outcome.1.happenings.answer ≡ d.answer.answer
    not_none none = absurd (cc)

    commands_so : Then outcome
    commands_so = by_memory d.node.memory refl
      where
        by_act : (k : Memory) → d.node.memory ≡ Some k → Acted (said k) hearing → Then outcome
        by_act k e (Whole a f g) =
            GoesOn k.station (said k).memory.station (ap station_in e) (commanded_at ∙ ap station_in g)
            (commands_keep (record { memory = k; beside = beside_at heard.0 number }) c).held (flights_of ciphers number hearing) commanded_flew refl
            not_none
        by_act k e (Failed a f g) =
            Fails (ap command_word (a ∙ (commands_fail (record { memory = k; beside = beside_at heard.0 number }) c).failed))
            (commanded_at ∙ ap station_in g)

        by_memory : (o : Option Memory) → d.node.memory ≡ o → Then outcome
        by_memory None e =
            let s : hearing ≡ record { node = d.node; answer = halted; frames = []; made = []; opened = [] } = does_nothing d.node halted said e in
            Fails (ap (λ (t : NodeStep (Result CommandHeard ReachDropped)). command_word t.answer) s)
            (commanded_at ∙ ap (λ (t : NodeStep (Result CommandHeard ReachDropped)). station_of t.node) s ∙ ap station_in e)
        by_memory (Some k) e = by_act k e (acts_either d.node k halted said e)

  -- # A frame that was accepted

  pub by_command : (o : Option NeighbourCommand) → command_of got ≡ o → Then (hearing_outcome_by ciphers w number y octets got cost o)
  by_command None e = by_checks w.checks_on
  by_command (Some c) e = commands_so c e

module _ (ciphers : Ciphers) (w : World) (number cost : ℕ) (x : Node) (octets : List ℕ) (m : Memory) (there : node_at w number ≡ Some x)
    (runs : x.memory ≡ Some m) (P : World × Trace → Type 0)
    (keeps : (r : World × Trace) (now : StationMemory) → station_at r.0 number ≡ Some now → KeepsHeld m.station now → P r)
    (halts : (r : World × Trace) → r.1.happenings.answer ≡ answers.Store → station_at r.0 number ≡ None → P r)
    (leaves : (r : World × Trace) → r.1.happenings.answer ≡ answers.Left → P r)
    (hears : (r : World × Trace) → IsHeard ciphers w number cost x octets m.station r → P r) where
  as_before : station_at w number ≡ Some m.station
  as_before = ap (option_and_then station_of) there ∙ ap station_in runs

  module _ (y : Node) (got : Accepted) (n : Memory) (runs_on : y.memory ≡ Some n) (marked : IsMarked m.station n.station)
      (is : (accepting ciphers x octets).answer ≡ Ok got) where
    abbrev step : NodeStep Reception
    step = d ciphers w number cost x octets there y got n runs_on

    abbrev plan : Hearing
    plan = plan_of ciphers w number cost x octets there y got n runs_on

    no_command : (u : Unread) → unread plan.answer ≡ Some u → command_of got ≡ None
    no_command u e = by_command_of (command_of got) refl
      where
        by_command_of : (o : Option NeighbourCommand) → command_of got ≡ o → command_of got ≡ None
        by_command_of None f = f
        by_command_of (Some c) f =
            let none = hands_no_joining n.station got cost (note_by w octets got.path) w.clock c f in absurd (cc)

    from_after : (r : World × Trace) → Then ciphers w number cost x octets there y got n runs_on r → P r
    from_after r (Fails a e) = halts r a e
    from_after r (GoesOn held now from at k more flights up answer) = by_makes (makes ciphers y n runs_on got cost (note_by w octets got.path) w.clock)
      where
        by_makes : Makes n.station plan step → P r
        by_makes (AsStation none (AsPlanned a f g)) =
            let same : held ≡ plan.memory = same_Some held plan.memory (sym from ∙ g) in
            hears r (record {
              got = got;
              accepted = is;
              station = n.station;
              marked = marked;
              now = now;
              there = at;
              held = subst (λ s. KeepsHeld s now) same k;
              more = more;
              flights = flights ∙ ap (λ fs. w.flights ++ (map (λ (frame : Sent). flight_by number (spelled ciphers frame)) fs ++ more)) f;
              up = up ∙ ap (λ (q : Reception). handed_by number q.up) a;
            })
        by_makes (AsStation none (HasHalted a f g)) = let h : station_of step.node ≡ None = ap station_in g in absurd (cc)
        by_makes (Keeps s g kept) =
            let same : held ≡ s = same_Some held s (sym from ∙ g) in
            keeps r now at (marked_held m.station n.station now marked (held_on n.station s now kept (subst (λ t. KeepsHeld t now) same k)))
        by_makes (HasLeft u s f g a) = leaves r (answer (no_command u f) ∙ a)
        by_makes (Halts a g) = let h : station_of step.node ≡ None = ap station_in g in absurd (cc)

    stays_at : station_at (unbelieved ciphers w number y octets got).0 number ≡ Some n.station
    unfolding world_after
    stays_at = left_there w.nodes number x y there ∙ ap station_in runs_on

    by_drop : (b : Bool) → P (if b then unbelieved ciphers w number y octets got
        else hearing_outcome_by ciphers w number y octets got cost (command_of got))
    by_drop true = keeps _ n.station stays_at (marked_held m.station n.station n.station marked (same_held n.station))
    by_drop false = from_after _ (by_command ciphers w number cost x octets there y got n runs_on (command_of got) refl)

    pub further : P (further_hearing_outcome ciphers w number y octets got cost)
    further = by_drop (is_dropped w number got)

  -- # Accepting

  abbrev accepts : Memory → Plan Memory (Result Accepted FrameRefusal)
  accepts k = of_station k (accept k.station x.eui (arrived ciphers octets))

  abbrev opened : NodeStep (Result Accepted FrameRefusal)
  opened = accepting ciphers x octets

  refused_at : (reason : FrameRefusal) → station_at (accepted_further ciphers w number octets cost (record opened { answer = Err reason })).0 number
      ≡ station_of opened.node
  unfolding world_after
  refused_at reason = left_there w.nodes number x opened.node there

  marked_so : IsMarked m.station (accepts m).memory.station
  marked_so = accepts_marks m.station x.eui (arrived ciphers octets)

  not_failed : (got : Accepted) → opened.answer ≡ Ok got → opened.answer ≡ (accepts m).failed → ⊥
  not_failed got e a =
      let f : (accepts m).failed ≡ Err frames.Store = (frames_refused m.station x.eui (arrived ciphers octets)).0 in cc

  same_reason : (reason : FrameRefusal) → opened.answer ≡ Err reason → opened.answer ≡ (accepts m).failed → reason ≡ frames.Store
  same_reason reason e a =
      let f : (accepts m).failed ≡ Err frames.Store = (frames_refused m.station x.eui (arrived ciphers octets)).0 in cc

  by_answer : (a : Result Accepted FrameRefusal) → opened.answer ≡ a → Acted (accepts m) opened
      → P (accepted_further ciphers w number octets cost (record opened { answer = a }))
  by_answer (Ok got) e (Whole a f g) = further opened.node got (accepts m).memory g marked_so e
  by_answer (Ok got) e (Failed a f g) = absurd (not_failed got e a)
  by_answer (Err reason) e (Whole a f g) =
      keeps _ (accepts m).memory.station (refused_at reason ∙ ap station_in g)
      (marked_held m.station (accepts m).memory.station _ marked_so (same_held (accepts m).memory.station))
  by_answer (Err reason) e (Failed a f g) = halts _ (ap frame_word (same_reason reason e a)) (refused_at reason ∙ ap station_in g)

  accepted_so : P (accepted_further ciphers w number octets cost opened)
  accepted_so = by_answer opened.answer refl (acts_either x m (Err frames.Halted) accepts runs)

  discovers_at : (o : Option Memory) → station_at (discovers_by w number x octets cost o).0 number ≡ Some m.station
  discovers_at None = as_before
  discovers_at (Some k) = as_before

  by_kind : (b : Bool) → P (if b then discovers_by w number x octets cost x.memory else accepted_further ciphers w number octets cost opened)
  by_kind true = keeps _ m.station (discovers_at x.memory) (same_held m.station)
  by_kind false = accepted_so

  pub comes_so : P (comes ciphers w number x octets cost)
  unfolding comes
  comes_so = by_kind (is_discovery octets)
