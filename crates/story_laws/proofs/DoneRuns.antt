-- The verdict on each story of a run but that of a datagram is that it is done exactly where an entry of the run says so.
use Rattle.std.proofs.Common.{◌≡◌, ℕ, zero, suc, ◌+◌, ◌-◌, ◌<◌, ◌==◌, Bool, true, false, not, List, [], ◌∷◌, ◌++◌, length, map, slice_get, Option, Some, None}
use Rattle.std.proofs.Common.{Result, Ok, Err, refl, sym, ap, subst, ◌∙◌, ◌⊎◌, ⊎_elim, arith}
use Rattle.std.specs.Prelude.{◌&&◌, ◌||◌, All, IfSome, if◌then◌else◌, is_some}
use Rattle.std.specs.Option.{option_map}
use Rattle.std.proofs.lemmas.Bool.{and_parts, eq-eqb, eqb-true}
use Rattle.std.proofs.lemmas.Option.{none-some, same_Some}
use Rattle.plc_base.specs.declared.key.RandomOctets.{RandomOctets}
use Rattle.node_rules.specs.declared.refusal.CoordinatorRefusal.{CoordinatorRefusal}
use Rattle.node_rules.specs.declared.refusal.CoordinatorRefusal.TheVariants as orders
use Rattle.node_rules.specs.declared.refusal.RandomFault.{RandomFault}
use Rattle.node_rules.specs.declared.refusal.RandomFault.TheVariants as randoms
use Rattle.node_rules.specs.Ciphers.{network}
use Rattle.node_rules.specs.Coordinators as coordinator_rules
use Rattle.node_rules.specs.NodeSteps.{acts}
use Rattle.line_events.specs.declared.event.Answer.{Answer}
use Rattle.line_events.specs.declared.event.Event.{Event}
use Rattle.line_events.specs.declared.event.Event.TheVariants as events
use Rattle.line_events.specs.declared.event.StepFault.TheVariants as faults
use Rattle.line_laws.proofs.LawRuns.{every_trace}
use Rattle.line_laws.proofs.ReachReported.{every_reported}
use Rattle.line_laws.specs.ReachTraces.{AreReachReported, IsReachReported, WalkCame}
use Rattle.line_laws.specs.ReachTraces as reach
use Rattle.line_progress.proofs.Events.{StepHas, Taken, Fails, outcome_has, by_option, once, at_node, at_meter}
use Rattle.line_rules.specs.Answers.{order_word, random_word}
use Rattle.line_rules.specs.Further.{line_step}
use Rattle.line_rules.specs.Runs.{Entry, IsLineRun, IsRun}
use Rattle.line_rules.specs.Steps.{allow, allowed, allowed_word, psk_of, rand}
use Rattle.line_rules.specs.Traces.{AreTracedRight, IsTracedRight}
use Rattle.line_rules.specs.Worlds.{Pairing, World, Trace, start}
use Rattle.line_record.specs.declared.ends.Ends.{Ends}
use Rattle.line_record.specs.declared.kept.Kept.{Kept}
use Rattle.line_record.specs.declared.kind.StoryKind.{StoryKind}
use Rattle.line_record.specs.declared.kind.StoryKind.TheVariants as kinds
use Rattle.line_record.specs.declared.recorded.RecordedEvent.{RecordedEvent}
use Rattle.line_record.specs.declared.recorded.RecordedFlight.{RecordedFlight}
use Rattle.line_record.specs.declared.story.Story.{Story}
use Rattle.line_record.specs.declared.verdict.Verdict.{Verdict}
use Rattle.line_record.specs.declared.verdict.Verdict.TheVariants as verdicts
use Rattle.line_record.specs.Acts.{act_of}
use Rattle.line_record.specs.Kinds.{is_heeded, is_path, is_reported, obeys_at, prepares, takes_on}
use Rattle.line_record.specs.Marks.{is_node}
use Rattle.line_record.specs.RunRecords.{numbered}
use Rattle.line_record.specs.Stories.{Stories, stories_of}
use Rattle.line_record.specs.Verdicts.{injected, is_asked, is_begun, reached_or, unreached, unreached_joining, unreached_order, verdict_by, verdict_of}
use Rattle.story_laws.specs.Dones.{EntryAt, IsFirstAt, IsJoined, IsLastAt, IsOf, JoiningsAreDone, MayObey, Obeys, OrdersAreDone, OthersAreNeverDone}
use Rattle.story_laws.specs.Dones.{SaysDone, WalkIsBack, WalksAreDone}
use Rattle.story_laws.specs.KeptRuns.{AreRecorded, IsRecordedOf, left_after}
use Rattle.story_laws.proofs.Dones.{Beyond, IsMute, IsSo, Never, SaidAt, SaysAt, is_datagram}
use Rattle.story_laws.proofs.DoneStories.{IsQuiet, stories_fit}
use Rattle.story_laws.proofs.KeptRuns.{numbered_at, recorded_at}
use Rattle.story_laws.proofs.Numbered.{number_place}
use Rattle.story_laws.proofs.StoryCores.{core_of, says}

true_false : true ≡ false → ⊥
true_false e = cc

second_false : (a b : Bool) → b ≡ false → a && b ≡ false
second_false true b x = x
second_false false b x = refl

-- # What prepares a joining says nothing of a story

abbrev IsSilent : World × Trace → Type 0
IsSilent r = (r.1.happenings.done ≡ None) × (is_path r.1.happenings.answer ≡ false)

order_silent : (reason : CoordinatorRefusal) → is_path (order_word reason) ≡ false
order_silent orders.Halted = refl
order_silent orders.MetersFull = refl
order_silent orders.NotAllowed = refl
order_silent orders.IndexActive = refl
order_silent orders.NotHeld = refl
order_silent orders.NotIssued = refl
order_silent orders.SessionsFull = refl
order_silent orders.NoRandom = refl
order_silent orders.WaitingFull = refl
order_silent orders.SeqSpent = refl
order_silent orders.CounterSpent = refl
order_silent orders.Store = refl

allowed_silent : (r : Result ℕ CoordinatorRefusal) → is_path (allowed_word r) ≡ false
allowed_silent (Ok address) = refl
allowed_silent (Err reason) = order_silent reason

random_silent : (r : Result (Unit {0}) RandomFault) → is_path (random_word r) ≡ false
random_silent (Ok u) = refl
random_silent (Err randoms.Halted) = refl
random_silent (Err randoms.RandomsFull) = refl

allow_silent : (w : World) (number : ℕ) → StepHas IsSilent (allow network w number)
unfolding allow
allow_silent w number =
    once IsSilent w _ (at_meter IsSilent w number _ (λ x e. at_node IsSilent w 0 _ (λ c f.
    by_option IsSilent (λ psk. Ok (allowed network w number (acts c (Err orders.Halted) (λ m. coordinator_rules.allow m x.eui psk)))) (psk_of x) _
    (λ psk g. Taken _ (refl, allowed_silent _)) (Fails faults.Node))))

rand_silent : (w : World) (number : ℕ) (value : RandomOctets) → StepHas IsSilent (rand network w number value)
unfolding rand
rand_silent w number value = once IsSilent w _ (at_node IsSilent w number _ (λ x e. Taken _ (refl, random_silent _)))

silent_step : (w v : World) (d : Trace) (event : Event) → line_step network w event ≡ Ok (v, d) → is_some (prepares (act_of event)) ≡ true
    → (d.happenings.done ≡ None) × (is_path d.happenings.answer ≡ false)
silent_step w v d (events.Coordinator eui key) e readied = absurd (true_false (sym readied))
silent_step w v d (events.Meter eui psk) e readied = absurd (true_false (sym readied))
silent_step w v d (events.Depot node) e readied = absurd (true_false (sym readied))
silent_step w v d (events.Near a b cost) e readied = absurd (true_false (sym readied))
silent_step w v d (events.Counter node value) e readied = absurd (true_false (sym readied))
silent_step w v d (events.Number node value) e readied = absurd (true_false (sym readied))
silent_step w v d (events.Allow node) e readied = outcome_has IsSilent (allow network w node) (v, d) (allow_silent w node) e
silent_step w v d (events.RandomOctets node value) e readied = outcome_has IsSilent (rand network w node value) (v, d) (rand_silent w node value) e
silent_step w v d (events.Join node agent) e readied = absurd (true_false (sym readied))
silent_step w v d (events.Leave node) e readied = absurd (true_false (sym readied))
silent_step w v d (events.Send from to datagram) e readied = absurd (true_false (sym readied))
silent_step w v d (events.Deliver flight node cost) e readied = absurd (true_false (sym readied))
silent_step w v d (events.Inject node cost octets) e readied = absurd (true_false (sym readied))
silent_step w v d (events.Lose flight) e readied = absurd (true_false (sym readied))
silent_step w v d (events.Break node next) e readied = absurd (true_false (sym readied))
silent_step w v d (events.Tick seconds) e readied = absurd (true_false (sym readied))
silent_step w v d (events.Restart node) e readied = absurd (true_false (sym readied))
silent_step w v d (events.Cut node nth keeps_new) e readied = absurd (true_false (sym readied))
silent_step w v d (events.Rekey index key) e readied = absurd (true_false (sym readied))
silent_step w v d (events.Challenge node) e readied = absurd (true_false (sym readied))
silent_step w v d (events.Activate node index) e readied = absurd (true_false (sym readied))
silent_step w v d (events.Kick node) e readied = absurd (true_false (sym readied))
silent_step w v d (events.Show node) e readied = absurd (true_false (sym readied))
silent_step w v d events.Checks e readied = absurd (true_false (sym readied))
silent_step w v d (events.Bcast node datagram) e readied = absurd (true_false (sym readied))
silent_step w v d (events.Scan node) e readied = absurd (true_false (sym readied))
silent_step w v d (events.Choose node k) e readied = absurd (true_false (sym readied))
silent_step w v d (events.Path from to) e readied = absurd (true_false (sym readied))

obeys_nobody : (event : Event) → is_some (prepares (act_of event)) ≡ true → obeys_at (act_of event) ≡ None
obeys_nobody (events.Coordinator eui key) readied = absurd (true_false (sym readied))
obeys_nobody (events.Meter eui psk) readied = absurd (true_false (sym readied))
obeys_nobody (events.Depot node) readied = absurd (true_false (sym readied))
obeys_nobody (events.Near a b cost) readied = absurd (true_false (sym readied))
obeys_nobody (events.Counter node value) readied = absurd (true_false (sym readied))
obeys_nobody (events.Number node value) readied = absurd (true_false (sym readied))
obeys_nobody (events.Allow node) readied = refl
obeys_nobody (events.RandomOctets node value) readied = refl
obeys_nobody (events.Join node agent) readied = absurd (true_false (sym readied))
obeys_nobody (events.Leave node) readied = absurd (true_false (sym readied))
obeys_nobody (events.Send from to datagram) readied = absurd (true_false (sym readied))
obeys_nobody (events.Deliver flight node cost) readied = absurd (true_false (sym readied))
obeys_nobody (events.Inject node cost octets) readied = absurd (true_false (sym readied))
obeys_nobody (events.Lose flight) readied = absurd (true_false (sym readied))
obeys_nobody (events.Break node next) readied = absurd (true_false (sym readied))
obeys_nobody (events.Tick seconds) readied = absurd (true_false (sym readied))
obeys_nobody (events.Restart node) readied = absurd (true_false (sym readied))
obeys_nobody (events.Cut node nth keeps_new) readied = absurd (true_false (sym readied))
obeys_nobody (events.Rekey index key) readied = absurd (true_false (sym readied))
obeys_nobody (events.Challenge node) readied = absurd (true_false (sym readied))
obeys_nobody (events.Activate node index) readied = absurd (true_false (sym readied))
obeys_nobody (events.Kick node) readied = absurd (true_false (sym readied))
obeys_nobody (events.Show node) readied = absurd (true_false (sym readied))
obeys_nobody events.Checks readied = absurd (true_false (sym readied))
obeys_nobody (events.Bcast node datagram) readied = absurd (true_false (sym readied))
obeys_nobody (events.Scan node) readied = absurd (true_false (sym readied))
obeys_nobody (events.Choose node k) readied = absurd (true_false (sym readied))
obeys_nobody (events.Path from to) readied = absurd (true_false (sym readied))

module _ (w : World) (x : Entry) (e : RecordedEvent) (recorded : IsRecordedOf x e) where
  done_is : e.done ≡ x.trace.happenings.done
  done_is = ap (λ (d : RecordedEvent). d.done) recorded.is

  answer_is : e.answer ≡ x.trace.happenings.answer
  answer_is = ap (λ (d : RecordedEvent). d.answer) recorded.is

  obeys_is : obeys_at e.act ≡ obeys_at (act_of x.event)
  obeys_is = ap (λ (d : RecordedEvent). obeys_at d.act) recorded.is

  prepares_is : prepares e.act ≡ prepares (act_of x.event)
  prepares_is = ap (λ (d : RecordedEvent). prepares d.act) recorded.is

  quiet : line_step network w x.event ≡ Ok (x.after, x.trace) → IsQuiet e
  quiet step readied = mute
    where
      of_event : is_some (prepares (act_of x.event)) ≡ true
      of_event = ap is_some (sym prepares_is) ∙ readied

      nobody : obeys_at e.act ≡ None
      nobody = obeys_is ∙ obeys_nobody x.event of_event

      undone : e.done ≡ None
      undone = done_is ∙ (silent_step w x.after x.trace x.event step of_event).0

      walkless : is_path e.answer ≡ false
      walkless = ap is_path answer_is ∙ (silent_step w x.after x.trace x.event step of_event).1

      mute : IsMute e
      mute kinds.Setup person = refl
      mute kinds.Datagram person = refl
      mute kinds.Joining person = ap (λ (o : Option ℕ). is_node o person) undone
      mute kinds.Renewal person = ap (λ (o : Option ℕ). is_node o person) undone
      mute kinds.Order person = second_false (is_heeded e.answer) (is_node (obeys_at e.act) person) (ap (λ (o : Option ℕ). is_node o person) nobody)
      mute kinds.Injection person = refl
      mute kinds.Broadcast person = refl
      mute kinds.Walk person = walkless
      mute kinds.Line person = refl

all_more : (e : RecordedEvent) (es : List RecordedEvent) → IsQuiet e → All IsQuiet es → All IsQuiet (e ∷ es)
all_more e es one rest zero d inside = one
all_more e es one rest (suc k) d inside = rest k d (omega (arith, inside))

all_quiet : (xs : List Entry) (es : List RecordedEvent) (w : World) → IsRun network w xs → AreRecorded xs es → All IsQuiet es
all_quiet [] [] w run recorded = λ k d inside. absurd (omega (arith, inside))
all_quiet [] (e ∷ es) w run recorded = absurd recorded
all_quiet (x ∷ xs) [] w run recorded = absurd recorded
all_quiet (x ∷ xs) (e ∷ es) w run recorded = all_more e es (quiet w x e recorded.0 run.2) (all_quiet xs es x.after run.3 recorded.1)

-- # Entries and what is recorded of them

-- the entry of an event
record HasEntry (entries : List Entry) (n : ℕ) (d : RecordedEvent) : Type 0 where
  before : List Entry
  entry : Entry
  after : List Entry
  are : entries ≡ before ++ (entry ∷ after)
  number : n ≡ length before
  recorded : IsRecordedOf entry d

entry_of : (xs : List Entry) (es : List RecordedEvent) → AreRecorded xs es → (n : ℕ) (d : RecordedEvent) → slice_get es n ≡ Some d → HasEntry xs n d
entry_of [] [] recorded n d is = absurd (none-some d is)
entry_of [] (e ∷ es) recorded n d is = absurd recorded
entry_of (x ∷ xs) [] recorded n d is = absurd recorded
entry_of (x ∷ xs) (e ∷ es) recorded zero d is = record {
  before = [];
  entry = x;
  after = xs;
  are = refl;
  number = refl;
  recorded = subst (IsRecordedOf x) (same_Some e d is) recorded.0;
}
entry_of (x ∷ xs) (e ∷ es) recorded (suc n) d is =
    let rest = entry_of xs es recorded.1 n d is in
    record {
      before = x ∷ rest.before;
      entry = rest.entry;
      after = rest.after;
      are = ap (λ (ys : List Entry). x ∷ ys) rest.are;
      number = ap suc rest.number;
      recorded = rest.recorded;
    }

-- an entry with its world, and what is recorded of it
record Recorded (entries : List Entry) (n : ℕ) (d : RecordedEvent) : Type 0 where
  world : World
  entry : Entry
  at : EntryAt entries n world entry
  recorded : IsRecordedOf entry d

numbered_entry : (xs : List Entry) (es : List RecordedEvent) → AreRecorded xs es → (n : ℕ) (d : RecordedEvent) → numbered es n ≡ Some d → Recorded xs n d
numbered_entry xs es recorded zero d is = absurd (none-some d is)
numbered_entry xs es recorded (suc n) d is =
    let at = entry_of xs es recorded n d (sym (number_place es n) ∙ is) in
    record {
      world = left_after at.before start;
      entry = at.entry;
      at = record { before = at.before; after = at.after; are = at.are; number = omega (arith, at.number); world = refl };
      recorded = at.recorded;
    }

-- the event of an entry
record HasEvent (es : List RecordedEvent) (n : ℕ) (x : Entry) : Type 0 where
  event : RecordedEvent
  there : numbered es n ≡ Some event
  recorded : IsRecordedOf x event

event_of : (xs : List Entry) (es : List RecordedEvent) → AreRecorded xs es → (n : ℕ) (w : World) (x : Entry) → EntryAt xs n w x → HasEvent es n x
event_of xs es recorded n w x at =
    let here = recorded_at at.before at.after x es (subst (λ (ys : List Entry). AreRecorded ys es) at.are recorded) in
    record {
      event = here.event;
      there = ap (λ (k : ℕ). numbered es k) at.number ∙ numbered_at es (length at.before) ∙ here.there;
      recorded = here.recorded;
    }

-- # What the history has of an entry

traced_at : (before after : List Entry) (x : Entry) (w : World) → AreTracedRight w (before ++ (x ∷ after)) → IsTracedRight (left_after before w) x
traced_at [] after x w right = right.0
traced_at (y ∷ ys) after x w right = traced_at ys after x y.after right.1

reported_at : (before after : List Entry) (x : Entry) (w : World) → AreReachReported w (before ++ (x ∷ after)) → IsReachReported (left_after before w) x
reported_at [] after x w right = right.0
reported_at (y ∷ ys) after x w right = reported_at ys after x y.after right.1

module _ (entries : List Entry) (run : IsLineRun network entries) (n : ℕ) (w : World) (x : Entry) (at : EntryAt entries n w x) where
  traced : IsTracedRight w x
  traced =
      subst (λ (v : World). IsTracedRight v x) (sym at.world)
      (traced_at at.before at.after x start (subst (AreTracedRight start) at.are (every_trace network entries run)))

  reported : IsReachReported w x
  reported =
      subst (λ (v : World). IsReachReported v x) (sym at.world)
      (reported_at at.before at.after x start (subst (AreReachReported start) at.are (every_reported entries run)))

-- # Joinings

joined_by : (o : Option Pairing) (meter : ℕ) → is_node (option_map (λ (p : Pairing). p.node) o) meter ≡ true
    → (p : Pairing) × (o ≡ Some p) × (p.node ≡ meter)
joined_by None meter is = absurd (true_false (sym is))
joined_by (Some p) meter is = (p, refl, eqb-true p.node meter is)

module _ (meter : ℕ) (w : World) (x : Entry) (d : RecordedEvent) (right : IsTracedRight w x) (recorded : IsRecordedOf x d) where
  done_so : d.done ≡ option_map (λ (p : Pairing). p.node) x.trace.done
  done_so = done_is w x d recorded ∙ right.done_node

  joined_to : is_node d.done meter ≡ true → IsJoined meter w x
  joined_to is =
      let by = joined_by x.trace.done meter (ap (λ (o : Option ℕ). is_node o meter) (sym done_so) ∙ is) in
      record { pairing = by.0; done = by.1; node = by.2 }

  joined_from : IsJoined meter w x → is_node d.done meter ≡ true
  joined_from joined =
      ap (λ (o : Option ℕ). is_node o meter) (done_so ∙ ap (option_map (λ (p : Pairing). p.node)) joined.done)
      ∙ eq-eqb joined.pairing.node meter joined.node

-- # Orders

may_obey : (event : Event) (meter : ℕ) → is_node (obeys_at (act_of event)) meter ≡ true → MayObey event meter
may_obey (events.Coordinator eui key) meter is = absurd (true_false (sym is))
may_obey (events.Meter eui psk) meter is = absurd (true_false (sym is))
may_obey (events.Depot node) meter is = absurd (true_false (sym is))
may_obey (events.Near a b cost) meter is = absurd (true_false (sym is))
may_obey (events.Counter node value) meter is = absurd (true_false (sym is))
may_obey (events.Number node value) meter is = absurd (true_false (sym is))
may_obey (events.Allow node) meter is = absurd (true_false (sym is))
may_obey (events.RandomOctets node value) meter is = absurd (true_false (sym is))
may_obey (events.Join node agent) meter is = absurd (true_false (sym is))
may_obey (events.Leave node) meter is = absurd (true_false (sym is))
may_obey (events.Send from to datagram) meter is = absurd (true_false (sym is))
may_obey (events.Deliver flight node cost) meter is = eqb-true node meter is
may_obey (events.Inject node cost octets) meter is = eqb-true node meter is
may_obey (events.Lose flight) meter is = absurd (true_false (sym is))
may_obey (events.Break node next) meter is = absurd (true_false (sym is))
may_obey (events.Tick seconds) meter is = absurd (true_false (sym is))
may_obey (events.Restart node) meter is = absurd (true_false (sym is))
may_obey (events.Cut node nth keeps_new) meter is = absurd (true_false (sym is))
may_obey (events.Rekey index key) meter is = absurd (true_false (sym is))
may_obey (events.Challenge node) meter is = absurd (true_false (sym is))
may_obey (events.Activate node index) meter is = eqb-true node meter is
may_obey (events.Kick node) meter is = absurd (true_false (sym is))
may_obey (events.Show node) meter is = absurd (true_false (sym is))
may_obey events.Checks meter is = absurd (true_false (sym is))
may_obey (events.Bcast node datagram) meter is = absurd (true_false (sym is))
may_obey (events.Scan node) meter is = absurd (true_false (sym is))
may_obey (events.Choose node k) meter is = absurd (true_false (sym is))
may_obey (events.Path from to) meter is = absurd (true_false (sym is))

obeys_so : (event : Event) (meter : ℕ) → MayObey event meter → is_node (obeys_at (act_of event)) meter ≡ true
obeys_so (events.Coordinator eui key) meter is = absurd is
obeys_so (events.Meter eui psk) meter is = absurd is
obeys_so (events.Depot node) meter is = absurd is
obeys_so (events.Near a b cost) meter is = absurd is
obeys_so (events.Counter node value) meter is = absurd is
obeys_so (events.Number node value) meter is = absurd is
obeys_so (events.Allow node) meter is = absurd is
obeys_so (events.RandomOctets node value) meter is = absurd is
obeys_so (events.Join node agent) meter is = absurd is
obeys_so (events.Leave node) meter is = absurd is
obeys_so (events.Send from to datagram) meter is = absurd is
obeys_so (events.Deliver flight node cost) meter is = eq-eqb node meter is
obeys_so (events.Inject node cost octets) meter is = eq-eqb node meter is
obeys_so (events.Lose flight) meter is = absurd is
obeys_so (events.Break node next) meter is = absurd is
obeys_so (events.Tick seconds) meter is = absurd is
obeys_so (events.Restart node) meter is = absurd is
obeys_so (events.Cut node nth keeps_new) meter is = absurd is
obeys_so (events.Rekey index key) meter is = absurd is
obeys_so (events.Challenge node) meter is = absurd is
obeys_so (events.Activate node index) meter is = eq-eqb node meter is
obeys_so (events.Kick node) meter is = absurd is
obeys_so (events.Show node) meter is = absurd is
obeys_so events.Checks meter is = absurd is
obeys_so (events.Bcast node datagram) meter is = absurd is
obeys_so (events.Scan node) meter is = absurd is
obeys_so (events.Choose node k) meter is = absurd is
obeys_so (events.Path from to) meter is = absurd is

module _ (meter : ℕ) (w : World) (x : Entry) (d : RecordedEvent) (recorded : IsRecordedOf x d) where
  obeyed_to : is_heeded d.answer && is_node (obeys_at d.act) meter ≡ true → Obeys meter w x
  obeyed_to is =
      let parts = and_parts (is_heeded d.answer) (is_node (obeys_at d.act) meter) is in
      record {
        at = may_obey x.event meter (ap (λ (o : Option ℕ). is_node o meter) (sym (obeys_is w x d recorded)) ∙ parts.1);
        heeds = ap is_heeded (sym (answer_is w x d recorded)) ∙ parts.0;
      }

  obeyed_from : Obeys meter w x → is_heeded d.answer && is_node (obeys_at d.act) meter ≡ true
  obeyed_from obeys =
      let heeds : is_heeded d.answer ≡ true = ap is_heeded (answer_is w x d recorded) ∙ obeys.heeds in
      let here : is_node (obeys_at d.act) meter ≡ true =
      ap (λ (o : Option ℕ). is_node o meter) (obeys_is w x d recorded) ∙ obeys_so x.event meter obeys.at in
      λ i. heeds i && here i

-- # Path requests

there_is : {A : Type 0} (o : Option A) (P : A → Type 0) → is_some o ≡ true → IfSome o P → (y : A) × (o ≡ Some y) × P y
there_is None P some holds = absurd (true_false (sym some))
there_is (Some y) P some holds = (y, refl, holds)

path_word : (answer : Answer) → is_path answer ≡ reach.is_path answer
path_word word = refl

module _ (w : World) (x : Entry) (d : RecordedEvent) (right : IsReachReported w x) (recorded : IsRecordedOf x d) where
  some_path : is_some x.trace.happenings.path ≡ is_path d.answer
  some_path = right.path ∙ sym (path_word x.trace.happenings.answer) ∙ ap is_path (sym (answer_is w x d recorded))

  walk_to : is_path d.answer ≡ true → WalkIsBack w x
  walk_to is =
      let back = there_is x.trace.happenings.path (WalkCame w x.event) (some_path ∙ is) right.path_came in
      record { line = back.0; path = back.1; came = back.2 }

  walk_from : WalkIsBack w x → is_path d.answer ≡ true
  walk_from back = sym some_path ∙ ap is_some back.path

-- # Verdicts

reached_at : Verdict → Option ℕ
reached_at (verdicts.Reached n) = Some n
reached_at _ = None

asked_reached : (b : Bool) (r : Option ℕ) (v : Verdict) (n : ℕ) → reached_at v ≡ None
    → reached_at (if not b then verdicts.NotBegun else reached_or r v) ≡ Some n → r ≡ Some n
unfolding reached_at
asked_reached true None v n none is = absurd (none-some n (sym none ∙ is))
asked_reached true (Some m) v n none is = is
asked_reached false r v n none is = absurd (none-some n is)

joining_unreached : (took declined : Option ℕ) (last : ℕ) → reached_at (unreached_joining took declined last) ≡ None
unfolding reached_at
joining_unreached (Some event) declined last = refl
joining_unreached None (Some event) last = refl
joining_unreached None None last = refl

order_unreached : (last : ℕ) (waits : Option Kept) → reached_at (unreached_order last waits) ≡ None
unfolding reached_at
order_unreached last waits = by_test ((last == 0) && not (is_some waits))
  where
    by_test : (b : Bool) → reached_at (if b then verdicts.NotTold else verdicts.Loose last) ≡ None
    by_test true = refl
    by_test false = refl

-- a kind of story that may be done, and is not that of a datagram
data IsTimed : StoryKind → Type 0 where
  IsJoining : IsTimed kinds.Joining
  IsRenewal : IsTimed kinds.Renewal
  IsOrder : IsTimed kinds.Order
  IsWalk : IsTimed kinds.Walk

kind_reached : (k : StoryKind) → IsTimed k → (story : Story) (ends : Ends) (e : RecordedEvent) (n : ℕ)
    → reached_at (verdict_by k story ends e) ≡ Some n → story.reached ≡ Some n
unfolding reached_at
kind_reached k IsJoining story ends e n is =
    asked_reached (is_begun e.answer) story.reached (unreached kinds.Joining story ends) n (joining_unreached story.took story.declined ends.borne) is
kind_reached k IsRenewal story ends e n is =
    asked_reached (is_begun e.answer) story.reached (unreached kinds.Renewal story ends) n (joining_unreached story.took story.declined ends.borne) is
kind_reached k IsOrder story ends e n is =
    asked_reached (is_begun e.answer) story.reached (unreached kinds.Order story ends) n (order_unreached ends.borne story.waits) is
kind_reached k IsWalk story ends e n is =
    asked_reached (is_begun e.answer) story.reached (unreached kinds.Walk story ends) n refl is

kind_reaches : (k : StoryKind) → IsTimed k → (story : Story) (ends : Ends) (e : RecordedEvent) (n : ℕ) → is_begun e.answer ≡ true
    → story.reached ≡ Some n → verdict_by k story ends e ≡ verdicts.Reached n
kind_reaches k IsJoining story ends e n begun is =
    λ i. if not (begun i) then verdicts.NotBegun else reached_or (is i) (unreached kinds.Joining story ends)
kind_reaches k IsRenewal story ends e n begun is =
    λ i. if not (begun i) then verdicts.NotBegun else reached_or (is i) (unreached kinds.Renewal story ends)
kind_reaches k IsOrder story ends e n begun is =
    λ i. if not (begun i) then verdicts.NotBegun else reached_or (is i) (unreached kinds.Order story ends)
kind_reaches k IsWalk story ends e n begun is =
    λ i. if not (begun i) then verdicts.NotBegun else reached_or (is i) (unreached kinds.Walk story ends)

timed_datagram : (k : StoryKind) → IsTimed k → is_datagram k ≡ false
timed_datagram k IsJoining = refl
timed_datagram k IsRenewal = refl
timed_datagram k IsOrder = refl
timed_datagram k IsWalk = refl

-- # The stories of a run

core_there : (xs : List Story) (i : ℕ) (x : Story) → numbered xs i ≡ Some x → numbered (map core_of xs) i ≡ Some (core_of x)
core_there xs zero x is = absurd (none-some x is)
core_there xs (suc i) x is = number_place (map core_of xs) i ∙ at_place xs i (sym (number_place xs i) ∙ is)
  where
    at_place : (ys : List Story) (k : ℕ) → slice_get ys k ≡ Some x → slice_get (map core_of ys) k ≡ Some (core_of x)
    at_place [] k there = absurd (none-some x there)
    at_place (y ∷ ys) zero there = ap (λ (z : Story). Some (core_of z)) (same_Some y x there)
    at_place (y ∷ ys) (suc k) there = at_place ys k there

-- the entry of an event that says so
record HasSaid (entries : List Entry) (s : Stories) (i : ℕ) (story : Story) (P : World → Entry → Type 0) (n : ℕ) : Type 0 where
  world : World
  entry : Entry
  of : IsOf entries s i story n world entry
  holds : P world entry

module _ (entries : List Entry) (recorded : List RecordedEvent) (flights : List RecordedFlight) (run : IsLineRun network entries)
    (are : AreRecorded entries recorded) (i : ℕ) (story : Story) (there : numbered (stories_of recorded flights).stories i ≡ Some story) where
  abbrev Owners : List ℕ
  Owners = (stories_of recorded flights).owners

  is_so : (k : StoryKind) → story.kind ≡ k → is_datagram k ≡ false → IsSo recorded Owners i k story.first story.person story.reached
  is_so k kind other =
      subst (λ (j : StoryKind). IsSo recorded Owners i j story.first story.person story.reached) kind
      ((stories_fit recorded flights (all_quiet entries recorded start run.run are)).so i (core_of story)
      (core_there (stories_of recorded flights).stories i story there) (ap is_datagram kind ∙ other))

  -- where what is said of the entries is what is said of the events
  module _ (k : StoryKind) (kind : story.kind ≡ k) (timed : IsTimed k) (P : World → Entry → Type 0)
      (to : (n : ℕ) (w : World) (x : Entry) (d : RecordedEvent) → EntryAt entries n w x → IsRecordedOf x d → says k story.person d ≡ true → P w x)
      (from : (n : ℕ) (w : World) (x : Entry) (d : RecordedEvent) → EntryAt entries n w x → IsRecordedOf x d → P w x → says k story.person d ≡ true) where
    abbrev Of : ℕ → World → Entry → Type 0
    Of n w x = IsOf entries (stories_of recorded flights) i story n w x

    said_at : (n : ℕ) → story.reached ≡ Some n → SaidAt recorded Owners i k story.first story.person n
    said_at n is =
        by_reached (Some n) refl
        (subst (λ (r : Option ℕ). IsSo recorded Owners i k story.first story.person r) is (is_so k kind (timed_datagram k timed)))
      where
        by_reached : (r : Option ℕ) → r ≡ Some n → IsSo recorded Owners i k story.first story.person r
            → SaidAt recorded Owners i k story.first story.person n
        by_reached r at (Never h) = absurd (none-some n at)
        by_reached r at (SaysAt m s) =
            subst (λ (j : ℕ). SaidAt recorded Owners i k story.first story.person j) (same_Some m n at) s

    verdict_at : (e : RecordedEvent) (ends : Ends) (n : ℕ) → verdict_of story ends e ≡ verdicts.Reached n → story.reached ≡ Some n
    unfolding reached_at
    verdict_at e ends n is =
        kind_reached k timed story ends e n (ap (λ (j : StoryKind). reached_at (verdict_by j story ends e)) (sym kind) ∙ ap reached_at is)

    has_said : (n : ℕ) → SaidAt recorded Owners i k story.first story.person n → HasSaid entries (stories_of recorded flights) i story P n
    has_said n s =
        let at = numbered_entry entries recorded are n s.event s.of.there in
        record {
          world = at.world;
          entry = at.entry;
          of = record { at = at.at; owner = s.of.owner; since = s.of.since };
          holds = to n at.world at.entry s.event at.at at.recorded s.is;
        }

    -- another one that counts does not
    no_other : (n : ℕ) → SaidAt recorded Owners i k story.first story.person n → (m : ℕ) (w : World) (x : Entry) → Beyond k n m → Of m w x → P w x → ⊥
    no_other n s m w x beyond of holds =
        let event = event_of entries recorded are m w x of.at in
        true_false
        (sym (from m w x event.event of.at event.recorded holds)
        ∙ s.only m event.event beyond (record { there = event.there; owner = of.owner; since = of.since }))

    has_reached : (n : ℕ) (w : World) (x : Entry) → Of n w x → P w x → (m : ℕ) × (story.reached ≡ Some m)
    has_reached n w x of holds = by_reached story.reached refl (is_so k kind (timed_datagram k timed))
      where
        by_reached : (r : Option ℕ) → story.reached ≡ r → IsSo recorded Owners i k story.first story.person r → (m : ℕ) × (story.reached ≡ Some m)
        by_reached r is (SaysAt m s) = (m, is)
        by_reached r is (Never h) =
            let event = event_of entries recorded are n w x of.at in
            absurd (true_false (sym (from n w x event.event of.at event.recorded holds)
            ∙ h n event.event (record { there = event.there; owner = of.owner; since = of.since })))

    says_so : (n : ℕ) (w : World) (x : Entry) → Of n w x → P w x → (e : RecordedEvent) (ends : Ends) → is_begun e.answer ≡ true
        → (m : ℕ) × (verdict_of story ends e ≡ verdicts.Reached m)
    says_so n w x of holds e ends begun =
        let reached = has_reached n w x of holds in (
          reached.0,
          ap (λ (j : StoryKind). verdict_by j story ends e) kind ∙ kind_reaches k timed story ends e reached.0 begun reached.1,
        )

    -- a story that is done at the last of them
    last_done : ((n m : ℕ) → n < m → Beyond k n m)
        → SaysDone entries (stories_of recorded flights) i story P (IsLastAt entries (stories_of recorded flights) i story P)
    last_done beyond = record {
      done = λ e ends n is.
          let s = said_at n (verdict_at e ends n is) in
          let here = has_said n s in
          record {
            world = here.world;
            entry = here.entry;
            of = here.of;
            holds = here.holds;
            last = λ m w x later. no_other n s m w x (beyond n m later);
          };
      said = says_so;
    }

    -- a story that is done at the first
    first_done : ((n m : ℕ) → m < n → Beyond k n m)
        → SaysDone entries (stories_of recorded flights) i story P (IsFirstAt entries (stories_of recorded flights) i story P)
    first_done beyond = record {
      done = λ e ends n is.
          let s = said_at n (verdict_at e ends n is) in
          let here = has_said n s in
          record {
            world = here.world;
            entry = here.entry;
            of = here.of;
            holds = here.holds;
            first = λ m w x earlier. no_other n s m w x (beyond n m earlier);
          };
      said = says_so;
    }

pub joinings_are_done : JoiningsAreDone
joinings_are_done entries recorded flights run are i story there kind =
    ⊎_elim
    (λ (joins : story.kind ≡ kinds.Joining).
    last_done entries recorded flights run are i story there kinds.Joining joins IsJoining (IsJoined story.person)
    (λ n w x d at of. joined_to story.person w x d (traced entries run n w x at) of)
    (λ n w x d at of. joined_from story.person w x d (traced entries run n w x at) of) (λ n m later. later))
    (λ (renews : story.kind ≡ kinds.Renewal).
    last_done entries recorded flights run are i story there kinds.Renewal renews IsRenewal (IsJoined story.person)
    (λ n w x d at of. joined_to story.person w x d (traced entries run n w x at) of)
    (λ n w x d at of. joined_from story.person w x d (traced entries run n w x at) of) (λ n m later. later)) kind

pub orders_are_done : OrdersAreDone
orders_are_done entries recorded flights run are i story there kind =
    first_done entries recorded flights run are i story there kinds.Order kind IsOrder (Obeys story.person)
    (λ n w x d at of. obeyed_to story.person w x d of) (λ n w x d at of. obeyed_from story.person w x d of) (λ n m earlier. earlier)

pub walks_are_done : WalksAreDone
walks_are_done entries recorded flights run are i story there kind =
    first_done entries recorded flights run are i story there kinds.Walk kind IsWalk WalkIsBack
    (λ n w x d at of. walk_to w x d (reported entries run n w x at) of) (λ n w x d at of. walk_from w x d (reported entries run n w x at) of)
    (λ n m earlier. earlier)

-- # Stories that are never done

never_reached : (es : List RecordedEvent) (owners : List ℕ) (i : ℕ) (k : StoryKind) (first person : ℕ) (r : Option ℕ)
    → ((d : RecordedEvent) → says k person d ≡ false) → IsSo es owners i k first person r → r ≡ None
never_reached es owners i k first person r none (Never h) = refl
never_reached es owners i k first person r none (SaysAt n s) = absurd (true_false (sym s.is ∙ none s.event))

nothing_reached : (r : Option ℕ) (n : ℕ) → r ≡ None → reached_at (reached_or r verdicts.Nothing) ≡ Some n → ⊥
unfolding reached_at
nothing_reached None n none is = none-some n is
nothing_reached (Some m) n none is = none-some m (sym none)

injected_unreached : (forged : Bool) (e : RecordedEvent) (n : ℕ) → reached_at (injected forged e.answer) ≡ Some n → ⊥
unfolding reached_at
injected_unreached true e n is = none-some n is
injected_unreached false e n is = by_taken (takes_on e.answer || is_reported e.answer) is
  where
    by_taken : (b : Bool) → reached_at (if b then verdicts.Taken else verdicts.Stopped) ≡ Some n → ⊥
    by_taken true has = none-some n has
    by_taken false has = none-some n has

pub others_are_never_done : OthersAreNeverDone
unfolding reached_at
others_are_never_done entries recorded flights run are i story there asked e ends n is =
    by_kind story.kind refl asked (ap reached_at is)
  where
    none : (k : StoryKind) → story.kind ≡ k → is_datagram k ≡ false → ((d : RecordedEvent) → says k story.person d ≡ false) → story.reached ≡ None
    none k kind other silent =
        never_reached recorded (stories_of recorded flights).owners i k story.first story.person story.reached silent
        (is_so entries recorded flights run are i story there k kind other)

    by_kind : (k : StoryKind) → story.kind ≡ k → is_asked k ≡ false → reached_at (verdict_by k story ends e) ≡ Some n → ⊥
    by_kind kinds.Setup kind unasked has = nothing_reached story.reached n (none kinds.Setup kind refl (λ d. refl)) has
    by_kind kinds.Datagram kind unasked has = true_false unasked
    by_kind kinds.Joining kind unasked has = true_false unasked
    by_kind kinds.Renewal kind unasked has = true_false unasked
    by_kind kinds.Order kind unasked has = true_false unasked
    by_kind kinds.Injection kind unasked has = injected_unreached e.forged e n has
    by_kind kinds.Broadcast kind unasked has = nothing_reached story.reached n (none kinds.Broadcast kind refl (λ d. refl)) has
    by_kind kinds.Walk kind unasked has = true_false unasked
    by_kind kinds.Line kind unasked has = nothing_reached story.reached n (none kinds.Line kind refl (λ d. refl)) has
