-- The verdict on a datagram is that of the run.
use Rattle.std.proofs.Common.{◌≡◌, ℕ, zero, suc, ◌+◌, ◌==◌, Bool, true, false, List, [], ◌∷◌, ◌++◌, length, Option, None, Some, Ok, Err}
use Rattle.std.proofs.Common.{refl, ap, sym, ◌∙◌, subst, arith}
use Rattle.std.proofs.lemmas.List.{append-nil, append_assoc}
use Rattle.std.specs.Prelude.{All, is_some, if◌then◌else◌}
use Rattle.std.specs.Option.{option_map_or}
use Rattle.plc_base.specs.declared.key.RandomOctets.{RandomOctets}
use Rattle.line_events.specs.declared.event.Event.{Event}
use Rattle.line_events.specs.declared.event.Event.TheVariants as events
use Rattle.line_events.specs.declared.event.StepFault.{StepFault}
use Rattle.line_events.specs.declared.happenings.Handed.{Handed}
use Rattle.line_events.specs.declared.event.StepFault.TheVariants as faults
use Rattle.node_rules.specs.Ciphers.{Ciphers, network}
use Rattle.line_rules.specs.Further.{line_step}
use Rattle.line_rules.specs.Runs.{Entry, IsRun}
use Rattle.line_rules.specs.Steps.{Step, allow, has_begun, on_meter, on_node, once_begun, psk_of, rand}
use Rattle.node_rules.specs.Memory.{Node}
use Rattle.line_rules.specs.Worlds.{Trace, World, node_at, start}
use Rattle.line_record.specs.declared.act.Act.TheVariants as acts
use Rattle.line_record.specs.declared.recorded.RecordedEvent.{RecordedEvent}
use Rattle.line_record.specs.Acts.{act_of}
use Rattle.line_record.specs.Kinds.{prepares, sends}
use Rattle.line_record.specs.RunRecords.{note_of}
use Rattle.line_record.specs.Laws.{IsDatagramStory, ReadiesOnly, first_up, is_of, sends_in}
use Rattle.line_record.specs.Stories.{stories_of}
use Rattle.line_record.proofs.DatagramStories.{datagrams_are_reached}
use Rattle.event_sentences.specs.Truth.{answer_of}
use Rattle.line_view.specs.Recordings.{Recording, no_recording, recording_after, event_of_entry}
use Rattle.line_view.specs.Truths.{DatagramsCameAsSaid, entries_in, first_handing_up, recorded_all, sends_among}
use Rattle.line_view.proofs.Recorded.{recording_events}

-- # What prepares a joining hands nothing up

abbrev HandsNothingUp : Step → Type 0
HandsNothingUp s = (r : World × Trace) → s ≡ Ok r → r.1.happenings.up ≡ None

taken_quiet : (r : World × Trace) → r.1.happenings.up ≡ None → HandsNothingUp (Ok r)
taken_quiet r quiet q is = ap (λ (o : Step). up_of o) (sym is) ∙ quiet
  where
    up_of : Step → Option Handed
    up_of (Ok x) = x.1.happenings.up
    up_of (Err fault) = None

not_taken : (fault : StepFault) (r : World × Trace) → ◌≡◌ {A = Step} (Err fault) (Ok r) → ⊥
not_taken fault r e = cc

refused_quiet : (fault : StepFault) → HandsNothingUp (Err fault)
refused_quiet fault r is = absurd (not_taken fault r is)

true_false : true ≡ false → ⊥
true_false e = cc

once_quiet : (w : World) (s : Step) → HandsNothingUp s → HandsNothingUp (once_begun w s)
once_quiet w s quiet = by_begun (has_begun w)
  where
    by_begun : (b : Bool) → HandsNothingUp (if b then s else Err faults.Setup)
    by_begun true = quiet
    by_begun false = refused_quiet faults.Setup

option_quiet : {A : Type 0} (o : Option A) (s : A → Step) → ((x : A) → HandsNothingUp (s x)) → HandsNothingUp (option_map_or s o (Err faults.Node))
option_quiet None s quiet = refused_quiet faults.Node
option_quiet (Some x) s quiet = quiet x

node_quiet : (w : World) (number : ℕ) (s : Node → Step) → ((x : Node) → HandsNothingUp (s x)) → HandsNothingUp (on_node w number s)
node_quiet w number s quiet = option_quiet (node_at w number) s quiet

meter_quiet : (w : World) (number : ℕ) (s : Node → Step) → ((x : Node) → HandsNothingUp (s x)) → HandsNothingUp (on_meter w number s)
meter_quiet w number s quiet = by_zero (number == 0)
  where
    by_zero : (b : Bool) → HandsNothingUp (if b then Err faults.Node else on_node w number s)
    by_zero true = refused_quiet faults.Node
    by_zero false = node_quiet w number s quiet

allow_quiet : (ciphers : Ciphers) (w : World) (number : ℕ) → HandsNothingUp (allow ciphers w number)
unfolding allow
allow_quiet ciphers w number =
    once_quiet w _ (meter_quiet w number _ (λ x. node_quiet w 0 _ (λ c. option_quiet (psk_of x) _ (λ psk. taken_quiet _ refl))))

rand_quiet : (ciphers : Ciphers) (w : World) (number : ℕ) (value : RandomOctets) → HandsNothingUp (rand ciphers w number value)
unfolding rand
rand_quiet ciphers w number value = once_quiet w _ (node_quiet w number _ (λ x. taken_quiet _ refl))

-- an entry that prepares a node for a joining hands nothing up
prepares_only : (w : World) (x : Entry) → line_step network w x.event ≡ Ok (x.after, x.trace) → is_some (prepares (act_of x.event)) ≡ true
    → x.trace.happenings.up ≡ None
prepares_only w x is readied = by_event x.event refl
  where
    quiet : (event : Event) → x.event ≡ event → HandsNothingUp (line_step network w event) → x.trace.happenings.up ≡ None
    quiet event same nothing = nothing (x.after, x.trace) (ap (line_step network w) (sym same) ∙ is)

    other : (event : Event) → x.event ≡ event → is_some (prepares (act_of event)) ≡ false → x.trace.happenings.up ≡ None
    other event same unready = absurd (true_false (sym readied ∙ ap (λ (e : Event). is_some (prepares (act_of e))) same ∙ unready))

    by_event : (event : Event) → x.event ≡ event → x.trace.happenings.up ≡ None
    by_event (events.Allow node) same = quiet (events.Allow node) same (allow_quiet network w node)
    by_event (events.RandomOctets node value) same = quiet (events.RandomOctets node value) same (rand_quiet network w node value)
    by_event (events.Coordinator eui key) same = other (events.Coordinator eui key) same refl
    by_event (events.Meter eui psk) same = other (events.Meter eui psk) same refl
    by_event (events.Depot node) same = other (events.Depot node) same refl
    by_event (events.Near a b cost) same = other (events.Near a b cost) same refl
    by_event (events.Counter node value) same = other (events.Counter node value) same refl
    by_event (events.Number node value) same = other (events.Number node value) same refl
    by_event (events.Join node agent) same = other (events.Join node agent) same refl
    by_event (events.Leave node) same = other (events.Leave node) same refl
    by_event (events.Send from to datagram) same = other (events.Send from to datagram) same refl
    by_event (events.Deliver flight node cost) same = other (events.Deliver flight node cost) same refl
    by_event (events.Inject node cost octets) same = other (events.Inject node cost octets) same refl
    by_event (events.Lose flight) same = other (events.Lose flight) same refl
    by_event (events.Break node next) same = other (events.Break node next) same refl
    by_event (events.Tick seconds) same = other (events.Tick seconds) same refl
    by_event (events.Restart node) same = other (events.Restart node) same refl
    by_event (events.Cut node nth keeps) same = other (events.Cut node nth keeps) same refl
    by_event (events.Rekey index key) same = other (events.Rekey index key) same refl
    by_event (events.Challenge node) same = other (events.Challenge node) same refl
    by_event (events.Activate node index) same = other (events.Activate node index) same refl
    by_event (events.Kick node) same = other (events.Kick node) same refl
    by_event (events.Show node) same = other (events.Show node) same refl
    by_event events.Checks same = other events.Checks same refl
    by_event (events.Bcast node datagram) same = other (events.Bcast node datagram) same refl
    by_event (events.Scan node) same = other (events.Scan node) same refl
    by_event (events.Choose node k) same = other (events.Choose node k) same refl
    by_event (events.Path from to) same = other (events.Path from to) same refl

-- # The events of a recording

-- what is told of entries that follow a recording
told_all : List (ℕ × Entry) → Recording → List RecordedEvent
told_all [] r = []
told_all (x ∷ xs) r = event_of_entry x.0 x.1 r ∷ told_all xs (recording_after x.0 x.1 r)

all_told : (xs : List (ℕ × Entry)) (r : Recording) → (recorded_all xs r).events ≡ r.events ++ told_all xs r
unfolding told_all
all_told [] r = sym (append-nil r.events)
all_told (x ∷ xs) r =
    all_told xs (recording_after x.0 x.1 r) ∙ ap (λ (es : List RecordedEvent). es ++ told_all xs (recording_after x.0 x.1 r)) (recording_events x.0 x.1 r)
    ∙ append_assoc r.events (event_of_entry x.0 x.1 r ∷ []) (told_all xs (recording_after x.0 x.1 r))

told_through : (before after : List (ℕ × Entry)) (r : Recording) → told_all (before ++ after) r ≡ told_all before r ++ told_all after (recorded_all before r)
unfolding told_all
told_through [] after r = refl
told_through (x ∷ xs) after r = ap (λ (es : List RecordedEvent). event_of_entry x.0 x.1 r ∷ es) (told_through xs after (recording_after x.0 x.1 r))

told_count : (xs : List (ℕ × Entry)) (r : Recording) → length (told_all xs r) ≡ length xs
unfolding told_all
told_count [] r = refl
told_count (x ∷ xs) r = ap suc (told_count xs (recording_after x.0 x.1 r))

told_sends : (xs : List (ℕ × Entry)) (r : Recording) → sends_in (told_all xs r) ≡ sends_among (entries_in xs)
unfolding told_all
told_sends [] r = refl
told_sends (x ∷ xs) r =
    ap (λ (n : ℕ). (if sends (act_of x.1.event) (answer_of x.1) then 1 else 0) + n) (told_sends xs (recording_after x.0 x.1 r))

told_up : (xs : List (ℕ × Entry)) (r : Recording) (send n : ℕ) → first_up send n (told_all xs r) ≡ first_handing_up send n (entries_in xs)
unfolding told_all
told_up [] r send n = refl
told_up (x ∷ xs) r send n =
    ap (λ (o : Option ℕ). if is_of (note_of x.1.trace.happenings.up) send then Some n else o) (told_up xs (recording_after x.0 x.1 r) send (n + 1))

all_more : (e : RecordedEvent) (es : List RecordedEvent) → ReadiesOnly e → All ReadiesOnly es → All ReadiesOnly (e ∷ es)
all_more e es one rest zero d inside = one
all_more e es one rest (suc k) d inside = rest k d (omega (arith, inside))

told_only : (xs : List (ℕ × Entry)) (r : Recording) (w : World) → IsRun network w (entries_in xs) → All ReadiesOnly (told_all xs r)
unfolding told_all
told_only [] r w is = λ k d inside. absurd (omega (arith, inside))
told_only (x ∷ xs) r w is =
    all_more (event_of_entry x.0 x.1 r) (told_all xs (recording_after x.0 x.1 r)) (λ readied. ap note_of (prepares_only w x.1 is.2 readied))
    (told_only xs (recording_after x.0 x.1 r) x.1.after is.3)

-- the world after a part of a run, and the run from there
run_from : (before after : List (ℕ × Entry)) (w : World) → IsRun network w (entries_in (before ++ after))
    → (v : World) × IsRun network v (entries_in after)
run_from [] after w is = (w, is)
run_from (x ∷ xs) after w is = run_from xs after x.1.after is.3

pub datagrams_came_as_said : DatagramsCameAsSaid
unfolding told_all
datagrams_came_as_said before after row x from to datagram run is_send taken =
    let r = recorded_all before no_recording in
    let all = recorded_all (before ++ ((row, x) ∷ after)) no_recording in
    let e = event_of_entry row x r in
    let rest = told_all after (recording_after row x r) in
    let here = run_from before ((row, x) ∷ after) start run in
    let events_so : all.events ≡ told_all before no_recording ++ (e ∷ rest) =
    all_told (before ++ ((row, x) ∷ after)) no_recording ∙ told_through before ((row, x) ∷ after) no_recording in
    let act : e.act ≡ acts.Send from to (length datagram) = ap act_of is_send in
    let found =
    datagrams_are_reached (told_all before no_recording) rest e all.flights from to (length datagram)
    (told_only ((row, x) ∷ after) r here.0 here.1) act taken in
    let count : sends_in (told_all before no_recording) ≡ sends_among (entries_in before) = told_sends before no_recording in
    let place : length (told_all before no_recording) ≡ length before = told_count before no_recording in
    let up : (send n : ℕ) → first_up send n (e ∷ rest) ≡ first_handing_up send n (x ∷ entries_in after) = λ send n. told_up ((row, x) ∷ after) r send n in
    subst (λ (es : List RecordedEvent). IsDatagramStory (sends_among (entries_in before) + 1) (length before + 1)
    (first_handing_up (sends_among (entries_in before) + 1) (length before + 1) (x ∷ entries_in after)) e (stories_of es all.flights)) (sym events_so)
    (subst (λ (o : Option ℕ). IsDatagramStory (sends_among (entries_in before) + 1) (length before + 1) o e
    (stories_of (told_all before no_recording ++ (e ∷ rest)) all.flights)) (up (sends_among (entries_in before) + 1) (length before + 1))
    (subst (λ (k : ℕ). IsDatagramStory (k + 1) (length before + 1) (first_up (k + 1) (length before + 1) (e ∷ rest)) e
    (stories_of (told_all before no_recording ++ (e ∷ rest)) all.flights)) count
    (subst (λ (k : ℕ). IsDatagramStory (sends_in (told_all before no_recording) + 1) (k + 1)
    (first_up (sends_in (told_all before no_recording) + 1) (k + 1) (e ∷ rest)) e
    (stories_of (told_all before no_recording ++ (e ∷ rest)) all.flights)) place found)))
