-- An event of a run has not ended what its record says is kept still.
use Rattle.std.proofs.Common.{◌≡◌, ℕ, zero, suc, ◌+◌, ◌-◌, Bool, true, false, List, [], ◌∷◌, ◌++◌, length, Some, None, Result, Ok, Err}
use Rattle.std.proofs.Common.{refl, sym, ap, subst, ◌∙◌, arith}
use Rattle.std.specs.Prelude.{All, if◌then◌else◌, is_some, slice_get}
use Rattle.std.proofs.lemmas.Bool.{ne_eqb}
use Rattle.plc_base.specs.declared.key.RandomOctets.{RandomOctets}
use Rattle.node_rules.specs.declared.refusal.CoordinatorRefusal.{CoordinatorRefusal}
use Rattle.node_rules.specs.declared.refusal.CoordinatorRefusal.TheVariants as orders
use Rattle.node_rules.specs.declared.refusal.RandomFault.{RandomFault}
use Rattle.node_rules.specs.declared.refusal.RandomFault.TheVariants as randoms
use Rattle.node_rules.specs.Ciphers.{network}
use Rattle.node_rules.specs.Coordinators as coordinator_rules
use Rattle.node_rules.specs.NodeSteps.{acts}
use Rattle.line_events.specs.declared.event.Event.{Event}
use Rattle.line_events.specs.declared.event.Event.TheVariants as events
use Rattle.line_events.specs.declared.event.StepFault.TheVariants as faults
use Rattle.line_progress.proofs.Events.{StepHas, Taken, Fails, outcome_has, by_option, once, at_node, at_meter}
use Rattle.line_rules.specs.Answers.{order_word, random_word}
use Rattle.line_rules.specs.Further.{line_step}
use Rattle.line_rules.specs.Runs.{Entry, IsRun}
use Rattle.line_rules.specs.Steps.{allow, allowed, allowed_word, psk_of, rand}
use Rattle.line_rules.specs.Worlds.{World, Trace, start}
use Rattle.line_record.specs.declared.kept.Kept.{Kept}
use Rattle.line_record.specs.declared.kept.KeptEnd.{KeptEnd}
use Rattle.line_record.specs.declared.kept.KeptEnd.TheVariants as kept_ends
use Rattle.line_record.specs.declared.recorded.RecordedEvent.{RecordedEvent}
use Rattle.line_record.specs.Acts.{act_of}
use Rattle.line_record.specs.KeptItems.{end_of, is_still, makes_message}
use Rattle.line_record.specs.Kinds.{prepares}
use Rattle.line_record.specs.RunRecords.{numbered}
use Rattle.story_laws.specs.Ends.{EndedKept, HaltsUnsaid, IsNamed, IsNone, IsRecordedRight, recorded_by}
use Rattle.story_laws.specs.Keepings.{MakesNone}
use Rattle.story_laws.specs.KeptRuns.{AreRecorded, IsRecordedOf, RunsKeepIt, left_after}
use Rattle.story_laws.proofs.Ends.{still_named, recorded_ends_are_so}
use Rattle.story_laws.proofs.Keepings.{kept_are_since}

true_false : true ≡ false → ⊥
true_false e = cc

-- # What prepares a joining makes no message

abbrev NoMessage : World × Trace → Type 0
NoMessage r = makes_message r.1.happenings.answer ≡ false

order_plain : (reason : CoordinatorRefusal) → makes_message (order_word reason) ≡ false
order_plain orders.Halted = refl
order_plain orders.MetersFull = refl
order_plain orders.NotAllowed = refl
order_plain orders.IndexActive = refl
order_plain orders.NotHeld = refl
order_plain orders.NotIssued = refl
order_plain orders.SessionsFull = refl
order_plain orders.NoRandom = refl
order_plain orders.WaitingFull = refl
order_plain orders.SeqSpent = refl
order_plain orders.CounterSpent = refl
order_plain orders.Store = refl

allowed_plain : (r : Result ℕ CoordinatorRefusal) → makes_message (allowed_word r) ≡ false
allowed_plain (Ok address) = refl
allowed_plain (Err reason) = order_plain reason

random_plain : (r : Result (Unit {0}) RandomFault) → makes_message (random_word r) ≡ false
random_plain (Ok u) = refl
random_plain (Err randoms.Halted) = refl
random_plain (Err randoms.RandomsFull) = refl

allow_plain : (w : World) (number : ℕ) → StepHas NoMessage (allow network w number)
unfolding allow
allow_plain w number =
    once NoMessage w _ (at_meter NoMessage w number _ (λ x e. at_node NoMessage w 0 _ (λ c f.
    by_option NoMessage (λ psk. Ok (allowed network w number (acts c (Err orders.Halted) (λ m. coordinator_rules.allow m x.eui psk)))) (psk_of x) _
    (λ psk g. Taken _ (allowed_plain _)) (Fails faults.Node))))

rand_plain : (w : World) (number : ℕ) (value : RandomOctets) → StepHas NoMessage (rand network w number value)
unfolding rand
rand_plain w number value = once NoMessage w _ (at_node NoMessage w number _ (λ x e. Taken _ (random_plain _)))

makes_none : (w v : World) (d : Trace) (event : Event) → line_step network w event ≡ Ok (v, d) → is_some (prepares (act_of event)) ≡ true
    → makes_message d.happenings.answer ≡ false
makes_none w v d (events.Coordinator eui key) e readied = absurd (true_false (sym readied))
makes_none w v d (events.Meter eui psk) e readied = absurd (true_false (sym readied))
makes_none w v d (events.Depot node) e readied = absurd (true_false (sym readied))
makes_none w v d (events.Near a b cost) e readied = absurd (true_false (sym readied))
makes_none w v d (events.Counter node value) e readied = absurd (true_false (sym readied))
makes_none w v d (events.Number node value) e readied = absurd (true_false (sym readied))
makes_none w v d (events.Allow node) e readied = outcome_has NoMessage (allow network w node) (v, d) (allow_plain w node) e
makes_none w v d (events.RandomOctets node value) e readied = outcome_has NoMessage (rand network w node value) (v, d) (rand_plain w node value) e
makes_none w v d (events.Join node agent) e readied = absurd (true_false (sym readied))
makes_none w v d (events.Leave node) e readied = absurd (true_false (sym readied))
makes_none w v d (events.Send from to datagram) e readied = absurd (true_false (sym readied))
makes_none w v d (events.Deliver flight node cost) e readied = absurd (true_false (sym readied))
makes_none w v d (events.Inject node cost octets) e readied = absurd (true_false (sym readied))
makes_none w v d (events.Lose flight) e readied = absurd (true_false (sym readied))
makes_none w v d (events.Break node next) e readied = absurd (true_false (sym readied))
makes_none w v d (events.Tick seconds) e readied = absurd (true_false (sym readied))
makes_none w v d (events.Restart node) e readied = absurd (true_false (sym readied))
makes_none w v d (events.Cut node nth keeps_new) e readied = absurd (true_false (sym readied))
makes_none w v d (events.Rekey index key) e readied = absurd (true_false (sym readied))
makes_none w v d (events.Challenge node) e readied = absurd (true_false (sym readied))
makes_none w v d (events.Activate node index) e readied = absurd (true_false (sym readied))
makes_none w v d (events.Kick node) e readied = absurd (true_false (sym readied))
makes_none w v d (events.Show node) e readied = absurd (true_false (sym readied))
makes_none w v d events.Checks e readied = absurd (true_false (sym readied))
makes_none w v d (events.Bcast node datagram) e readied = absurd (true_false (sym readied))
makes_none w v d (events.Scan node) e readied = absurd (true_false (sym readied))
makes_none w v d (events.Choose node k) e readied = absurd (true_false (sym readied))
makes_none w v d (events.Path from to) e readied = absurd (true_false (sym readied))

-- # The record of a run

recorded_none : (w : World) (x : Entry) (e : RecordedEvent) → line_step network w x.event ≡ Ok (x.after, x.trace) → IsRecordedOf x e → MakesNone e
recorded_none w x e step recorded =
    subst MakesNone (sym recorded.is) (makes_none w x.after x.trace x.event step)

all_more : (e : RecordedEvent) (es : List RecordedEvent) → MakesNone e → All MakesNone es → All MakesNone (e ∷ es)
all_more e es one rest zero d inside = one
all_more e es one rest (suc k) d inside = rest k d (omega (arith, inside))

pub all_none : (xs : List Entry) (es : List RecordedEvent) (w : World) → IsRun network w xs → AreRecorded xs es → All MakesNone es
all_none [] [] w run recorded = λ k d inside. absurd (omega (arith, inside))
all_none [] (e ∷ es) w run recorded = absurd recorded
all_none (x ∷ xs) [] w run recorded = absurd recorded
all_none (x ∷ xs) (e ∷ es) w run recorded = all_more e es (recorded_none w x e run.2 recorded.0) (all_none xs es x.after run.3 recorded.1)

-- the step of an entry of a run
step_at : (before after : List Entry) (x : Entry) (w : World) → IsRun network w (before ++ (x ∷ after))
    → line_step network (left_after before w) x.event ≡ Ok (x.after, x.trace)
step_at [] after x w run = run.2
step_at (y ∷ ys) after x w run = step_at ys after x y.after run.3

-- what is recorded of an entry, at its place
pub record IsRecordedAt (x : Entry) (n : ℕ) (es : List RecordedEvent) : Type 0 where
  pub event : RecordedEvent
  pub there : slice_get es n ≡ Some event
  pub recorded : IsRecordedOf x event

pub recorded_at : (before after : List Entry) (x : Entry) (es : List RecordedEvent) → AreRecorded (before ++ (x ∷ after)) es → IsRecordedAt x (length before) es
recorded_at [] after x [] recorded = absurd recorded
recorded_at [] after x (e ∷ es) recorded = record { event = e; there = refl; recorded = recorded.0 }
recorded_at (y ∷ ys) after x [] recorded = absurd recorded
recorded_at (y ∷ ys) after x (e ∷ es) recorded =
    let at = recorded_at ys after x es recorded.1 in record { event = at.event; there = at.there; recorded = at.recorded }

pub numbered_at : (es : List RecordedEvent) (n : ℕ) → numbered es (n + 1) ≡ slice_get es n
numbered_at es n =
    ap (λ (b : Bool). if b then None else slice_get es (n + 1 - 1)) (ne_eqb (n + 1) 0 (λ e. absurd (omega (arith, e))))
    ∙ ap (λ (k : ℕ). slice_get es k) (omega arith)

-- where nothing is recorded of an end, there was none
none_ended : (w : World) (event : Event) (k : Kept) (n : ℕ) (r : World × Trace) (end : KeptEnd) → IsRecordedRight w event k n r end → end ≡ kept_ends.Still
    → EndedKept w event k r → HaltsUnsaid event k r
none_ended w event k n r end (IsNamed named) still ended =
    absurd (still_named w event k n r end (ap is_still still) named)
none_ended w event k n r end (IsNone is halts) still ended = halts ended

pub runs_keep_it : RunsKeepIt
runs_keep_it before after x events flights run recorded k among later l there ended =
    let since = kept_are_since events flights (all_none (before ++ (x ∷ after)) events start run recorded) k among in
    let at = recorded_at before after x events recorded in
    let w = left_after before start in
    let n : ℕ = length before + 1 in
    let still : end_of n at.event k ≡ kept_ends.Still = since.still n at.event later (numbered_at events (length before) ∙ at.there) in
    none_ended w x.event k n (x.after, x.trace) (end_of n (recorded_by at.recorded.row at.recorded.same x.event (x.after, x.trace)) k)
    (recorded_ends_are_so network w x.after x.event x.trace (step_at before after x start run) k l there at.recorded.row at.recorded.same n)
    (ap (λ (e : RecordedEvent). end_of n e k) (sym at.recorded.is) ∙ still) ended
