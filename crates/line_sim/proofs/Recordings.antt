-- What a recorder makes of an event, and of a remark, step by step.
use Rattle.std.proofs.Common.{◌≡◌, ℕ, ◌<◌, ◌≤◌, Bool, true, false, List, [], ◌∷◌, ◌++◌, length, take, Option, None, Some, Result, Ok, Err, OnErr}
use Rattle.std.proofs.Common.{refl, sym, ◌∙◌, ap}
use Rattle.std.proofs.lemmas.Bool.{le-leb, lt-leb}
use Rattle.std.proofs.lemmas.List.{take_at}
use Rattle.line_events.specs.declared.event.Event.{Event}
use Rattle.line_events.specs.declared.event.StepFault.{StepFault}
use Rattle.line_events.specs.declared.event.StepFault.TheVariants as steps
use Rattle.line_events.specs.declared.event.TheConstants.{MAX_EVENTS}
use Rattle.node_rules.specs.Ciphers.{network}
use Rattle.line_rules.specs.Further.{line_step}
use Rattle.line_rules.specs.Steps.{Step}
use Rattle.line_rules.specs.Worlds.{World, Trace}
use Rattle.line_script.specs.Lines.{line_of}
use Rattle.line_simulation.specs.Facts.{facts_of}
use Rattle.line_simulation.specs.Recorders.{Taken, Refused, Full, Unwritten, RecordsNot, Remarks}
use Rattle.line_simulation.specs.declared.recording.RecordFault.{RecordFault}
use Rattle.line_simulation.specs.declared.recording.RecordFault.TheVariants as faults
use Rattle.line_world.specs.Steps.{Gives}
use Rattle.line_sim.specs.Recorders.{AppendsLine, Ordered, Recorded}
use Rattle.line_sim.specs.WorldRecorder.{may_take, Turn, May, MayNot, TurnsNot, event_turn, remark_turn, appended, AppendsAs, AppendsNot, fault_of}
use Rattle.line_sim.specs.WorldRecorder.{recorded, turn_answer, line_answer, step_answer, remarked, remark_turned, remark_answer}
use Rattle.line_sim.specs.Times.{remark_line}

abbrev pub recorder_of : List ℕ → World → Ordered → Recorded
recorder_of script w o = record { script = script; world = w; order = o }

-- a script from which the line that was appended is cut off again
pub cut_back : {script line new cut : List ℕ} {n : ℕ} → AppendsLine script line new → n ≡ length script → cut ≡ take n new → cut ≡ script
cut_back {script} {line} {new} {cut} {n} a long is =
    is ∙ ap (take n) a.appended ∙ take_at script (line ++ 10 ∷ []) n (sym long)

-- # Events

-- a run at its end takes no event
pub full_is : (injects : Bool) (e : Event) (r : Recorded) → MAX_EVENTS ≤ r.world.events → recorded injects e r ≡ Full r
unfolding recorded
full_is injects e r full = rw (le-leb MAX_EVENTS r.world.events full) refl

-- an event that no line can say, or that may not be
pub untaken_is : (injects : Bool) (e : Event) (r : Recorded) → r.world.events < MAX_EVENTS → may_take injects e ≡ false → recorded injects e r ≡ Refused r
unfolding recorded
untaken_is injects e r room not = rw (lt-leb MAX_EVENTS r.world.events room, not) refl

-- An event that a recorder tries: there is room for it, and a line can say it.
pub record IsTried (injects : Bool) (e : Event) (w : World) : Type 0 where
  pub room : w.events < MAX_EVENTS
  pub takes : may_take injects e ≡ true

tried_is : (injects : Bool) (e : Event) (script : List ℕ) (w : World) (o : Ordered) (turn : Turn) → IsTried injects e w → event_turn w e o ≡ turn
    → recorded injects e (recorder_of script w o) ≡ turn_answer e turn (recorder_of script w o)
unfolding recorded
tried_is injects e script w o turn tried is =
    rw (lt-leb MAX_EVENTS w.events tried.room, tried.takes) (ap (λ (t : Turn). turn_answer e t (recorder_of script w o)) is)

-- an event that the order does not allow
pub not_next : (injects : Bool) (e : Event) (script : List ℕ) (w : World) (o p : Ordered) (fault : RecordFault) → IsTried injects e w
    → TurnsNot fault (event_turn w e o) p → RecordsNot fault (recorded injects e (recorder_of script w o)) (recorder_of script w p)
not_next injects e script w o p faults.Full tried is = absurd is
not_next injects e script w o p faults.Refused tried is = tried_is injects e script w o (MayNot p) tried is
not_next injects e script w o p faults.Memory tried is = tt

-- an event for whose line the script has no room
pub no_room : (injects : Bool) (e : Event) (script new : List ℕ) (w : World) (o p : Ordered) (fault : RecordFault) → IsTried injects e w
    → event_turn w e o ≡ May p → AppendsNot fault (appended script (line_of e)) → new ≡ script
    → RecordsNot fault (recorded injects e (recorder_of script w o)) (recorder_of new w p)
no_room injects e script new w o p faults.Full tried is none same =
    tried_is injects e script w o (May p) tried is
    ∙ ap (λ (a : Option (List ℕ)). line_answer e a (recorder_of script w p)) none
    ∙ ap (λ (s : List ℕ). Full (recorder_of s w p)) (sym same)
no_room injects e script new w o p faults.Refused tried is none same = absurd none
no_room injects e script new w o p faults.Memory tried is none same = tt

lined_is : (injects : Bool) (e : Event) (script new : List ℕ) (w : World) (o p : Ordered) → IsTried injects e w → event_turn w e o ≡ May p
    → appended script (line_of e) ≡ Some new
    → recorded injects e (recorder_of script w o) ≡ step_answer new (line_step network w e) (recorder_of script w p)
lined_is injects e script new w o p tried is line =
    tried_is injects e script w o (May p) tried is
    ∙ ap (λ (a : Option (List ℕ)). line_answer e a (recorder_of script w p)) line

-- an event that the world takes
pub taken_is : (injects : Bool) (e : Event) (script new : List ℕ) (w v : World) (o p : Ordered) (trace : Trace) → IsTried injects e w
    → event_turn w e o ≡ May p → appended script (line_of e) ≡ Some new → line_step network w e ≡ Ok (v, trace)
    → recorded injects e (recorder_of script w o) ≡ Taken (recorder_of new v p) (facts_of trace.happenings)
taken_is injects e script new w v o p trace tried is line step =
    lined_is injects e script new w o p tried is line
    ∙ ap (λ (s : Result (World × Trace) StepFault). step_answer new s (recorder_of script w p)) step

refused_is : (injects : Bool) (e : Event) (script new : List ℕ) (w v : World) (o p : Ordered) (fault : StepFault) → IsTried injects e w
    → event_turn w e o ≡ May p → appended script (line_of e) ≡ Some new → line_step network w e ≡ Err fault → v ≡ w
    → recorded injects e (recorder_of script w o) ≡ Refused (recorder_of script v p)
refused_is injects e script new w v o p fault tried is line step same =
    lined_is injects e script new w o p tried is line
    ∙ ap (λ (s : Result (World × Trace) StepFault). step_answer new s (recorder_of script w p)) step
    ∙ ap (λ (x : World). Refused (recorder_of script x p)) (sym same)

-- the world of an event that was not taken stays
pub world_stays : (w v : World) (fault : StepFault) (step : Step) → Gives w (Err fault) v step → v ≡ w
world_stays w v steps.Memory step gives = gives.1
world_stays w v steps.Setup step gives = gives.1
world_stays w v steps.Node step gives = gives.1
world_stays w v steps.Flight step gives = gives.1

-- an event that the world does not take
pub not_taken : (injects : Bool) (e : Event) (script new : List ℕ) (w v : World) (o p : Ordered) (fault : StepFault) → IsTried injects e w
    → event_turn w e o ≡ May p → appended script (line_of e) ≡ Some new → Gives w (Err fault) v (line_step network w e)
    → RecordsNot (fault_of fault) (recorded injects e (recorder_of script w o)) (recorder_of script v p)
not_taken injects e script new w v o p steps.Memory tried is line gives = tt
not_taken injects e script new w v o p steps.Setup tried is line gives =
    refused_is injects e script new w v o p steps.Setup tried is line gives.0 gives.1
not_taken injects e script new w v o p steps.Node tried is line gives =
    refused_is injects e script new w v o p steps.Node tried is line gives.0 gives.1
not_taken injects e script new w v o p steps.Flight tried is line gives =
    refused_is injects e script new w v o p steps.Flight tried is line gives.0 gives.1

-- # Remarks

-- a remark that the order does not allow
pub remark_not_next : (at : ℕ) (text script : List ℕ) (w : World) (o p : Ordered) → remark_turn at o ≡ MayNot p
    → remarked at text (recorder_of script w o) ≡ Unwritten (recorder_of script w p)
unfolding remarked
remark_not_next at text script w o p is = ap (λ (t : Turn). remark_turned at text t (recorder_of script w o)) is

remark_lined : (at : ℕ) (text script : List ℕ) (w : World) (o p : Ordered) (line : Option (List ℕ)) → remark_turn at o ≡ May p
    → appended script (remark_line at text) ≡ line → remarked at text (recorder_of script w o) ≡ remark_answer line (recorder_of script w p)
unfolding remarked
remark_lined at text script w o p line is lined =
    ap (λ (t : Turn). remark_turned at text t (recorder_of script w o)) is
    ∙ ap (λ (a : Option (List ℕ)). remark_answer a (recorder_of script w p)) lined

-- a remark that may come next
pub remark_is : (at : ℕ) (text script new : List ℕ) (w : World) (o p : Ordered) (r : Result (Unit {0}) RecordFault) → remark_turn at o ≡ May p
    → AppendsAs r (appended script (remark_line at text)) new → OnErr r (new ≡ script)
    → Remarks r (remarked at text (recorder_of script w o)) (recorder_of new w p)
remark_is at text script new w o p (Ok u) is line same = remark_lined at text script w o p (Some new) is line
remark_is at text script new w o p (Err faults.Full) is line same =
    remark_lined at text script w o p None is line ∙ ap (λ (s : List ℕ). Unwritten (recorder_of s w p)) (sym same)
remark_is at text script new w o p (Err faults.Refused) is line same = absurd line
remark_is at text script new w o p (Err faults.Memory) is line same = tt
