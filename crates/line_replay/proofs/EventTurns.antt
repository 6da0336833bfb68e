-- The turn of a line that is an event.
use Rattle.std.proofs.Common.{◌≡◌, ℕ, ◌+◌, ◌<◌, Bool, List, [], ◌++◌, Ok, Err, Result, sym, ap, ◌∙◌, subst}
use Rattle.std.specs.Prelude.{OnOk}
use Rattle.std.proofs.lemmas.Bool.{lt-ltb}
use Rattle.plc_base.specs.Streams.{SinkState}
use Rattle.script_lines.specs.declared.text_output.StopReason.{StopReason}
use Rattle.script_lines.specs.Outcomes.{Turn, Takes}
use Rattle.script_lines.specs.Clauses.{IsWritten, Turned}
use Rattle.script_lines.proofs.Turned.{taken}
use Rattle.line_events.specs.declared.event.Event.{Event}
use Rattle.line_events.specs.declared.happenings.Happenings.{Happenings}
use Rattle.line_events.specs.declared.event.TheConstants.{MAX_EVENTS}
use Rattle.node_rules.specs.Ciphers.{network}
use Rattle.line_rules.specs.Worlds.{World}
use Rattle.line_rules.specs.Further.{line_step}
use Rattle.line_world.specs.Steps.{Takes as TakesStep}
use Rattle.line_script.specs.Texts.{happened_text}
use Rattle.line_replay.specs.Texts.{sent_text}
use Rattle.line_replay.specs.Replay.{Playing, event_taking, turn_by}

abbrev text_of : Bool → ℕ → World → Event → Happenings → List ℕ
text_of quiet number next e h = happened_text number e h ++ sent_text quiet next h.first_flight

turn_is : (quiet : Bool) (number : ℕ) (w next : World) (e : Event) (h : Happenings) → w.events < MAX_EVENTS → TakesStep h next (line_step network w e)
    → turn_by quiet number (event_taking w e) ≡ Takes (record { quiet = quiet; world = next }) (text_of quiet (w.events + 1) next e h)
turn_is quiet number w next e h room is =
    rw (lt-ltb w.events MAX_EVENTS room, is.taken) (ap (λ (reported : Happenings). Takes (let p : Playing = record { quiet = quiet; world = next } in p)
    (text_of quiet (w.events + 1) next e reported)) (sym is.reported))

pub event_taken : {old new : SinkState} (quiet : Bool) (number count : ℕ) (w next : World) (e : Event) (h : Happenings) (r : Result (Unit {0}) StopReason)
    → count ≡ w.events → w.events < MAX_EVENTS → TakesStep h next (line_step network w e)
    → IsWritten old new (text_of quiet (count + 1) next e h) r
    → Turned {M = Playing} old new (record { quiet = quiet; world = w }) (record { quiet = quiet; world = next }) (turn_by quiet number (event_taking w e)) r
event_taken {old} {new} quiet number count w next e h r counts room is t =
    subst (λ (turn : Turn Playing). Turned {M = Playing} old new (record { quiet = quiet; world = w }) (record { quiet = quiet; world = next }) turn r)
    (sym (turn_is quiet number w next e h room is))
    (subst (λ n. Turned {M = Playing} old new (record { quiet = quiet; world = w }) (record { quiet = quiet; world = next })
    (Takes (record { quiet = quiet; world = next }) (text_of quiet (n + 1) next e h)) r) counts
    (taken (text_of quiet (count + 1) next e h) r t (record { quiet = quiet; world = w }) (record { quiet = quiet; world = next })))

-- what a buffer has that was emptied, where the text was appended
pub made_so : {T E : Type 0} (r : Result T E) (text : List ℕ) {shown old new : List ℕ} → shown ≡ new → old ≡ [] → OnOk r (new ≡ old ++ text)
    → OnOk r (shown ≡ text)
made_so (Ok t) text is none made = is ∙ made ∙ ap (λ (l : List ℕ). l ++ text) none
made_so (Err e) text is none made = tt
