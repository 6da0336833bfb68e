-- The sentence of an event is that of its entry.
use Rattle.std.proofs.Common.{◌≡◌, ℕ, Bool, false, not, ◌&&◌, List, [], ◌∷◌, ◌++◌, length, Option, Some, refl, ap, ◌∙◌}
use Rattle.std.specs.Prelude.{if◌then◌else◌}
use Rattle.line_events.specs.declared.event.Event.{Event}
use Rattle.line_rules.specs.Worlds.{node_at}
use Rattle.line_record.specs.declared.recorded.RecordedEvent.{RecordedEvent}
use Rattle.line_record.specs.Kinds.{actor_of, is_for_another}
use Rattle.event_sentences.specs.declared.heard.Heard.{Heard}
use Rattle.event_sentences.specs.Scenes.{Scene}
use Rattle.event_sentences.specs.Texts.{event_text}
use Rattle.event_sentences.specs.Watches.{Watched}
use Rattle.event_sentences.proofs.TrueOnce.{ups_are_true}
use Rattle.line_view.specs.Recordings.{Recording, in_world, recording_after, same_flight, event_of_entry}
use Rattle.line_view.specs.Sentences.{Sentences, ended_at, ending, event_worded, heard_by, is_at, learned, look_around, look_at}
use Rattle.line_view.specs.Sentences.{scene, shown_by, with_event, with_last, with_looks, with_sentence, worded}
use Rattle.line_view.specs.Truths.{UpsAreWorded}
use Rattle.line_view.proofs.Recorded.{last_recorded}

-- what the sentence of an event goes by that has words
abbrev scene_at : ℕ → RecordedEvent → Heard → Recording → Sentences → Scene
scene_at number e heard r s =
    let watches : List Watched = look_around number e.act r.world s.watches in
    scene e (Some heard) (shown_by (node_at r.world (actor_of e.act))) (ended_at r.world (actor_of e.act) watches) r
    (with_looks e r.world (look_at number r.world (actor_of e.act) watches) s)

worded_so : (number : ℕ) (e : RecordedEvent) (heard : Heard) (r : Recording) (s : Sentences)
    → (worded number e (Some heard) (look_around number e.act r.world s.watches) r s).sentences
    ≡ s.sentences ++ (event_text (scene_at number e heard r s) ∷ [])
unfolding worded ending
worded_so number e heard r s = refl

heard_so : (number : ℕ) (e : RecordedEvent) (heard : Heard) (r : Recording) (s : Sentences) → is_for_another e.answer ≡ false
    → (with_event number e (Some heard) r s).sentences ≡ s.sentences ++ (event_text (scene_at number e heard r s) ∷ [])
heard_so number e heard r s is =
    ap
    (λ (b : Bool).
    (if b && not (is_at heard.to (actor_of e.act))
    then ending [] number e s
    else worded number e (Some heard) (look_around number e.act r.world s.watches) r s).sentences)
    is
    ∙ worded_so number e heard r s

sentence_so : (number : ℕ) (event : Event) (e : RecordedEvent) (heard : Heard) (r : Recording) (s : Sentences) → is_for_another e.answer ≡ false
    → heard_by event r (learned event e s) ≡ Some heard
    → (event_worded number event e r s).sentences ≡ s.sentences ++ (event_text (scene_at number e heard r (learned event e s)) ∷ [])
unfolding event_worded learned
sentence_so number event e heard r s is came =
    ap (λ (o : Option Heard). (with_event number e o r (learned event e s)).sentences) came ∙ heard_so number e heard r (learned event e s) is

-- where an entry handed up a datagram, its sentence is that of a claim which is true of the entry
pub ups_are_worded : UpsAreWorded
unfolding with_sentence
ups_are_worded row x r s heard up came =
    let run : Recording = recording_after row x r in
    let e : RecordedEvent = event_of_entry row x r in
    let place : ℕ = length run.events in
    let said = ups_are_true x row x.after.clock (same_flight x.event (in_world x.after r)) (scene_at place e heard run (learned x.event e s)) heard refl refl
    up in (
      said.0,
      said.1,
      ap (λ (o : Option RecordedEvent). (with_last o x.event run s).sentences) (last_recorded row x r)
          ∙ sentence_so place x.event e heard run s (ap is_for_another up) came
          ∙ ap (λ (text : List ℕ). s.sentences ++ (text ∷ [])) said.2,
    )
