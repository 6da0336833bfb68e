-- What is said of a datagram that is handed up is true of the event, and determined by it.
use Rattle.std.proofs.Common.{◌≡◌, ℕ, Bool, true, false, Option, None, Some, refl, sym, ap, ◌∙◌, subst, arith}
use Rattle.std.specs.Prelude.{◌==◌, if◌then◌else◌}
use Rattle.std.proofs.lemmas.Grind.{common_steps}
use Rattle.line_events.specs.declared.event.Answer.{Answer}
use Rattle.line_events.specs.declared.event.Answer.TheVariants as answers
use Rattle.line_events.specs.declared.happenings.Handed.{Handed}
use Rattle.line_events.specs.Answers.{is_ok}
use Rattle.line_rules.specs.Runs.{Entry}
use Rattle.line_record.specs.declared.recorded.RecordedEvent.{RecordedEvent}
use Rattle.line_record.specs.RunRecords.{note_of}
use Rattle.event_sentences.specs.declared.claim.Deed.TheVariants as deeds
use Rattle.event_sentences.specs.declared.heard.Heard.{Heard}
use Rattle.event_sentences.specs.Claims.{deed_text}
use Rattle.event_sentences.specs.Refused.{refused_frame_text}
use Rattle.event_sentences.specs.Scenes.{Scene}
use Rattle.event_sentences.specs.Taken.{handed_up, taken_text}
use Rattle.event_sentences.specs.Texts.{done_by, event_text, refused_by}
use Rattle.event_sentences.specs.Truth.{IsTrueOf, SaysOne, UpsAreTrue, answer_of, send_handed_up, send_of}

pub says_one : SaysOne
says_one x (deeds.HandsUp send) (deeds.HandsUp other) a b = ap deeds.HandsUp (sym a.1 ∙ b.1)
says_one x (deeds.HandsUp send) deeds.HandsUpStray a b = absurd (omega (arith, a.1, b.1, a.2))
says_one x deeds.HandsUpStray (deeds.HandsUp send) a b = absurd (omega (arith, a.1, b.1, b.2))
says_one x deeds.HandsUpStray deeds.HandsUpStray a b = refl

by_test : (x : Entry) (send : ℕ) (b : Bool) → (send == 0) ≡ b → answer_of x ≡ answers.Up → send_handed_up x ≡ send
    → IsTrueOf x (if b then deeds.HandsUpStray else deeds.HandsUp send)
by_test x send true test up is =
    let none : send ≡ 0 = grind (arith, common_steps) in
    (up, is ∙ none)
by_test x send false test up is = (up, is, grind (arith, common_steps))

by_note : (x : Entry) (up : Option Handed) → answer_of x ≡ answers.Up → send_handed_up x ≡ send_of up → IsTrueOf x (handed_up (note_of up))
by_note x None up is = (up, is)
by_note x (Some handed) up is = by_test x handed.note (handed.note == 0) refl up is

said_so : (s : Scene) (heard : Heard) → s.heard ≡ Some heard → s.recorded.answer ≡ answers.Up → event_text s ≡ deed_text s.node (handed_up s.recorded.up)
unfolding event_text
said_so s heard came up =
    subst (λ (o : Option Heard). (if is_ok s.recorded.answer then done_by o s else refused_by o s) ≡ deed_text s.node (handed_up s.recorded.up)) (sym came)
    (subst (λ (a : Answer). (if is_ok a then taken_text a heard s else refused_frame_text a heard s) ≡ deed_text s.node (handed_up s.recorded.up)) (sym up)
    refl)

pub ups_are_true : UpsAreTrue
ups_are_true x line clock same s heard recorded came up =
    let note : s.recorded.up ≡ note_of x.trace.happenings.up = ap (λ (e : RecordedEvent). e.up) recorded in (
      handed_up s.recorded.up,
      subst (λ (u : Option ℕ). IsTrueOf x (handed_up u)) (sym note) (by_note x x.trace.happenings.up up refl),
      said_so s heard came (ap (λ (e : RecordedEvent). e.answer) recorded ∙ up),
    )
