use Rattle.std.proofs.Common.{Option, [], ◌∷◌, ◌∙◌, ap, sym, string_bytes}
use Rattle.line_record.specs.declared.recorded.RecordedEvent.{RecordedEvent}
use Rattle.sentence_parts.specs.declared.part.Part.TheVariants.{Node, Words}
use Rattle.sentence_parts.specs.Parts.{parts_text}
use Rattle.story_accounts.specs.Fates.{hearer_by, hearer_text}
use Rattle.story_accounts.proofs.MadeTexts.{appends}
use Rattle.story_accounts.proofs.account.Account.push_hearer.Goals as goal

pub returns : goal.returns
unfolding hearer_text
returns c =
    let who = c.node.ensures ∙ ap Node c.actor_of.ensures in
    let word = c.words-2.ensures ∙ ap Words c.answer_word.ensures in
    appends c.push_parts.result (string_bytes c.args.text.now) (string_bytes c.push_parts.new.text)
    ((λ i. parts_text
    (who i ∷ c.words.ensures i ∷ word i ∷ c.words-3.ensures i ∷ c.number.ensures i ∷ c.words-4.ensures i ∷ []))
    ∙ ap (λ (o : Option RecordedEvent). hearer_by o c.args.event) (sym c.in-Some.is ∙ c.event.ensures)) c.push_parts.ensures
