use Rattle.std.proofs.Common.{[], ◌∷◌, ◌∙◌, ap, string_bytes}
use Rattle.sentence_parts.specs.declared.part.Part.TheVariants.{Number, Words}
use Rattle.sentence_parts.specs.Parts.{parts_text}
use Rattle.story_accounts.specs.Sections.{mute_row}
use Rattle.story_accounts.proofs.MadeTexts.{appends}
use Rattle.story_accounts.proofs.account.Account.push_mute_row.Goals as goal

pub returns : goal.returns
unfolding mute_row
returns c =
    let line = c.number-3.ensures ∙ ap Number c.line_at.ensures in
    let fate = c.words-5.ensures ∙ ap Words (c.as_str.ensures.value ∙ c.in_ok-fate.ensures) in
    appends c.push_parts.result (string_bytes c.args.text.now) (string_bytes c.push_parts.new.text)
    (λ i. parts_text
    (c.words.ensures i ∷ c.number.ensures i ∷ c.words-2.ensures i ∷ c.number-2.ensures i ∷ c.words-3.ensures i ∷ line i ∷ c.words-4.ensures i
    ∷ fate i ∷ c.words-6.ensures i ∷ []))
    c.push_parts.ensures
