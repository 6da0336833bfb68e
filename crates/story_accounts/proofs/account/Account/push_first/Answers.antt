use Rattle.std.proofs.Common.{[], ◌∷◌, ◌∙◌, ap, string_bytes}
use Rattle.sentence_parts.specs.declared.part.Part.TheVariants.{Number, Words}
use Rattle.sentence_parts.specs.Parts.{parts_text}
use Rattle.story_accounts.specs.Sections.{first_text}
use Rattle.story_accounts.proofs.MadeTexts.{appends}
use Rattle.story_accounts.proofs.account.Account.push_first.Goals as goal

pub returns : goal.returns
unfolding first_text
returns c =
    let line = c.number-2.ensures ∙ ap Number c.line_at.ensures in
    let why = c.words-4.ensures ∙ ap Words c.why.ensures in
    appends c.push_parts.result (string_bytes c.args.text.now) (string_bytes c.push_parts.new.text)
    (λ i. parts_text
    (c.words.ensures i ∷ c.number.ensures i ∷ c.words-2.ensures i ∷ line i ∷ c.words-3.ensures i ∷ why i ∷ c.words-5.ensures i ∷ []))
    c.push_parts.ensures
