use Rattle.std.proofs.Common.{[], ◌∷◌, ◌∙◌, ap, string_bytes}
use Rattle.sentence_parts.specs.declared.part.Part.TheVariants.{Words}
use Rattle.sentence_parts.specs.Parts.{parts_text}
use Rattle.story_accounts.specs.Sections.{forged_row}
use Rattle.story_accounts.proofs.MadeTexts.{appends}
use Rattle.story_accounts.proofs.account.Account.push_forged_row.Goals as goal

pub returns : goal.returns
unfolding forged_row
returns c =
    let why = c.words-4.ensures ∙ ap Words c.why.ensures in
    appends c.push_parts.result (string_bytes c.args.text.now) (string_bytes c.push_parts.new.text)
    (λ i. parts_text
    (c.words.ensures i ∷ c.number.ensures i ∷ c.words-2.ensures i ∷ c.number-2.ensures i ∷ c.words-3.ensures i ∷ why i ∷ c.words-5.ensures i ∷ []))
    c.push_parts.ensures
