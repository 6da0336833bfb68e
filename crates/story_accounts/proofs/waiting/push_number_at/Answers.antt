use Rattle.std.proofs.Common.{[], ◌∷◌, ◌∙◌, ap, string_bytes}
use Rattle.sentence_parts.specs.declared.part.Part.TheVariants.{Words}
use Rattle.sentence_parts.specs.Parts.{parts_text}
use Rattle.story_accounts.specs.Waits.{number_at}
use Rattle.story_accounts.proofs.MadeTexts.{appends}
use Rattle.story_accounts.proofs.waiting.push_number_at.Goals as goal

pub returns : goal.returns
unfolding number_at
returns c =
    let before = c.words.ensures ∙ ap Words c.comma.ensures in
    appends c.push_parts.result (string_bytes c.args.text.now) (string_bytes c.push_parts.new.text)
    (λ i. parts_text
    (before i ∷ c.number.ensures i ∷ []))
    c.push_parts.ensures
