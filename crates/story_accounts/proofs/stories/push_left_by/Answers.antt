use Rattle.std.proofs.Common.{[], ◌∷◌, string_bytes}
use Rattle.sentence_parts.specs.Parts.{parts_text}
use Rattle.story_accounts.specs.Sections.{left_by}
use Rattle.story_accounts.proofs.MadeTexts.{appends}
use Rattle.story_accounts.proofs.stories.push_left_by.Goals as goal

pub returns : goal.returns
unfolding left_by
returns c =
    appends c.push_parts.result (string_bytes c.args.text.now) (string_bytes c.push_parts.new.text)
    (λ i. parts_text
    (c.words.ensures i ∷ c.number.ensures i ∷ c.words-2.ensures i ∷ c.number-2.ensures i ∷ c.words-3.ensures i ∷ c.words-4.ensures i
    ∷ c.number-3.ensures i ∷ c.words-5.ensures i ∷ []))
    c.push_parts.ensures
