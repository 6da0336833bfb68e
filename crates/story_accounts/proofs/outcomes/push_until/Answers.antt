use Rattle.std.proofs.Common.{[], ◌∷◌, string_bytes}
use Rattle.sentence_parts.specs.Parts.{parts_text}
use Rattle.story_accounts.specs.Outcomes.{until_text}
use Rattle.story_accounts.proofs.MadeTexts.{appends}
use Rattle.story_accounts.proofs.outcomes.push_until.Goals as goal

pub returns : goal.returns
unfolding until_text
returns c =
    appends c.push_parts.result (string_bytes c.args.text.now) (string_bytes c.push_parts.new.text)
    (λ i. parts_text
    (c.words.ensures i ∷ c.node.ensures i ∷ c.words-2.ensures i ∷ c.words-3.ensures i ∷ c.number.ensures i ∷ c.words-4.ensures i ∷ []))
    c.push_parts.ensures
