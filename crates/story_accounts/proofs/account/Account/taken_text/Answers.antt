use Rattle.std.proofs.Common.{[], ◌∷◌, string_bytes}
use Rattle.sentence_parts.specs.Parts.{parts_text}
use Rattle.story_accounts.specs.Fates.{taken_text}
use Rattle.story_accounts.proofs.MadeTexts.{says}
use Rattle.story_accounts.proofs.account.Account.taken_text.Goals as goal

pub returns : goal.returns
unfolding taken_text
returns c =
    says string_bytes c.say.result
    (λ i. parts_text
    (c.words.ensures i ∷ c.number.ensures i ∷ c.words-2.ensures i ∷ c.number-2.ensures i ∷ c.words-3.ensures i ∷ [])) c.say.ensures
