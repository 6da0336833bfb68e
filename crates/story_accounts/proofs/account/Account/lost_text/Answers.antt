use Rattle.std.proofs.Common.{[], ◌∷◌, ◌∙◌, ap, string_bytes}
use Rattle.sentence_parts.specs.declared.part.Part.TheVariants.{Words}
use Rattle.sentence_parts.specs.Parts.{parts_text}
use Rattle.story_accounts.specs.Fates.{lost_text}
use Rattle.story_accounts.proofs.MadeTexts.{says}
use Rattle.story_accounts.proofs.account.Account.lost_text.Goals as goal

pub returns : goal.returns
unfolding lost_text
returns c =
    let way = c.words.ensures ∙ ap Words (c.as_str.ensures.value ∙ c.in_ok-way.ensures) in
    says string_bytes c.say.result
    (λ i. parts_text (way i ∷ c.words-2.ensures i ∷ c.number.ensures i ∷ c.words-3.ensures i ∷ [])) c.say.ensures
