use Rattle.std.proofs.Common.{[], ◌∷◌, ◌∙◌, ap, string_bytes}
use Rattle.sentence_parts.specs.declared.part.Part.TheVariants.{Node, Words}
use Rattle.sentence_parts.specs.Parts.{parts_text}
use Rattle.story_accounts.specs.Fates.{unreached_text}
use Rattle.story_accounts.proofs.MadeTexts.{says}
use Rattle.story_accounts.proofs.account.Account.unreached_text.Goals as goal

pub returns : goal.returns
unfolding unreached_text
returns c =
    let what = c.words-2.ensures ∙ ap Words c.what_word.ensures in
    let from = c.node.ensures ∙ ap Node c.from.ensures in
    let lost = c.words-6.ensures ∙ ap Words c.lost_words.ensures in
    says string_bytes c.say.result
    (λ i. parts_text
    (c.words.ensures i ∷ what i ∷ c.words-3.ensures i ∷ c.number.ensures i ∷ c.words-4.ensures i ∷ from i ∷ c.words-5.ensures i ∷ lost i ∷ []))
    c.say.ensures
