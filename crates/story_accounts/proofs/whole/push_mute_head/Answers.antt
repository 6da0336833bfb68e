use Rattle.std.proofs.Common.{[], ◌∷◌, string_bytes}
use Rattle.sentence_parts.specs.Parts.{parts_text}
use Rattle.story_accounts.specs.Sections.{mute_head}
use Rattle.story_accounts.proofs.MadeTexts.{appends}
use Rattle.story_accounts.proofs.whole.push_mute_head.Goals as goal

pub returns : goal.returns
unfolding mute_head
returns c =
    appends c.push_parts.result (string_bytes c.args.text.now) (string_bytes c.push_parts.new.text)
    (λ i. parts_text (c.words.ensures i ∷ c.number.ensures i ∷ c.words-2.ensures i ∷ [])) c.push_parts.ensures
