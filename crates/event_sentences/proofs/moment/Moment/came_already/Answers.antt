use Rattle.std.proofs.Common.{◌≡◌, List, [], ◌∷◌, subst}
use Rattle.std.specs.Prelude.{IfOk, string_bytes}
use Rattle.sentence_parts.specs.declared.part.Part.{Part}
use Rattle.sentence_parts.specs.Parts.{parts_text}
use Rattle.event_sentences.proofs.moment.Moment.came_already.Goals as goal

pub returns : goal.returns
returns c =
    subst (λ (parts : List Part). IfOk c.say.result (λ text. string_bytes text ≡ parts_text parts))
    (λ i. c.words.ensures i ∷ c.number.ensures i ∷ c.words-2.ensures i ∷ c.number-2.ensures i ∷ c.words-3.ensures i ∷ []) c.say.ensures
