use Rattle.std.proofs.Common.{◌≡◌, List, [], ◌∷◌, subst}
use Rattle.std.specs.Prelude.{IfOk, string_bytes}
use Rattle.sentence_parts.specs.declared.part.Part.{Part}
use Rattle.event_sentences.specs.Scenes.{scene_of, with_flights}
use Rattle.event_sentences.proofs.moment.Moment.tells_to_seal.Goals as goal

pub returns : goal.returns
returns c =
    subst (λ (parts : List Part). IfOk c.with_flights.result (λ text. string_bytes text ≡ with_flights parts (scene_of c.args.self.now)))
    (λ i. c.words.ensures i ∷ c.node.ensures i ∷ c.words-2.ensures i ∷ c.number.ensures i ∷ []) c.with_flights.ensures
