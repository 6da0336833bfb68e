use Rattle.std.proofs.Common.{◌≡◌, List, [], ◌∷◌, ◌∙◌, ap, subst}
use Rattle.std.specs.Prelude.{IfOk, string_bytes}
use Rattle.sentence_parts.specs.declared.part.Part.{Part}
use Rattle.sentence_parts.specs.declared.part.Part.TheVariants.{Words}
use Rattle.event_sentences.specs.Scenes.{scene_of, with_flights}
use Rattle.event_sentences.proofs.moment.Moment.reported_end.Goals as goal

pub returns : goal.returns
returns c =
    let since = c.words-2.ensures ∙ ap Words (c.as_str.ensures.value ∙ c.in_ok-since.ensures) in
    subst (λ (parts : List Part). IfOk c.with_flights.result (λ text. string_bytes text ≡ with_flights parts (scene_of c.args.self.now)))
    (λ i. c.node.ensures i ∷ c.words.ensures i ∷ c.at.ensures i ∷ since i ∷ c.words-3.ensures i ∷ c.at-2.ensures i ∷ c.words-4.ensures i ∷ [])
    c.with_flights.ensures
