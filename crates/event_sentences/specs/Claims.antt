-- What is said of an event, as a claim with named facts, and its sentence.
use Rattle.std.specs.Prelude.{ℕ, List, [], ◌∷◌}
use Rattle.sentence_parts.specs.declared.part.Part.{Part}
use Rattle.sentence_parts.specs.declared.part.Part.TheVariants.{Node, Number}
use Rattle.sentence_parts.specs.Woven.{woven}
use Rattle.event_sentences.specs.declared.claim.Deed.{Deed}
use Rattle.event_sentences.specs.declared.claim.Deed.TheVariants as deeds
use Rattle.event_sentences.specs.declared.claim.TheConstants.{HANDS_UP, HANDS_UP_STRAY}

-- the words, which stand in src/claim.rt
abbrev pub words_of : Deed → List ℕ
words_of (deeds.HandsUp send) = HANDS_UP.now
words_of deeds.HandsUpStray = HANDS_UP_STRAY.now

-- what the words name, in their order: the node first
abbrev pub facts_of : ℕ → Deed → List Part
facts_of node (deeds.HandsUp send) = Node node ∷ Number send ∷ []
facts_of node deeds.HandsUpStray = Node node ∷ []

abbrev pub deed_text : ℕ → Deed → List ℕ
deed_text node deed = woven (words_of deed) (facts_of node deed)
