-- What is said of the packets of a capture.
use Rattle.std.specs.Prelude.{ℕ, ◌+◌, ◌-◌, ◌==◌, ◌&&◌, Bool, true, false, List, [], ◌∷◌, ◌++◌, codes, length, nat_le, nat_lt, if◌then◌else◌}
use Rattle.line_events.specs.declared.event.Answer.{Answer}
use Rattle.line_events.specs.declared.event.Answer.TheVariants as answers
use Rattle.line_script.specs.AnswerWords.{answer_word, verdict_word}
use Rattle.pcapng.specs.Blocks.{BlockOption}
use Rattle.sentence_parts.specs.declared.part.Part.TheVariants.{Words, Number}
use Rattle.line_capture.specs.declared.fate.Arrival.{Arrival}
use Rattle.line_capture.specs.FateValues.{FateValue}
use Rattle.line_capture.specs.Sentences.{comment}

abbrev pub forged_words : Bool → List ℕ
forged_words true = codes "  FORGED"
forged_words false = []

-- # What is heard

-- what a node answered to what it heard
abbrev pub answer_notes : Answer → Bool → List BlockOption
answer_notes answer forged =
    comment (Words (verdict_word answer ++ codes " ") ∷ Words (answer_word answer) ∷ Words (forged_words forged) ∷ [])

abbrev pub hearing_notes : ℕ → ℕ → ℕ → ℕ → ℕ → List BlockOption
hearing_notes event line flight from cost =
    comment (Words (codes "event ") ∷ Number event ∷ Words (codes ", line ") ∷ Number line ∷ Words (codes ": flight ") ∷ Number flight
    ∷ Words (codes " of node ") ∷ Number from ∷ Words (codes " heard over cost ") ∷ Number cost ∷ [])

abbrev pub injection_notes : ℕ → ℕ → ℕ → List BlockOption
injection_notes event line cost =
    comment (Words (codes "event ") ∷ Number event ∷ Words (codes ", line ") ∷ Number line ∷ Words (codes ": injected, cost ") ∷ Number cost ∷ [])

-- # What goes out

-- with a datagram of a send
abbrev pub bearer_notes : ℕ → ℕ → ℕ → ℕ → List BlockOption
bearer_notes event line flight send =
    comment (Words (codes "event ") ∷ Number event ∷ Words (codes ", line ") ∷ Number line ∷ Words (codes ": flight ") ∷ Number flight
    ∷ Words (codes ", send ") ∷ Number send ∷ [])

-- with anything else
abbrev pub other_notes : ℕ → ℕ → ℕ → List BlockOption
other_notes event line flight =
    comment (Words (codes "event ") ∷ Number event ∷ Words (codes ", line ") ∷ Number line ∷ Words (codes ": flight ") ∷ Number flight ∷ [])

-- with a datagram of a send where that is not 0
abbrev pub flight_notes : ℕ → ℕ → ℕ → ℕ → List BlockOption
flight_notes event line flight send = if send == 0 then other_notes event line flight else bearer_notes event line flight send

-- # What became of it

-- whether it came to a node that took it for its own
abbrev pub is_meant_by : Answer → Bool
is_meant_by answers.NotForMe = false
is_meant_by _ = true

abbrev pub is_meant : Arrival → Bool
is_meant arrival = is_meant_by arrival.answer

abbrev pub arrival_notes : Arrival → List BlockOption
arrival_notes arrival =
    comment (Words (codes "event ") ∷ Number arrival.event ∷ Words (codes " at node ") ∷ Number arrival.node ∷ Words (codes ": ")
    ∷ Words (verdict_word arrival.answer ++ codes " ") ∷ Words (answer_word arrival.answer) ∷ Words (forged_words arrival.forged) ∷ [])

-- how many such nodes there were, with one more
abbrev pub meant_after : ℕ → Arrival → ℕ
meant_after meant arrival = if is_meant arrival then meant + 1 else meant

-- that of a node, where it is one of the first 40 such
abbrev pub heard_notes : ℕ → Arrival → List BlockOption
heard_notes meant arrival = if is_meant arrival && nat_lt meant 40 then arrival_notes arrival else []

-- of the first 40 such nodes each by itself, where there were some before
abbrev pub arrivals_notes : ℕ → List Arrival → List BlockOption
arrivals_notes meant [] = []
arrivals_notes meant (arrival ∷ arrivals) = heard_notes meant arrival ++ arrivals_notes (meant_after meant arrival) arrivals

-- how many such nodes there were
abbrev pub meant_from : ℕ → List Arrival → ℕ
meant_from meant [] = meant
meant_from meant (arrival ∷ arrivals) = meant_from (meant_after meant arrival) arrivals

-- and of the others only how many these are
abbrev pub more_notes : ℕ → List BlockOption
more_notes meant = if nat_le meant 40 then [] else comment (Words (codes "and ") ∷ Number (meant - 40) ∷ Words (codes " more deliveries") ∷ [])

-- how often it came to a node that it is not for
abbrev pub overheard_notes : ℕ → List BlockOption
overheard_notes others = comment (Words (codes "heard by ") ∷ Number others ∷ Words (codes " not meant") ∷ [])

-- where it did
abbrev pub others_notes : ℕ → List BlockOption
others_notes others = if others == 0 then [] else overheard_notes others

-- that it never came to a node
abbrev pub unheard_notes : ℕ → List BlockOption
unheard_notes arrivals = if arrivals == 0 then comment (Words (codes "never delivered") ∷ []) else []

-- that it was lost, or never came to a node
abbrev pub end_notes : ℕ → ℕ → List BlockOption
end_notes lost arrivals = if lost == 0 then unheard_notes arrivals else comment (Words (codes "LOST at event ") ∷ Number lost ∷ [])

abbrev pub fate_notes : FateValue → List BlockOption
fate_notes fate =
    arrivals_notes 0 fate.arrivals ++ (more_notes (meant_from 0 fate.arrivals)
    ++ (others_notes (length fate.arrivals - meant_from 0 fate.arrivals) ++ end_notes fate.lost (length fate.arrivals)))
