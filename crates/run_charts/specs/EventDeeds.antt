-- What an event did whose sentence is no more than the word of its answer.
use Rattle.std.specs.Prelude.{ℕ, List, [], ◌∷◌, codes}
use Rattle.line_script.specs.AnswerWords.{answer_word}
use Rattle.line_record.specs.declared.act.Act.{Act}
use Rattle.line_record.specs.declared.act.Act.TheVariants as acts
use Rattle.line_record.specs.declared.recorded.RecordedEvent.{RecordedEvent}
use Rattle.sentence_parts.specs.declared.part.Part.TheVariants.{Node, Number, Words}
use Rattle.sentence_parts.specs.Parts.{parts_text}
use Rattle.run_charts.specs.declared.doing.Doing.{Doing}
use Rattle.run_charts.specs.declared.doing.Doing.TheVariants as doings

abbrev pub doing_of : Act → Doing
doing_of (acts.Break at next) = doings.Breaks at next
doing_of (acts.Show at) = doings.Shows at
doing_of (acts.Restart at) = doings.Restarts at
doing_of (acts.Tick seconds) = doings.Passes seconds
doing_of (acts.Rekey index) = doings.Draws index
doing_of (acts.Counter at) = doings.SetsCounter at
doing_of (acts.Number at) = doings.SetsNumber at
doing_of _ = doings.Other

unfoldable pub break_text : ℕ → ℕ → List ℕ
break_text at next =
    parts_text (Node at ∷ Words (codes "'s link to ") ∷ Node next ∷ Words (codes " broke: its routes by that end") ∷ [])

unfoldable pub show_text : ℕ → List ℕ
show_text at = parts_text (Words (codes "what ") ∷ Node at ∷ Words (codes " shows") ∷ [])

unfoldable pub restart_text : ℕ → List ℕ
restart_text at = parts_text (Node at ∷ Words (codes " restarts with what it stored") ∷ [])

unfoldable pub passing_text : ℕ → List ℕ
passing_text seconds = parts_text (Number seconds ∷ Words (codes " s pass") ∷ [])

unfoldable pub draw_text : ℕ → List ℕ
draw_text index = parts_text (Words (codes "a group key is drawn, with index ") ∷ Number index ∷ [])

unfoldable pub counter_text : ℕ → List ℕ
counter_text at = parts_text (Words (codes "the frame counter of ") ∷ Node at ∷ Words (codes " is set") ∷ [])

unfoldable pub number_text : ℕ → List ℕ
number_text at = parts_text (Words (codes "the own number of ") ∷ Node at ∷ Words (codes " is set") ∷ [])

abbrev pub text_of : Doing → List ℕ → List ℕ
text_of (doings.Breaks at next) word = break_text at next
text_of (doings.Shows at) word = show_text at
text_of (doings.Restarts at) word = restart_text at
text_of (doings.Passes seconds) word = passing_text seconds
text_of (doings.Draws index) word = draw_text index
text_of (doings.SetsCounter at) word = counter_text at
text_of (doings.SetsNumber at) word = number_text at
text_of doings.Other word = word

-- by its line alone
unfoldable pub doing_text : RecordedEvent → List ℕ
doing_text e = text_of (doing_of e.act) (answer_word e.answer)
