-- How an event ended, as a colour.
use Rattle.std.specs.Prelude.{ℕ, Bool, true, false, List, codes, if◌then◌else◌}
use Rattle.line_events.specs.declared.event.Answer.{Answer}
use Rattle.line_events.specs.declared.event.Answer.TheVariants as answers
use Rattle.line_events.specs.Answers.{is_ok}
use Rattle.line_record.specs.declared.recorded.RecordedEvent.{RecordedEvent}
use Rattle.run_charts.specs.declared.outcome.Outcome.{Outcome}
use Rattle.run_charts.specs.declared.outcome.Outcome.TheVariants as outcomes

abbrev pub refused_or_overheard : Answer → Outcome
refused_or_overheard answers.NotForMe = outcomes.Overheard
refused_or_overheard _ = outcomes.Refused

abbrev pub fine_or_good : Answer → Outcome
fine_or_good answers.Up = outcomes.Good
fine_or_good answers.Bup = outcomes.Good
fine_or_good answers.Took = outcomes.Good
fine_or_good answers.Done = outcomes.Good
fine_or_good answers.Path = outcomes.Good
fine_or_good _ = outcomes.Fine

unfoldable pub outcome_of : RecordedEvent → Outcome
outcome_of e = if e.forged then outcomes.Forged else (if is_ok e.answer then fine_or_good e.answer else refused_or_overheard e.answer)

-- whether an arrow ends in a cross
abbrev pub has_cross : Outcome → Bool
has_cross outcomes.Refused = true
has_cross _ = false

-- # Classes

-- of a line that is drawn
abbrev pub line_class : Outcome → List ℕ
line_class outcomes.Fine = codes "A"
line_class outcomes.Good = codes "A up"
line_class outcomes.Refused = codes "A no"
line_class outcomes.Forged = codes "A f"
line_class outcomes.Overheard = codes "A q"

-- of what is filled
abbrev pub fill_class : Outcome → List ℕ
fill_class outcomes.Fine = codes "B"
fill_class outcomes.Good = codes "B up"
fill_class outcomes.Refused = codes "B no"
fill_class outcomes.Forged = codes "B f"
fill_class outcomes.Overheard = codes "B q"

-- of the word of an answer
abbrev pub pill_class : Outcome → List ℕ
pill_class outcomes.Fine = codes "p"
pill_class outcomes.Good = codes "p up"
pill_class outcomes.Refused = codes "p no"
pill_class outcomes.Forged = codes "p f"
pill_class outcomes.Overheard = codes "p q"
