-- How a calendar keeps what is due: by its time and a number that grows with each put.
use Rattle.std.specs.Prelude.{ℕ, ◌<◌, List, [], ◌∷◌}
use Rattle.line_air.specs.declared.calendar.Due.{Due}
use Rattle.line_air.specs.declared.calendar.Moment.{Moment}

abbrev pub due_of : List ((ℕ × ℕ) × Moment) → List Due
due_of [] = []
due_of (e ∷ es) = record { at = e.0.0; moment = e.1 } ∷ due_of es

-- all numbers are below one
abbrev pub AreBefore : ℕ → List ((ℕ × ℕ) × Moment) → Type 0
AreBefore next [] = Unit {0}
AreBefore next (e ∷ es) = (e.0.1 < next) × AreBefore next es
