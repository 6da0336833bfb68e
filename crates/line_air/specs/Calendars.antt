-- What is due, in the order of its time, and at one time in the order in which it was put there.
use Rattle.std.specs.Prelude.{ℕ, ltb, cond, List, [], ◌∷◌, Option, Some, None}
use Rattle.line_air.specs.declared.calendar.Due.{Due}
use Rattle.line_air.specs.declared.calendar.Moment.{Moment}

-- a moment stands after all that are due no later
abbrev pub put : ℕ → Moment → List Due → List Due
put at moment [] = record { at = at; moment = moment } ∷ []
put at moment (d ∷ ds) =
    cond (ltb at d.at) (record { at = at; moment = moment } ∷ d ∷ ds) (d ∷ put at moment ds)

-- when the first moment is due
abbrev pub first_time : List Due → Option ℕ
first_time [] = None
first_time (d ∷ ds) = Some d.at

abbrev pub first_due : List Due → Option Due
first_due [] = None
first_due (d ∷ ds) = Some d

-- what is due after the first moment
abbrev pub later : List Due → List Due
later [] = []
later (d ∷ ds) = ds
