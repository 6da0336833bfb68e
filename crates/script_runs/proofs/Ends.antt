-- Where the run of a script ends.
use Rattle.std.proofs.Common.{◌≡◌, ℕ, List, [], ◌∷◌, ◌++◌, Some, None, refl, ◌∙◌, ap}
use Rattle.script_lines.specs.Lines.{Line}
use Rattle.line_rules.specs.Worlds.{World}
use Rattle.line_rules.specs.Runs.{Entry, last_world}
use Rattle.script_runs.specs.TakenLines.{Taking, Skipped, Taken, Refused, taking, entries_by, entries_from, BadLine, bad_by, first_bad_from}
use Rattle.script_runs.specs.Laws.{IsFirstBad, left_by}

not_none : (bad : BadLine) → Some bad ≡ None → ⊥
not_none bad is = cc

not_some : (bad : BadLine) → None ≡ Some bad → ⊥
not_some bad is = cc

same_bad : (x y : BadLine) → Some x ≡ Some y → x ≡ y
same_bad x y is = cc

-- # It goes on

abbrev GoesOn : World → List Line → List Line → Type 0
GoesOn w front behind =
    (entries_from w (front ++ behind) ≡ entries_from w front ++ entries_from (left_by w front) behind)
    × (first_bad_from w (front ++ behind) ≡ first_bad_from (left_by w front) behind)

-- what lines leave, by the taking of the line before them
abbrev left_after : World → Taking → List Line → World
left_after w t front = last_world w (entries_by w t (λ next. entries_from next front))

goes_by : (w : World) (number : ℕ) (t : Taking) (front behind : List Line) → ((next : World) → first_bad_from next front ≡ None → GoesOn next front behind)
    → bad_by w number t (λ next. first_bad_from next front) ≡ None
    → (entries_by w t (λ next. entries_from next (front ++ behind))
    ≡ entries_by w t (λ next. entries_from next front) ++ entries_from (left_after w t front) behind)
    × (bad_by w number t (λ next. first_bad_from next (front ++ behind)) ≡ first_bad_from (left_after w t front) behind)
goes_by w number Skipped front behind all none = all w none
goes_by w number (Taken x) front behind all none = let on = all x.after none in (ap (λ (xs : List Entry). x ∷ xs) on.0, on.1)
goes_by w number (Refused reason) front behind all none = absurd (not_none (record { number = number; reason = reason }) none)

pub goes_on : (w : World) (front behind : List Line) → first_bad_from w front ≡ None → GoesOn w front behind
goes_on w [] behind none = (refl, refl)
goes_on w (line ∷ front) behind none =
    goes_by w line.number (taking w line.content) front behind (λ next is. goes_on next front behind is) none

-- # It ends

abbrev Ends : World → List Line → List Line → BadLine → Type 0
Ends w front behind bad = (entries_from w (front ++ behind) ≡ entries_from w front) × (first_bad_from w (front ++ behind) ≡ Some bad)

ends_by : (w : World) (number : ℕ) (t : Taking) (front behind : List Line) (bad : BadLine)
    → ((next : World) → first_bad_from next front ≡ Some bad → Ends next front behind bad) → bad_by w number t (λ next. first_bad_from next front) ≡ Some bad
    → (entries_by w t (λ next. entries_from next (front ++ behind)) ≡ entries_by w t (λ next. entries_from next front))
    × (bad_by w number t (λ next. first_bad_from next (front ++ behind)) ≡ Some bad)
ends_by w number Skipped front behind bad all is = all w is
ends_by w number (Taken x) front behind bad all is = let on = all x.after is in (ap (λ (xs : List Entry). x ∷ xs) on.0, on.1)
ends_by w number (Refused reason) front behind bad all is = (refl, is)

pub ends : (w : World) (front behind : List Line) (bad : BadLine) → first_bad_from w front ≡ Some bad → Ends w front behind bad
ends w [] behind bad is = absurd (not_some bad is)
ends w (line ∷ front) behind bad is =
    ends_by w line.number (taking w line.content) front behind bad (λ next at. ends next front behind bad at) is

-- # The line is one of the script

-- a line that is not bad stands before the first bad one
behind_one : (w next : World) (line : Line) (t : Taking) (lines : List Line) (bad : BadLine) → taking w line.content ≡ t
    → ((front : List Line) → bad_by w line.number t (λ v. first_bad_from v front) ≡ first_bad_from next front)
    → ((front : List Line) → left_after w t front ≡ left_by next front) → IsFirstBad next lines bad → IsFirstBad w (line ∷ lines) bad
behind_one w next line t lines bad is same left found = record {
  front = line ∷ found.front;
  line = found.line;
  behind = found.behind;
  place = ap (λ (ls : List Line). line ∷ ls) found.place;
  before = ap (λ (u : Taking). bad_by w line.number u (λ v. first_bad_from v found.front)) is ∙ same found.front ∙ found.before;
  number = found.number;
  reason =
      ap (λ (u : Taking). taking (left_after w u found.front) found.line.content) is
      ∙ ap (λ (v : World). taking v found.line.content) (left found.front)
      ∙ found.reason;
}

one_by : (w : World) (line : Line) (t : Taking) (lines : List Line) (bad : BadLine) → taking w line.content ≡ t
    → ((next : World) → first_bad_from next lines ≡ Some bad → IsFirstBad next lines bad)
    → bad_by w line.number t (λ next. first_bad_from next lines) ≡ Some bad → IsFirstBad w (line ∷ lines) bad
one_by w line Skipped lines bad is all found = behind_one w w line Skipped lines bad is (λ front. refl) (λ front. refl) (all w found)
one_by w line (Taken x) lines bad is all found =
    behind_one w x.after line (Taken x) lines bad is (λ front. refl) (λ front. refl) (all x.after found)
one_by w line (Refused reason) lines bad is all found =
    let same = same_bad (record { number = line.number; reason = reason }) bad found in record {
      front = [];
      line = line;
      behind = lines;
      place = refl;
      before = refl;
      number = ap (λ (b : BadLine). b.number) same;
      reason = is ∙ ap (λ (b : BadLine). Refused b.reason) same;
    }

pub is_one : (w : World) (lines : List Line) (bad : BadLine) → first_bad_from w lines ≡ Some bad → IsFirstBad w lines bad
is_one w [] bad found = absurd (not_some bad found)
is_one w (line ∷ lines) bad found =
    one_by w line (taking w line.content) lines bad refl (λ next at. is_one next lines bad at) found
