-- Laws of what lines do.
use Rattle.std.proofs.Common.{◌≡◌, ℕ, ◌≤◌, Bool, true, false, List, [], ◌++◌, length, refl, sym, ◌∙◌, ap, append_assoc}
use Rattle.std.proofs.lemmas.List.{append-nil}
use Rattle.plc_base.specs.Streams.{IsPrefixOf}
use Rattle.script_lines.specs.Lines.{Content, Text, Long, TooMuch, Line}
use Rattle.script_lines.specs.Next.{lines_with}
use Rattle.script_lines.specs.Outcomes.{Turn, Skips, Takes, Stops, Ended, Open, Outcome, outcome_turn, outcome_from, StopsShortOf}
use Rattle.script_lines.specs.Clauses.{turn_text, GoesOn, IsStop}

abbrev line_at : ℕ → Content → List ℕ → Line
line_at number what behind = record { number = number; content = what; behind = behind }

module _ {M : Type 0} where
  -- a line that stops the run does so whatever stands after it
  stop_outcome : (m : M) (line : Line) (turn : Turn M) (rest rest' : M → Outcome M) → IsStop turn
      → outcome_turn m line turn rest ≡ outcome_turn m line turn rest'
  stop_outcome m line Skips rest rest' stops = absurd stops
  stop_outcome m line (Takes next text) rest rest' stops = absurd stops
  stop_outcome m line (Stops text) rest rest' stops = refl

  pub goes_text : (m0 m1 : M) (line : Line) (w : List ℕ) (turn : Turn M) (rest : M → Outcome M) → GoesOn w m0 m1 turn
      → (outcome_turn m0 line turn rest).text ≡ w ++ (rest m1).text
  goes_text m0 m1 line w Skips rest on = rw (on.0, on.1) refl
  goes_text m0 m1 line w (Takes next text) rest on = rw (on.0, on.1) refl
  goes_text m0 m1 line w (Stops text) rest on = absurd on

  pub goes_ending : (m0 m1 : M) (line : Line) (w : List ℕ) (turn : Turn M) (rest : M → Outcome M) → GoesOn w m0 m1 turn
      → (outcome_turn m0 line turn rest).ending ≡ (rest m1).ending
  goes_ending m0 m1 line w Skips rest on = rw on.0 refl
  goes_ending m0 m1 line w (Takes next text) rest on = rw on.0 refl
  goes_ending m0 m1 line w (Stops text) rest on = absurd on

  pub stops_text : (m0 : M) (line : Line) (turn : Turn M) (rest : M → Outcome M) → IsStop turn → (outcome_turn m0 line turn rest).text ≡ turn_text turn
  stops_text m0 line Skips rest is = absurd is
  stops_text m0 line (Takes next text) rest is = absurd is
  stops_text m0 line (Stops text) rest is = refl

  pub stops_ending : (ahead : ℕ) (m0 : M) (line : Line) (turn : Turn M) (rest : M → Outcome M) → IsStop turn → length line.behind ≤ ahead
      → StopsShortOf ahead (outcome_turn m0 line turn rest).ending
  stops_ending ahead m0 line Skips rest is short = absurd is
  stops_ending ahead m0 line (Takes next text) rest is short = absurd is
  stops_ending ahead m0 line (Stops text) rest is short = short

  -- a line's own text stands in front
  pub turn_front : (m0 : M) (line : Line) (turn : Turn M) (rest : M → Outcome M) → IsPrefixOf (turn_text turn) (outcome_turn m0 line turn rest).text
  turn_front m0 line Skips rest = record { rest = (rest m0).text; whole = refl }
  turn_front m0 line (Takes next text) rest = record { rest = (rest next).text; whole = refl }
  turn_front m0 line (Stops text) rest = record { rest = []; whole = sym (append-nil text) }

  pub goes_no_stop : (w : List ℕ) (m0 m1 : M) (turn : Turn M) → IsStop turn → GoesOn w m0 m1 turn → ⊥
  goes_no_stop w m0 m1 Skips stops on = stops
  goes_no_stop w m0 m1 (Takes next text) stops on = stops
  goes_no_stop w m0 m1 (Stops text) stops on = on

module _ {M : Type 0} (turn : M → ℕ → Content → Turn M) (end_text : M → List ℕ) where
  -- what a line and those after it do
  pub line_outcome : ((m : M) (number : ℕ) → IsStop (turn m number TooMuch))
      → (m : M) (number : ℕ) (what : Content) (behind : List ℕ) (rest : List Line) (ended : Bool)
      → outcome_from turn end_text m (lines_with number what behind rest) ended
      ≡ outcome_turn m (line_at number what behind) (turn m number what) (λ next. outcome_from turn end_text next rest ended)
  unfolding outcome_from
  line_outcome stops m number (Text octets) behind rest ended = refl
  line_outcome stops m number Long behind rest ended = refl
  line_outcome stops m number TooMuch behind rest ended = stop_outcome m (line_at number TooMuch behind) (turn m number TooMuch)
      (λ next. outcome_from turn end_text next [] ended) (λ next. outcome_from turn end_text next rest ended) (stops m number)

  pub no_lines : (m : M) → outcome_from turn end_text m [] true ≡ record { text = end_text m; ending = Ended m }
  unfolding outcome_from
  no_lines m = refl

  pub no_lines_yet : (m : M) → outcome_from turn end_text m [] false ≡ record { text = []; ending = Open }
  unfolding outcome_from
  no_lines_yet m = refl

-- ---- fronts

pub front_of_front : (xs ys zs : List ℕ) → IsPrefixOf xs ys → IsPrefixOf ys zs → IsPrefixOf xs zs
front_of_front xs ys zs p q = record { rest = p.rest ++ q.rest; whole = q.whole ∙ ap (λ (l : List ℕ). l ++ q.rest) p.whole ∙ append_assoc xs p.rest q.rest }

pub front_behind : (w xs ys zs : List ℕ) → IsPrefixOf xs ys → zs ≡ w ++ ys → IsPrefixOf (w ++ xs) zs
front_behind w xs ys zs p is = record { rest = p.rest; whole = is ∙ ap (λ (l : List ℕ). w ++ l) p.whole ∙ sym (append_assoc w xs p.rest) }
