-- What lines do to a machine, whatever it is.
use Rattle.std.specs.Prelude.{◌≡◌, ◌⊎◌, ℕ, ◌≤◌, Bool, true, false, List, [], ◌∷◌, ◌++◌, length, if◌then◌else◌, IsTrue}
use Rattle.plc_base.specs.Streams.{IsPrefixOf}
use Rattle.script_lines.specs.Lines.{Content, Line, lines}

-- what a line does: nothing, or it is taken, with a text, or it is bad, with a text
pub data Turn (M : Type 0) : Type 0 where
  Skips : Turn M
  Takes : (next : M) → (text : List ℕ) → Turn M
  Stops : (text : List ℕ) → Turn M

-- how a script ends: at a bad line, with the octets after it, at the end of input, in some state, or not yet
pub data Ending (M : Type 0) : Type 0 where
  Bad : (number : ℕ) → (behind : List ℕ) → Ending M
  Ended : (last : M) → Ending M
  Open : Ending M

-- the text of the report, and how it ends
pub record Outcome (M : Type 0) : Type 0 where
  pub text : List ℕ
  pub ending : Ending M

abbrev pub outcome_turn : {M : Type 0} → M → Line → Turn M → (M → Outcome M) → Outcome M
outcome_turn m line Skips rest = rest m
outcome_turn m line (Takes next text) rest = record { text = text ++ (rest next).text; ending = (rest next).ending }
outcome_turn m line (Stops text) rest = record { text = text; ending = Bad line.number line.behind }

-- what these lines do from a state on
unfoldable pub outcome_from : {M : Type 0} → (M → ℕ → Content → Turn M) → (M → List ℕ) → M → List Line → Bool
    → Outcome M
outcome_from turn end_text m [] ended =
    record { text = if ended then end_text m else []; ending = if ended then Ended m else Open }
outcome_from turn end_text m (line ∷ lines) ended =
    outcome_turn m line (turn m line.number line.content) (λ next. outcome_from turn end_text next lines ended)

-- what a script does, where its input has ended or not
abbrev pub outcome : {M : Type 0} → (M → ℕ → Content → Turn M) → (M → List ℕ) → M → List ℕ → Bool → Outcome M
outcome turn end_text m octets ended = outcome_from turn end_text m (lines octets ended) ended

-- a line is bad, and at most this many octets stand after it
abbrev pub StopsShortOf : {M : Type 0} → ℕ → Ending M → Type 0
StopsShortOf ahead (Bad number behind) = length behind ≤ ahead
StopsShortOf ahead (Ended last) = ⊥
StopsShortOf ahead Open = ⊥

-- ---- where a report breaks off, if it could not be written whole

-- Of the octets b that were read, w was written. It breaks off in the report of the line that the octet `last` ends: the reports of
-- all lines before it were written whole, and a prefix of its own. At most this many octets were read after it. Where the input has
-- not ended, a report is that of the whole lines.
pub record BreaksOffInLine (ahead : ℕ) (report : List ℕ → Bool → List ℕ) (b w : List ℕ) : Type 0 where
  pub before : List ℕ
  pub last : ℕ
  pub behind : List ℕ
  pub parts : b ≡ before ++ last ∷ behind
  pub few : length behind ≤ ahead
  pub whole : IsPrefixOf (report before false) w
  pub cut : IsPrefixOf w (report (before ++ last ∷ []) false)

-- It breaks off in what the end of input adds: the reports of all lines that a line feed ends were written whole.
pub record BreaksOffAtEnd (report : List ℕ → Bool → List ℕ) (b w : List ℕ) (ended : Bool) : Type 0 where
  pub over : IsTrue ended
  pub whole : IsPrefixOf (report b false) w
  pub cut : IsPrefixOf w (report b true)

abbrev pub BreaksOff : ℕ → (List ℕ → Bool → List ℕ) → List ℕ → List ℕ → Bool → Type 0
BreaksOff ahead report b w ended = BreaksOffInLine ahead report b w ⊎ BreaksOffAtEnd report b w ended

-- the same where memory ran out, which may be before anything was read
abbrev pub MayBreakOff : ℕ → (List ℕ → Bool → List ℕ) → List ℕ → List ℕ → Bool → Type 0
MayBreakOff ahead report b w ended = ((b ≡ []) × (w ≡ [])) ⊎ BreaksOff ahead report b w ended
