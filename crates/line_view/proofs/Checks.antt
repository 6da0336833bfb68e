-- What holds of a whole check: its first fault is the first bad line, and its text is that of its faults.
use Rattle.std.proofs.Common.{◌≡◌, ℕ, ◌+◌, Bool, true, false, not, List, [], ◌∷◌, ◌++◌, Option, None, Some, sym, ap, ◌∙◌, refl}
use Rattle.std.proofs.Common.{append_assoc, arith}
use Rattle.std.specs.Prelude.{◌||◌, if◌then◌else◌, is_some, nat_lt, min}
use Rattle.std.proofs.lemmas.Bool.{lt-ltb}
use Rattle.std.proofs.lemmas.List.{append-nil}
use Rattle.line_events.specs.declared.event.Event.{Event}
use Rattle.line_rules.specs.Worlds.{World}
use Rattle.line_script.specs.declared.reading.Reading.{Reading}
use Rattle.line_script.specs.declared.reading.Reading.TheVariants.{Quiet, NoForm, Reads}
use Rattle.line_script.specs.declared.report.Reason.TheVariants as reasons
use Rattle.line_script.specs.LineReader.{reading}
use Rattle.script_faults.specs.Findings.{FindingParts}
use Rattle.script_faults.specs.Forms.{has_reading}
use Rattle.script_faults.specs.LineFindings.{line_finding}
use Rattle.script_faults.proofs.FoundLines.{found_where}
use Rattle.script_lines.specs.Lines.{Content, Text, Long, TooMuch, Line, lines}
use Rattle.script_lines.specs.Outcomes.{Bad, Ended, Outcome, outcome_turn, outcome_from, StopsShortOf}
use Rattle.script_runs.specs.TakenLines.{Taking, Skipped, Taken, Refused, event_taking, reading_taking, taking, BadLine, bad_by, first_bad_from, first_bad}
use Rattle.line_view.specs.CheckRuns.{CheckRun, checking, Look, Nothing, Keeps, Tells, event_look, form_by, form_look, reading_look, text_look}
use Rattle.line_view.specs.CheckRuns.{long_finding, input_finding}
use Rattle.line_view.specs.CheckRuns.{seen, taken_after, after, counted, bad_text, end_of, turn_by, turn_of, outcome, is_bad}
use Rattle.line_view.specs.Checked.{Fault, faults_by, faults_on, faults_from, faults, first_of, faults_text, closing_on, closing_from, closing}

no_truth : false ≡ true → ⊥
no_truth is = cc

-- # The first fault

first_by : (c : CheckRun) (number : ℕ) (line : List ℕ) (event : Event) (t : Taking) (rest : CheckRun → List Fault) (more : World → Option BadLine)
    → nat_lt 0 c.bad ≡ false → ((next : CheckRun) → nat_lt 0 next.bad ≡ false → first_of (rest next) ≡ more next.world)
    → first_of (faults_by number line (event_look c line event t) c rest) ≡ bad_by c.world number t more
first_by c number line event Skipped rest more none all = all (seen number c) none
first_by c number line event (Taken entry) rest more none all = all (taken_after number line entry c) none
first_by c number line event (Refused reason) rest more none all = refl

first_form : (c : CheckRun) (number : ℕ) (line : List ℕ) (found : Option FindingParts) (rest : CheckRun → List Fault) → is_some found ≡ true
    → first_of (faults_by number line (form_by found) c rest) ≡ Some (let b : BadLine = record { number = number; reason = reasons.Form } in b)
first_form c number line None rest some = absurd (no_truth some)
first_form c number line (Some t) rest some = refl

first_read : (c : CheckRun) (number : ℕ) (line : List ℕ) (r : Reading) (rest : CheckRun → List Fault) (more : World → Option BadLine) → reading line ≡ r
    → nat_lt 0 c.bad ≡ false → ((next : CheckRun) → nat_lt 0 next.bad ≡ false → first_of (rest next) ≡ more next.world)
    → first_of (faults_by number line (reading_look c line r) c rest) ≡ bad_by c.world number (reading_taking c.world r) more
first_read c number line Quiet rest more is none all = all (seen number c) none
first_read c number line NoForm rest more is none all =
    first_form c number line (line_finding line) rest (found_where line ∙ ap (λ r. not (has_reading r)) is)
first_read c number line (Reads event) rest more is none all = first_by c number line event (event_taking c.world event) rest more none all

first_on : (c : CheckRun) (number : ℕ) (content : Content) (rest : CheckRun → List Fault) (more : World → Option BadLine) → nat_lt 0 c.bad ≡ false
    → ((next : CheckRun) → nat_lt 0 next.bad ≡ false → first_of (rest next) ≡ more next.world)
    → first_of (faults_on content number c rest) ≡ bad_by c.world number (taking c.world content) more
unfolding taking
first_on c number (Text line) rest more none all =
    ap (λ (b : Bool). first_of (faults_by number line (if b then form_look line else reading_look c line (reading line)) c rest)) none
    ∙ first_read c number line (reading line) rest more refl none all
first_on c number Long rest more none all = refl
first_on c number TooMuch rest more none all = refl

first_from : (ls : List Line) (c : CheckRun) → nat_lt 0 c.bad ≡ false → first_of (faults_from c ls) ≡ first_bad_from c.world ls
first_from [] c none = refl
first_from (line ∷ ls) c none =
    first_on c line.number line.content (λ next. faults_from next ls) (λ w. first_bad_from w ls) none (first_from ls)

-- the first fault of a script is the line at which its run ends
pub finds : (json : Bool) (octets : List ℕ) (ended : Bool) → first_of (faults json octets ended) ≡ first_bad octets ended
finds json octets ended = first_from (lines octets ended) (checking json) refl

-- # The text

text_by : (row : Line) (number : ℕ) (line : List ℕ) (look : Look) (c : CheckRun) (rest : CheckRun → Outcome CheckRun) (more : CheckRun → List Fault)
    (last : CheckRun → List ℕ) → ((next : CheckRun) → (rest next).text ≡ faults_text next.json next.bad (more next) ++ last next)
    → (outcome_turn c row (turn_by number line look c) rest).text
    ≡ faults_text c.json c.bad (faults_by number line look c more) ++ last (after number line look c)
text_by row number line Nothing c rest more last all = all (after number line Nothing c)
text_by row number line (Keeps entry) c rest more last all = all (after number line (Keeps entry) c)
text_by row number line (Tells reason t) c rest more last all =
    let next = after number line (Tells reason t) c in
    let this = bad_text c.json c.bad number line reason t in
    ap (λ (l : List ℕ). this ++ l) (all next) ∙ sym (append_assoc this (faults_text c.json (counted c.bad) (more next)) (last next))

text_on : (row : Line) (number : ℕ) (content : Content) (c : CheckRun) (rest : CheckRun → Outcome CheckRun) (more : CheckRun → List Fault)
    (last : CheckRun → List ℕ) → ((next : CheckRun) → (rest next).text ≡ faults_text next.json next.bad (more next) ++ last next)
    → (outcome_turn c row (turn_of c number content) rest).text ≡ faults_text c.json c.bad (faults_on content number c more) ++ closing_on content number c last
text_on row number (Text line) c rest more last all = text_by row number line (text_look c line) c rest more last all
text_on row number Long c rest more last all = text_by row number [] (Tells reasons.Long long_finding) c rest more last all
text_on row number TooMuch c rest more last all =
    ap (λ (l : List ℕ). l ++ end_of (after number [] (Tells reasons.Input input_finding) c))
    (sym (append-nil (bad_text c.json c.bad number [] reasons.Input input_finding)))

text_from : (ls : List Line) (c : CheckRun) (ended : Bool)
    → (outcome_from turn_of end_of c ls ended).text ≡ faults_text c.json c.bad (faults_from c ls) ++ closing_from c ls ended
unfolding outcome_from
text_from [] c ended = refl
text_from (line ∷ ls) c ended =
    text_on line line.number line.content c (λ next. outcome_from turn_of end_of next ls ended) (λ next. faults_from next ls)
    (λ next. closing_from next ls ended) (λ next. text_from ls next ended)

-- what is written is what is said of each fault, and then the last lines
pub text_is : (json : Bool) (octets : List ℕ) (ended : Bool)
    → (outcome json octets ended).text ≡ faults_text json 0 (faults json octets ended) ++ closing json octets ended
text_is json octets ended = text_from (lines octets ended) (checking json) ended

-- # Whether a line is bad

some_counted : (n : ℕ) → nat_lt 0 (counted n) ≡ true
some_counted n = lt-ltb 0 (min (n + 1) 4294967295) (omega arith)

or_true : (b : Bool) → b || true ≡ true
or_true true = refl
or_true false = refl

or_false : (b : Bool) → b || false ≡ b
or_false true = refl
or_false false = refl

-- a check that ends in a state says there whether a line was bad
abbrev BadWhere : CheckRun → CheckRun → List Fault → Type 0
BadWhere last c fs = is_bad last ≡ (is_bad c || is_some (first_of fs))

where_by : (last : CheckRun) (row : Line) (number : ℕ) (line : List ℕ) (look : Look) (c : CheckRun) (rest : CheckRun → Outcome CheckRun)
    (more : CheckRun → List Fault) → ((next : CheckRun) → (rest next).ending ≡ Ended last → BadWhere last next (more next))
    → (outcome_turn c row (turn_by number line look c) rest).ending ≡ Ended last → BadWhere last c (faults_by number line look c more)
where_by last row number line Nothing c rest more all ends = all (after number line Nothing c) ends
where_by last row number line (Keeps entry) c rest more all ends = all (after number line (Keeps entry) c) ends
where_by last row number line (Tells reason t) c rest more all ends =
    let next = after number line (Tells reason t) c in
    all next ends ∙ ap (λ (b : Bool). b || is_some (first_of (more next))) (some_counted c.bad) ∙ sym (or_true (is_bad c))

not_ended : (number : ℕ) (behind : List ℕ) (last : CheckRun) → Bad number behind ≡ Ended last → ⊥
not_ended number behind last is = cc

where_on : (last : CheckRun) (row : Line) (number : ℕ) (content : Content) (c : CheckRun) (rest : CheckRun → Outcome CheckRun) (more : CheckRun → List Fault)
    → ((next : CheckRun) → (rest next).ending ≡ Ended last → BadWhere last next (more next))
    → (outcome_turn c row (turn_of c number content) rest).ending ≡ Ended last → BadWhere last c (faults_on content number c more)
where_on last row number (Text line) c rest more all ends = where_by last row number line (text_look c line) c rest more all ends
where_on last row number Long c rest more all ends = where_by last row number [] (Tells reasons.Long long_finding) c rest more all ends
where_on last row number TooMuch c rest more all ends = absurd (not_ended row.number row.behind last ends)

same_last : (c last : CheckRun) → Ended c ≡ Ended last → c ≡ last
same_last c last is = cc

where_from : (last : CheckRun) (ls : List Line) (c : CheckRun) → (outcome_from turn_of end_of c ls true).ending ≡ Ended last
    → BadWhere last c (faults_from c ls)
unfolding outcome_from
where_from last [] c ends = ap is_bad (sym (same_last c last ends)) ∙ sym (or_false (is_bad c))
where_from last (line ∷ ls) c ends =
    where_on last line line.number line.content c (λ next. outcome_from turn_of end_of next ls true) (λ next. faults_from next ls)
    (λ next. where_from last ls next) ends

-- at the end of input the last state says whether a line is bad
pub bad_at_end : (json : Bool) (octets : List ℕ) (last : CheckRun) → (outcome json octets true).ending ≡ Ended last
    → is_bad last ≡ is_some (first_bad octets true)
bad_at_end json octets last ends = where_from last (lines octets true) (checking json) ends ∙ ap is_some (finds json octets true)

stops_by : (ahead : ℕ) (row : Line) (number : ℕ) (line : List ℕ) (look : Look) (c : CheckRun) (rest : CheckRun → Outcome CheckRun)
    (more : CheckRun → List Fault) → ((next : CheckRun) → StopsShortOf ahead (rest next).ending → is_some (first_of (more next)) ≡ true)
    → StopsShortOf ahead (outcome_turn c row (turn_by number line look c) rest).ending → is_some (first_of (faults_by number line look c more)) ≡ true
stops_by ahead row number line Nothing c rest more all stops = all (after number line Nothing c) stops
stops_by ahead row number line (Keeps entry) c rest more all stops = all (after number line (Keeps entry) c) stops
stops_by ahead row number line (Tells reason t) c rest more all stops = refl

stops_on : (ahead : ℕ) (row : Line) (number : ℕ) (content : Content) (c : CheckRun) (rest : CheckRun → Outcome CheckRun) (more : CheckRun → List Fault)
    → ((next : CheckRun) → StopsShortOf ahead (rest next).ending → is_some (first_of (more next)) ≡ true)
    → StopsShortOf ahead (outcome_turn c row (turn_of c number content) rest).ending → is_some (first_of (faults_on content number c more)) ≡ true
stops_on ahead row number (Text line) c rest more all stops = stops_by ahead row number line (text_look c line) c rest more all stops
stops_on ahead row number Long c rest more all stops = refl
stops_on ahead row number TooMuch c rest more all stops = refl

stops_from : (ahead : ℕ) (ls : List Line) (c : CheckRun) (ended : Bool) → StopsShortOf ahead (outcome_from turn_of end_of c ls ended).ending
    → is_some (first_of (faults_from c ls)) ≡ true
unfolding outcome_from
stops_from ahead [] c true stops = absurd stops
stops_from ahead [] c false stops = absurd stops
stops_from ahead (line ∷ ls) c ended stops =
    stops_on ahead line line.number line.content c (λ next. outcome_from turn_of end_of next ls ended) (λ next. faults_from next ls)
    (λ next. stops_from ahead ls next ended) stops

-- where a check stops short, a line is bad
pub bad_where_stopped : (json : Bool) (octets : List ℕ) (ended : Bool) (ahead : ℕ) → StopsShortOf ahead (outcome json octets ended).ending
    → is_some (first_bad octets ended) ≡ true
bad_where_stopped json octets ended ahead stops =
    ap is_some (sym (finds json octets ended)) ∙ stops_from ahead (lines octets ended) (checking json) ended stops
