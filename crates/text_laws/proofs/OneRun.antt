-- A run that went another way has another report.
use Rattle.std.proofs.Common.{◌≡◌, ℕ, suc, ◌+◌, ◌<◌, List, [], ◌∷◌, ◌++◌, length, get_or, refl, sym, ap, subst, ◌∙◌, arith}
use Rattle.std.specs.Prelude.{All}
use Rattle.std.proofs.lemmas.List.{append-nil, append_assoc}
use Rattle.std.proofs.lemmas.List.Elements.{All-append, All-cons, All-head, All-nil, All-same, All-tail}
use Rattle.line_events.specs.declared.event.Answer.{Answer}
use Rattle.line_script.specs.Texts.{bad_text, end_text, fly_text}
use Rattle.text_laws.specs.ReportLines.{ReportLine, Verdict, Fly, Bad, End, AreReportLines, IsReportLine, line_text, report_text}
use Rattle.text_laws.specs.Reports.{end_line, joined, lines_of, parts_of}
use Rattle.text_laws.specs.Runs.{Ending, Whole, Stopped, BrokenOff, Flown, ReportedEvent, IsEnding, IsFlown, IsReportedEvent, ending_text, event_text}
use Rattle.text_laws.specs.Runs.{flights_text}
use Rattle.text_laws.specs.Runs.{run_text}
use Rattle.text_laws.specs.Laws.{AreSameReported, OneRunForAReport}
use Rattle.text_laws.proofs.LineOrder.{AreAt, AreInOrder, Begins, parts_after, same_parts, split}
use Rattle.text_laws.proofs.OneOutcome.{in_order, place, same_outcome}
use Rattle.text_laws.proofs.OneReport.{one_report}
use Rattle.text_laws.proofs.Ranges.{happened_fits}
use Rattle.text_laws.proofs.ReportTexts.{alone, append_text, happened_is}

-- # The lines of a run

abbrev flight_lines : List Flown → List ReportLine
flight_lines [] = []
flight_lines (f ∷ fs) = Fly f.flight f.node f.octets ∷ flight_lines fs

abbrev event_parts : ReportedEvent → List (List ReportLine)
event_parts x = parts_of x.number x.event x.happenings ++ (flight_lines x.flights ∷ [])

abbrev ending_lines : Ending → List ReportLine
ending_lines (Whole totals) = end_line totals ∷ []
ending_lines (Stopped number reason) = Bad number reason ∷ []
ending_lines BrokenOff = []

abbrev run_lines : List ReportedEvent → Ending → List ReportLine
run_lines [] ending = ending_lines ending
run_lines (x ∷ xs) ending = joined (event_parts x) ++ run_lines xs ending

joined_more : (parts : List (List ReportLine)) (last : List ReportLine) → joined (parts ++ (last ∷ [])) ≡ joined parts ++ last
joined_more [] last = append-nil last
joined_more (part ∷ parts) last =
    ap (λ (lines : List ReportLine). part ++ lines) (joined_more parts last) ∙ sym (append_assoc part (joined parts) last)

-- # Texts

flights_are : (fs : List Flown) → flights_text fs ≡ report_text (flight_lines fs)
unfolding fly_text line_text report_text
flights_are [] = refl
flights_are (f ∷ fs) = ap (λ (text : List ℕ). fly_text f.flight f.node f.octets ++ text) (flights_are fs)

event_is : (x : ReportedEvent) → event_text x ≡ report_text (joined (event_parts x))
unfolding lines_of
event_is x =
    (λ i. happened_is x.number x.event x.happenings i ++ flights_are x.flights i)
    ∙ sym (append_text (lines_of x.number x.event x.happenings) (flight_lines x.flights))
    ∙ ap report_text (sym (joined_more (parts_of x.number x.event x.happenings) (flight_lines x.flights)))

ending_is : (e : Ending) → ending_text e ≡ report_text (ending_lines e)
unfolding bad_text end_text line_text report_text
ending_is (Whole totals) = alone (end_line totals)
ending_is (Stopped number reason) = alone (Bad number reason)
ending_is BrokenOff = refl

run_is : (xs : List ReportedEvent) (e : Ending) → run_text xs e ≡ report_text (run_lines xs e)
unfolding run_text
run_is [] e = ending_is e
run_is (x ∷ xs) e = (λ i. event_is x i ++ run_is xs e i) ∙ sym (append_text (joined (event_parts x)) (run_lines xs e))

-- # Ranges

flights_fit : (fs : List Flown) → All IsFlown fs → AreReportLines (flight_lines fs)
flights_fit [] are = All-nil IsReportLine
flights_fit (f ∷ fs) are =
    All-cons IsReportLine (Fly f.flight f.node f.octets) (flight_lines fs) (All-head IsFlown f fs are) (flights_fit fs (All-tail IsFlown f fs are))

event_fits : (x : ReportedEvent) → IsReportedEvent x → AreReportLines (joined (event_parts x))
unfolding lines_of
event_fits x is =
    All-same IsReportLine (joined (event_parts x)) (lines_of x.number x.event x.happenings ++ flight_lines x.flights)
    (joined_more (parts_of x.number x.event x.happenings) (flight_lines x.flights))
    (All-append IsReportLine (lines_of x.number x.event x.happenings) (flight_lines x.flights)
    (happened_fits x.number x.event x.happenings is.number is.event is.happenings) (flights_fit x.flights is.flights))

ending_fits : (e : Ending) → IsEnding e → AreReportLines (ending_lines e)
ending_fits (Whole totals) is = All-cons IsReportLine (end_line totals) [] is (All-nil IsReportLine)
ending_fits (Stopped number reason) is = All-cons IsReportLine (Bad number reason) [] is (All-nil IsReportLine)
ending_fits BrokenOff is = All-nil IsReportLine

run_fits : (xs : List ReportedEvent) (e : Ending) → All IsReportedEvent xs → IsEnding e → AreReportLines (run_lines xs e)
run_fits [] e are is = ending_fits e is
run_fits (x ∷ xs) e are is =
    All-append IsReportLine (joined (event_parts x)) (run_lines xs e) (event_fits x (All-head IsReportedEvent x xs are))
    (run_fits xs e (All-tail IsReportedEvent x xs are) is)

-- # Places

flights_at : (fs : List Flown) → AreAt place 10 (flight_lines fs)
flights_at [] = tt
flights_at (f ∷ fs) = (refl, flights_at fs)

order_more : (k : ℕ) (parts : List (List ReportLine)) (last : List ReportLine) → AreInOrder place k parts → AreAt place (k + length parts) last
    → AreInOrder place k (parts ++ (last ∷ []))
order_more k [] last order at = (subst (λ (j : ℕ). AreAt place j last) (omega arith) at, tt)
order_more k (part ∷ parts) last order at =
    (order.0, order_more (suc k) parts last order.1 (subst (λ (j : ℕ). AreAt place j last) (omega arith) at))

event_order : (x : ReportedEvent) → AreInOrder place 0 (event_parts x)
event_order x =
    order_more 0 (parts_of x.number x.event x.happenings) (flight_lines x.flights) (in_order x.number x.event x.happenings) (flights_at x.flights)

-- what comes after the verdict of an event
abbrev later : List (List ReportLine) → List (List ReportLine)
later [] = []
later (part ∷ parts) = parts

run_begins : (xs : List ReportedEvent) (e : Ending) → Begins (λ l. place l ≡ 0) (run_lines xs e)
run_begins [] (Whole totals) = refl
run_begins [] (Stopped number reason) = refl
run_begins [] BrokenOff = tt
run_begins (x ∷ xs) e = refl

-- # What is read of the lines

abbrev flights_in : List ReportLine → List Flown
flights_in (Fly flight node octets ∷ lines) = record { flight = flight; node = node; octets = octets } ∷ flights_in lines
flights_in _ = []

flights_back : (fs : List Flown) → flights_in (flight_lines fs) ≡ fs
flights_back [] = refl
flights_back (f ∷ fs) = ap (λ (others : List Flown). f ∷ others) (flights_back fs)

abbrev ending_in : List ReportLine → Ending
ending_in (End events flights sends ups forged ∷ lines) =
    Whole (record { events = events; flights = flights; sends = sends; ups = ups; forged = forged })
ending_in (Bad number reason ∷ lines) = Stopped number reason
ending_in _ = BrokenOff

ending_back : (e : Ending) → ending_in (ending_lines e) ≡ e
ending_back (Whole totals) = refl
ending_back (Stopped number reason) = refl
ending_back BrokenOff = refl

no_verdict : (e : Ending) (number : ℕ) (answer : Answer) (rest : List ReportLine) → ending_lines e ≡ Verdict number answer ∷ rest → ⊥
no_verdict (Whole totals) number _ rest is = absurd (cc is)
no_verdict (Stopped line reason) number _ rest is = absurd (cc is)
no_verdict BrokenOff number _ rest is = absurd (cc is)

-- # Runs

abbrev rest_of : ReportedEvent → List ReportLine
rest_of x = joined (later (event_parts x))

-- the lines of an event are its verdict and those up to the next verdict or the last line
split_event : (x y : ReportedEvent) (xs ys : List ReportedEvent) (e f : Ending) → run_lines (x ∷ xs) e ≡ run_lines (y ∷ ys) f
    → (event_parts x ≡ event_parts y) × (run_lines xs e ≡ run_lines ys f)
split_event x y xs ys e f is =
    let first : Verdict x.number x.happenings.answer ≡ Verdict y.number y.happenings.answer = cc is in
    let next : rest_of x ++ run_lines xs e ≡ rest_of y ++ run_lines ys f = cc is in
    let both = split (λ l. 0 < place l) (λ l. place l ≡ 0) (λ l inside begins. omega (arith, inside, begins)) (rest_of x) (rest_of y) (run_lines xs e)
    (run_lines ys f) (parts_after place 0 1 (later (event_parts x)) (omega arith) (event_order x).1)
    (parts_after place 0 1 (later (event_parts y)) (omega arith) (event_order y).1) (run_begins xs e) (run_begins ys f) next in
    (same_parts place 0 (event_parts x) (event_parts y) refl (event_order x) (event_order y) (λ i. first i ∷ both.0 i), both.1)

same_runs : (xs ys : List ReportedEvent) (e f : Ending) → All IsReportedEvent xs → All IsReportedEvent ys → run_lines xs e ≡ run_lines ys f
    → AreSameReported xs ys × (e ≡ f)
same_runs [] [] e f ix iy is = (tt, sym (ending_back e) ∙ ap ending_in is ∙ ending_back f)
same_runs [] (y ∷ ys) e f ix iy is = absurd (no_verdict e y.number y.happenings.answer (rest_of y ++ run_lines ys f) is)
same_runs (x ∷ xs) [] e f ix iy is = absurd (no_verdict f x.number x.happenings.answer (rest_of x ++ run_lines xs e) (sym is))
same_runs (x ∷ xs) (y ∷ ys) e f ix iy is =
    let both = split_event x y xs ys e f is in
    let of_x = All-head IsReportedEvent x xs ix in
    let of_y = All-head IsReportedEvent y ys iy in
    let outcome = same_outcome x.event y.event x.number y.number x.happenings y.happenings (flight_lines x.flights ∷ []) (flight_lines y.flights ∷ [])
    of_x.happenings.shown of_y.happenings.shown both.0 in
    let flights : x.flights ≡ y.flights =
    sym (flights_back x.flights) ∙ ap (λ (parts : List (List ReportLine)). flights_in (get_or parts 10 [])) both.0 ∙ flights_back y.flights in
    let more = same_runs xs ys e f (All-tail IsReportedEvent x xs ix) (All-tail IsReportedEvent y ys iy) both.1 in
    ((record { number = outcome.0; outcome = outcome.1; flights = flights }, more.0), more.1)

pub one_run : OneRunForAReport
one_run xs ys e f ix iy ie jf is =
    same_runs xs ys e f ix iy
    (one_report (run_lines xs e) (run_lines ys f) (run_fits xs e ix ie) (run_fits ys f iy jf) (sym (run_is xs e) ∙ is ∙ run_is ys f))
