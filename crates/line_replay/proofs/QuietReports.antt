-- The quiet report is the full one without the lines of the flights.
use Rattle.std.proofs.Common.{◌≡◌, ℕ, zero, suc, ◌+◌, ◌-◌, Bool, true, false, List, [], ◌∷◌, ◌++◌, length, codes, Option, Some, None, refl, sym, ◌∙◌, ap}
use Rattle.std.proofs.Common.{append_assoc}
use Rattle.std.proofs.lemmas.List.{append-nil}
use Rattle.script_lines.specs.Lines.{Line, lines}
use Rattle.line_rules.specs.Worlds.{World, Flight, flight_at, start}
use Rattle.line_rules.specs.Runs.{Entry}
use Rattle.line_script.specs.Texts.{happened_text}
use Rattle.line_replay.specs.Texts.{fly_by, flight_text, flies_text, sent_text, totals}
use Rattle.line_replay.specs.Replay.{Taking, Skipped, Taken, Refused, taking, without_flights, report, entry_text, entries, entries_text, last_by, last_from}
use Rattle.line_replay.specs.Replay.{last_text}
use Rattle.line_replay.proofs.ReportLines.{IsKept, none_kept, IsLeftOut, happened_kept, bad_kept, end_kept, fly_left_out}
use Rattle.line_replay.proofs.DriverRuns.{report_by_entries}

-- lines of flights alone are left out, others are kept
worked_report : without_flights (codes "1 ok Sent\nfly 1 0 ff\n\nfly\nfly 2 1 00\nend 1 2 1 0 0\n") ≡ codes "1 ok Sent\n\nfly\nend 1 2 1 0 0\n"
worked_report = refl

-- ---- the lines of flights

none_left_out : IsLeftOut []
none_left_out = record { left_out = λ rest. refl }

left_out_then : (a : List ℕ) {b : List ℕ} → IsLeftOut a → IsLeftOut b → IsLeftOut (a ++ b)
left_out_then a {b} la lb = record { left_out = λ rest. ap without_flights (append_assoc a b rest) ∙ la.left_out (b ++ rest) ∙ lb.left_out rest }

fly_out : (number : ℕ) (o : Option Flight) → IsLeftOut (fly_by number o)
fly_out number None = none_left_out
fly_out number (Some f) = fly_left_out number f.from f.octets

flies_out : (w : World) (first count : ℕ) → IsLeftOut (flies_text w first count)
unfolding flies_text flight_text
flies_out w first zero = none_left_out
flies_out w first (suc count) = left_out_then (flies_text w first count) (flies_out w first count) (fly_out (first + count) (flight_at w (first + count)))

-- ---- the lines of entries

entry_quieted : (x : Entry) (rest : List ℕ) → without_flights (entry_text false x ++ rest) ≡ entry_text true x ++ without_flights rest
unfolding sent_text
entry_quieted x rest =
    let lines = happened_text x.number x.event x.trace.happenings in
    let first = x.trace.happenings.first_flight in
    let flies = flies_text x.after first (length x.after.flights + 1 - first) in
    ap without_flights (append_assoc lines flies rest)
    ∙ (happened_kept x.number x.event x.trace.happenings).kept (flies ++ rest)
    ∙ ap (λ l. lines ++ l) ((flies_out x.after first (length x.after.flights + 1 - first)).left_out rest)
    ∙ ap (λ l. l ++ without_flights rest) (sym (append-nil lines))

entries_quieted : (xs : List Entry) (rest : List ℕ) → without_flights (entries_text false xs ++ rest) ≡ entries_text true xs ++ without_flights rest
entries_quieted [] rest = refl
entries_quieted (x ∷ xs) rest =
    ap without_flights (append_assoc (entry_text false x) (entries_text false xs) rest)
    ∙ entry_quieted x (entries_text false xs ++ rest)
    ∙ ap (λ l. entry_text true x ++ l) (entries_quieted xs rest)
    ∙ sym (append_assoc (entry_text true x) (entries_text true xs) (without_flights rest))

-- ---- the last line

last_by_kept : (w : World) (number : ℕ) (t : Taking) (rest : World → List ℕ) → ((next : World) → IsKept (rest next))
    → IsKept (last_by w number t rest)
last_by_kept w number Skipped rest all = all w
last_by_kept w number (Taken entry) rest all = all entry.after
last_by_kept w number (Refused reason) rest all = bad_kept number reason

last_kept : (ls : List Line) (ended : Bool) (w : World) → IsKept (last_from w ls ended)
last_kept [] true w = end_kept (totals w)
last_kept [] false w = none_kept
last_kept (line ∷ ls) ended w = last_by_kept w line.number (taking w line.content) (λ next. last_from next ls ended) (last_kept ls ended)

last_quieted : (octets : List ℕ) (ended : Bool) → without_flights (last_text octets ended) ≡ last_text octets ended
last_quieted octets ended =
    let last = last_text octets ended in
    ap without_flights (sym (append-nil last)) ∙ (last_kept (lines octets ended) ended start).kept [] ∙ append-nil last

-- ---- the report

pub report_quieted : (octets : List ℕ) (ended : Bool) → report true octets ended ≡ without_flights (report false octets ended)
report_quieted octets ended =
    let run = entries octets ended in
    let last = last_text octets ended in
    report_by_entries true octets ended
    ∙ ap (λ l. entries_text true run ++ l) (sym (last_quieted octets ended))
    ∙ sym (entries_quieted run last)
    ∙ ap without_flights (sym (report_by_entries false octets ended))
