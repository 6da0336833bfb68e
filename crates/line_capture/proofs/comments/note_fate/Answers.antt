use Rattle.line_capture.proofs.Arrivals.{fate_noted, few_of_fate}
use Rattle.line_capture.proofs.comments.note_fate.Goals as goal

pub returns-clause-options : goal.returns-clause-options
returns-clause-options c =
    fate_noted c.args.notes.now.options c.note_arrivals.new.notes.options c.note_more.new.notes.options c.note_others.new.notes.options
    c.note_end.new.notes.options c.args.fate.now c.arrivals-arrivals.result.now c.in_ok-meant.meant c.lost.result c.arrivals-arrivals.ensures
    c.in_ok-meant.ensures.count c.lost.ensures c.in_ok-meant.ensures.options c.in_ok-note_more.ensures.options c.in_ok-note_others.ensures.options
    c.in_ok-note_end.ensures.options

pub returns-clause-few : goal.returns-clause-few
returns-clause-few c =
    few_of_fate c.args.fate.now c.arrivals-arrivals.result.now c.in_ok-meant.meant c.lost.result c.arrivals-arrivals.ensures c.in_ok-meant.ensures.count
    c.lost.ensures c.in_ok-meant.ensures.few c.in_ok-note_more.ensures.few c.in_ok-note_others.ensures.few c.in_ok-note_end.ensures.few
