use Rattle.std.proofs.Common.{◌++◌, ◌∷◌, ◌∙◌, [], codes, arith}
use Rattle.pcapng.specs.Blocks.{APPLICATION, BlockOption}
use Rattle.line_capture.specs.Captures.{remark_notes, totals_notes}
use Rattle.line_capture.proofs.Options.{few_one, few_then, one_option, options_begun, options_then}
use Rattle.line_capture.proofs.file.note_section.Goals as goal

abbrev program : BlockOption
program = record { code = APPLICATION; octets = codes "line_view" }

pub returns-clause-options : goal.returns-clause-options
returns-clause-options c =
    let totals = totals_notes c.args.totals.now in
    let remark = remark_notes c.args.remark.now in
    options_begun c.clear.new.self c.application.new.self (totals ++ (remark ++ program ∷ [])) c.clear.ensures
    (options_then c.clear.new.self c.note_totals.new.notes.options c.application.new.self totals (remark ++ program ∷ [])
    c.in_ok-note_totals.ensures.options
    (options_then c.note_totals.new.notes.options c.note_remark.new.notes.options c.application.new.self remark (program ∷ [])
    c.in_ok-note_remark.ensures.options (c.in_ok-application.ensures ∙ one_option c.note_remark.new.notes.options program)))

pub returns-clause-few : goal.returns-clause-few
returns-clause-few c =
    few_then 1 2 60 (totals_notes c.args.totals.now) (remark_notes c.args.remark.now ++ program ∷ []) c.in_ok-note_totals.ensures.few
    (few_then 1 1 2 (remark_notes c.args.remark.now) (program ∷ []) c.in_ok-note_remark.ensures.few
    (few_one program (record { begun = omega arith; code = omega arith; size = omega arith })) (omega arith)) (omega arith)
