use Rattle.std.proofs.Common.{arith}
use Rattle.line_view.proofs.BadBound.{bad_bound}
use Rattle.line_view.proofs.bad_line.push_bad.Goals as goal

pub returns-clause-text : goal.returns-clause-text
unfolding Rattle.line_view.specs.BadLines.bad_text
returns-clause-text c =
    rw (c.words.ensures, c.number.ensures, c.words-2.ensures, c.words-3.ensures, c.words-4.ensures, c.word_of_reason-reason.ensures)
    at c.push_parts.ensures

pub returns-clause-bound : goal.returns-clause-bound
returns-clause-bound c = bad_bound c.args.bad (omega arith)
