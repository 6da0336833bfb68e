use Rattle.line_view.proofs.checker.push_first.Goals as goal

pub returns : goal.returns
unfolding Rattle.line_view.specs.CheckRuns.first_text
returns c =
    rw (c.words.ensures, c.number.ensures, c.words-2.ensures, c.words-3.ensures, c.words-4.ensures, c.word_of_reason-word.ensures) at c.push_parts.ensures
