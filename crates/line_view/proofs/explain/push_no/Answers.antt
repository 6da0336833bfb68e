use Rattle.line_view.proofs.explain.push_no.Goals as goal

pub returns : goal.returns
returns c = rw (c.words.ensures, c.words-2.ensures, c.words-3.ensures, c.number.ensures, c.words-4.ensures) at c.push_parts.ensures
