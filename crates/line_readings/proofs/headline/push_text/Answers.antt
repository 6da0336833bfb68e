use Rattle.line_readings.proofs.headline.push_text.Goals as goal

pub returns : goal.returns
returns c =
    rw (c.number.ensures, c.words.ensures, c.number-2.ensures, c.words-2.ensures, c.words-3.ensures, c.words-4.ensures) at c.push_parts.ensures
