use Rattle.script_faults.specs.Texts.{column}
use Rattle.script_faults.proofs.finding.push_spot.Goals as goal

pub returns : goal.returns
unfolding Rattle.script_faults.specs.Texts.spot_text
returns c =
    let place = c.column.ensures in
    rw (← c.found.view_is, ← place) (rw (c.words.ensures, c.number.ensures, c.words-2.ensures, c.number-2.ensures) at c.push_parts.ensures)
