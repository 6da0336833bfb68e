use Rattle.std.proofs.Common.{sym, subst}
use Rattle.line_script.specs.Lines.{IsInRange}
use Rattle.line_script.proofs.Ranges.{reading_fits}
use Rattle.line_script.proofs.reading.read_line.Goals as goal

pub returns-clause-in_range : goal.returns-clause-in_range
returns-clause-in_range c = subst IsInRange (sym c.reading_of.ensures) (reading_fits c.args.line.now)
