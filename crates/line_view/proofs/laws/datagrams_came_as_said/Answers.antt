use Rattle.line_view.proofs.DatagramVerdicts.{datagrams_came_as_said}
use Rattle.line_view.proofs.laws.datagrams_came_as_said.Goals as goal

pub returns : goal.returns
returns c = datagrams_came_as_said
