use Rattle.std.proofs.Common.{arith}
use Rattle.line_script.proofs.HexValues.{joins}
use Rattle.line_script.proofs.digit_values.octet_lanes.Goals as goal

pub returns : goal.returns
returns c = joins 16 c.args.first c.args.second (omega arith)
