use Rattle.std.proofs.Common.{arith}
use Rattle.script_lines.proofs.Windows.{read_fills}
use Rattle.script_lines.proofs.window.read_behind.Goals as goal

pub returns-clause-fills : goal.returns-clause-fills
returns-clause-fills g c = read_fills c.args.octets.now c.read.new.buf _ c.args.first c.args.end c.read.result c.requires.order
    (omega (arith, c.requires.room, c.requires.within)) c.read.ensures.bound c.read.ensures.read
