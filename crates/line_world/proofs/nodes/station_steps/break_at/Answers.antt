-- A link breaks.
use Rattle.line_world.proofs.BrokenLinks.{stayed_broken, carries_broken}
use Rattle.line_world.proofs.nodes.station_steps.break_at.Goals as goal

pub returns-clause-halted : goal.returns-clause-halted
returns-clause-halted c = stayed_broken c.args.station.now c.broke-broke.new.self c.args.next c.broke-broke.result c.broken_word.result
    c.args.station.now.memory c.broken_word.ensures c.broke-broke.ensures.halted

pub returns-clause-carries : goal.returns-clause-carries
returns-clause-carries c = carries_broken c.args.station.now c.broke-broke.new.self c.args.next c.broke-broke.result c.broken_word.result
    c.args.station.now.memory c.broken_word.ensures c.broke-broke.ensures.ended
