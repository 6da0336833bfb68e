-- An acknowledgement goes out, if one is due.
use Rattle.std.proofs.Common.{refl}
use Rattle.line_world.specs.Lines.{world_of}
use Rattle.line_world.proofs.ReplyChecks.{none_due_at, one_due_at}
use Rattle.line_world.proofs.line.Line.acknowledged.Goals as goal

pub returns-in_default-clause-acknowledges : goal.returns-in_default-clause-acknowledges
returns-in_default-clause-acknowledges c = none_due_at (world_of c.args.self.now) c.args.node c.args.due c.args.self.now.out c.in_default.is

pub returns-clause-acknowledges : goal.returns-clause-acknowledges
returns-clause-acknowledges c =
    one_due_at (world_of c.args.self.now) _ c.args.node c.args.due c.in-Some.reply c.acknowledge-sent.result c.args.self.now.out c.acknowledge-sent.new.out
    c.acknowledge-sent.new.self _
    c.in-Some.is c.is_stored.ensures c.acknowledge-sent.ensures refl
