use Rattle.line_plan.proofs.Members.{put_there}
use Rattle.line_plan.proofs.options.with_key.Goals as goal

pub returns : goal.returns
returns c =
    put_there c.in_ok-key.key c.args.key.now c.args.value c.args.table.entries c.insert.new.self.entries c.in_ok-key.ensures.ok
    c.in_ok-insert.ensures.entries
