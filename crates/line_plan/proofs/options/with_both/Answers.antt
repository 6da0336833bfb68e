use Rattle.toml.proofs.Views.{view-Table}
use Rattle.line_plan.proofs.Members.{put_both}
use Rattle.line_plan.proofs.options.with_both.Goals as goal

pub returns : goal.returns
returns c = put_both c.args.name.now c.args.key.now _ _ _ _ _ _ c.in_ok-within.ensures (view-Table _) c.in_ok-whole.ensures
