use Rattle.line_plan.proofs.Members.{split_of}
use Rattle.line_plan.proofs.options.split_at_first.Goals as goal

pub returns : goal.returns
returns c = split_of c.args.mark c.args.text.now _ (c.split_once.ensures.byte c.requires (λ w o f. f))
