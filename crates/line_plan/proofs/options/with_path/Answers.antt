use Rattle.line_plan.proofs.Members.{by_key, by_parts, ok_as}
use Rattle.line_plan.proofs.options.with_path.Goals as goal

pub returns-in_ok-more-in-None : goal.returns-in_ok-more-in-None
returns-in_ok-more-in-None c = by_key c.args.path.now _ _ _ c.in-None.ensures c.in_ok-more-in-None.ensures

pub returns-in-Some : goal.returns-in-Some
returns-in-Some c = ok_as _ _ c.with_inner.result (λ more is. by_parts c.args.path.now _ _ _ _ _ c.in-Some.ensures is) c.with_inner.ensures
