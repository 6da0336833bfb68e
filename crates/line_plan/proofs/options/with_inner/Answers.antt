use Rattle.line_plan.proofs.Members.{put_inside, not_inside, ok_as}
use Rattle.line_plan.proofs.options.with_inner.Goals as goal

pub returns-in-Ok-None : goal.returns-in-Ok-None
returns-in-Ok-None c = not_inside _ _ _ _ (rw c.in-Ok-None.field-0-is at c.in-Ok-None.ensures)

pub returns-in-Ok-Some : goal.returns-in-Ok-Some
returns-in-Ok-Some c =
    ok_as _ _ c.with_both.result (λ more is. put_inside _ _ _ _ _ _ (rw c.in-Ok-Some.field-0-is at c.in-Ok-Some.ensures) is) c.with_both.ensures
