use Rattle.std.proofs.Common.{sym, ap, ◌∙◌, map-id}
use Rattle.std.specs.List.{list_any}
use Rattle.std.proofs.lemmas.Iterator.{YieldsList-from_chars}
use Rattle.std.proofs.lemmas.Iterator.Consumers.{YieldsList-end}
use Rattle.text_signs.specs.Signs.{is_control}
use Rattle.line_plan.proofs.plan.has_control.Goals as goal

pub returns : goal.returns
returns c =
    let end = YieldsList-end (YieldsList-from_chars c.args.text.now c.utf8.text cc) c.loop-sign.yielded _ c.loop-sign.yielded_by _ _ c.in-None.is
    c.next.ensures.steps in
    c.loop-sign.invariant ∙ ap (list_any is_control) (sym (map-id c.loop-sign.yielded) ∙ end.0)
