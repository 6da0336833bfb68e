use Rattle.std.proofs.Common.{◌≡◌}
use Rattle.std.specs.List.{list_any}
use Rattle.text_signs.specs.Signs.{is_control}
use Rattle.line_plan.proofs.plan.has_control.Given as goal

-- whether there was one so far
abbrev pub invariant-loop-sign : goal.invariant-loop-sign
invariant-loop-sign l = l.found ≡ list_any is_control l.yielded
