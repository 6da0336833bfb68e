use Rattle.std.proofs.Common.{◌≡◌, ◌++◌, drop}
use Rattle.markup.specs.Style.{rules_text}
use Rattle.markup.proofs.style.push_rules.Given as goal

-- what was written, and what the rest of the rules will be
abbrev pub invariant-loop-rule : goal.invariant-loop-rule
invariant-loop-rule l = l.out.items ++ rules_text (drop l.rule-index l.rules) ≡ l.fn.out.items ++ rules_text l.rules
