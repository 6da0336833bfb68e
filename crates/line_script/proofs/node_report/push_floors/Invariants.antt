use Rattle.std.proofs.Common.{◌≡◌, ◌++◌, drop, string_bytes}
use Rattle.line_script.specs.NodeTexts.{floors_text}
use Rattle.line_script.proofs.node_report.push_floors.Given as goal

-- the lines so far and those to come
abbrev pub invariant-loop-class : goal.invariant-loop-class
invariant-loop-class l = string_bytes l.text ++ floors_text l.class (drop l.class l.floors) ≡ string_bytes l.fn.text ++ floors_text 0 l.floors
