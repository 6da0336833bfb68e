use Rattle.std.proofs.Common.{◌≡◌, ◌++◌, drop, string_bytes}
use Rattle.line_script.specs.NodeTexts.{routes_text}
use Rattle.line_script.proofs.node_report.push_routes.Given as goal

-- the lines so far and those to come
abbrev pub invariant-loop-route : goal.invariant-loop-route
invariant-loop-route l = string_bytes l.text ++ routes_text (drop l.route-index l.routes) ≡ string_bytes l.fn.text ++ routes_text l.routes
