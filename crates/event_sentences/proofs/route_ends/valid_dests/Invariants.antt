use Rattle.std.proofs.Common.{◌≡◌, ◌++◌, drop}
use Rattle.event_sentences.specs.RouteEnds.{valid_dests}
use Rattle.event_sentences.proofs.route_ends.valid_dests.Given as goal

-- what was found, and what the rest of the routes will give
abbrev pub invariant-loop-route : goal.invariant-loop-route
invariant-loop-route l = l.valid.items ++ valid_dests (drop l.route-index l.shown) ≡ valid_dests l.shown
