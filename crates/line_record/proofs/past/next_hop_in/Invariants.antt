use Rattle.std.proofs.Common.{◌≡◌, drop}
use Rattle.line_record.specs.Pasts.{next_hop_in}
use Rattle.line_record.proofs.past.next_hop_in.Given as goal

-- none of the routes so far is one to the coordinator
abbrev pub invariant-loop-route : goal.invariant-loop-route
invariant-loop-route l = next_hop_in (drop l.route-index l.routes) ≡ next_hop_in l.routes
