use Rattle.std.proofs.Common.{◌≡◌, List, take}
use Rattle.std.specs.List.{fold}
use Rattle.line_place.specs.declared.link.Link.{Link}
use Rattle.line_air.specs.Nodes.{NodeState, changed, hearing_more}
use Rattle.line_air.proofs.nodes.Nodes.hear_all.Given as goal

abbrev pub invariant-loop-link : goal.invariant-loop-link
invariant-loop-link l =
    l.self ≡ fold (λ (ns : List NodeState) (k : Link). changed k.to (hearing_more l.collisions l.from) ns) l.initial.self (take l.link-index l.links)
