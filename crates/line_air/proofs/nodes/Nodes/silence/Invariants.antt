use Rattle.std.proofs.Common.{◌≡◌, take}
use Rattle.std.specs.List.{fold}
use Rattle.line_air.specs.Nodes.{Silence, silent_at}
use Rattle.line_air.proofs.nodes.Nodes.silence.Given as goal

abbrev pub invariant-loop-link : goal.invariant-loop-link
invariant-loop-link l =
    let now : Silence = record { nodes = l.self; heard = l.heard.items } in
    now ≡ fold (silent_at l.from) (record { nodes = l.initial.self; heard = l.initial.heard.items }) (take l.link-index l.links)
