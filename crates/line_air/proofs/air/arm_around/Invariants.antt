use Rattle.std.proofs.Common.{◌≡◌, take}
use Rattle.std.specs.List.{fold}
use Rattle.line_place.specs.declared.link.Link.{Link}
use Rattle.line_air.specs.Turns.{Arming, armed_at}
use Rattle.line_air.proofs.air.arm_around.Given as goal

abbrev pub invariant-loop-link : goal.invariant-loop-link
invariant-loop-link l =
    let at : Arming = record { nodes = l.nodes; backoff = l.backoff; due = l.calendar } in
    at ≡ fold (λ (b : Arming) (k : Link). armed_at l.now k.to b) (record { nodes = l.initial.nodes; backoff = l.initial.backoff; due = l.initial.calendar })
    (take l.link-index l.links)
