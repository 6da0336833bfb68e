-- At its place, or nowhere where 16 come before it.
use Rattle.std.proofs.Common.{◌≤◌, ◌<◌, take, ◌∙◌, ap, arith}
use Rattle.std.specs.Prelude.{insert}
use Rattle.pan_discovery.proofs.AgentPlaces.{place, placed_in, placed_out}
use Rattle.pan_discovery.proofs.agents.Agents.place.Goals as goal

pub returns-then-place-ge16 : goal.returns-then-place-ge16
returns-then-place-ge16 c =
    let past : 16 ≤ place c.args.heard c.args.self.now = omega (arith, c.if-place-ge16.true, c.place_of-place.ensures.value) in
    placed_out c.args.heard c.args.self.now (rw (← c.self.view_is) c.self.invariant) past

pub returns : goal.returns
returns c =
    let within : place c.args.heard c.args.self.now < 16 = omega (arith, c.if-place-ge16.false, c.place_of-place.ensures.value) in
    let kept = c.truncate.ensures.items ∙ ap (take 15) c.self.view_is in
    c.insert.ensures.items ∙ (λ i. insert (kept i) (c.place_of-place.ensures.value i) c.args.heard) ∙ placed_in c.args.heard c.args.self.now within
