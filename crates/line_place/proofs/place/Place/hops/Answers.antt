use Rattle.std.proofs.Common.{◌≡◌, ℕ, ◌<◌, Option, None, length, ap, ◌∙◌, arith}
use Rattle.std.proofs.lemmas.List.{length-replicate}
use Rattle.line_place.proofs.SearchRounds.{first_round, no_nodes}
use Rattle.line_place.proofs.place.Place.hops.Goals as goal

pub returns-then-nodes-eq0 : goal.returns-then-nodes-eq0
returns-then-nodes-eq0 c =
    let none : Option ℕ = None in
    let size : length c.in_ok-hops.hops.items ≡ c.nodes-nodes.result = ap length c.in_ok-hops.ensures ∙ length-replicate c.nodes-nodes.result none in
    no_nodes c.args.self.now c.in_ok-hops.hops.items (size ∙ c.nodes-nodes.ensures) (size ∙ c.if-nodes-eq0.true)

pub widen_all-requires : goal.widen_all-requires
widen_all-requires c =
    let some : 0 < length c.args.self.now = omega (arith, c.nodes-nodes.ensures, c.if-nodes-eq0.false) in
    rw (c.in_ok-push.ensures.items, c.new-front.ensures.items, c.in_ok-hops.ensures, c.nodes-nodes.ensures) (first_round c.args.self.now some)
