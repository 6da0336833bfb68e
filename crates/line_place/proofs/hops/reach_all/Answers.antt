use Rattle.std.proofs.Common.{get_or}
use Rattle.std.proofs.lemmas.Option.{slice_get-get_or}
use Rattle.line_place.specs.declared.link.Link.{Link}
use Rattle.line_place.proofs.SearchRounds.{none_reached, links_begin, links_go_on, links_end}
use Rattle.line_place.proofs.hops.reach_all.Goals as goal

pub loop-link-init : goal.loop-link-init
loop-link-init c = none_reached _ _ _ _ (links_begin c.args.links.now)

pub loop-link-preserved : goal.loop-link-preserved
loop-link-preserved c =
    let default : Link = record { to = 0; loss = 0; cost = 0 } in
    links_go_on c.args.links.now c.loop-link.link-index (get_or c.args.links.now c.loop-link.link-index default)
    (slice_get-get_or c.args.links.now c.loop-link.link-index default c.loop-link-test.true) c.loop-link.invariant c.in_ok-reach.ensures

pub returns : goal.returns
returns c = links_end c.args.links.now c.loop-link.link-index c.loop-link-test.false c.loop-link.invariant
