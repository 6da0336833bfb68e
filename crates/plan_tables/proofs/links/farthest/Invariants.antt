use Rattle.std.proofs.Common.{◌≡◌, drop}
use Rattle.plan_tables.specs.Links.{farther}
use Rattle.plan_tables.proofs.links.farthest.Given as goal

-- the highest number so far and those to come make that of all
abbrev pub invariant-loop-link : goal.invariant-loop-link
invariant-loop-link l = farther l.most (drop l.link-index l.links) ≡ farther 0 l.links
