use Rattle.std.proofs.Common.{◌≡◌, drop}
use Rattle.plan_tables.specs.Links.{has_link}
use Rattle.plan_tables.proofs.links.has_link.Given as goal

-- no link before is the one
abbrev pub invariant-loop-link : goal.invariant-loop-link
invariant-loop-link l = has_link l.from l.to (drop l.link-index l.links) ≡ has_link l.from l.to l.links
