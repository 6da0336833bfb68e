use Rattle.std.proofs.Common.{◌≡◌, drop}
use Rattle.event_sentences.specs.RouteEnds.{ended_after}
use Rattle.event_sentences.proofs.route_ends.end_all.Given as goal

-- the ends so far, with those of the rest, are the ends of all
abbrev pub invariant-loop-dest : goal.invariant-loop-dest
invariant-loop-dest l = ended_after l.event l.valid (drop l.dest-index l.old) l.ended.entries ≡ ended_after l.event l.valid l.old l.fn.ended.entries
