use Rattle.std.proofs.Common.{◌∙◌}
use Rattle.line_replay.proofs.DrillLoops.{says}
use Rattle.line_replay.proofs.drill.Drill.send.Goals as goal

pub take-requires : goal.take-requires
take-requires c = says c.args.node c.args.zeros _ _ c.ranges.node.fits (c.new-datagram.ensures ∙ c.as_slice.ensures.value) c.requires
    c.in_ok-octets.ensures.length c.in_ok-octets.ensures.octets
