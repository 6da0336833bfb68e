use Rattle.std.proofs.Common.{◌∙◌}
use Rattle.line_capture.specs.Captures.{tap_heard}
use Rattle.line_capture.proofs.Rooms.{heard_short, packet_fits}
use Rattle.line_capture.proofs.packets.Packets.push_inbound.Goals as goal

pub push-requires : goal.push-requires
push-requires c =
    packet_fits _ (tap_heard c.args.self.now.tap c.args.cost) c.args.octets.now _ c.args.self.now.notes.options 1
    c.in_ok-begin_heard.ensures.frame (heard_short c.args.self.now.tap c.args.cost) c.requires.frame c.requires.room
    (c.in_ok-begin_heard.ensures.options ∙ c.in_ok-direction.ensures)
