use Rattle.std.proofs.Common.{◌∙◌}
use Rattle.line_capture.specs.Captures.{tap_sent}
use Rattle.line_capture.proofs.Rooms.{packet_fits, sent_short}
use Rattle.line_capture.proofs.packets.Packets.push_outbound.Goals as goal

pub push-requires : goal.push-requires
push-requires c =
    packet_fits _ (tap_sent c.args.self.now.tap) c.args.octets.now _ c.args.self.now.notes.options 2
    c.in_ok-begin_sent.ensures.frame (sent_short c.args.self.now.tap) c.requires.frame c.requires.room
    (c.in_ok-begin_sent.ensures.options ∙ c.in_ok-direction.ensures)
