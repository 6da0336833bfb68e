use Rattle.eap_psk.specs.Sessions.{rand_p_in}
use Rattle.coordinator.proofs.PacketRules.{third_some}
use Rattle.coordinator.proofs.packets.third_message.Goals as goal

pub third_with-requires : goal.third_with-requires
third_with-requires c =
    third_some _ c.of-keys.result c.args.server.now (rand_p_in c.args.packet.now) c.args.grant.now c.in-Ok.ensures.written
