-- Each route message spells octets.
use Rattle.std.proofs.Common.{arith}
use Rattle.plc_base.proofs.OctetLists.{puts, joins, big_spelt}
use Rattle.loadng_messages.specs.declared.message.Message.TheVariants.{Rreq, Rrep, Rerr}
use Rattle.loadng_messages.specs.Laws.{SpellingsAreOctets}

pub message_octets : SpellingsAreOctets
message_octets (Rreq number cost origin dest) =
    (puts {x = 1} (omega arith) (joins (big_spelt 2 number) (joins (big_spelt 2 cost) (joins (big_spelt 2 origin) (big_spelt 2 dest))))).are
message_octets (Rrep number cost origin to) =
    (puts {x = 2} (omega arith) (joins (big_spelt 2 number) (joins (big_spelt 2 cost) (joins (big_spelt 2 origin) (big_spelt 2 to))))).are
message_octets (Rerr lost to) = (puts {x = 3} (omega arith) (joins (big_spelt 2 lost) (big_spelt 2 to))).are
