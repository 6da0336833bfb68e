-- Worked octets and a worked scan, computed.
use Rattle.std.proofs.Common.{◌≡◌, ℕ, List, [], ◌∷◌, Some, None, refl}
use Rattle.plc_base.specs.Fields.{octet, two, little_two}
use Rattle.pan_discovery.specs.declared.message.Discovery.TheVariants.{Request, Beacon}
use Rattle.pan_discovery.specs.Messages.{discovery_spelling}
use Rattle.pan_discovery.specs.Reader.{is_request, is_beacon, discovery_in}
use Rattle.pan_discovery.specs.Agents.{shown, agents_of, kth_of}
use Rattle.pan_discovery.specs.History.{History, Begin, Clear, Beacon as Heard, after_history, begun, ended, agents_since}

request : discovery_spelling (Request 0) ≡ 0x03 ∷ 0x08 ∷ 0x00 ∷ 0xFF ∷ 0xFF ∷ 0xFF ∷ 0xFF ∷ 0x07 ∷ []
request = refl

-- the beacon of 0001 in the network 781D, at cost 5
node : List ℕ
node = 0x00 ∷ 0x80 ∷ 0x00 ∷ 0x1D ∷ 0x78 ∷ 0x01 ∷ 0x00 ∷ 0xFF ∷ 0x8F ∷ 0x00 ∷ 0x00 ∷ 0x00 ∷ 0x05 ∷ []

node_is : discovery_spelling (Beacon 0 0x781D 1 5) ≡ node
unfolding node
node_is = refl

node_read : discovery_in node ≡ Some (Beacon 0 0x781D 1 5)
unfolding node discovery_in is_request is_beacon octet two little_two
node_read = refl

coordinator : discovery_spelling (Beacon 0 0x781D 0 0) ≡ 0x00 ∷ 0x80 ∷ 0x00 ∷ 0x1D ∷ 0x78 ∷ 0x00 ∷ 0x00 ∷ 0xFF ∷ 0xCF ∷ 0x00 ∷ 0x00 ∷ 0x00 ∷ 0x00 ∷ []
coordinator = refl

-- Node 7 is heard at 15, 9 at 9, 3 at 15, and 7 again at 20 and at 14; before the scan began, 5 was.
scan : History
scan = Heard 7 9 5 ∷ Heard 7 15 5 ∷ Heard 3 14 1 ∷ Heard 9 0 9 ∷ Heard 7 10 5 ∷ Begin ∷ Heard 5 0 1 ∷ Begin ∷ []

agents : agents_of (agents_since scan) ≡ shown 9 0 9 ∷ shown 7 9 5 ∷ shown 3 14 1 ∷ []
unfolding scan
agents = refl

third : kth_of (agents_of (agents_since scan)) 3 ≡ Some (3, 15)
unfolding scan
third = refl

no_fourth : kth_of (agents_of (agents_since scan)) 4 ≡ None
unfolding scan
no_fourth = refl

begun_again : after_history (Begin ∷ scan) ≡ begun
unfolding after_history
begun_again = refl

not_heard : after_history (Heard 5 0 1 ∷ Clear ∷ scan) ≡ ended
unfolding after_history
not_heard = refl
