-- That the packets of a joining pass: what one end makes, the other one takes, and what it takes of it.
use Rattle.std.specs.Prelude.{◌≡◌, ◌<◌, ◌≤◌, ℕ, false, List, length, Some, None}
use Rattle.plc_base.specs.declared.key.Key.{Key}
use Rattle.plc_base.specs.declared.key.RandomOctets.{RandomOctets}
use Rattle.plc_base.specs.Grant.{Granted}
use Rattle.joining_messages.specs.Grants.{IsGranted}
use Rattle.eap_psk.specs.Sessions.{identifier_of, peer_of, rand_p_in}
use Rattle.eap_psk.specs.declared.server.Server.{Server}
use Rattle.node_rules.specs.Ciphers.{Ciphers, network}
use Rattle.node_rules.specs.JoiningPackets.{is_first}

-- A packet that a joining message has room for.
pub record IsPacket (packet : List ℕ) : Type 0 where
  pub some : 0 < length packet
  pub few : length packet ≤ 128

-- The second packet of a session is taken with its RAND_P.
pub record SecondPasses (ciphers : Ciphers) (psk : Key) (server : Server) (rand_p : RandomOctets) (packet : List ℕ) : Type 0 where
  pub fits : IsPacket packet
  pub taken : ciphers.second_fault psk server packet ≡ None
  pub says : rand_p_in packet ≡ rand_p

-- The third is none of the first ones, and is taken with its grant and its identifier.
pub record ThirdPasses (ciphers : Ciphers) (psk : Key) (server : Server) (rand_p : RandomOctets) (grant : Granted) (packet : List ℕ) : Type 0 where
  pub fits : IsPacket packet
  pub later : is_first packet ≡ false
  pub taken : ciphers.third_fault psk (peer_of server rand_p) packet ≡ None
  pub grants : ciphers.granted psk (peer_of server rand_p) packet ≡ Some grant
  pub numbered : identifier_of packet ≡ 2

-- The fourth is taken.
pub record FourthPasses (ciphers : Ciphers) (psk : Key) (server : Server) (rand_p : RandomOctets) (packet : List ℕ) : Type 0 where
  pub fits : IsPacket packet
  pub taken : ciphers.fourth_fault psk (record server { rand_p = Some rand_p }) rand_p packet ≡ None

-- The packets of a session between a server and the peer that has this RAND_P pass, under a pair key that both have.
pub record PacketsPass (ciphers : Ciphers) (psk : Key) (server : Server) (rand_p : RandomOctets) (grant : Granted) : Type 0 where
  pub second : SecondPasses ciphers psk server rand_p (ciphers.second psk 1 (peer_of server rand_p))
  pub third : ThirdPasses ciphers psk server rand_p grant (ciphers.third psk server rand_p grant)
  pub fourth : FourthPasses ciphers psk server rand_p (ciphers.fourth psk 2 (peer_of server rand_p))

-- # The network's

-- The names of a session have 8 octets each, and its random values 16.
pub record IsSession (server : Server) (rand_p : RandomOctets) : Type 0 where
  pub meter : length server.eui.0 ≡ 8
  pub coordinator : length server.id_s.0 ≡ 8
  pub first : length server.rand_s.0 ≡ 16
  pub second : length rand_p.0 ≡ 16

-- the network's packets pass in each such session, with each grant in its ranges
abbrev pub NetworkPacketsPass : Type 0
NetworkPacketsPass =
    (psk : Key) (server : Server) (rand_p : RandomOctets) (grant : Granted) → IsSession server rand_p → IsGranted grant
    → PacketsPass network psk server rand_p grant
