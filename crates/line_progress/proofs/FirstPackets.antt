-- The first packet of a session: it is taken for one, without a fault, and the peer that answers it is the one of the session.
use Rattle.std.proofs.Common.{◌≡◌, ℕ, true, List, length, take, None, refl, ap, ◌∙◌, arith}
use Rattle.std.specs.Prelude.{◌/◌, ◌==◌, ◌&&◌}
use Rattle.std.proofs.lemmas.Bool.{lt-ltb}
use Rattle.std.proofs.lemmas.List.{take_all}
use Rattle.plc_base.specs.Fields.{octet, part}
use Rattle.plc_base.specs.declared.address.Eui.{Eui}
use Rattle.plc_base.specs.declared.key.RandomOctets.{RandomOctets}
use Rattle.group_keys.proofs.Rings.{take_front, drop_front}
use Rattle.eap_psk.specs.Faults.{first_fault}
use Rattle.eap_psk.specs.Sessions.{identifier_of, peer_for, peer_of}
use Rattle.eap_psk.proofs.PacketSizes.{first_fits}
use Rattle.eap_psk.proofs.PassedMessages.{first_taken}
use Rattle.node_rules.specs.JoiningPackets.{first_packet, is_first, server_for}
use Rattle.line_progress.specs.Packets.{IsPacket}

module _ (eui id_s : Eui) (rand_s : RandomOctets) (eight : length id_s.0 ≡ 8) (sixteen : length rand_s.0 ≡ 16) where
  abbrev pub first : List ℕ
  first = first_packet (server_for eui id_s rand_s)

  pub is_one : is_first first ≡ true
  unfolding octet
  is_one = λ i. lt-ltb 5 (length first) (omega arith) i && (octet 5 first / 64 == 0)

  pub no_fault : first_fault first ≡ None
  no_fault = first_taken 1 rand_s.0 id_s.0 first sixteen eight refl

  pub numbered : identifier_of first ≡ 1
  unfolding octet
  numbered = refl

  pub fits : IsPacket first
  fits = record {
    some = omega arith;
    few = let most = first_fits 1 rand_s.0 id_s.0 (omega (arith, sixteen)) eight in omega (arith, most);
  }

  said_s : part 6 16 first ≡ rand_s.0
  unfolding part
  said_s = take_front 16 rand_s.0 id_s.0 sixteen

  said_id : part 22 8 first ≡ id_s.0
  unfolding part
  said_id = ap (take 8) (drop_front 16 rand_s.0 id_s.0 sixteen) ∙ take_all 8 id_s.0 (omega (arith, eight))

  pub answered_by : (rand_p : RandomOctets) → peer_for eui rand_p first ≡ peer_of (server_for eui id_s rand_s) rand_p
  answered_by rand_p = λ i. record { eui = eui; id_s = record { 0 = said_id i }; rand_s = record { 0 = said_s i }; rand_p = rand_p }
