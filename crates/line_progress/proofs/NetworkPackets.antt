-- The network's packets pass.
use Rattle.std.proofs.Common.{◌≡◌, ℕ, ◌+◌, false, List, ◌++◌, length, drop, Some, refl, sym, ap, ◌∙◌, arith}
use Rattle.std.specs.Prelude.{nat_lt}
use Rattle.std.proofs.Math.Seq.{drop-append-add}
use Rattle.std.proofs.lemmas.Bool.{and_right}
use Rattle.plc_base.specs.Fields.{after, octet}
use Rattle.plc_base.specs.declared.key.Key.{Key}
use Rattle.plc_base.specs.declared.key.RandomOctets.{RandomOctets}
use Rattle.plc_base.specs.Grant.{Granted}
use Rattle.aes_modes.proofs.Texts.{length-cmac}
use Rattle.joining_messages.specs.Grants.{IsGranted, grant_spelling}
use Rattle.joining_messages.specs.Reader.{grant_in}
use Rattle.joining_messages.proofs.GrantReadings.{grant_read}
use Rattle.eap_psk.specs.Keys.{PairKeys, channel, channel_text, keys_of, mac_s, mac_s_text}
use Rattle.eap_psk.specs.Messages.{granting_text, third_head}
use Rattle.eap_psk.specs.Sessions.{fourth_packet, granted_by, peer_of, second_packet, tek_of, third_packet}
use Rattle.eap_psk.specs.declared.peer.Peer.{Peer}
use Rattle.eap_psk.specs.declared.server.Server.{Server}
use Rattle.eap_psk.proofs.PacketSizes.{fourth_fits, second_fits, third_fits}
use Rattle.eap_psk.proofs.PassedMessages.{channel_back, channel_sealed, fourth_taken, second_taken, third_taken}
use Rattle.node_rules.specs.Ciphers.{network}
use Rattle.line_progress.specs.Packets.{FourthPasses, IsSession, NetworkPacketsPass, SecondPasses, ThirdPasses}

after_past : (at k : ℕ) (front rest : List ℕ) → length front + k ≡ at → after at (front ++ rest) ≡ after k rest
unfolding after
after_past at k front rest long = ap (λ (i : ℕ). drop i (front ++ rest)) (sym long) ∙ drop-append-add front rest k

module _ (psk : Key) (server : Server) (rand_p : RandomOctets) (s : IsSession server rand_p) where
  abbrev keys : PairKeys
  keys = keys_of psk.0

  abbrev peer : Peer
  peer = peer_of server rand_p

  second_passes : SecondPasses network psk server rand_p (second_packet keys 1 peer)
  second_passes =
      let taken = second_taken keys server rand_p.0 (second_packet keys 1 peer) s.first s.second s.meter refl in
      let most = second_fits keys 1 peer (omega (arith, s.first)) (omega (arith, s.second)) s.meter in record {
        fits = record { some = omega arith; few = omega (arith, most) };
        taken = taken.0;
        says = λ i. record { 0 = taken.1 i };
      }

  fourth_passes : FourthPasses network psk server rand_p (fourth_packet keys 2 peer)
  fourth_passes =
      let most = fourth_fits keys 2 peer (omega (arith, s.first)) in record {
        fits = record { some = omega arith; few = omega (arith, most) };
        taken = fourth_taken keys (record server { rand_p = Some rand_p }) rand_p.0 (fourth_packet keys 2 peer) s.first refl;
      }

  module _ (grant : Granted) (g : IsGranted grant) where
    abbrev third : List ℕ
    third = third_packet keys 2 peer grant

    -- the grant is read out of the channel
    granted : granted_by keys peer third ≡ Some grant
    unfolding after
    granted =
        let tek : List ℕ = tek_of keys rand_p in
        let text : List ℕ = granting_text grant in
        let front : List ℕ = third_head 2 server.rand_s.0 (length text) in
        let mac : List ℕ = mac_s keys.ak server.id_s.0 rand_p.0 in
        let last : List ℕ = channel tek 0 front text in
        let sixteen : length mac ≡ 16 = length-cmac keys.ak (mac_s_text server.id_s.0 rand_p.0) in
        let behind : after 58 third ≡ channel_text tek 0 text = after_past 58 36 front (mac ++ last) (omega (arith, s.first))
        ∙ after_past 36 20 mac last (omega (arith, sixteen)) ∙ channel_sealed tek 0 front text in
        ap (λ xs. grant_in (after 2 (channel_text tek 0 xs))) behind ∙ ap (λ xs. grant_in (after 2 xs)) (channel_back tek 0 text)
        ∙ grant_read grant (grant_spelling grant) (g, refl)

    third_passes : ThirdPasses network psk server rand_p grant third
    unfolding octet
    third_passes =
        let most = third_fits keys 2 peer grant (omega (arith, s.first)) g.first g.second in record {
          fits = record { some = omega arith; few = omega (arith, most) };
          later = and_right (nat_lt 5 (length third)) false refl;
          taken = third_taken keys peer 2 grant third s.first g refl;
          grants = granted;
          numbered = refl;
        }

pub packets_pass : NetworkPacketsPass
packets_pass psk server rand_p grant s g =
    record { second = second_passes psk server rand_p s; third = third_passes psk server rand_p s grant g; fourth = fourth_passes psk server rand_p s }
