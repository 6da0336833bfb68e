-- What a frame of octets spells, seals and opens is octets.
use Rattle.std.proofs.Common.{◌≡◌, ℕ, ◌-◌, ◌<◌, Bool, true, false, List, length, Some, None, subst, arith}
use Rattle.std.specs.Prelude.{if◌then◌else◌}
use Rattle.std.specs.Str.{bytes_eq}
use Rattle.std.proofs.lemmas.Option.{same_Some}
use Rattle.std.proofs.lemmas.List.Elements.{All-take}
use Rattle.plc_base.specs.Fields.{AreOctets}
use Rattle.plc_base.proofs.OctetLists.{both, turned, puts, joins, little_spelt, after_octets}
use Rattle.aes_modes.specs.Ccm.{ccm_text, ccm_tag}
use Rattle.aes_modes.proofs.CipherOctets.{ccm_octets, ccm_tag_octets}
use Rattle.mac_frames.specs.declared.head.MacHead.{MacHead}
use Rattle.mac_frames.specs.declared.head.MacHead.TheVariants.{Sealed, Up, Down}
use Rattle.mac_frames.specs.Grammar.{low_control, high_control, header}
use Rattle.mac_frames.specs.Reader.{body_in}
use Rattle.mac_frames.specs.SealedFrames.{nonce_of, sealed_text, sealed_tag, payload_in}
use Rattle.mac_frames.specs.Laws.{HeadersAreOctets, SealedBodiesAreOctets, OpenedPayloadsAreOctets, BodiesAreOctets}

abbrev IsOctet : ℕ → Type 0
IsOctet x = x < 256

-- # Heads

low_small : (sealed ack : Bool) → low_control sealed ack < 256
low_small true true = omega arith
low_small true false = omega arith
low_small false true = omega arith
low_small false false = omega arith

pub header_octets : HeadersAreOctets
header_octets (Sealed ack seq pan to from counter index) rest h all =
    (puts (low_small true ack) (puts {x = high_control 2 1 2} (omega arith)
    (puts h.0 (joins (little_spelt 2 pan) (joins (little_spelt 2 to) (joins (little_spelt 2 from)
    (puts {x = 0x0D} (omega arith) (joins (little_spelt 4 counter) (puts h.1 (record { are = all })))))))))).are
header_octets (Up ack version seq pan to from) rest h all =
    (puts (low_small false ack) (puts {x = high_control 2 version 3} (let low = h.0 in omega arith)
    (puts h.1 (joins (little_spelt 2 pan) (joins (little_spelt 2 to) (joins (record { are = turned from.0 h.2 }) (record { are = all }))))))).are
header_octets (Down ack version seq pan to from) rest h all =
    (puts (low_small false ack) (puts {x = high_control 3 version 2} (let low = h.0 in omega arith)
    (puts h.1 (joins (little_spelt 2 pan) (joins (record { are = turned to.0 h.2 }) (joins (little_spelt 2 from) (record { are = all }))))))).are

-- # What is sealed

pub sealed_octets : SealedBodiesAreOctets
sealed_octets key head payload fits all =
    both (ccm_text key (nonce_of head) payload) (ccm_tag 4 key (nonce_of head) (header head) payload)
    (ccm_octets key (nonce_of head) payload fits all) (ccm_tag_octets 4 key (nonce_of head) (header head) payload fits)

-- # What is opened

payload_octets : (key : List ℕ) (head : MacHead) (body : List ℕ) → AreOctets key → AreOctets body → AreOctets (payload_in key head body)
unfolding payload_in
payload_octets key head body fits all = ccm_octets key (nonce_of head) (sealed_text body) fits (All-take IsOctet (length body - 4) body all)

pub opened_octets : OpenedPayloadsAreOctets
opened_octets key head front body payload fits all = by_tag (bytes_eq (sealed_tag body) (ccm_tag 4 key (nonce_of head) front (payload_in key head body)))
  where
    by_tag : (b : Bool) → (if b then Some (payload_in key head body) else None) ≡ Some payload → AreOctets payload
    by_tag true e = subst AreOctets (same_Some (payload_in key head body) payload e) (payload_octets key head body fits all)
    by_tag false e = absurd (cc)

pub body_octets : BodiesAreOctets
unfolding body_in
body_octets octets all = after_octets 15 octets all
