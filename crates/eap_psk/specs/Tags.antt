-- The tags that each call makes and checks.
use Rattle.std.specs.Prelude.{ℕ, List, [], ◌∷◌, length}
use Rattle.plc_base.specs.declared.address.Eui.{Eui}
use Rattle.plc_base.specs.declared.key.RandomOctets.{RandomOctets}
use Rattle.plc_base.specs.declared.tags.PairTag.{PairTag}
use Rattle.plc_base.specs.declared.tags.PairTag.TheVariants.{MacP, MacS, Channel}
use Rattle.plc_base.specs.declared.tags.TagList.{TagList}
use Rattle.eap_psk.specs.Keys.{mac_p_text, mac_s_text}
use Rattle.plc_base.specs.Grant.{Granted}
use Rattle.eap_psk.specs.Messages.{third_head, fourth_head, granting_text, success_text}
use Rattle.eap_psk.specs.declared.peer.Peer.{Peer}

abbrev pub no_tags : TagList
no_tags = record { made = []; opened = [] }

-- MAC_P of a session of a node
abbrev pub mac_p_tag : Eui → Eui → RandomOctets → RandomOctets → PairTag
mac_p_tag eui id_s rand_s rand_p = MacP eui (mac_p_text eui.0 id_s.0 rand_s.0 rand_p.0)

-- MAC_S
abbrev pub mac_s_tag : Eui → Eui → RandomOctets → PairTag
mac_s_tag eui id_s rand_p = MacS eui (mac_s_text id_s.0 rand_p.0)

-- the tag of the third message's channel, with this plain text
abbrev pub granting_tag : Eui → ℕ → RandomOctets → RandomOctets → List ℕ → PairTag
granting_tag eui identifier rand_s rand_p text =
    Channel eui rand_p 0 (third_head identifier rand_s.0 (length text)) text

-- the tag of the fourth message's channel
abbrev pub success_tag : Eui → ℕ → RandomOctets → RandomOctets → PairTag
success_tag eui identifier rand_s rand_p = Channel eui rand_p 1 (fourth_head identifier rand_s.0) success_text

-- The tags that an end makes and opens with each message of a peer's session, by their identifiers.

-- the peer with the first
abbrev pub first_tags : Peer → TagList
first_tags peer = record { made = mac_p_tag peer.eui peer.id_s peer.rand_s peer.rand_p ∷ []; opened = [] }

-- the server with the second, for this grant
abbrev pub second_tags : Peer → Granted → TagList
second_tags peer grant = record {
  made = mac_s_tag peer.eui peer.id_s peer.rand_p
      ∷ granting_tag peer.eui 2 peer.rand_s peer.rand_p (granting_text grant) ∷ [];
  opened = mac_p_tag peer.eui peer.id_s peer.rand_s peer.rand_p ∷ [];
}

-- the peer with the third, for this grant
abbrev pub third_tags : Peer → ℕ → Granted → TagList
third_tags peer identifier grant = record {
  made = success_tag peer.eui identifier peer.rand_s peer.rand_p ∷ [];
  opened = mac_s_tag peer.eui peer.id_s peer.rand_p
      ∷ granting_tag peer.eui identifier peer.rand_s peer.rand_p (granting_text grant) ∷ [];
}

-- the server with the fourth
abbrev pub fourth_tags : Peer → TagList
fourth_tags peer = record { made = []; opened = success_tag peer.eui 2 peer.rand_s peer.rand_p ∷ [] }
