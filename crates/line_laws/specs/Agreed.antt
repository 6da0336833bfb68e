-- What the pair tags that were made say of the joinings that were taken.
use Rattle.std.specs.Prelude.{◌≡◌, ℕ, List, Some, slice_get, ⊤}
use Rattle.plc_base.specs.declared.address.Eui.{Eui}
use Rattle.plc_base.specs.declared.key.RandomOctets.{RandomOctets}
use Rattle.plc_base.specs.declared.tags.PairTag.{PairTag}
use Rattle.plc_base.specs.declared.tags.PairTag.TheVariants as tags
use Rattle.eap_psk.specs.Messages.{fourth_head}
use Rattle.eap_psk.specs.declared.server.Agreed.{Agreed}
use Rattle.group_keys.specs.KeyBook as books
use Rattle.node_rules.specs.Memory.{Node}
use Rattle.line_rules.specs.Worlds.{World, Pairing}
use Rattle.line_laws.specs.Keyed.{Among, Each}

-- What a tag with nonce 1 says of a taking: by the meter of this number, whose EUI it names, with these random values.
pub record IsTakenBy (nodes : List Node) (taken : List Pairing) (eui : Eui) (rand_p : RandomOctets) (header : List ℕ) : Type 0 where
  pub number : ℕ
  pub node : Node
  pub there : slice_get nodes number ≡ Some node
  pub names : books.eui_number node.eui ≡ books.eui_number eui
  pub agreed : Agreed
  pub chosen : rand_p ≡ agreed.rand_p
  pub identifier : ℕ
  pub head : header ≡ fourth_head identifier agreed.rand_s.0
  pub among : Among (record { node = number; agreed = agreed }) taken

abbrev pub TagTaken : List Node → List Pairing → PairTag → Type 0
TagTaken nodes taken (tags.MacP eui octets) = ⊤
TagTaken nodes taken (tags.MacS eui octets) = ⊤
TagTaken nodes taken (tags.Channel eui rand_p nonce header text) = nonce ≡ 1 → IsTakenBy nodes taken eui rand_p header

abbrev pub Confirmed : World → List Pairing → Type 0
Confirmed w taken = Each (TagTaken w.nodes taken) w.made
