-- A frame that flew, and what is forged: octets that no flight had, and a pair tag that no node made.
use Rattle.std.specs.Prelude.{ℕ, Bool, false, not, ◌==◌, ◌&&◌, List, [], ◌∷◌, Option, if◌then◌else◌}
use Rattle.std.specs.List.{list_any}
use Rattle.std.specs.Option.{option_map_or}
use Rattle.std.specs.Str.{bytes_eq}
use Rattle.plc_base.specs.declared.key.Key.{Key}
use Rattle.plc_base.specs.declared.key.RandomOctets.{RandomOctets}
use Rattle.plc_base.specs.declared.out_frame.OutFrame.{OutFrame}
use Rattle.plc_base.specs.declared.tags.PairTag.{PairTag}
use Rattle.plc_base.specs.declared.tags.PairTag.TheVariants as tags
use Rattle.group_keys.specs.KeyBook.{same_key}
use Rattle.node_rules.specs.Acceptance.{same_eui}

-- A frame that was sent. It may come any number of times, until it is lost; its octets stay.
pub record Flight : Type 0 where
  -- the node that sent it
  pub from : ℕ
  pub octets : List ℕ
  -- the group key that sealed it
  pub key : Option Key
  -- the number of the send that it carries, 0 where it carries none
  pub note : ℕ
  pub lost : Bool

-- a frame of a node as a flight
abbrev pub flight_by : ℕ → OutFrame → Flight
flight_by from f = record { from = from; octets = f.octets; key = f.key; note = f.note; lost = false }

-- # What is forged

-- whether a flight has these octets, sealed under this key
abbrev pub has_octets : List ℕ → Key → Flight → Bool
has_octets octets key f = bytes_eq f.octets octets && option_map_or (same_key key) f.key false

-- the note of the first flight with these octets under this key, and 0 if there is none; lost or not
unfoldable pub note_of : List Flight → List ℕ → Key → ℕ
note_of [] octets key = 0
note_of (f ∷ rest) octets key = if has_octets octets key f then f.note else note_of rest octets key

-- whether a sealed frame that a node accepted under a key was sent by no node
abbrev pub is_forged_frame : List Flight → List ℕ → Key → Bool
is_forged_frame flights octets key = not (list_any (has_octets octets key) flights)

-- whether two random values are the same
abbrev pub same_rand : RandomOctets → RandomOctets → Bool
same_rand a b = bytes_eq a.0 b.0

-- whether two pair tags were computed over the same
abbrev pub same_tag : PairTag → PairTag → Bool
same_tag (tags.MacP a s) (tags.MacP b t) = same_eui a b && bytes_eq s t
same_tag (tags.MacP a s) (tags.MacS b t) = false
same_tag (tags.MacP a s) (tags.Channel b q n h t) = false
same_tag (tags.MacS a s) (tags.MacP b t) = false
same_tag (tags.MacS a s) (tags.MacS b t) = same_eui a b && bytes_eq s t
same_tag (tags.MacS a s) (tags.Channel b q n h t) = false
same_tag (tags.Channel a p m g s) (tags.MacP b t) = false
same_tag (tags.Channel a p m g s) (tags.MacS b t) = false
same_tag (tags.Channel a p m g s) (tags.Channel b q n h t) =
    same_eui a b && (same_rand p q && ((m == n) && (bytes_eq g h && bytes_eq s t)))

-- whether a pair tag that a node found right was made by no node
abbrev pub is_forged_tag : List PairTag → PairTag → Bool
is_forged_tag made tag = not (list_any (same_tag tag) made)
