-- What a joining node is given: its address and the group keys.
use Rattle.std.specs.Prelude.{◌≡◌, ℕ, ◌≤◌, ◌==◌, if◌then◌else◌, true, is_some, Option, Some, None, List, [], ◌∷◌, length, slice_index_or, refl}
use Rattle.std.specs.Coded.{Coded, code_by, coded×, coded_ℕ, coded_list, coded_option}
use Rattle.plc_base.specs.declared.key.Key.{Key}

-- The address, the index of the key that seals, and the keys at the indexes 0 and 1.
pub record Granted : Type 0 where
  pub address : ℕ
  pub active : ℕ
  pub key0 : Option Key
  pub key1 : Option Key

-- the key at an index
abbrev pub key_at : Granted → ℕ → Option Key
key_at granted index = if index == 0 then granted.key0 else granted.key1

-- the grant with a key at an index
abbrev pub keyed : Granted → ℕ → Key → Granted
keyed granted index key = if index == 0 then record granted { key0 = Some key } else record granted { key1 = Some key }

-- The index is 0 or 1, and a key is held there.
pub record IsGrant (granted : Granted) : Type 0 where
  pub index : granted.active ≤ 1
  pub held : is_some (key_at granted granted.active) ≡ true

-- a grant of two places for keys
abbrev pub granted_of : ℕ → ℕ → List (Option Key) → Granted
granted_of address active keys = record {
  address = address;
  active = active;
  key0 = slice_index_or keys 0 None;
  key1 = slice_index_or keys 1 None;
}

-- Two places, and a key at the active one.
pub record IsTwo (address active : ℕ) (keys : List (Option Key)) : Type 0 where
  pub two : length keys ≡ 2
  pub grant : IsGrant (granted_of address active keys)

-- the two places are all that there is
pub two_places : (keys : List (Option Key)) → length keys ≡ 2
    → slice_index_or keys 0 None ∷ slice_index_or keys 1 None ∷ [] ≡ keys
two_places [] e = cc
two_places (a ∷ []) e = cc
two_places (a ∷ (b ∷ [])) e = refl
two_places (a ∷ (b ∷ (c ∷ keys))) e = cc

-- a grant is kept as the tuple of its fields
abbrev pub key_code : Coded Key
key_code = code_by (List ℕ) (coded_list coded_ℕ) (λ k. k.0) (λ xs. record { 0 = xs }) (λ _. refl)

abbrev pub granted_code : Coded Granted
granted_code =
    code_by (ℕ × (ℕ × (Option Key × Option Key)))
    (coded× coded_ℕ (coded× coded_ℕ (coded× (coded_option key_code) (coded_option key_code))))
    (λ g. (g.address, (g.active, (g.key0, g.key1))))
    (λ t. record { address = t.0; active = t.1.0; key0 = t.1.1.0; key1 = t.1.1.1 })
    (λ _. refl)
