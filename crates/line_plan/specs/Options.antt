-- What options make of a description.
use Rattle.std.specs.Prelude.{◌≡◌, ℕ, ◌+◌, ◌==◌, ◌&&◌, ◌||◌, nat_lt, List, [], ◌∷◌, length, codes, Bool, true, not, if◌then◌else◌}
use Rattle.std.specs.Prelude.{Option, None, Some, option_map, ok_or, Result, Ok, Err, String, string_bytes, bytes_eq}
use Rattle.std.specs.List.{position_or_len, before_first, after_first}
use Rattle.std.specs.Cmp.Lexicographic.{slice_cmp}
use Rattle.std.specs.Ordering.{nat_cmp, match_ordering}
use Rattle.std.specs.BTreeMap.{BTreeMap}
use Rattle.std.specs.declared.alloc.Global.{Global}
use Rattle.toml.specs.Data.{Data, table, Members, no_members, member, get_member, as_table}
use Rattle.toml.specs.Parse.{parse_value}
use Rattle.toml.specs.View.{table_view}
use Rattle.toml.specs.declared.value.Value.{Value}
use Rattle.line_plan.specs.declared.options.OptionFault.{OptionFault}
use Rattle.line_plan.specs.declared.options.OptionFault.TheVariants.{Form, NoValue, NoTable, Memory}

-- # Words

-- whether a word is the name of an option
abbrev pub is_option : List ℕ → Bool
is_option name = bytes_eq name (codes "--set") || bytes_eq name (codes "--seed")

-- whether words are options from here on, where a name comes next, or else the value of one
abbrev pub options_from : Bool → List (String Global) → Bool
options_from is_name [] = is_name
options_from is_name (word ∷ words) = (not is_name || is_option (string_bytes word)) && options_from (not is_name) words

-- whether words are options, each a name and then a word
abbrev pub are_options : List (String Global) → Bool
are_options words = options_from true words

-- what stands before the first of such octets, and after it
unfoldable pub split_at_first : ℕ → List ℕ → Option (List ℕ × List ℕ)
split_at_first mark text =
    if nat_lt (position_or_len (λ b. b == mark) text) (length text) then Some (before_first (λ b. b == mark) text, after_first (λ b. b == mark) text)
    else None

-- the path and the text of the value of an option: `--seed`, and its value; or `--set`, and a path, an equals sign (61) and a value
unfoldable pub parts_of : List ℕ → List ℕ → Option (List ℕ × List ℕ)
parts_of name word = if bytes_eq name (codes "--seed") then Some (codes "seed", word) else split_at_first 61 word

-- # Members

-- members with a value at a key, in the order of the keys
abbrev pub with_member : List ℕ → Data → Members → Members
with_member key d no_members = member key d no_members
with_member key d (member k e rest) =
    match_ordering (slice_cmp nat_cmp key k) (member key d (member k e rest)) (member k d rest) (member k e (with_member key d rest))

-- the members of what stands at a name: none where nothing does, and None where it is no table
abbrev pub inner_of : Option Data → Option Members
inner_of None = Some no_members
inner_of (Some d) = as_table d

-- members with a value at a key of the table of a name
unfoldable pub with_inner : List ℕ → List ℕ → Data → Members → Option Members
with_inner name key d members =
    option_map (λ inner. with_member name (table (with_member key d inner)) members) (inner_of (get_member name members))

abbrev pub with_parts : Option (List ℕ × List ℕ) → List ℕ → Data → Members → Option Members
with_parts None path d old = Some (with_member path d old)
with_parts (Some parts) path d old = with_inner parts.0 parts.1 d old

-- members with a value at a path: a key, or a name, a point (46) and a key
unfoldable pub with_path : List ℕ → Data → Members → Option Members
with_path path d members = with_parts (split_at_first 46 path) path d members

-- # Options

-- what there is, or the first fault
infixl 10 ◌>>=◌
abbrev pub ◌>>=◌ : {A B : Type 0} → Result A OptionFault → (A → Result B OptionFault) → Result B OptionFault
Ok x >>= f = f x
Err fault >>= f = Err fault

-- members as an option changes them, whose value is the word at this place; or what is wrong with it
unfoldable pub with_option : ℕ → List ℕ → List ℕ → Members → Result Members OptionFault
with_option place name word members = do
  parts ← ok_or (parts_of name word) (Form place)
  d ← ok_or (parse_value parts.1) (NoValue place)
  ok_or (with_path parts.0 d members) (NoTable place)

-- members as options change them, one after the other, where this many words stand before these
abbrev pub with_options : ℕ → List (String Global) → Members → Result Members OptionFault
with_options place [] old = Ok old
with_options place (name ∷ []) old = Ok old
with_options place (name ∷ word ∷ options) old =
    with_option (place + 1) (string_bytes name) (string_bytes word) old >>= λ more. with_options (place + 2) options more

-- the table has these members, or the fault is this one; or memory ran out
abbrev pub IsChange : Result Members OptionFault → Result (BTreeMap (String Global) Value) OptionFault → Type 0
IsChange changed (Ok new) = changed ≡ Ok (table_view new)
IsChange changed (Err (Form place)) = changed ≡ Err (Form place)
IsChange changed (Err (NoValue place)) = changed ≡ Err (NoValue place)
IsChange changed (Err (NoTable place)) = changed ≡ Err (NoTable place)
IsChange changed (Err Memory) = Unit {0}
