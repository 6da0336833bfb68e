-- The tables of a description, and the values of their keys.
use Rattle.std.specs.Prelude.{ℕ, List, codes, Bool, Option, None, Some, Result, Ok, Err}
use Rattle.toml.specs.Data.{Data, Members, no_members, get_member, as_bool, as_table}
use Rattle.plan_tables.specs.declared.keys.Key.{Key}
use Rattle.plan_tables.specs.declared.fault.Section.{Section}
use Rattle.plan_tables.specs.declared.fault.Section.TheVariants as sections
use Rattle.plan_tables.specs.declared.fault.Wanted.{Wanted}
use Rattle.plan_tables.specs.declared.fault.Wanted.TheVariants as wanted
use Rattle.plan_tables.specs.declared.fault.WrongValue.{WrongValue}
use Rattle.plan_tables.specs.Keys.{key_word}
use Rattle.plan_tables.specs.Values.{number_up_to, number_from_one_to, seconds_in, chance_in}

-- the name of a table
abbrev pub section_word : Section → List ℕ
section_word sections.Top = codes ""
section_word sections.Place = codes "place"
section_word sections.Air = codes "air"
section_word sections.Joining = codes "joining"
section_word sections.Readings = codes "readings"
section_word sections.Rotation = codes "rotation"
section_word sections.Care = codes "care"
section_word (sections.At nth) = codes "at"

-- A table with its name. One that the text does not have has no members.
pub record TableAt : Type 0 where
  pub section : Section
  pub members : Members

-- what a reader finds, or the first value that does not fit
infixl 10 ◌>>=◌
abbrev pub ◌>>=◌ : {A B : Type 0} → Result A WrongValue → (A → Result B WrongValue) → Result B WrongValue
Ok x >>= f = f x
Err wrong >>= f = Err wrong

-- what was read, as something else
abbrev pub read_as : {A B : Type 0} → (A → B) → Result A WrongValue → Result B WrongValue
read_as f (Ok x) = Ok (f x)
read_as f (Err wrong) = Err wrong

-- the value of a key
abbrev pub get_at : TableAt → Key → Option Data
get_at table key = get_member (key_word key) table.members

abbrev pub wrong_at : TableAt → Key → Wanted → WrongValue
wrong_at table key what = record { section = table.section; key = key; wanted = what }

-- what was read, or that it does not fit
abbrev pub checked_at : {A : Type 0} → TableAt → Key → Wanted → Option A → Result A WrongValue
checked_at table key what (Some x) = Ok x
checked_at table key what None = Err (wrong_at table key what)

abbrev pub value_or : {A : Type 0} → TableAt → Key → Wanted → (Data → Option A) → A → Option Data → Result A WrongValue
value_or table key what read default None = Ok default
value_or table key what read default (Some d) = checked_at table key what (read d)

-- the value of a key, by what reads it, or its default
abbrev pub value_at : {A : Type 0} → TableAt → Key → Wanted → (Data → Option A) → A → Result A WrongValue
value_at table key what read default = value_or table key what read default (get_at table key)

-- # Kinds of values

abbrev pub number_at : TableAt → Key → ℕ → ℕ → Result ℕ WrongValue
number_at table key default most = value_at table key (wanted.UpTo most) (number_up_to most) default

abbrev pub positive_at : TableAt → Key → ℕ → ℕ → Result ℕ WrongValue
positive_at table key default most = value_at table key (wanted.FromOneTo most) (number_from_one_to most) default

abbrev pub seconds_at : TableAt → Key → ℕ → Result ℕ WrongValue
seconds_at table key default = value_at table key wanted.Time seconds_in default

abbrev pub chance_at : TableAt → Key → ℕ → Result ℕ WrongValue
chance_at table key default = value_at table key wanted.Chance chance_in default

abbrev pub flag_at : TableAt → Key → Bool → Result Bool WrongValue
flag_at table key default = value_at table key wanted.Flag as_bool default

-- a table within a table
abbrev pub inner_at : TableAt → Key → Section → Result TableAt WrongValue
inner_at table key section =
    value_at table key wanted.Table as_table no_members >>= λ members. Ok (record { section = section; members = members })
