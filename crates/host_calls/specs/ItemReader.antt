-- What a reading of items takes from a source.
use Rattle.std.specs.Prelude.{◌≡◌, ◌<◌, ℕ, ◌+◌, ◌*◌, Bool, true, false, List, [], ◌∷◌, length, IsTrue, Option, Some, None, Result, Ok, Err}
use Rattle.std.specs.Io.KnownBytes.{Consumes, IsAtEnd}
use Rattle.plc_base.specs.Streams.{SourceState, SourceRose}
use Rattle.plc_base.specs.declared.streams.Failed.{Failed}
use Rattle.host_calls.specs.Items.{spelling}
use Rattle.host_calls.specs.declared.items.ItemFault.{ItemFault}
use Rattle.host_calls.specs.declared.items.ItemFault.TheVariants as faults

-- the source has answered that it is at its end, and none is left
abbrev pub IsOver : SourceState → Type 0
IsOver source = IsTrue source.ended × IsAtEnd source.left

-- one octet, or none where the source is at its end
abbrev pub IsOctetRead : SourceState → SourceState → Result (Option ℕ) Failed → Type 0
IsOctetRead old new (Ok (Some octet)) = Consumes old.left new.left (octet ∷ [])
IsOctetRead old new (Ok None) = Consumes old.left new.left [] × IsOver new
IsOctetRead old new (Err failed) = Consumes old.left new.left [] × SourceRose old new

-- this many octets; or fewer where the source is at its end, or has failed
abbrev pub IsFilled : SourceState → SourceState → (count : ℕ) → List ℕ → Result Bool Failed → Type 0
IsFilled old new count octets (Ok true) = Consumes old.left new.left octets × (length octets ≡ count)
IsFilled old new count octets (Ok false) = Consumes old.left new.left octets × (length octets < count) × IsOver new
IsFilled old new count octets (Err failed) = Consumes old.left new.left octets × (length octets < count) × SourceRose old new

-- A read failed, before an item or within one.
pub record HasFailed (old new : SourceState) : Type 0 where
  pub front : List ℕ
  pub consumed : Consumes old.left new.left front
  pub rose : SourceRose old new

-- The source ended within an item: in its head, or before this many octets as that says.
pub record IsTorn (old new : SourceState) : Type 0 where
  pub front : List ℕ
  pub consumed : Consumes old.left new.left front
  pub over : IsOver new
  pub some : 0 < length front

-- the head of an item of more than 2,000 octets came
pub record IsLong (old new : SourceState) : Type 0 where
  pub kind : ℕ
  pub high : ℕ
  pub low : ℕ
  pub consumed : Consumes old.left new.left (kind ∷ high ∷ low ∷ [])
  pub long : 2000 < 256 * high + low

-- An item was read, with these octets; or the source was at its end before one; or why neither.
abbrev pub IsItemRead : SourceState → SourceState → (octets : List ℕ) → Result (Option ℕ) ItemFault → Type 0
IsItemRead old new octets (Ok (Some kind)) = Consumes old.left new.left (spelling (record { kind = kind; octets = octets }))
IsItemRead old new octets (Ok None) = Consumes old.left new.left [] × IsOver new
IsItemRead old new octets (Err faults.Failed) = HasFailed old new
IsItemRead old new octets (Err faults.Torn) = IsTorn old new
IsItemRead old new octets (Err faults.TooLong) = IsLong old new
