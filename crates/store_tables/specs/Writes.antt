-- The puts of a step that makes several, in order, up to the first that fails.
use Rattle.std.specs.Prelude.{◌≡◌, Bool, true, false, List, [], ◌∷◌, Option, Some, None, if◌then◌else◌, IfSome, IfNone}
use Rattle.std.specs.Bool.{OnTrue, OnFalse}
use Rattle.plc_base.specs.declared.keeper.Cut.{Cut}
use Rattle.plc_base.specs.Causes.{Rose}
use Rattle.plc_base.specs.Keeper.{Store, Records, Write, Puts, succeeds, cut_after, records_after}

-- These puts were made, up to the first that failed; done says that none failed.
abbrev pub Writes : Store → List Write → Bool → Store → Type 0
Writes old [] done new = (done ≡ true) × (new ≡ old)
Writes old (write ∷ rest) done new =
    (ok : Bool) × (mid : Store) × Puts old write.slot write.octets ok mid
    × OnTrue ok (Writes mid rest done new) × OnFalse ok ((done ≡ false) × (new ≡ mid))

-- the put that a part asks for, if it asks for one
abbrev pub puts_of : Option Write → List Write
puts_of None = []
puts_of (Some write) = write ∷ []

-- the same as a record, from which its parts can be read
pub record Wrote (old : Store) (puts : List Write) (done : Bool) (new : Store) : Type 0 where
  pub by : Writes old puts done new

-- # Puts as a function of the cut that is to come

-- Whether no put failed, the records that are left, and the cut that is still to come.
pub record Written : Type 0 where
  pub whole : Bool
  pub records : Records
  pub cut : Option Cut

-- these puts, in order, up to the first that fails
abbrev pub write : List Write → Option Cut → Records → Written
write [] cut records = record { whole = true; records = records; cut = cut }
write (w ∷ rest) cut records =
    if succeeds cut then write rest (cut_after cut) (records_after cut records w.slot w.octets)
    else record { whole = false; records = records_after cut records w.slot w.octets; cut = cut_after cut }

-- These are the puts under this cut, which is the known cut, if it is known.
pub record IsCutBy (old : Store) (puts : List Write) (done : Bool) (new : Store) (cut : Option Cut) : Type 0 where
  pub known_cut : IfSome old.known_cut (λ c. (c ≡ cut) × (new.known_cut ≡ Some (write puts cut old.records).cut))
  pub whole : done ≡ (write puts cut old.records).whole
  pub records : new.records ≡ (write puts cut old.records).records
  -- where none failed, it may be taken that none was to fail
  pub none : done ≡ true → IfNone old.known_cut (cut ≡ None)
  pub rose : OnFalse done (Rose old.faults new.faults)
