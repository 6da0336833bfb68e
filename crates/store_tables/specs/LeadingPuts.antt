-- Writes that lead from one value to another, so that after each of them some value is what the records give.
use Rattle.std.specs.Prelude.{List, [], ◌∷◌, Bool, true, false}
use Rattle.std.specs.FinMap.{insert}
use Rattle.plc_base.specs.Keeper.{Records, Write}

-- the records with all these writes made, in order
abbrev pub all_put : List Write → Records → Records
all_put [] records = records
all_put (w ∷ rest) records = all_put rest (insert records w.slot w.octets)

module _ {M : Type 0} (Q : M → Records → Type 0) where
  -- some value is what the records give
  pub record Reads (records : Records) : Type 0 where
    pub value : M
    pub kept : Q value records

  -- so it is after each prefix of the writes
  abbrev pub Prefixes : List Write → Records → Type 0
  Prefixes [] records = Reads records
  Prefixes (w ∷ rest) records = Reads records × Prefixes rest (insert records w.slot w.octets)

  -- these writes lead from one value to the other
  pub record PutsLead (before : M) (puts : List Write) (after : M) : Type 0 where
    pub run : (records : Records) → Q before records → Prefixes puts records × Q after (all_put puts records)

  -- what the writes leave: the value after them, or, where one failed, some value
  abbrev pub Left : Bool → M → Records → Type 0
  Left true after records = Q after records
  Left false after records = Reads records
