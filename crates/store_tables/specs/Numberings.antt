-- Numbers that are given out once each, below a limit that is stored ahead, and what giving them out does.
use Rattle.std.specs.Prelude.{◌≡◌, ◌⊎◌, ℕ, zero, suc, ◌+◌, ◌-◌, ◌<◌, ◌≤◌, ◌^◌, min, Bool, ◌==◌, nat_lt, if◌then◌else◌, List, [], ◌∷◌, Option, Some, None}
use Rattle.std.specs.Prelude.{unwrap_or, Result, Ok, Err, refl}
use Rattle.std.specs.Coded.{Coded, code_by, coded×, coded_ℕ}
use Rattle.std.specs.FinMap.{get}
use Rattle.plc_base.specs.Keeper.{Records, Write}
use Rattle.store_tables.specs.Writes.{puts_of}
use Rattle.store_tables.specs.LeadingPuts.{PutsLead}
use Rattle.store_tables.specs.NumberSlots.{number_in, stored_number, number_write}
use Rattle.store_tables.specs.declared.number_slot.NumberSlot.{NumberSlot}
use Rattle.plc_base.specs.declared.keeper.BadStore.{BadStore}

-- The limit that is stored, which no number that was given out reaches, and the number that comes next.
pub record Counting : Type 0 where
  pub limit : ℕ
  pub next : ℕ

-- it is kept as the pair of its fields
abbrev pub counting_code : Coded Counting
counting_code =
    code_by (ℕ × ℕ) (coded× coded_ℕ coded_ℕ)
    (λ c. (c.limit, c.next)) (λ p. record { limit = p.0; next = p.1 }) (λ _. refl)

-- a numbering that goes on at a limit
abbrev pub counting_at : ℕ → Counting
counting_at limit = record { limit = limit; next = limit }

-- whether this many numbers pass the limit
abbrev pub passes : Counting → ℕ → Bool
passes counting count = nat_lt counting.limit (counting.next + count)

-- the greatest number of this many octets
abbrev pub greatest : (width : ℕ) → ℕ
greatest width = 256 ^ width - 1

-- # The slot of the limit

-- where the limit is stored: this many octets at the slot; the first limit, where none is there, is the least one
abbrev pub limit_at : (slot width least : ℕ) → NumberSlot
limit_at slot width least = record { slot = slot; width = width; first = least; least = least }

module _ (at : NumberSlot) where
  -- the limit that the record of the slot gives: the first one where none is there
  abbrev pub limit_in : Option (List ℕ) → Option ℕ
  limit_in octets = number_in at octets

  -- the limit that the records give
  abbrev pub stored_limit : Records → ℕ
  stored_limit records = unwrap_or (limit_in (get records at.slot)) 0

  abbrev pub counting_from : Option ℕ → Result Counting BadStore
  counting_from None = Err (record { slot = at.slot })
  counting_from (Some limit) = Ok (counting_at limit)

  -- the numbering that the records give
  abbrev pub opened : Records → Result Counting BadStore
  opened records = counting_from (limit_in (get records at.slot))

  -- What the numbering holds as stored is what the records give.
  pub record AgreesWith (counting : Counting) (records : Records) : Type 0 where
    pub limit : limit_in (get records at.slot) ≡ Some counting.limit
    pub below : counting.next ≤ counting.limit

  -- The limit is that of the records from before, or what the numbering holds is what the new records give.
  abbrev pub IsOldLimitOrAgrees : Counting → Records → Records → Type 0
  IsOldLimitOrAgrees counting old new = (stored_number at new ≡ stored_number at old) ⊎ AgreesWith counting new

  -- The numbering is what the records give, and its limit has a record.
  pub record IsCountingIn (counting : Counting) (records : Records) : Type 0 where
    pub kept : AgreesWith counting records
    pub fits : counting.limit < 256 ^ at.width
    pub low : at.least ≤ counting.limit

  -- whether no number is left
  abbrev pub is_spent : Counting → Bool
  is_spent counting = counting.next == greatest at.width

  -- the put of a limit
  abbrev pub limit_write : ℕ → Option Write
  limit_write limit = Some (number_write at limit)

-- # The stride, by which the limit is stored ahead

module _ (at : NumberSlot) (stride : ℕ) where
  -- the next limit
  abbrev pub raised : ℕ → ℕ
  raised limit = min (limit + stride) (greatest at.width)

  -- what is stored before this many numbers are given out
  abbrev pub reserve_write : Counting → ℕ → Option Write
  reserve_write counting count = if passes counting count then limit_write at (raised counting.limit) else None

  -- the numbering after this many were given out
  abbrev pub reserved : Counting → ℕ → Counting
  reserved counting count = record {
    limit = if passes counting count then raised counting.limit else counting.limit;
    next = counting.next + count;
  }

  -- Whatever becomes of the put for this many numbers, some numbering is what the records give.
  abbrev pub ReservationsLead : Type 0
  ReservationsLead =
      (counting : Counting) (count : ℕ) → count ≤ stride → counting.next + count ≤ greatest at.width
      → PutsLead (IsCountingIn at) counting (puts_of (reserve_write counting count)) (reserved counting count)

-- # What was given out

-- this many numbers from the first on, the last first
abbrev pub run_of : ℕ → ℕ → List ℕ
run_of first zero = []
run_of first (suc more) = (first + more) ∷ run_of first more

-- each of these is below a number
abbrev pub AllBelow : ℕ → List ℕ → Type 0
AllBelow bound [] = Unit {0}
AllBelow bound (x ∷ xs) = (x < bound) × AllBelow bound xs

-- no number was given out twice: each is above all before it
abbrev pub EachAbove : List ℕ → Type 0
EachAbove [] = Unit {0}
EachAbove (x ∷ given) = AllBelow x given × EachAbove given
