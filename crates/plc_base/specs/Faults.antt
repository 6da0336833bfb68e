-- The first fault of octets, from the left: the words that each format's table of faults is written in.
use Rattle.std.specs.Prelude.{◌≡◌, ℕ, ◌+◌, Bool, List, length, Option, Some, None, Result, MatchOption, MatchResult, true, false, nat_lt, if◌then◌else◌}
use Rattle.plc_base.specs.Addresses.{is_address}
use Rattle.plc_base.specs.Fields.{two}
use Rattle.plc_base.specs.declared.fields.Fault.{Fault}

-- the first of two faults
abbrev pub ◌then◌ : {F : Type 0} → Option F → Option F → Option F
None then later = later
(Some f) then later = Some f

-- a fault where a test says so
abbrev pub ◌when◌ : {F : Type 0} → Option F → Bool → Option F
fault when wrong = if wrong then fault else None

-- a fault unless a test holds
abbrev pub ◌unless◌ : {F : Type 0} → Option F → Bool → Option F
fault unless right = if right then None else fault

infixr 4 ◌then◌
infixl 6 ◌when◌
infixl 6 ◌unless◌
-- a fault of this kind at this place
abbrev pub fault_at : {K : Type 0} → K → ℕ → Option (Fault K)
fault_at kind place = Some (record { kind = kind; place = place })

-- a field that would end at this place is cut off; the fault, of this kind, is at the end of the octets
unfoldable pub cut_off : {K : Type 0} → K → ℕ → List ℕ → Option (Fault K)
cut_off short end octets = fault_at short (length octets) when nat_lt (length octets) end

-- a short address at this place: cut off, which is the first kind, or of no node, which is the second
unfoldable pub address_fault : {K : Type 0} → K → K → ℕ → List ℕ → Option (Fault K)
address_fault short no_node at octets =
    cut_off short (at + 2) octets then fault_at no_node at unless is_address (two at octets)

-- A value with this property is read where there is no fault, and else the fault is answered.
abbrev pub ReadsUnless : {V F : Type 0} → Option F → Result V F → (V → Type 0) → Type 0
ReadsUnless fault result property = MatchResult result (λ value. (fault ≡ None) × property value) (λ e. fault ≡ Some e)

-- The same by a test: a value with this property is read where the test holds, and else none.
abbrev pub ReadsWhen : {V : Type 0} → Bool → Option V → (V → Type 0) → Type 0
ReadsWhen test result property = MatchOption result (test ≡ false) (λ value. (test ≡ true) × property value)
