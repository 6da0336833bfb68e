-- What it says that octets have no fault.
use Rattle.std.proofs.Common.{◌≡◌, ◌≤◌, ℕ, ◌+◌, Bool, true, false, List, length, Option, Some, None, refl, if◌then◌else◌, arith}
use Rattle.std.specs.Prelude.{is_some}
use Rattle.std.proofs.lemmas.Bool.{ltb-true, ltb-false}
use Rattle.std.proofs.lemmas.Grind.{common_steps}
use Rattle.std.proofs.lemmas.Option.{same_Some}
use Rattle.plc_base.specs.Addresses.{IsAddress}
use Rattle.plc_base.specs.Faults.{◌then◌, ◌when◌, ◌unless◌, cut_off, address_fault}
use Rattle.plc_base.specs.Fields.{two}

-- a field that stands whole is not cut off, and the other way round
pub cut_off-none : {K : Type 0} (short : K) (end : ℕ) (octets : List ℕ) → end ≤ length octets → cut_off short end octets ≡ None
unfolding cut_off
cut_off-none short end octets h = grind (arith, common_steps)

pub address_fault-none : {K : Type 0} (short no_node : K) (at a : ℕ) (octets : List ℕ) → at + 2 ≤ length octets → two at octets ≡ a → IsAddress a
    → address_fault short no_node at octets ≡ None
unfolding address_fault cut_off
address_fault-none short no_node at a octets h is fits = grind (arith, common_steps)

-- neither of two faults
pub then_none : {F : Type 0} (a b : Option F) → (a then b) ≡ None → (a ≡ None) × (b ≡ None)
then_none None b e = (refl, e)
then_none (Some f) b e = absurd (cc)

pub when_none : {F : Type 0} (f : F) (t : Bool) → (Some f when t) ≡ None → t ≡ false
when_none f true e = absurd (cc)
when_none f false e = refl

pub unless_none : {F : Type 0} (f : F) (t : Bool) → (Some f unless t) ≡ None → t ≡ true
unless_none f true e = refl
unless_none f false e = absurd (cc)

pub is_whole : {K : Type 0} (short : K) (end : ℕ) (octets : List ℕ) → cut_off short end octets ≡ None → end ≤ length octets
unfolding cut_off
is_whole short end octets e = ltb-false _ _ (when_none _ _ e)

pub is_node : {K : Type 0} (short no_node : K) (at : ℕ) (octets : List ℕ) → address_fault short no_node at octets ≡ None
    → (at + 2 ≤ length octets) × IsAddress (two at octets)
unfolding address_fault
is_node short no_node at octets e =
    let parts = then_none (cut_off short (at + 2) octets) _ e in
    (is_whole short (at + 2) octets parts.0, ltb-true _ _ (unless_none _ _ parts.1))

-- a value is read where there is no fault, and only there
pub read_by : {F V : Type 0} (fault : Option F) (value : V) → fault ≡ None → (if is_some fault then None else Some value) ≡ Some value
read_by None value none = refl
read_by (Some f) value none = cc

pub not_read : {F V : Type 0} (fault : Option F) (f : F) (value : V) → fault ≡ Some f
    → (let none : Option V = None in (if is_some fault then none else Some value) ≡ none)
not_read None f value some = cc
not_read (Some g) f value some = refl

pub read_from : {F V : Type 0} (fault : Option F) (value v : V) → (if is_some fault then None else Some value) ≡ Some v → (fault ≡ None) × (value ≡ v)
read_from None value v is = (refl, same_Some _ _ is)
read_from (Some f) value v is = absurd (cc)
