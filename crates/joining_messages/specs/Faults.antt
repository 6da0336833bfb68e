-- The first fault of octets that are no joining message.
use Rattle.std.specs.Prelude.{ℕ, Bool, List, length, Option, None, nat_lt, slice_index, ◌==◌, ◌&&◌, ◌||◌, if◌then◌else◌}
use Rattle.plc_base.specs.Fields.{after, octet}
use Rattle.plc_base.specs.Faults.{◌then◌, ◌when◌, fault_at, cut_off}
use Rattle.plc_base.specs.declared.fields.Fault.{Fault}
use Rattle.joining_messages.specs.declared.fault.JoinFaultKind.{JoinFaultKind}
use Rattle.joining_messages.specs.declared.fault.JoinFaultKind.TheVariants.{Short, Code, Body}

unfoldable pub code_fault : List ℕ → Option (Fault JoinFaultKind)
code_fault octets =
    cut_off Short 1 octets
    then fault_at Code 0 when (octet 0 octets == 0 || nat_lt 6 (octet 0 octets))

unfoldable pub eui_fault : List ℕ → Option (Fault JoinFaultKind)
eui_fault octets = cut_off Short 9 octets

-- the rests, after the EUI, which ends at 9

-- nothing, or a packet of at most 128 octets
unfoldable pub join_rest_fault : List ℕ → Option (Fault JoinFaultKind)
join_rest_fault octets = fault_at Body 9 when nat_lt 137 (length octets)

-- a packet of 1 to 128 octets
unfoldable pub challenge_rest_fault : List ℕ → Option (Fault JoinFaultKind)
challenge_rest_fault octets = fault_at Body 9 when (nat_lt (length octets) 10 || nat_lt 137 (length octets))

-- an EAP success: 03, an identifier, 00 04
abbrev pub is_success : List ℕ → Bool
is_success rest = length rest == 4 && (slice_index rest 0 == 3 && (slice_index rest 2 == 0 && slice_index rest 3 == 4))

unfoldable pub accept_rest_fault : List ℕ → Option (Fault JoinFaultKind)
accept_rest_fault octets = if is_success (after 9 octets) then None else fault_at Body 9

-- one octet, 0 or 1
abbrev pub is_index : List ℕ → Bool
is_index rest = length rest == 1 && nat_lt (slice_index rest 0) 2

unfoldable pub activate_rest_fault : List ℕ → Option (Fault JoinFaultKind)
activate_rest_fault octets = if is_index (after 9 octets) then None else fault_at Body 9

-- nothing
unfoldable pub no_rest_fault : List ℕ → Option (Fault JoinFaultKind)
no_rest_fault octets = fault_at Body 9 when nat_lt 9 (length octets)

-- by the code
abbrev pub rest_fault : ℕ → List ℕ → Option (Fault JoinFaultKind)
rest_fault code octets =
    if code == 1 then join_rest_fault octets
    else (if code == 2 then accept_rest_fault octets
    else (if code == 3 then challenge_rest_fault octets
    else (if code == 6 then activate_rest_fault octets
    else no_rest_fault octets)))

abbrev pub join_fault : List ℕ → Option (Fault JoinFaultKind)
join_fault octets =
    code_fault octets
    then eui_fault octets
    then rest_fault (octet 0 octets) octets
