-- The first fault of octets that are no route message.
use Rattle.std.specs.Prelude.{ℕ, ◌+◌, List, length, Option, nat_lt, ◌==◌, if◌then◌else◌}
use Rattle.plc_base.specs.Fields.{octet, two}
use Rattle.plc_base.specs.Faults.{◌then◌, ◌when◌, fault_at, cut_off, address_fault}
use Rattle.plc_base.specs.declared.fields.Fault.{Fault}
use Rattle.loadng_messages.specs.declared.fault.MessageFaultKind.{MessageFaultKind}
use Rattle.loadng_messages.specs.declared.fault.MessageFaultKind.TheVariants.{Kind, Short, Zero, Address, Long}

-- a sequence number at this place
unfoldable pub number_fault : ℕ → List ℕ → Option (Fault MessageFaultKind)
number_fault at octets = cut_off Short (at + 2) octets then fault_at Zero at when two at octets == 0

-- octets follow the end
unfoldable pub long : ℕ → List ℕ → Option (Fault MessageFaultKind)
long end octets = fault_at Long end when nat_lt end (length octets)

-- a request and a reply
abbrev pub route_fault : List ℕ → Option (Fault MessageFaultKind)
route_fault octets =
    number_fault 1 octets
    then cut_off Short 5 octets
    then address_fault Short Address 5 octets
    then address_fault Short Address 7 octets
    then long 9 octets

-- an error
abbrev pub error_fault : List ℕ → Option (Fault MessageFaultKind)
error_fault octets =
    address_fault Short Address 1 octets
    then address_fault Short Address 3 octets
    then long 5 octets

abbrev pub kind_fault : ℕ → List ℕ → Option (Fault MessageFaultKind)
kind_fault kind octets =
    if kind == 1 then route_fault octets
    else (if kind == 2 then route_fault octets
    else (if kind == 3 then error_fault octets
    else fault_at Kind 0))

abbrev pub message_fault : List ℕ → Option (Fault MessageFaultKind)
message_fault octets = cut_off Short 1 octets then kind_fault (octet 0 octets) octets
