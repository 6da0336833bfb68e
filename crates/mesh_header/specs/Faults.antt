-- The first fault of octets that are no unit.
use Rattle.std.specs.Prelude.{ℕ, ◌+◌, ◌-◌, ◌*◌, ◌%◌, List, length, Option, None, nat_lt, ◌==◌, ◌&&◌, ◌||◌, if◌then◌else◌}
use Rattle.plc_base.specs.Fields.{octet, two}
use Rattle.plc_base.specs.Faults.{◌then◌, ◌when◌, fault_at, cut_off, address_fault}
use Rattle.plc_base.specs.declared.fields.Fault.{Fault}
use Rattle.mesh_header.specs.declared.fault.UnitFaultKind.{UnitFaultKind}
use Rattle.mesh_header.specs.declared.fault.UnitFaultKind.TheVariants.{Empty, Dispatch, AddressKind, HopForm, Short, Size, PieceForm, DataSize, Address}

-- the tag of a piece
unfoldable pub tag_fault : ℕ → List ℕ → Option (Fault UnitFaultKind)
tag_fault at octets = cut_off Short (at + 2) octets

unfoldable pub octet_fault : ℕ → List ℕ → Option (Fault UnitFaultKind)
octet_fault at octets = cut_off Short (at + 1) octets

-- where a mesh header's origin begins
unfoldable pub origin_at : List ℕ → ℕ
origin_at octets = if octet 0 octets == 0xBF then 2 else 1

unfoldable pub hops_fault : List ℕ → Option (Fault UnitFaultKind)
hops_fault octets =
    fault_at AddressKind 0 when nat_lt (octet 0 octets) 0xB0
    then (if octet 0 octets == 0xBF then cut_off Short 2 octets
    then fault_at HopForm 1 when nat_lt (octet 1 octets) 15 else None)

-- the data of a whole datagram
unfoldable pub data_fault : ℕ → List ℕ → Option (Fault UnitFaultKind)
data_fault at octets = fault_at DataSize at when (nat_lt (length octets) (at + 1) || nat_lt (at + 375) (length octets))

-- the size of a piece, in the low bits of two octets above a base
unfoldable pub size_fault : ℕ → ℕ → List ℕ → Option (Fault UnitFaultKind)
size_fault base at octets =
    cut_off Short (at + 2) octets
    then fault_at Size at when (two at octets == base || nat_lt (base + 1280) (two at octets))

-- the octets of a piece: none, or past the size, or a part that is no multiple of 8 and not the last
unfoldable pub octets_fault : ℕ → ℕ → ℕ → List ℕ → Option (Fault UnitFaultKind)
octets_fault size offset at octets =
    let n = length octets - at in
    fault_at PieceForm at when (n == 0 || nat_lt size (offset * 8 + n)
    || (nat_lt (offset * 8 + n) size && nat_lt 0 (n % 8)))

unfoldable pub first_piece_fault : ℕ → List ℕ → Option (Fault UnitFaultKind)
first_piece_fault at octets =
    size_fault 0xC000 at octets
    then tag_fault (at + 2) octets
    then octet_fault (at + 4) octets
    then (if octet (at + 4) octets == 0x41 then None else fault_at Dispatch (at + 4))
    then octets_fault (two at octets - 0xC000) 0 (at + 5) octets

unfoldable pub later_piece_fault : ℕ → List ℕ → Option (Fault UnitFaultKind)
later_piece_fault at octets =
    size_fault 0xE000 at octets
    then tag_fault (at + 2) octets
    then octet_fault (at + 4) octets
    then fault_at PieceForm (at + 5) when octet (at + 4) octets == 0
    then octets_fault (two at octets - 0xE000) (octet (at + 4) octets) (at + 5) octets

unfoldable pub carried_fault : ℕ → List ℕ → Option (Fault UnitFaultKind)
carried_fault at octets = octet_fault at octets then (if octet at octets == 2 then None else fault_at Dispatch at)

unfoldable pub local_fault : ℕ → List ℕ → Option (Fault UnitFaultKind)
local_fault at octets =
    octet_fault at octets then fault_at Dispatch at when (octet at octets == 0 || nat_lt 5 (octet at octets))

-- by the octet after a mesh header
abbrev pub part_fault : ℕ → ℕ → List ℕ → Option (Fault UnitFaultKind)
part_fault dispatch at octets =
    if dispatch == 0x41 then data_fault (at + 1) octets
    else (if dispatch == 0x40 then carried_fault (at + 1) octets
    else (if nat_lt 0xBF dispatch && nat_lt dispatch 0xC8 then first_piece_fault at octets
    else (if nat_lt 0xDF dispatch && nat_lt dispatch 0xE8 then later_piece_fault at octets
    else fault_at Dispatch at)))

unfoldable pub load_fault : ℕ → List ℕ → Option (Fault UnitFaultKind)
load_fault at octets = octet_fault at octets then part_fault (octet at octets) at octets

-- a mesh header
unfoldable pub header_fault : List ℕ → Option (Fault UnitFaultKind)
header_fault octets =
    hops_fault octets
    then address_fault Short Address (origin_at octets) octets
    then address_fault Short Address (origin_at octets + 2) octets

abbrev pub mesh_fault : List ℕ → Option (Fault UnitFaultKind)
mesh_fault octets = header_fault octets then load_fault (origin_at octets + 4) octets

-- by the first octet
abbrev pub first_fault : ℕ → List ℕ → Option (Fault UnitFaultKind)
first_fault dispatch octets =
    if nat_lt 0x7F dispatch && nat_lt dispatch 0xC0 then mesh_fault octets
    else (if dispatch == 0x40 then local_fault 1 octets
    else fault_at Dispatch 0)

abbrev pub unit_fault : List ℕ → Option (Fault UnitFaultKind)
unit_fault octets = fault_at Empty 0 when length octets == 0 then first_fault (octet 0 octets) octets
