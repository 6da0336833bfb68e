-- The request or the beacon that stands in octets, as a function of the octets.
use Rattle.std.specs.Prelude.{ℕ, Bool, List, length, Option, Some, None, ◌==◌, ◌&&◌, if◌then◌else◌}
use Rattle.plc_base.specs.Addresses.{is_address}
use Rattle.plc_base.specs.Fields.{octet, two, little_two}
use Rattle.pan_discovery.specs.declared.message.Discovery.{Discovery}
use Rattle.pan_discovery.specs.declared.message.Discovery.TheVariants.{Request, Beacon}
use Rattle.pan_discovery.specs.Messages.{role}

-- whether octets are a request: 8, of which the third may be any
unfoldable pub is_request : List ℕ → Bool
is_request octets =
    length octets == 8
    && (two 0 octets == 0x0308
    && (two 3 octets == 0xFFFF && (two 5 octets == 0xFFFF && octet 7 octets == 0x07)))

-- whether octets are a beacon: 13, with a sender and what goes with it
unfoldable pub is_beacon : List ℕ → Bool
is_beacon octets =
    length octets == 13
    && (two 0 octets == 0x0080
    && (is_address (little_two 5 octets)
    && (octet 7 octets == 0xFF && (octet 8 octets == role (little_two 5 octets) && two 9 octets == 0))))

-- the beacon of the fields of octets
abbrev pub beacon_at : List ℕ → Discovery
beacon_at octets = Beacon (octet 2 octets) (little_two 3 octets) (little_two 5 octets) (two 11 octets)

-- the request or the beacon that octets are, if they are one
unfoldable pub discovery_in : List ℕ → Option Discovery
discovery_in octets =
    if length octets == 8 then (if is_request octets then Some (Request (octet 2 octets)) else None)
    else (if is_beacon octets then Some (beacon_at octets) else None)
