-- The path message that stands in octets, as a function of the octets.
use Rattle.std.specs.Prelude.{ℕ, ◌+◌, ◌*◌, Bool, List, length, Option, Some, None, not, nat_lt, ◌==◌, ◌&&◌, if◌then◌else◌}
use Rattle.plc_base.specs.Addresses.{is_address}
use Rattle.plc_base.specs.Fields.{octet, two}
use Rattle.path_requests.specs.declared.message.PathMessage.{PathMessage}
use Rattle.path_requests.specs.declared.message.PathMessage.TheVariants.{Ask, Tell}
use Rattle.path_requests.specs.Walks.{has, is_walk, walk_at}

-- the walk of an ask, and of a tell
abbrev pub asked_walk : List ℕ → List ℕ
asked_walk octets = walk_at (octet 3 octets) 4 octets

abbrev pub tell_walk : List ℕ → List ℕ
tell_walk octets = walk_at (octet 1 octets) 2 octets

-- whether octets whose first is 01 are an ask: target, count, walk, and nothing else
unfoldable pub is_ask : List ℕ → Bool
is_ask octets =
    nat_lt 3 (length octets)
    && (is_address (two 1 octets)
    && (nat_lt 0 (octet 3 octets)
    && (nat_lt (octet 3 octets) 16
    && (length octets == 4 + 2 * octet 3 octets
    && (is_walk (asked_walk octets) && not (has (two 1 octets) (asked_walk octets)))))))

-- whether octets whose first is 02 are a tell: count, walk, and nothing else
unfoldable pub is_tell : List ℕ → Bool
is_tell octets =
    nat_lt 1 (length octets)
    && (nat_lt 1 (octet 1 octets)
    && (nat_lt (octet 1 octets) 17
    && (length octets == 2 + 2 * octet 1 octets && is_walk (tell_walk octets))))

-- the message of a kind that octets are, if they are one
abbrev pub message_of : (kind : ℕ) → List ℕ → Option PathMessage
message_of kind octets =
    if kind == 1 then (if is_ask octets then Some (Ask (two 1 octets) (asked_walk octets)) else None)
    else (if kind == 2 then (if is_tell octets then Some (Tell (tell_walk octets)) else None)
    else None)

-- the message that octets are, if they are one
unfoldable pub path_in : List ℕ → Option PathMessage
path_in octets = message_of (octet 0 octets) octets
