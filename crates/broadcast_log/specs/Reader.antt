-- The broadcast that stands in octets, as a function of the octets. `Spells` says which it is; here it is read off, for
-- definitions that go on from it.
use Rattle.std.specs.Prelude.{ℕ, List, Option, Some, None, if◌then◌else◌}
use Rattle.plc_base.specs.Fields.{octet, two, four, after}
use Rattle.broadcast_log.specs.declared.broadcast.Broadcast.{Broadcast}
use Rattle.broadcast_log.specs.Grammar.{is_body}

-- the fields at their places
abbrev pub fields_in : List ℕ → Broadcast
fields_in octets = record {
  hops = octet 0 octets;
  origin = two 1 octets;
  number = four 5 octets;
  octets = after 9 octets;
}

-- the broadcast that octets are, if they are one
unfoldable pub broadcast_in : List ℕ → Option Broadcast
broadcast_in octets = if is_body octets then Some (fields_in octets) else None
