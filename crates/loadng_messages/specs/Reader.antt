-- The route message that stands in octets, as a function of the octets. `Spells` says which it is; here it is read off, for
-- definitions that go on from it.
use Rattle.std.specs.Prelude.{ℕ, List, Option, Some, None, is_some, ◌==◌, if◌then◌else◌}
use Rattle.plc_base.specs.Fields.{octet, two}
use Rattle.loadng_messages.specs.declared.message.Message.{Message}
use Rattle.loadng_messages.specs.declared.message.Message.TheVariants.{Rreq, Rrep, Rerr}
use Rattle.loadng_messages.specs.Faults.{message_fault}

-- the fields of a message, by its kind
abbrev pub fields_in : ℕ → List ℕ → Message
fields_in kind octets =
    if kind == 1 then Rreq (two 1 octets) (two 3 octets) (two 5 octets) (two 7 octets)
    else (if kind == 2 then Rrep (two 1 octets) (two 3 octets) (two 5 octets) (two 7 octets)
    else Rerr (two 1 octets) (two 3 octets))

-- the message that octets are, if they are one
unfoldable pub message_in : List ℕ → Option Message
message_in octets = if is_some (message_fault octets) then None else Some (fields_in (octet 0 octets) octets)
