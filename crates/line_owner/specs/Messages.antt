-- The datagrams of the owner: what it is, the meter and the round in two octets each, and octets that fill it up.
use Rattle.std.specs.Prelude.{◌≡◌, ◌<◌, ℕ, ◌+◌, ◌*◌, ◌/◌, ◌%◌, ◌-◌, ◌^◌, max, eqb, leb, cond, List, [], ◌∷◌, ◌++◌, length, replicate, get_or}
use Rattle.std.specs.Prelude.{Option, Some, None}
use Rattle.line_owner.specs.declared.messages.Kind.{Kind}
use Rattle.line_owner.specs.declared.messages.Kind.TheVariants.{Reading, Reply, Ask, Receipt}
use Rattle.line_owner.specs.declared.messages.Message.{Message}

abbrev pub kind_octet : Kind → ℕ
kind_octet Reading = 1
kind_octet Reply = 1
kind_octet Ask = 2
kind_octet Receipt = 3

abbrev pub kind_of : ℕ → Option Kind
kind_of n = cond (eqb n 1) (Some Reading) (cond (eqb n 2) (Some Ask) (cond (eqb n 3) (Some Receipt) None))

abbrev pub two_octets : ℕ → List ℕ
two_octets n = n / 256 % 256 ∷ n % 256 ∷ []

-- how many octets it has: a reading those that were asked for and 6 at least, where some were, the others 8
abbrev pub message_length : ℕ → Kind → ℕ
message_length octets Reading = cond (eqb octets 0) 5 (max octets 6)
message_length octets Reply = cond (eqb octets 0) 5 (max octets 6)
message_length octets Ask = 8
message_length octets Receipt = 8

unfoldable pub message_octets : ℕ → Message → List ℕ
message_octets octets m =
    kind_octet m.kind ∷ two_octets m.node ++ two_octets m.round ++ replicate (message_length octets m.kind - 5) 90

abbrev pub message_of : Option Kind → List ℕ → Option Message
message_of None octets = None
message_of (Some kind) octets =
    Some (record { kind = kind; node = get_or octets 1 0 * 256 + get_or octets 2 0; round = get_or octets 3 0 * 256 + get_or octets 4 0 })

-- the message that octets are
unfoldable pub message_in : List ℕ → Option Message
message_in octets = cond (leb 5 (length octets)) (message_of (kind_of (get_or octets 0 0)) octets) None

-- # What is written is read again

-- whether a reading was asked for is not written
abbrev pub kind_read : Kind → Kind
kind_read Reading = Reading
kind_read Reply = Reading
kind_read Ask = Ask
kind_read Receipt = Receipt

-- a message whose meter and round fit into two octets each is read as it was written
abbrev pub WrittenIsRead : Type 0
WrittenIsRead =
    (octets : ℕ) (m : Message) → m.node < 2 ^ 16 → m.round < 2 ^ 16 → message_in (message_octets octets m) ≡ Some (record m { kind = kind_read m.kind })
