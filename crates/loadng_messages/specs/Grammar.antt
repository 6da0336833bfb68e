-- What route messages are, and the one spelling of each.
use Rattle.std.specs.Prelude.{◌≡◌, ◌<◌, ◌^◌, ℕ, List, ◌∷◌, ◌++◌, ⊤}
use Rattle.byteorder.specs.Endian.{big_bytes}
use Rattle.plc_base.specs.Addresses.{IsAddress}
use Rattle.loadng_messages.specs.declared.message.Message.{Message}
use Rattle.loadng_messages.specs.declared.message.Message.TheVariants.{Rreq, Rrep, Rerr}

-- a sequence number
abbrev pub IsNumber : ℕ → Type 0
IsNumber n = (0 < n) × (n < 2 ^ 16)

-- the messages, by kind
abbrev pub IsMessage : Message → Type 0
IsMessage (Rreq number cost origin dest) = IsNumber number × (cost < 2 ^ 16) × IsAddress origin × IsAddress dest
IsMessage (Rrep number cost origin to) = IsNumber number × (cost < 2 ^ 16) × IsAddress origin × IsAddress to
IsMessage (Rerr lost to) = IsAddress lost × IsAddress to

-- what the types of a message's fields leave open
abbrev pub IsAllowed : Message → Type 0
IsAllowed (Rreq number cost origin dest) = 0 < number
IsAllowed (Rrep number cost origin to) = 0 < number
IsAllowed (Rerr lost to) = ⊤

-- the one spelling of each
abbrev pub spelling : Message → List ℕ
spelling (Rreq number cost origin dest) =
    1 ∷ big_bytes 2 number ++ big_bytes 2 cost ++ big_bytes 2 origin ++ big_bytes 2 dest
spelling (Rrep number cost origin to) =
    2 ∷ big_bytes 2 number ++ big_bytes 2 cost ++ big_bytes 2 origin ++ big_bytes 2 to
spelling (Rerr lost to) = 3 ∷ big_bytes 2 lost ++ big_bytes 2 to

-- the octets are the message's, all of them
abbrev pub Spells : Message → List ℕ → Type 0
Spells message octets = IsMessage message × (octets ≡ spelling message)
