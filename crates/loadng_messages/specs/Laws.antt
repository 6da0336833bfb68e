-- What is read and what is spelled is the same, in both directions, and what is spelled is octets.
use Rattle.std.specs.Prelude.{◌≡◌, ℕ, List, Some}
use Rattle.plc_base.specs.Fields.{AreOctets}
use Rattle.loadng_messages.specs.declared.message.Message.{Message}
use Rattle.loadng_messages.specs.Grammar.{Spells, spelling}
use Rattle.loadng_messages.specs.Reader.{message_in}

-- the message that octets spell is read out of them
abbrev pub MessagesAreRead : Type 0
MessagesAreRead = (m : Message) (octets : List ℕ) → Spells m octets → message_in octets ≡ Some m

-- the message that is read out of octets is the one that they spell
abbrev pub ReadMessagesAreSpelled : Type 0
ReadMessagesAreSpelled =
    (m : Message) (octets : List ℕ) → AreOctets octets → message_in octets ≡ Some m → Spells m octets

-- each message spells octets
abbrev pub SpellingsAreOctets : Type 0
SpellingsAreOctets = (m : Message) → AreOctets (spelling m)
