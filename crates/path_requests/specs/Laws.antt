-- What is read and what is spelled is the same, in both directions.
use Rattle.std.specs.Prelude.{◌≡◌, ℕ, List, Some}
use Rattle.plc_base.specs.Fields.{AreOctets}
use Rattle.path_requests.specs.declared.message.PathMessage.{PathMessage}
use Rattle.path_requests.specs.Messages.{SpellsPath}
use Rattle.path_requests.specs.Reader.{path_in}

-- the message that octets spell is read out of them
abbrev pub PathsAreRead : Type 0
PathsAreRead = (m : PathMessage) (octets : List ℕ) → SpellsPath m octets → path_in octets ≡ Some m

-- the message that is read out of octets is the one that they spell
abbrev pub ReadPathsAreSpelled : Type 0
ReadPathsAreSpelled =
    (m : PathMessage) (octets : List ℕ) → AreOctets octets → path_in octets ≡ Some m → SpellsPath m octets
