-- What is read and what is spelled is the same, in both directions; messages and grants of octets.
use Rattle.std.specs.Prelude.{◌≡◌, ◌<◌, ◌≤◌, ℕ, List, length, Some, IfSome}
use Rattle.plc_base.specs.Fields.{AreOctets}
use Rattle.plc_base.specs.Grant.{Granted}
use Rattle.joining_messages.specs.declared.message.JoinMessage.{JoinMessage}
use Rattle.joining_messages.specs.declared.message.JoinBody.TheVariants.{Activate}
use Rattle.joining_messages.specs.Messages.{Spells, spelling, rest_of}
use Rattle.joining_messages.specs.Grants.{SpellsGrant, grant_spelling}
use Rattle.joining_messages.specs.Reader.{join_in, grant_in}

-- the joining message that octets spell is read out of them
abbrev pub JoinsAreRead : Type 0
JoinsAreRead = (m : JoinMessage) (octets : List ℕ) → Spells m octets → join_in octets ≡ Some m

-- the joining message that is read out of octets is the one that they spell
abbrev pub ReadJoinsAreSpelled : Type 0
ReadJoinsAreSpelled = (m : JoinMessage) (octets : List ℕ) → AreOctets octets → join_in octets ≡ Some m → Spells m octets

-- the grant that octets spell is read out of them
abbrev pub GrantsAreRead : Type 0
GrantsAreRead = (g : Granted) (octets : List ℕ) → SpellsGrant g octets → grant_in octets ≡ Some g

-- the grant that is read out of octets is the one that they spell
abbrev pub ReadGrantsAreSpelled : Type 0
ReadGrantsAreSpelled =
    (g : Granted) (octets : List ℕ) → AreOctets octets → grant_in octets ≡ Some g → SpellsGrant g octets

-- The EUI of a message has 8 octets, what follows it at most 128, and a key is activated at the index 0 or 1.
pub record Fits (m : JoinMessage) : Type 0 where
  pub eui : length m.eui.0 ≡ 8
  pub index : (n : ℕ) → m.body ≡ Activate n → n ≤ 1
  pub rest : length (rest_of m.body) ≤ 128

-- a message that is read fits, whatever it is read out of
abbrev pub ReadJoinsFit : Type 0
ReadJoinsFit = (m : JoinMessage) (octets : List ℕ) → join_in octets ≡ Some m → Fits m

-- # Octets

-- The EUI of a message is octets, and so is what follows it: a packet, for one.
pub record HasOctets (m : JoinMessage) : Type 0 where
  pub eui : AreOctets m.eui.0
  pub rest : AreOctets (rest_of m.body)

-- a message of octets spells octets
abbrev pub JoinSpellingsAreOctets : Type 0
JoinSpellingsAreOctets = (m : JoinMessage) → HasOctets m → AreOctets (spelling m)

-- a message that is read out of octets is one of octets
abbrev pub ReadJoinsHaveOctets : Type 0
ReadJoinsHaveOctets = (m : JoinMessage) (octets : List ℕ) → AreOctets octets → join_in octets ≡ Some m → HasOctets m

-- The keys of a grant are octets, and its active index is one.
pub record GrantHasOctets (g : Granted) : Type 0 where
  pub active : g.active < 256
  pub key0 : IfSome g.key0 (λ key. AreOctets key.0)
  pub key1 : IfSome g.key1 (λ key. AreOctets key.0)

-- a grant that is read out of octets is one of octets
abbrev pub ReadGrantsHaveOctets : Type 0
ReadGrantsHaveOctets = (g : Granted) (octets : List ℕ) → AreOctets octets → grant_in octets ≡ Some g → GrantHasOctets g

-- a grant of octets spells octets
abbrev pub GrantSpellingsAreOctets : Type 0
GrantSpellingsAreOctets = (g : Granted) → GrantHasOctets g → AreOctets (grant_spelling g)
